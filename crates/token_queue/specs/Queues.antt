-- The token, and queues that stamp while they have it.
use Rattle.std.specs.Prelude.{◌≡◌, ℕ, suc, ◌+◌, ◌<◌, ◌≤◌, ◌==◌, max, List, [], ◌∷◌, ◌++◌, length, map, replicate, Option, Some, None, slice_index_or, slice_set, All, sum_by}
use Rattle.std.specs.List.{count_by, filter}
use Rattle.causal_deps.specs.declared.record.Record.{Record}
use Rattle.causal_deps.specs.declared.record.Item.{Item}
use Rattle.causal_deps.specs.Logs.{AreCountsOf}
use Rattle.flstore_rounds.specs.declared.epochs.Epoch.{Epoch}
use Rattle.flstore_rounds.specs.Epochs.{EpochList, last_epoch, owner, with_epoch}
use Rattle.token_queue.specs.declared.entry.Entry.{Entry}
use Rattle.token_queue.specs.declared.entry.Stamp.{Stamp}
use Rattle.token_queue.specs.Items.{FitsItem, is_ready, record_from, first_out}
use Rattle.token_queue.specs.Drain.{Drained, counts_with, drain_by}
use Rattle.cz_base.specs.declared.limits.TheConstants.{MEMBERS}

-- the datacentre, how many records of each host are stamped, the last position, what could not be stamped yet, the
-- epochs, the queue that has the token or had it last, and the number of queues
pub record TokenState : Type 0 where
  pub dc : ℕ
  pub counts : List ℕ
  pub last : ℕ
  pub deferred : List Item
  pub epochs : EpochList
  pub at : ℕ
  pub queues : ℕ

-- what each token keeps: its datacentre is one of those counted, no count is above the last position, and its items are
-- of as many datacentres
pub record IsToken (t : TokenState) : Type 0 where
  pub here : t.dc < length t.counts
  pub counted : All (λ n. n ≤ t.last) t.counts
  pub fit : All (FitsItem (length t.counts)) t.deferred
  pub numbered : t.at < MEMBERS
  pub ring : (1 ≤ t.queues) × (t.queues ≤ MEMBERS)

-- the items to be stamped, the entries to be placed by each maintainer that there may be, the epochs by which those were stamped,
-- and the token
pub record QueueState : Type 0 where
  pub number : ℕ
  pub items : List Item
  pub outboxes : List (List Entry)
  pub epochs : EpochList
  pub token : Option TokenState

abbrev pub blank_outboxes : ℕ → List (List Entry)
blank_outboxes n = replicate n []

abbrev pub no_outboxes : List (List Entry)
no_outboxes = blank_outboxes MEMBERS

-- the entries for maintainer m
abbrev pub outbox_for : QueueState → ℕ → List Entry
outbox_for q m = slice_index_or q.outboxes m []

-- the queue without them
abbrev pub without_outbox : QueueState → ℕ → QueueState
without_outbox q m = record q { outboxes = slice_set q.outboxes m [] }

-- the queue where its token is left out of account, and with a token or none
abbrev pub tokenless : QueueState → QueueState
tokenless q = record q { token = None }

abbrev pub with_token : Option TokenState → QueueState → QueueState
with_token o q = record q { token = o }

-- one maintainer more may be dealt positions from above this one on: above what is stamped, and above the last epoch's start
abbrev pub mark_bound : TokenState → ℕ
mark_bound t = max t.last (last_epoch t.epochs).start

-- the token with one maintainer more from position p on
abbrev pub with_maintainer : TokenState → ℕ → TokenState
with_maintainer t p = record t { epochs = with_epoch t.epochs (record { start = p; members = (last_epoch t.epochs).members + 1 }) }

-- the token with one queue more in its ring, behind the last
abbrev pub with_queue : TokenState → TokenState
with_queue t = record t { queues = t.queues + 1 }

-- how often position p is among the entries, and in all outboxes of a queue
abbrev pub times_among : ℕ → List Entry → ℕ
times_among p es = count_by (λ e. e.lid == p) es

abbrev pub waiting : ℕ → QueueState → ℕ
waiting p q = sum_by (λ outbox. times_among p outbox) q.outboxes

-- a log that the token may stand for
pub record IsLogOf (t : TokenState) (log : List Record) : Type 0 where
  pub counts : AreCountsOf log t.counts
  pub last : t.last ≡ length log

-- the records at the positions after `last`
abbrev pub entries_from : ℕ → List Record → List Entry
entries_from last [] = []
entries_from last (r ∷ rs) = record { lid = last + 1; rec = r } ∷ entries_from (last + 1) rs

abbrev pub stamp_of : Entry → Stamp
stamp_of e = record { place = record { lid = e.lid; host = e.rec.host; toid = e.rec.toid }; session = e.rec.session; index = e.rec.index }

-- those that member m owns
abbrev pub owned_by : EpochList → ℕ → List Entry → List Entry
owned_by epochs m es = filter (λ e. owner epochs e.lid == m) es

-- each outbox, from that of member m on, with the entries that its member owns behind its own
abbrev pub dealt : EpochList → List Entry → ℕ → List (List Entry) → List (List Entry)
dealt epochs es m [] = []
dealt epochs es m (outbox ∷ outboxes) = (outbox ++ owned_by epochs m es) ∷ dealt epochs es (suc m) outboxes

-- the queue with an entry last in the outbox of its owner
abbrev pub with_entry : EpochList → Entry → QueueState → QueueState
with_entry epochs e q = record q { outboxes = slice_set q.outboxes (owner epochs e.lid) (slice_index_or q.outboxes (owner epochs e.lid) [] ++ e ∷ []) }

-- what a stamping leaves and answers, where its items and the token's were drained so
abbrev pub stamped_token : TokenState → Drained → TokenState
stamped_token t all = record t { counts = counts_with t.counts all.records; last = t.last + length all.records; deferred = all.deferred }

abbrev pub stamped_queue : QueueState → TokenState → Drained → QueueState
stamped_queue q t all = record q {
  items = [];
  outboxes = dealt t.epochs (entries_from t.last all.records) 0 q.outboxes;
  epochs = t.epochs;
  token = Some (stamped_token t all);
}

abbrev pub stamps_of : TokenState → Drained → List Stamp
stamps_of t all = map stamp_of (entries_from t.last all.records)

-- Stamping: the answer has a stamp for each record in order, each record goes last into the outbox of its owner, the
-- queue takes the token's epochs and keeps no item, and the token has the counts, the last position and the items deferred.
pub record Stamps (q : QueueState) (t : TokenState) (all : Drained) (stamps : List Stamp) (new : QueueState) : Type 0 where
  pub answer : stamps ≡ stamps_of t all
  pub queue : new ≡ stamped_queue q t all

-- the token with these items behind its own
abbrev pub with_items : TokenState → List Item → TokenState
with_items t items = record t { deferred = t.deferred ++ items }

-- what the token's deferred items are drained to
abbrev pub all_of : TokenState → Drained
all_of t = drain_by t.dc t.counts t.deferred

-- the first deferred item that is ready, and the others
abbrev pub next_out : TokenState → Option (Item × List Item)
next_out t = first_out (is_ready t.counts) t.deferred

-- the record that an item becomes
abbrev pub record_of : TokenState → Item → Record
record_of t item = record_from t.dc t.counts item

-- the entry of the item that is stamped next, and the token after it
abbrev pub entry_after : TokenState → Item × List Item → Entry
entry_after t found = record { lid = t.last + 1; rec = record_of t found.0 }

abbrev pub token_after : TokenState → Item × List Item → TokenState
token_after t found = record t { counts = slice_set t.counts (record_of t found.0).host (record_of t found.0).toid; last = t.last + 1; deferred = found.1 }
