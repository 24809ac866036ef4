-- The parts of a datacentre at the beginning are seen as the stage world's opening.
use Rattle.std.proofs.Common.{◌≡◌, ℕ, false, List, [], length, map, replicate, refl, ap, ap₂, sym, ◌∙◌, subst, Option, None}
use Rattle.std.specs.List.{All}
use Rattle.std.proofs.lemmas.List.{length-replicate}
use Rattle.causal_deps.specs.Counts.{zero_table}
use Rattle.abstract_log.specs.declared.command.Workload.{Workload}
use Rattle.abstract_log.specs.declared.script.Sizes.{Sizes}
use Rattle.flstore_rounds.specs.Epochs.{EpochList}
use Rattle.flstore_rounds.specs.Heads.{blank}
use Rattle.log_gc.specs.Floors.{Floored, fresh, pin_of}
use Rattle.tag_indexer.specs.Indexers.{empty as nothing_posted}
use Rattle.awareness_table.specs.Awareness.{Awareness}
use Rattle.maintainer.specs.Maintainers.{MaintainerState, empty, plain}
use Rattle.causal_deps.specs.declared.record.Record.{Record}
use Rattle.sender_receiver.specs.Sending.{SenderState}
use Rattle.toid_filter.specs.declared.champions.Share.{Share}
use Rattle.toid_filter.specs.Champions.{first_map}
use Rattle.toid_filter.specs.Filters.{new_filter}
use Rattle.stage_world.specs.Stages.{Datacentre}
use Rattle.stage_world.specs.MoreTurns.{new_queue}
use Rattle.stage_world.specs.Opening.{first_epochs, numbered, opening_at, sessions_from}
use Rattle.stage_world.proofs.OpeningLemmas.{All-numbered, length-numbered}
use Rattle.datacentre.specs.declared.parts.Parts.{Parts}
use Rattle.stage_turns.specs.Lent.{HaveToken, queues_seen}
use Rattle.datacentre.specs.Seen.{IsSenderOf, IsWhole, first_token, pin_in, seen}
use Rattle.datacentre.proofs.NewLemmas.{map-numbered, none_pinned, nothing_held}
use Rattle.stage_turns.proofs.RingLemmas.{token_is}

-- The parts are new, with these epochs and this map.
pub record AreNew (sizes : Sizes) (load : Workload) (d : ℕ) (e : EpochList) (shares : List (List Share)) (p : Parts) : Type 0 where
  pub here : p.dc ≡ d
  pub first : p.first_maintainers ≡ sizes.maintainers
  pub sessions : p.sessions ≡ sessions_from load.dcs d 0 load.sessions
  pub batchers : p.batchers ≡ replicate sizes.batchers []
  pub filters : p.filters ≡ numbered (λ i. new_filter i shares) sizes.filters
  pub shared : p.map ≡ shares
  pub marks : p.marks ≡ None
  pub queues : queues_seen p.queues ≡ numbered (λ i. new_queue i e) sizes.queues
  pub token : HaveToken p.queues (first_token d load.dcs e sizes.queues)
  pub maintainers : p.maintainers ≡ numbered (λ i. empty i e) sizes.maintainers
  pub vectors : p.vectors ≡ replicate sizes.maintainers (blank e)
  pub indexers : p.indexers ≡ numbered (λ i. nothing_posted i sizes.indexers e) sizes.indexers
  pub senders : p.senders ≡ numbered (λ k. record { dc = d; number = k; upgraded = false }) sizes.senders
  pub receivers : p.receivers ≡ sizes.receivers
  pub form : p.upgraded ≡ false
  pub table : p.table ≡ record { dc = d; table = zero_table load.dcs }
  pub learnt : p.learnt ≡ 0
  pub floor : p.floor ≡ fresh
  pub collected : p.collected ≡ []

-- the opening with these epochs and this map
abbrev opening_with : Sizes → Workload → ℕ → EpochList → List (List Share) → Datacentre
opening_with sizes load d e shares = record {
  first = sizes.maintainers;
  sessions = sessions_from load.dcs d 0 load.sessions;
  batchers = replicate sizes.batchers [];
  filters = numbered (λ i. new_filter i shares) sizes.filters;
  map = shares;
  announcement = None;
  queues = numbered (λ i. new_queue i e) sizes.queues;
  token = first_token d load.dcs e sizes.queues;
  maintainers = numbered (λ i. empty i e) sizes.maintainers;
  vectors = replicate sizes.maintainers (blank e);
  indexers = numbered (λ i. nothing_posted i sizes.indexers e) sizes.indexers;
  table = zero_table load.dcs;
  learnt = 0;
  floor = 0;
  collected = [];
  senders = sizes.senders;
  receivers = sizes.receivers;
  upgraded = false;
}

module _ (round : ℕ) (sizes : Sizes) (load : Workload) (d : ℕ) (e : EpochList) (shares : List (List Share)) (p : Parts) (h : AreNew sizes load d e shares p) where
  token_first : (seen p).token ≡ first_token d load.dcs e sizes.queues
  token_first = token_is p.queues (first_token d load.dcs e sizes.queues) h.token

  maintainers_first : (seen p).maintainers ≡ numbered (λ i. empty i e) sizes.maintainers
  maintainers_first = ap (map (λ (m : MaintainerState Record). plain m)) h.maintainers ∙ map-numbered (λ (m : MaintainerState Record). plain m) (λ i. empty i e) sizes.maintainers (λ i. refl)

  senders_first : length p.senders ≡ sizes.senders
  senders_first = ap (λ (xs : List SenderState). length xs) h.senders ∙ length-numbered (λ (k : ℕ). record { dc = d; number = k; upgraded = false }) sizes.senders

  seen_with : seen p ≡ opening_with sizes load d e shares
  seen_with = λ i. record {
    first = h.first i;
    sessions = h.sessions i;
    batchers = h.batchers i;
    filters = h.filters i;
    map = h.shared i;
    announcement = h.marks i;
    queues = h.queues i;
    token = token_first i;
    maintainers = maintainers_first i;
    vectors = h.vectors i;
    indexers = h.indexers i;
    table = (h.table i).table;
    learnt = h.learnt i;
    floor = (h.floor i).floor;
    collected = h.collected i;
    senders = senders_first i;
    receivers = h.receivers i;
    upgraded = h.form i;
  }

  pub new_seen : e ≡ first_epochs round sizes.maintainers → shares ≡ first_map load.dcs sizes.filters → seen p ≡ opening_at round sizes load d
  new_seen epochs map_is = seen_with ∙ ap₂ (opening_with sizes load d) epochs map_is

  pub new_whole : IsWhole p
  new_whole = record {
    token = subst (HaveToken p.queues) (sym token_first) h.token;
    table = ap (λ (t : Awareness). t.dc) h.table ∙ sym h.here;
    senders = subst (All (IsSenderOf p.dc p.upgraded)) (sym h.senders) (All-numbered (IsSenderOf p.dc p.upgraded) (λ k. record { dc = d; number = k; upgraded = false }) sizes.senders (λ k. record { dc = sym h.here; form = sym h.form }));
    pins = λ n. ap (λ (g : Floored). pin_of g n) h.floor ∙ nothing_held n ∙ sym (ap (λ xs. pin_in xs n) h.sessions ∙ none_pinned load.dcs d 0 n load.sessions);
    many = ap (λ (g : Floored). length g.pins) h.floor ∙ length-replicate {A = Option ℕ} 64 None;
  }
