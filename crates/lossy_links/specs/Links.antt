-- What a link holds: a list of messages, at most as many as `PACKETS` says, the oldest first. Messages may be bytes or values.
use Rattle.std.specs.Prelude.{◌≡◌, ℕ, zero, suc, if◌then◌else◌, nat_lt, List, [], ◌∷◌, ◌++◌, length, drop, remove, slice_get, Option, None, All}
use Rattle.std.specs.Option.{option_map_or}
use Rattle.lossy_links.specs.declared.link.Copied.{Copied}
use Rattle.lossy_links.specs.declared.link.Copied.TheVariants.{Absent, Done, Overflow}
use Rattle.cz_base.specs.declared.limits.TheConstants.{PACKETS}

-- message k, where message 1 is the oldest
abbrev pub message_at : {A : Type 0} → List A → ℕ → Option A
message_at ms zero = None
message_at ms (suc k) = slice_get ms k

-- the link without message k
abbrev pub without : {A : Type 0} → List A → ℕ → List A
without ms zero = ms
without ms (suc k) = remove ms k

-- a message goes last; where the link is full, the oldest is lost
abbrev pub put_last : {A : Type 0} → List A → A → List A
put_last ms m = if nat_lt (length ms) PACKETS then ms ++ m ∷ [] else drop 1 ms ++ m ∷ []

-- the message that is lost where one more goes last
abbrev pub lost_by_put : {A : Type 0} → List A → Option A
lost_by_put ms = if nat_lt (length ms) PACKETS then None else slice_get ms 0

-- the link is full, and each of its messages is this one
pub record IsFullOf {A : Type 0} (m : A) (ms : List A) : Type 0 where
  pub full : length ms ≡ PACKETS
  pub each : All (λ x. x ≡ m) ms

-- message k goes last once more
abbrev pub copied : {A : Type 0} → List A → ℕ → List A
copied ms k = option_map_or (put_last ms) (message_at ms k) ms

-- what is answered to a copy of packet k
abbrev pub answer_to_copy : List (List ℕ) → ℕ → Copied
answer_to_copy ms k = option_map_or (λ _. option_map_or Overflow (lost_by_put ms) Done) (message_at ms k) Absent
