-- Appending: which values get positions, in which order, and where.
use Rattle.std.specs.Prelude.{◌≡◌, ◌≤◌, ℕ, zero, suc, ◌+◌, ◌<◌, ◌==◌, ◌^◌, Bool, count_by, if◌then◌else◌, List, [], ◌∷◌, ◌++◌, length, Option, Some, None, All, refl}
use Rattle.std.specs.Coded.{Coded, code_by, coded×, coded_list}
use Rattle.flstore_rounds.specs.Epochs.{EpochList, last_epoch, owner}
use Rattle.maintainer.specs.Maintainers.{MaintainerState, mark_of, placed, state_code}
use Rattle.post_assignment.specs.declared.wait_list.Waiting.{Waiting}
use Rattle.post_assignment.specs.Waiting.{first_below, waiting_code, without_first_below}
use Rattle.cz_base.specs.declared.limits.TheConstants.{NUMBERS_END}

-- what contracts see of an appender: its maintainer without spare places, and what waits in order of arrival
pub record AppenderState (T : Type 0) : Type 0 where
  pub maintainer : MaintainerState T
  pub waiting : List (Waiting T)

-- a state is stored as the pair of its fields
abbrev pub appender_code : {T : Type 0} → Coded T → Coded (AppenderState T)
appender_code {T} code = code_by (MaintainerState T × List (Waiting T)) (coded× (state_code code) (coded_list (waiting_code code))) (λ s. (s.maintainer, s.waiting)) (λ p. record { maintainer = p.0; waiting = p.1 }) (λ _. refl)

-- the first of so many positions from p on that member m owns, or the one after them
abbrev pub own_from : EpochList → ℕ → ℕ → ℕ → ℕ
own_from t m zero p = p
own_from t m (suc n) p = if owner t p == m then p else own_from t m n (p + 1)

-- the least position of member m at or above p; none is as far as this from any position of the log
unfoldable pub next_own : EpochList → ℕ → ℕ → ℕ
next_own t m p = own_from t m (2 ^ 49) p

-- the state after values went in, and their positions
pub record Released (T : Type 0) : Type 0 where
  pub state : AppenderState T
  pub lids : List ℕ

module _ {T : Type 0} where
  -- the next own position: the least one that is not below the mark
  abbrev pub next_lid : MaintainerState T → ℕ
  next_lid m = next_own m.epochs m.number (mark_of m)

  -- nothing went in
  abbrev pub at_rest : MaintainerState T → List (Waiting T) → Released T
  at_rest m ws = record { state = record { maintainer = m; waiting = ws }; lids = [] }

  -- one position before the others
  abbrev pub after_lid : ℕ → Released T → Released T
  after_lid lid rest = record { state = rest.state; lids = lid ∷ rest.lids }

  abbrev pub on_first : Option (Waiting T) → Released T → (Waiting T → Released T) → Released T
  on_first None stop go = stop
  on_first (Some w) stop go = go w

  -- As long as a value that waits has its bound below the next own position, the first such one goes in there;
  -- so many at most.
  abbrev pub released : ℕ → MaintainerState T → List (Waiting T) → Released T
  released zero m ws = at_rest m ws
  released (suc n) m ws = on_first (first_below (next_lid m) ws) (at_rest m ws) (λ w. after_lid (next_lid m) (released n (placed m (next_lid m) w.value) (without_first_below (next_lid m) ws)))

  -- a value goes in at the next own position, and then those that this releases
  abbrev pub appended : AppenderState T → T → Released T
  appended s value = released (length s.waiting) (placed s.maintainer (next_lid s.maintainer) value) s.waiting

  -- a value waits last
  abbrev pub kept : AppenderState T → ℕ → T → AppenderState T
  kept s bound value = record s { waiting = s.waiting ++ record { bound = bound; value = value } ∷ [] }

  -- the maintainer is a member, and each position that goes to a value is one of the log
  pub record HasRoom (s : AppenderState T) (value : T) : Type 0 where
    pub member : s.maintainer.number < (last_epoch s.maintainer.epochs).members
    pub first : next_lid s.maintainer < NUMBERS_END
    pub others : All (λ lid. lid < NUMBERS_END) (appended s value).lids

  -- how often a value passes a test, among those that stand and those that wait
  abbrev pub times_of : (T → Bool) → AppenderState T → ℕ
  times_of test s = count_by (λ e. test e.value) s.maintainer.entries + count_by (λ w. test w.value) s.waiting

  -- where each value has a rank: what stands is above it, and what waits has a bound that is not below it
  pub record StandsAbove (rank : T → ℕ) (s : AppenderState T) : Type 0 where
    pub placed : All (λ e. rank e.value < e.lid) s.maintainer.entries
    pub waits : All (λ w. rank w.value ≤ w.bound) s.waiting

  -- w is the first of those that wait with a bound below the position: before are those before it, and after it those after
  pub record IsFirst (lid : ℕ) (ws : List (Waiting T)) (w : Waiting T) : Type 0 where
    pub before : List (Waiting T)
    pub after : List (Waiting T)
    pub parts : ws ≡ before ++ w ∷ after
    pub later : All (λ v. lid ≤ v.bound) before
    pub below : w.bound < lid
    pub rest : without_first_below lid ws ≡ before ++ after
