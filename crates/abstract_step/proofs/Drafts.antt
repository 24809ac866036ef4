-- Drafts of open writes: where a command is open and a write, its draft seals to the record that is written.
use Rattle.std.proofs.Common.{◌≡◌, ℕ, true, List, Option, Some, None, IsSomeAnd, refl, ap, sym, option_and_then, option_map, MatchOption}
use Rattle.causal_deps.specs.declared.record.Draft.{Draft}
use Rattle.causal_deps.specs.Logs.{sealed}
use Rattle.abstract_log.specs.declared.command.Command.{Command}
use Rattle.abstract_log.specs.declared.command.Command.TheVariants.{Append, Put, Del, Get, Tx, Read, Last}
use Rattle.abstract_log.specs.declared.world.World.{World}
use Rattle.abstract_log.specs.Commands.{draft_of, is_write}
use Rattle.abstract_log.specs.Worlds.{standing_of, open_command}
use Rattle.abstract_step.specs.Taking.{IsDrafted}

dep_is : (s k : ℕ) (past : List ℕ) (c : Command) (draft : Draft) → draft_of s k past c ≡ Some draft → (is_write c ≡ true) × (draft.dep ≡ past)
dep_is s k past (Append tags body) draft is = (refl, cc)
dep_is s k past (Put key body) draft is = (refl, cc)
dep_is s k past (Del key) draft is = (refl, cc)
dep_is s k past (Get key) draft is = cc
dep_is s k past (Tx keys) draft is = cc
dep_is s k past (Read lid) draft is = cc
dep_is s k past (Last tag n) draft is = cc

from_open : (s k : ℕ) (past : List ℕ) (o : Option Command) (draft : Draft) → option_and_then (draft_of s k past) o ≡ Some draft → IsSomeAnd o (λ c. is_write c ≡ true) × (draft.dep ≡ past)
from_open s k past None draft is = cc
from_open s k past (Some c) draft is = dep_is s k past c draft is

pub drafted : (w : World) (s k : ℕ) (draft : Draft) → option_and_then (draft_of s k (standing_of w s).past) (open_command w s k) ≡ Some draft → IsDrafted w s k draft
drafted w s k draft is = let parts = from_open s k (standing_of w s).past (open_command w s k) draft is in
    record { writes = parts.0; past = parts.1; sealing = λ d toid. ap (λ o. option_map (λ x. sealed x d toid) o) is }

not_write : (s k : ℕ) (past : List ℕ) (c : Command) → draft_of s k past c ≡ None → is_write c ≡ true → ⊥
not_write s k past (Append tags body) is writes = cc
not_write s k past (Put key body) is writes = cc
not_write s k past (Del key) is writes = cc
not_write s k past (Get key) is writes = cc
not_write s k past (Tx keys) is writes = cc
not_write s k past (Read lid) is writes = cc
not_write s k past (Last tag n) is writes = cc

none_open : (s k : ℕ) (past : List ℕ) (o : Option Command) → option_and_then (draft_of s k past) o ≡ None → IsSomeAnd o (λ c. is_write c ≡ true) → ⊥
none_open s k past None is h = h
none_open s k past (Some c) is h = not_write s k past c is h

pub not_drafted : (w : World) (s k : ℕ) → option_and_then (draft_of s k (standing_of w s).past) (open_command w s k) ≡ None → IsSomeAnd (open_command w s k) (λ c. is_write c ≡ true) → ⊥
not_drafted w s k is h = none_open s k (standing_of w s).past (open_command w s k) is h

-- whether there is a draft
pub drafted_or_not : (w : World) (s k : ℕ) (o : Option Draft) → o ≡ option_and_then (draft_of s k (standing_of w s).past) (open_command w s k)
    → MatchOption o (¬ IsSomeAnd (open_command w s k) (λ c. is_write c ≡ true)) (IsDrafted w s k)
drafted_or_not w s k None is = not_drafted w s k (sym is)
drafted_or_not w s k (Some draft) is = drafted w s k draft (sym is)
