-- A record that a command within the limits wrote is in the ranges of its wire form.
use Rattle.std.proofs.Common.{◌≡◌, ℕ, ◌-◌, ◌<◌, ◌≤◌, true, List, [], ◌∷◌, length, get_or, Some, slice_get, slice_index, refl, ap, sym, subst, ◌∙◌, inl, inr, arith, All, length-set}
use Rattle.std.proofs.lemmas.Bool.{cases_eq, cases_lt}
use Rattle.std.proofs.lemmas.Option.{same_Some, slice_get_within}
use Rattle.std.proofs.lemmas.List.{get_or-set_same, get_or_default, get_or_past}
use Rattle.std.proofs.lemmas.List.Elements.{All-nil, All-cons, All-get_or}
use Rattle.cz_base.specs.declared.limits.TheConstants.{COMMANDS, TAGS}
use Rattle.cz_base.specs.Text.{IsName, IsBody}
use Rattle.causal_deps.specs.declared.record.Record.{Record}
use Rattle.causal_deps.specs.declared.record.Draft.{Draft}
use Rattle.causal_deps.specs.declared.record.Kind.{Kind}
use Rattle.causal_deps.specs.declared.record.Kind.TheVariants.{Append as AppendKind, Put as PutKind, Del as DelKind}
use Rattle.causal_deps.specs.Kinds.{is_update}
use Rattle.causal_deps.specs.Logs.{IsReadyBy, sealed}
use Rattle.abstract_log.specs.declared.command.Command.{Command}
use Rattle.abstract_log.specs.declared.command.Command.TheVariants.{Append, Put, Del, Get, Tx, Read, Last}
use Rattle.abstract_log.specs.declared.command.SessionPlan.{SessionPlan}
use Rattle.abstract_log.specs.declared.command.Workload.{Workload}
use Rattle.abstract_log.specs.Commands.{draft_of, no_plan}
use Rattle.abstract_log.specs.Worlds.{plan_of}
use Rattle.abstract_log.specs.Fits.{FitsCommand, FitsPlan, FitsLimits}
use Rattle.log_laws.specs.Records.{IsValid, IsWritten}
use Rattle.log_laws.proofs.Places.{All-at_place}
use Rattle.log_laws.proofs.WriteCounts.{commands_are_counted}

-- the kind, tags and body of a write within the limits
pub record IsInRanges (kind : Kind) (tags : List (List ℕ)) (body : List ℕ) : Type 0 where
  pub key : is_update kind ≡ true → (name : List ℕ) × (tags ≡ name ∷ [])
  pub silent : kind ≡ DelKind → body ≡ []
  pub few : length tags ≤ TAGS
  pub names : All IsName tags
  pub body_fits : IsBody body

no_update : is_update AppendKind ≡ true → ⊥
no_update is = cc

no_del : AppendKind ≡ DelKind → ⊥
no_del is = cc

put_no_del : PutKind ≡ DelKind → ⊥
put_no_del is = cc

-- no byte is a body
empty_is_body : IsBody []
empty_is_body = record { short = omega arith; allowed = refl }

draft_ranges : (s k : ℕ) (past : List ℕ) (c : Command) (draft : Draft) → draft_of s k past c ≡ Some draft → FitsCommand c → IsInRanges draft.kind draft.tags draft.body
draft_ranges s k past (Append tags body) draft is fits =
    let P : Draft → Type 0 = λ x. IsInRanges x.kind x.tags x.body in
    subst P (same_Some (record { session = s; index = k; kind = AppendKind; tags = tags; body = body; dep = past }) draft is)
    (record { key = λ updates. absurd (no_update updates); silent = λ del. absurd (no_del del); few = fits.0; names = fits.1.0; body_fits = fits.1.1 })
draft_ranges s k past (Put key body) draft is fits =
    let P : Draft → Type 0 = λ x. IsInRanges x.kind x.tags x.body in
    subst P (same_Some (record { session = s; index = k; kind = PutKind; tags = key ∷ []; body = body; dep = past }) draft is)
    (record { key = λ _. (key, refl); silent = λ del. absurd (put_no_del del); few = omega arith; names = All-cons IsName key [] fits.0 (All-nil IsName); body_fits = fits.1 })
draft_ranges s k past (Del key) draft is fits =
    let P : Draft → Type 0 = λ x. IsInRanges x.kind x.tags x.body in
    subst P (same_Some (record { session = s; index = k; kind = DelKind; tags = key ∷ []; body = []; dep = past }) draft is)
    (record { key = λ _. (key, refl); silent = λ _. refl; few = omega arith; names = All-cons IsName key [] fits (All-nil IsName); body_fits = empty_is_body })
draft_ranges s k past (Get key) draft is fits = cc
draft_ranges s k past (Tx keys) draft is fits = cc
draft_ranges s k past (Read lid) draft is fits = cc
draft_ranges s k past (Last tag n) draft is fits = cc

-- every command of a session within the limits is in its ranges
pub command_fits : (load : Workload) (s k : ℕ) (c : Command) → FitsLimits load → slice_get (plan_of load s).commands k ≡ Some c → FitsCommand c
command_fits load s k c limits is = elim (cases_lt s (length load.sessions)) [
  | inl there ↦ All-at_place FitsCommand (plan_of load s).commands k c (All-get_or (FitsPlan load.dcs) load.sessions s no_plan there limits.plans).commands is
  | inr past ↦ absurd (nothing_there (ap (λ (plan : SessionPlan). slice_get plan.commands k) (sym (get_or_past load.sessions s no_plan (omega arith))) ∙ is))
]
  where
    nothing_there : slice_get no_plan.commands k ≡ Some c → ⊥
    nothing_there h = cc

pub written_ranges : (load : Workload) (r : Record) → FitsLimits load → IsWritten load r → IsInRanges r.kind r.tags r.body
written_ranges load r limits h =
    let P : Record → Type 0 = λ x. IsInRanges x.kind x.tags x.body in
    subst P (sym h.sealing) (draft_ranges r.session r.index h.draft.dep h.command h.draft h.drafted (command_fits load r.session (r.index - 1) h.command limits h.is))

-- what the record depends on of its own host are all records before it
pub own_entry : (load : Workload) (r : Record) → IsWritten load r → r.host < length r.dep → slice_index r.dep r.host ≡ r.toid - 1
own_entry load r h within =
    let dep : r.dep ≡ (sealed h.draft r.host r.toid).dep = ap (λ (x : Record). x.dep) h.sealing in
    ap (λ xs. get_or xs r.host 0) dep ∙ get_or-set_same h.draft.dep r.host (r.toid - 1) 0 (omega (arith, ap length dep, length-set h.draft.dep r.host (r.toid - 1)))

-- every entry is at most a bound of the counts
dep_small : (r : Record) (counts : ℕ → ℕ) (n : ℕ) → IsReadyBy counts r → slice_index r.dep r.host ≡ r.toid - 1 → ((g : ℕ) → counts g ≤ n) → (g : ℕ) → slice_index r.dep g ≤ n
dep_small r counts n ready own few g = elim (cases_eq g r.host) [
  | inl same ↦ omega (arith, ap (λ x. get_or r.dep x 0) same, own, ready.next, few r.host)
  | inr other ↦ omega (arith, ready.known g other, few g)
]

pub valid_record : (load : Workload) (r : Record) (counts : ℕ → ℕ) → FitsLimits load → IsWritten load r → r.host < load.dcs → length r.dep ≡ load.dcs
    → IsReadyBy counts r → r.toid ≤ COMMANDS → ((g : ℕ) → counts g ≤ COMMANDS) → IsValid load.dcs r
valid_record load r counts limits h host size ready small few =
    let ranges = written_ranges load r limits h in
    let own : slice_index r.dep r.host ≡ r.toid - 1 = own_entry load r h (omega (arith, host, size)) in
    let at : r.index - 1 < length (plan_of load r.session).commands = slice_get_within (plan_of load r.session).commands (r.index - 1) h.command h.is in
    record {
      host = host;
      first = omega (arith, ready.next);
      small = omega (arith, small);
      session = omega (arith, h.there, limits.sessions);
      index_first = h.first;
      index = omega (arith, at, commands_are_counted load.sessions r.session no_plan h.there, limits.commands);
      size = size;
      dep = λ k d within. omega (arith, get_or_default r.dep k d 0 within, dep_small r counts COMMANDS ready own few k);
      before = own;
      key = ranges.key;
      silent = ranges.silent;
      tags = ranges.few;
      names = ranges.names;
      body = ranges.body_fits;
    }
