-- Steps that were looked at one after another.
use Rattle.std.proofs.Common.{◌≡◌, ℕ, ◌+◌, ◌<◌, ◌≤◌, List, [], ◌∷◌, ◌++◌, length, take, get_or, ap, sym, ◌∙◌, subst, add-one}
use Rattle.std.specs.List.{All}
use Rattle.std.proofs.Math.Seq.{take-suc}
use Rattle.std.proofs.lemmas.List.Elements.{All-push}
use Rattle.abstract_log.specs.declared.script.Step.{Step}
use Rattle.world.proofs.RoundLemmas.{take_all}

pub all_more : (P : Step → Type 0) (steps : List Step) (i : ℕ) (x : Step) → i < length steps → x ≡ get_or steps i x → All P (take i steps) → P x → All P (take (i + 1) steps)
all_more P steps i x within here all one =
    subst (All P) (sym (ap (λ n. take n steps) (add-one i) ∙ take-suc steps i x within ∙ ap (λ y. take i steps ++ y ∷ []) (sym here))) (All-push P (take i steps) x all one)

pub all_seen : (P : Step → Type 0) (steps : List Step) (i : ℕ) → length steps ≤ i → All P (take i steps) → All P steps
all_seen P steps i past all = subst (All P) (take_all steps i past) all
