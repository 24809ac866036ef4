-- What all datacentres leave is what the world has for which they stand.
use Rattle.std.proofs.Common.{◌≡◌, ℕ, suc, ◌+◌, ◌<◌, List, [], ◌∷◌, ◌++◌, length, map, get_or, refl, ap, ap₂, sym, ◌∙◌, subst, arith, append_assoc, append-nil}
use Rattle.std.specs.List.{AllZip, range_with_len}
use Rattle.abstract_log.specs.declared.left.LeftAt.{LeftAt}
use Rattle.abstract_log.specs.declared.world.World.{World}
use Rattle.abstract_log.specs.Left.{left_at, left_of}
use Rattle.stage_world.specs.Stages.{Datacentre, Stages}
use Rattle.stage_world.specs.StandsFor.{StandsAt}
use Rattle.stage_world.specs.Whole.{StandsFor, nowhere_at}
use Rattle.datacentre.specs.Leaving.{IsLeftBy}
use Rattle.datacentre.specs.Seen.{DatacentreState}
use Rattle.world.specs.declared.network.Network.{Network}
use Rattle.world.specs.Showing.{Shows, states_from}

-- one more leaves its part
pub one_left : (x : DatacentreState) (xs all now : List DatacentreState) (left next : List LeftAt) (l : LeftAt) → now ≡ x ∷ xs → next ≡ left ++ l ∷ [] → IsLeftBy x l
    → ((more : List LeftAt) → AllZip IsLeftBy now more → AllZip IsLeftBy all (left ++ more)) → (more : List LeftAt) → AllZip IsLeftBy xs more → AllZip IsLeftBy all (next ++ more)
one_left x xs all now left next l is new here leads more rest =
    let lead : AllZip IsLeftBy all (left ++ l ∷ more) = leads (l ∷ more) (subst (λ ys. AllZip IsLeftBy ys (l ∷ more)) (sym is) (here, rest)) in
    subst (AllZip IsLeftBy all) (sym (ap (λ ls. ls ++ more) new ∙ append_assoc left (l ∷ []) more)) lead

-- none is left that leaves a part
pub all_left : (now all : List DatacentreState) (left : List LeftAt) → now ≡ [] → ((more : List LeftAt) → AllZip IsLeftBy now more → AllZip IsLeftBy all (left ++ more)) → AllZip IsLeftBy all left
all_left now all left none leads = subst (AllZip IsLeftBy all) (append-nil left) (leads [] (subst (λ ys. AllZip IsLeftBy ys []) (sym none) tt))

zero-plus : (n : ℕ) → 0 + n ≡ n
zero-plus n = omega arith

left_from : (w : World) (n : ℕ) (zs : List Datacentre) (left : List LeftAt) → AllZip IsLeftBy (states_from n zs) left → ((k : ℕ) → k < length zs → StandsAt w (k + n) (get_or zs k nowhere_at))
    → left ≡ map (left_at w) (range_with_len n (length zs))
left_from w n [] [] all stands = refl
left_from w n [] (l ∷ ls) all stands = absurd all
left_from w n (z ∷ zs) [] all stands = absurd all
left_from w n (z ∷ zs) (l ∷ ls) all stands =
    ap₂ (λ (x : LeftAt) (xs : List LeftAt). x ∷ xs) (all.0 w (subst (λ d. StandsAt w d z) (zero-plus n) (stands 0 (omega arith))))
    (left_from w (n + 1) zs ls all.1 (λ k low. subst (λ d. StandsAt w d (get_or zs k nowhere_at)) (omega arith) (stands (suc k) (omega (arith, low)))))

pub left_of_all : (w : World) (z : Stages) (network : Network) (left : List LeftAt) → Shows w.workload.dcs z network → StandsFor w z → AllZip IsLeftBy network.datacentres left → left ≡ left_of w
left_of_all w z network left shown stands all =
    left_from w 0 z.datacentres left (subst (λ xs. AllZip IsLeftBy xs left) shown.datacentres all)
    (λ k low. subst (λ d. StandsAt w d (get_or z.datacentres k nowhere_at)) (omega arith) (stands.each k (omega (arith, low, shown.count))))
    ∙ ap (λ n. map (left_at w) (range_with_len 0 n)) shown.count
