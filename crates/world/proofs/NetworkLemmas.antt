-- The datacentres of the code, and those of the stage world.
use Rattle.std.proofs.Common.{◌≡◌, ℕ, zero, suc, ◌+◌, ◌<◌, List, [], ◌∷◌, ◌++◌, length, get_or, set, refl, ap, sym, ◌∙◌, subst, arith, Some}
use Rattle.std.proofs.lemmas.List.{length-set}
use Rattle.std.proofs.lemmas.List.Elements.{All-get_or, All-set}
use Rattle.record_codec.specs.declared.message.Message.{Message}
use Rattle.stage_world.specs.Stages.{Datacentre, Stages}
use Rattle.stage_world.specs.LinkTurns.{with_link}
use Rattle.stage_world.specs.Whole.{datacentre_at, nowhere_at, with_turn}
use Rattle.datacentre.specs.Seen.{DatacentreState}
use Rattle.world.specs.declared.network.Network.{Network}
use Rattle.world.specs.Links.{AreLinked, AreSpelled, with_packets}
use Rattle.world.specs.Showing.{Shows, states_from}
use Rattle.world.proofs.LinkLemmas.{rows_long, with_spelled}

abbrev state : ℕ → Datacentre → DatacentreState
state d z = record { dc = d; stages = Some z }

pub length-states : (n : ℕ) (zs : List Datacentre) → length (states_from n zs) ≡ length zs
length-states n [] = refl
length-states n (z ∷ zs) = ap (λ k. suc k) (length-states (n + 1) zs)

next : (n k : ℕ) → n + 1 + k ≡ n + suc k
next n k = omega arith

last : (n : ℕ) → n ≡ n + 0
last n = omega arith

pub states_push : (n : ℕ) (zs : List Datacentre) (z : Datacentre) → states_from n (zs ++ z ∷ []) ≡ states_from n zs ++ state (n + length zs) z ∷ []
states_push n [] z = ap (λ k. state k z ∷ []) (last n)
states_push n (y ∷ zs) z = ap (λ xs. state n y ∷ xs) (states_push (n + 1) zs z ∙ ap (λ k. states_from (n + 1) zs ++ state k z ∷ []) (next n (length zs)))

pub states_set : (n : ℕ) (zs : List Datacentre) (i : ℕ) (z : Datacentre) → set (states_from n zs) i (state (n + i) z) ≡ states_from n (set zs i z)
states_set n [] i z = refl
states_set n (y ∷ zs) zero z = ap (λ k. state k z ∷ states_from (n + 1) zs) (sym (last n))
states_set n (y ∷ zs) (suc i) z = ap (λ xs. state n y ∷ xs) (ap (λ k. set (states_from (n + 1) zs) i (state k z)) (sym (next n i)) ∙ states_set (n + 1) zs i z)

pub states_at : (n : ℕ) (zs : List Datacentre) (i : ℕ) (s : DatacentreState) → i < length zs → get_or (states_from n zs) i s ≡ state (n + i) (get_or zs i nowhere_at)
states_at n [] i s within = absurd (omega (arith, within))
states_at n (y ∷ zs) zero s within = ap (λ k. state k y) (last n)
states_at n (y ∷ zs) (suc i) s within = states_at (n + 1) zs i s (omega (arith, within)) ∙ ap (λ k. state k (get_or zs i nowhere_at)) (next n i)

plus-zero : (k : ℕ) → k ≡ 0 + k
plus-zero k = omega arith

module _ (dcs : ℕ) (z : Stages) (old : Network) (h : Shows dcs z old) where
  -- how many datacentres and links there are
  pub datacentres_there : length old.datacentres ≡ dcs
  datacentres_there = ap length h.datacentres ∙ length-states 0 z.datacentres ∙ h.count

  pub rows_there : length old.links ≡ dcs
  rows_there = sym (rows_long dcs old.links z.links h.links) ∙ h.rows

  -- the state of one of them
  pub state_there : (d : ℕ) (s : DatacentreState) → d < dcs → get_or old.datacentres d s ≡ state d (datacentre_at z d)
  state_there d s within = ap (λ xs. get_or xs d s) h.datacentres ∙ states_at 0 z.datacentres d s (omega (arith, within, h.count)) ∙ ap (λ k. state k (datacentre_at z d)) (sym (plus-zero d))

  -- one datacentre took a turn
  pub shows_turn : (d : ℕ) (after : Datacentre) (new : Network) → new.datacentres ≡ set old.datacentres d (state d after) → new.links ≡ old.links → Shows dcs (with_turn z d after) new
  shows_turn d after new changed same = record {
    datacentres = changed ∙ ap (λ xs. set xs d (state d after)) h.datacentres ∙ ap (λ k. set (states_from 0 z.datacentres) d (state k after)) (plus-zero d) ∙ states_set 0 z.datacentres d after;
    links = subst (λ ls. AreLinked dcs ls z.links) (sym same) h.links;
    count = length-set z.datacentres d after ∙ h.count;
    rows = h.rows;
    columns = h.columns;
  }

  -- the link from d to e has other messages
  pub shows_link : (d e : ℕ) (ps : List (List ℕ)) (ms : List Message) (new : Network) → d < dcs → new.datacentres ≡ old.datacentres → new.links ≡ with_packets old.links d e ps → AreSpelled dcs ps ms → Shows dcs (with_link z d e ms) new
  shows_link d e ps ms new within same changed spelled =
      let row : List (List Message) = get_or z.links d [] in
      let wide : length row ≡ dcs = All-get_or (λ (r : List (List Message)). length r ≡ dcs) z.links d [] (omega (arith, within, h.rows)) h.columns in
      record {
        datacentres = same ∙ h.datacentres;
        links = subst (λ ls. AreLinked dcs ls (set z.links d (set row e ms))) (sym changed) (with_spelled dcs old.links z.links d e ps ms h.links spelled);
        count = h.count;
        rows = length-set z.links d (set row e ms) ∙ h.rows;
        columns = All-set (λ (r : List (List Message)). length r ≡ dcs) z.links d (set row e ms) (length-set row e ms ∙ wide) h.columns;
      }
