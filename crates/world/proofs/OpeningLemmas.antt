-- What the code opens is what the script opens.
use Rattle.std.proofs.Common.{◌≡◌, ℕ, zero, suc, ◌+◌, List, [], ◌∷◌, ◌++◌, length, replicate, refl, ap, sym, ◌∙◌, subst, arith, Some, add-one}
use Rattle.std.specs.List.{All}
use Rattle.std.proofs.lemmas.List.{length-replicate}
use Rattle.std.proofs.lemmas.List.Elements.{All-nil, All-cons}
use Rattle.abstract_log.specs.declared.script.Script.{Script}
use Rattle.record_codec.specs.declared.message.Message.{Message}
use Rattle.stage_world.specs.Stages.{Datacentre}
use Rattle.stage_world.specs.Opening.{numbered, opening}
use Rattle.stage_world.proofs.OpeningLemmas.{length-numbered}
use Rattle.datacentre.specs.Seen.{DatacentreState}
use Rattle.world.specs.declared.network.Network.{Network}
use Rattle.world.specs.Links.{AreLinked}
use Rattle.world.specs.Showing.{Shows, opened_at, states_from}
use Rattle.world.proofs.LinkLemmas.{none_linked}
use Rattle.world.proofs.NetworkLemmas.{states_push}

zero-plus : (k : ℕ) → 0 + k ≡ k
zero-plus k = omega arith

pub opened_next : (script : Script) (n : ℕ) (xs : List DatacentreState) → xs ≡ states_from 0 (numbered (opened_at script) n)
    → xs ++ record { dc = n; stages = Some (opened_at script n) } ∷ [] ≡ states_from 0 (numbered (opened_at script) (n + 1))
opened_next script n xs before =
    let z : Datacentre = opened_at script n in
    ap (λ (ys : List DatacentreState). ys ++ record { dc = n; stages = Some z } ∷ []) before
    ∙ ap (λ i. states_from 0 (numbered (opened_at script) n) ++ record { dc = i; stages = Some z } ∷ []) (sym (zero-plus (length (numbered (opened_at script) n)) ∙ length-numbered (opened_at script) n))
    ∙ sym (states_push 0 (numbered (opened_at script) n) z)
    ∙ sym (ap (λ k. states_from 0 (numbered (opened_at script) k)) (add-one n))

All-replicate : {A : Type 0} (P : A → Type 0) (n : ℕ) (a : A) → P a → All P (replicate n a)
All-replicate P zero a here = All-nil P
All-replicate P (suc n) a here = All-cons P a (replicate n a) here (All-replicate P n a here)

abbrev no_messages : List Message
no_messages = []

pub opened_shows : (script : Script) (network : Network) → network.datacentres ≡ states_from 0 (numbered (opened_at script) script.workload.dcs)
    → network.links ≡ replicate script.workload.dcs (replicate script.workload.dcs []) → Shows script.workload.dcs (opening script) network
opened_shows script network datacentres links =
    let n : ℕ = script.workload.dcs in record {
      datacentres = datacentres;
      links = subst (λ ls. AreLinked n ls (replicate n (replicate n no_messages))) (sym links) (none_linked n n);
      count = length-numbered (opened_at script) n;
      rows = length-replicate n (replicate n no_messages);
      columns = All-replicate (λ (row : List (List Message)). length row ≡ n) n (replicate n no_messages) (length-replicate n no_messages);
    }
