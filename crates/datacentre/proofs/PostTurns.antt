-- Posting at a whole datacentre: what the lent stages leave is what the stage world's turn leaves.
use Rattle.std.proofs.Common.{◌≡◌, ℕ, ◌<◌, ltb, ◌&&◌, nat_lt, List, [], length, set, get_or, refl, ap, ap₂, sym, ◌∙◌, subst, arith}
use Rattle.std.proofs.lemmas.Bool.{lt-ltb}
use Rattle.std.proofs.lemmas.List.{get_or-set_same, set-get_or}
use Rattle.causal_deps.specs.declared.record.Record.{Record}
use Rattle.abstract_log.specs.declared.script.Outcome.TheVariants.{Covered}
use Rattle.flstore_rounds.specs.Heads.{head, mark_at}
use Rattle.maintainer.specs.Maintainers.{MaintainerState, plain}
use Rattle.tag_indexer.specs.Indexers.{IndexerState}
use Rattle.stage_world.specs.Stages.{Datacentre, indexer_at, maintainer_at, no_indexer, no_maintainer}
use Rattle.stage_world.specs.Turns.{Turned, where_there}
use Rattle.stage_world.specs.MoreTurns.{post_turn, posted_to}
use Rattle.stage_turns.specs.declared.done.TurnDone.{TurnDone}
use Rattle.stage_turns.specs.Lent.{maintainers_seen}
use Rattle.stage_turns.specs.Posting.{MayPost, post_mark}
use Rattle.stage_turns.proofs.PostingTurns.{may_post, may_plain, mark_plain, posted_plain, post_tells}
use Rattle.datacentre.specs.declared.parts.Parts.{Parts}
use Rattle.datacentre.specs.Seen.{seen}
use Rattle.datacentre.specs.Turning.{IsTurned, MayTurn}
use Rattle.datacentre.proofs.WholeTurns.{as_many, lent_is, maintainer_lent, there, told_of}

pub post_may : (p : Parts) (m i : ℕ) (x : MaintainerState Record) (y : IndexerState) → MayTurn p → m < length p.maintainers → i < length p.indexers → x ≡ get_or p.maintainers m x → y ≡ get_or p.indexers i y → MayPost x m y
post_may p m i x y may in_m in_i is_x is_y =
    subst (MayPost x m) (sym (lent_is p.indexers i y no_indexer is_y in_i))
    (may_plain x (maintainer_at (seen p).maintainers m) m (indexer_at p.indexers i) (maintainer_lent p m x in_m is_x) (may_post may.log.world p.dc (seen p) m i (omega (arith, in_m, as_many p)) in_i may.log.stands))

pub post_is : (p : Parts) (m i : ℕ) (x x' : MaintainerState Record) (y y' : IndexerState) (done : TurnDone) → MayTurn p → m < length p.maintainers → i < length p.indexers → x ≡ get_or p.maintainers m x → y ≡ get_or p.indexers i y
    → x' ≡ x → y' ≡ posted_to y x m → done.outcome ≡ Covered (head y'.pair) → done.events ≡ [] → done.changed ≡ nat_lt (mark_at y.pair m) (post_mark x (mark_at y.pair m))
    → IsTurned p (record p { maintainers = set p.maintainers m x'; indexers = set p.indexers i y' }) done (where_there (ltb m (length p.maintainers) && ltb i (length p.indexers)) (seen p) (post_turn (seen p) m i))
post_is p m i x x' y y' done may in_m in_i is_x is_y same new outcome events changed =
    let z : Datacentre = seen p in
    let turned : Turned = post_turn z m i in
    let left : set p.maintainers m x' ≡ p.maintainers = ap (set p.maintainers m) (same ∙ lent_is p.maintainers m x no_maintainer is_x in_m) ∙ set-get_or p.maintainers m no_maintainer in
    let old : y ≡ indexer_at p.indexers i = lent_is p.indexers i y no_indexer is_y in_i in
    let at : plain x ≡ maintainer_at z.maintainers m = maintainer_lent p m x in_m is_x in
    let now : y' ≡ posted_to (indexer_at p.indexers i) (maintainer_at z.maintainers m) m = new ∙ posted_plain y x (maintainer_at z.maintainers m) m at ∙ ap (λ (n : IndexerState). posted_to n (maintainer_at z.maintainers m) m) old in
    let indexers : set p.indexers i y' ≡ turned.after.indexers = ap (set p.indexers i) now in
    let mark : nat_lt (mark_at y.pair m) (post_mark x (mark_at y.pair m)) ≡ nat_lt (mark_at (indexer_at p.indexers i).pair m) (post_mark (maintainer_at z.maintainers m) (mark_at (indexer_at p.indexers i).pair m)) =
    ap (nat_lt (mark_at y.pair m)) (mark_plain x (maintainer_at z.maintainers m) (mark_at y.pair m) at) ∙ ap (λ (n : IndexerState). nat_lt (mark_at n.pair m) (post_mark (maintainer_at z.maintainers m) (mark_at n.pair m))) old in
    let size : length (indexer_at z.indexers i).pair.marks ≡ 16 = (may.log.stands.coverage.indexers i no_indexer in_i).1.has.size in
    let small : m < length (indexer_at z.indexers i).pair.marks = omega (arith, size, in_m, as_many p, may.log.stands.membership.members.ranges.maintainers.1) in
    let may_z : MayPost (maintainer_at z.maintainers m) m (indexer_at z.indexers i) = may_post may.log.world p.dc z m i (omega (arith, in_m, as_many p)) in_i may.log.stands in
    there p (record p { maintainers = set p.maintainers m x'; indexers = set p.indexers i y' }) done (ltb m (length p.maintainers) && ltb i (length p.indexers)) turned
    (ap₂ (λ a b. a && b) (lt-ltb m (length p.maintainers) in_m) (lt-ltb i (length p.indexers) in_i)) (record {
      stages = ap₂ (λ ms (is : List IndexerState). record z { maintainers = maintainers_seen ms; indexers = is }) left indexers;
      here = refl;
      whole = record { token = may.whole.token; table = may.whole.table; senders = may.whole.senders; pins = may.whole.pins; many = may.whole.many };
      outcome = outcome ∙ ap (λ (n : IndexerState). Covered (head n.pair)) (now ∙ sym (get_or-set_same p.indexers i (posted_to (indexer_at p.indexers i) (maintainer_at z.maintainers m) m) no_indexer in_i));
      events = events;
      changed = told_of z turned.after done.changed (nat_lt (mark_at (indexer_at z.indexers i).pair m) (post_mark (maintainer_at z.maintainers m) (mark_at (indexer_at z.indexers i).pair m))) (changed ∙ mark) (post_tells z m i in_i small may_z);
    })
