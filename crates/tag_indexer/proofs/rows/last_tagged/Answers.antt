use Rattle.std.proofs.Common.{◌≡◌, IfOk, List, subst}
use Rattle.causal_deps.specs.declared.record.Place.{Place}
use Rattle.abstract_log.specs.Answers.{last_of}
use Rattle.tag_indexer.proofs.AnswerLemmas.{places_are, tagged_among}
use Rattle.tag_indexer.proofs.rows.last_tagged.Goals as goal

pub returns : goal.returns
returns c =
    let is = places_are c.args.rows.now c.args.tag.now c.args.s c.requires.order c.args.s c.up_to.result.now c.up_to.ensures.rising c.up_to.ensures.below
    (tagged_among c.args.rows.now c.args.tag.now c.args.s c.requires.order c.args.tagged.now c.up_to.result.now c.requires.listed c.up_to.ensures.whole) in
    subst (λ (all : List Place). IfOk c.last_places.result (λ places. places ≡ last_of c.args.count all)) is c.last_places.ensures
