use Rattle.std.proofs.Common.{◌≡◌, ◌∙◌, ap, sym, subst, not}
use Rattle.std.proofs.lemmas.Bool.{eq-eqb, eqb-true, false_from_ne_true, not_from_false, true≢false}
use Rattle.std.proofs.lemmas.Option.{same_Some}
use Rattle.causal_deps.specs.declared.record.Record.{Record}
use Rattle.toid_filter.specs.Champions.{Serves}
use Rattle.toid_filter.proofs.HeldLemmas.{first_named}
use Rattle.toid_filter.proofs.leaving.has_next.Goals as goal

pub returns-then-eq-clause-yes : goal.returns-then-eq-clause-yes
returns-then-eq-clause-yes c holds = (
  c.in-Some.rec.now,
  record {
    is = (first_named _ _ _ (sym c.range_from.ensures.shown ∙ c.in-Some.ensures.steps)).0;
    host = eqb-true c.in-Some.rec.now.host c.args.h (sym c.eq.ensures ∙ c.if-eq.true);
    next = λ served. true≢false (sym holds ∙ ap not (c.serves.ensures.1 served));
  },
)

pub returns-then-eq-clause-no : goal.returns-then-eq-clause-no
returns-then-eq-clause-no c q next =
    let same : c.in-Some.rec.now ≡ q = same_Some c.in-Some.rec.now q (sym (first_named _ _ _ (sym c.range_from.ensures.shown ∙ c.in-Some.ensures.steps)).0 ∙ next.is) in
    not_from_false c.serves.result (false_from_ne_true c.serves.result (λ served. next.next (subst (λ (x : Record). Serves c.args.map.now c.args.number c.args.h c.args.first x.toid) same (c.serves.ensures.0 served))))

pub returns-else-eq-clause-no : goal.returns-else-eq-clause-no
returns-else-eq-clause-no c q next =
    let same : c.in-Some.rec.now ≡ q = same_Some c.in-Some.rec.now q (sym (first_named _ _ _ (sym c.range_from.ensures.shown ∙ c.in-Some.ensures.steps)).0 ∙ next.is) in
    c.eq.ensures ∙ eq-eqb c.in-Some.rec.now.host c.args.h (ap (λ (x : Record). x.host) same ∙ next.host)
