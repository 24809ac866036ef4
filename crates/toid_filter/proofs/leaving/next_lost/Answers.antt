use Rattle.std.proofs.Common.{◌≤◌, ◌∙◌, ap, not, refl, sym, Some}
use Rattle.std.specs.Option.{option_map}
use Rattle.std.proofs.lemmas.Bool.{eq-eqb, ne_eqb}
use Rattle.std.proofs.lemmas.List.Elements.{All-filter}
use Rattle.causal_deps.specs.declared.record.Record.{Record}
use Rattle.toid_filter.specs.Filters.{from_name, stands_before}
use Rattle.toid_filter.proofs.Losing.{look_found, look_name, look_none, look_number, look_on}
use Rattle.toid_filter.proofs.leaving.next_lost.Goals as goal

pub loop-name-init : goal.loop-name-init
loop-name-init c = record {
  next = tt;
  finite = tt;
  looking = record {
    rest = from_name c.args.from.0 c.args.from.1 c.args.held.now;
    shown = c.into_iter-name-iterator.ensures.into_iter_gives ∙ c.range_from-name-items.ensures.shown;
    same = refl;
    numbers = All-filter (λ r. not (stands_before c.args.from.0 c.args.from.1 r)) (λ (r : Record). 1 ≤ r.toid) c.args.held.now c.requires;
  };
}

pub champion-requires : goal.champion-requires
champion-requires c = look_number _ _ _ c.loop-name.invariant.looking _ _ c.in-Some.ensures.steps

pub returns-then-champion-number-clause-first : goal.returns-then-champion-number-clause-first
returns-then-champion-number-clause-first c =
    ap Some (look_name _ _ _ c.loop-name.invariant.looking _ _ c.in-Some.ensures.steps)
    ∙ sym (ap (option_map (λ (r : Record). (r.host, r.toid))) (look_found _ _ _ c.loop-name.invariant.looking _ _ c.in-Some.ensures.steps
    (ap not (ne_eqb _ c.args.number (λ same. c.if-champion-number.true (c.champion.ensures ∙ same))))))

pub loop-name-preserved : goal.loop-name-preserved
loop-name-preserved c = record {
  next = tt;
  finite = tt;
  looking = look_on _ _ _ c.loop-name.invariant.looking _ _ c.in-Some.ensures.steps
      (ap not (eq-eqb _ c.args.number (sym c.champion.ensures ∙ c.if-champion-number.false)));
}

pub returns-clause-first : goal.returns-clause-first
returns-clause-first c = ap (option_map (λ (r : Record). (r.host, r.toid))) (sym (look_none _ _ _ c.loop-name.invariant.looking c.in-None.ensures.steps.0))
