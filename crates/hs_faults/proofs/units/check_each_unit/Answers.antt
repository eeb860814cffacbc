use Rattle.std.proofs.Common.{◌≡◌, ◌+◌, ◌++◌, List, drop, take, ap, subst, sym, ◌∙◌}
use Rattle.hs_expr.specs.Verdict.{verdict}
use Rattle.hs_text.specs.declared.syntax.Unit.{Unit as WrittenUnit}
use Rattle.hs_faults.proofs.Definitions.{unit_next, units_more}
use Rattle.hs_faults.specs.SeenUnits.{HasSeenUnits}
use Rattle.hs_faults.specs.UnitFaults.{faults_of_each, rules_of, unit_faults_after, as_unit, units_of}
use Rattle.hs_faults.proofs.units.check_each_unit.Goals as goal

pub loop-definition-preserved : goal.loop-definition-preserved
loop-definition-preserved c =
    let before = units_of (take c.loop-definition.definition-index c.args.definitions.now) in
    let more : units_of (take (c.loop-definition.definition-index + 1) c.args.definitions.now) ≡ before ++ as_unit c.definition-item.result = units_more c.args.definitions.now c.loop-definition.definition-index c.definition-item.result c.loop-definition-test.true (sym c.definition-item.is) in
    record {
      seen = subst (λ (units : List WrittenUnit). HasSeenUnits c.check_definition.new.seen units) (sym more) (c.in_ok-check_definition.ensures.seen before c.loop-definition.invariant.seen);
      rest = ap (λ (units : List WrittenUnit). verdict (unit_faults_after c.args.callees.now.meta (rules_of c.args.callees.now.definitions) (units_of c.args.callees.now.definitions) units (drop (c.loop-definition.definition-index + 1) c.args.definitions.now))) more
          ∙ unit_next c.args.callees.now.meta (rules_of c.args.callees.now.definitions) (units_of c.args.callees.now.definitions) before c.args.definitions.now c.loop-definition.definition-index c.definition-item.result (verdict (faults_of_each c.args.callees.now.meta c.args.definitions.now))
          c.loop-definition-test.true (sym c.definition-item.is) c.loop-definition.invariant.rest
          (c.in_ok-check_definition.ensures.fault before c.loop-definition.invariant.seen);
    }
