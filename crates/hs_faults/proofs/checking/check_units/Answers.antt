use Rattle.std.proofs.Common.{List, subst}
use Rattle.hs_expr.specs.Steps.{Gives}
use Rattle.hs_expr.specs.Verdict.{verdict}
use Rattle.hs_text.specs.declared.syntax.Definition.{Definition}
use Rattle.hs_faults.specs.UnitFaults.{faults_of_units}
use Rattle.hs_faults.proofs.checking.check_units.Goals as goal

pub returns : goal.returns
returns c = subst (λ (definitions : List Definition). Gives c.check_units_with.result (verdict (faults_of_units c.args.meta.now definitions))) c.as_slice-definitions.ensures c.check_units_with.ensures
