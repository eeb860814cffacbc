-- Where a fault is reported.
use Rattle.hs_expr.specs.declared.Span.{Span}
use Rattle.hs_faults.specs.declared.fault.RuleFault.{RuleFault}
use Rattle.hs_faults.specs.declared.fault.RuleFaultKind.{RuleFaultKind}
use Rattle.hs_faults.specs.declared.fault.Within.TheVariants.{Rule, Unit}

-- This is wrong in a rule, at this place.
abbrev pub fault_at : Span → RuleFaultKind → RuleFault
fault_at span kind = record { within = Rule; line = span.line; column = span.column; kind = kind }

-- This is wrong in a unit, at this place.
abbrev pub unit_fault_at : Span → RuleFaultKind → RuleFault
unit_fault_at span kind = record {
  within = Unit;
  line = span.line;
  column = span.column;
  kind = kind;
}
