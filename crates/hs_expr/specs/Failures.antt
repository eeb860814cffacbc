-- What a call promises of the fault that it gives, if it gives one.
use Rattle.hs_expr.specs.declared.failure.Failure.{Failure}
use Rattle.hs_expr.specs.declared.failure.Failure.TheVariants.{Fault, NoMemory}

-- The fact holds of the fault; nothing is promised where memory ran out.
abbrev pub IfFault : {F : Type 0} → (F → Type 0) → Failure F → Type 0
IfFault Holds (Fault fault) = Holds fault
IfFault Holds NoMemory = Unit {0}
