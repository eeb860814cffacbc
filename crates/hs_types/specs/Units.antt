-- What units call.
use Rattle.std.specs.Prelude.{List, [], ◌∷◌, Option, Some, None}
use Rattle.hs_types.specs.declared.unit.Body.{Body}
use Rattle.hs_types.specs.declared.unit.Body.TheVariants.{Sequential, Independent, Priority, Conditional, Loop, Iterated}
use Rattle.hs_types.specs.declared.unit.Call.{Call}

abbrev pub otherwise_calls : Option Call → List Call
otherwise_calls None = []
otherwise_calls (Some call) = call ∷ []

-- The calls of a unit, in written order.
abbrev pub calls_of : Body → List Call
calls_of (Sequential calls) = calls
calls_of (Independent calls) = calls
calls_of (Priority calls) = calls
calls_of (Conditional test next otherwise) = test ∷ next ∷ otherwise_calls otherwise
calls_of (Loop call) = call ∷ []
calls_of (Iterated times call) = call ∷ []
