-- Answers whose fault becomes one of a wider type.
use Rattle.std.proofs.Common.{Result, Ok, Err, ap}
use Rattle.hs_expr.specs.declared.failure.Failure.{Failure}
use Rattle.hs_expr.specs.declared.failure.Failure.TheVariants.{Fault, NoMemory}
use Rattle.hs_expr.specs.Steps.{Gives, GivesBy, failing_as, fault_as}

pub fault_as-gives : {A F G : Type 0} (wrap : F → G) (answer : Result A (Failure F)) (meant : Result A F) → Gives answer meant → Gives (failing_as wrap answer) (fault_as wrap meant)
fault_as-gives wrap (Ok x) meant e = ap (fault_as wrap) e
fault_as-gives wrap (Err (Fault fault)) meant e = ap (fault_as wrap) e
fault_as-gives wrap (Err NoMemory) meant e = tt

pub fault_as-gives_by : {A B F G : Type 0} (view : B → A) (wrap : F → G) (answer : Result B (Failure F)) (meant : Result A F) →
    GivesBy view answer meant → GivesBy view (failing_as wrap answer) (fault_as wrap meant)
fault_as-gives_by view wrap (Ok x) meant e = ap (fault_as wrap) e
fault_as-gives_by view wrap (Err (Fault fault)) meant e = ap (fault_as wrap) e
fault_as-gives_by view wrap (Err NoMemory) meant e = tt

pub ruleset widened = (fault_as-gives, fault_as-gives_by)
