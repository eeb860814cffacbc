-- Answers that say why bytes are refused.
use Rattle.std.proofs.Common.{ℕ, ◌≡◌, List, Result, Ok, Err, IfOk, IsErrAnd, refl, subst}
use Rattle.hs_expr.specs.declared.failure.Failure.{Failure}
use Rattle.hs_expr.specs.declared.failure.Failure.TheVariants as failed
use Rattle.hs_expr.specs.Steps.{failing_as}
use Rattle.hs_input.specs.declared.refusal.Refusal.{Refusal}
use Rattle.hs_input.specs.Refusing.{Refuses, Tells}

-- A refusal that is handed on keeps its cause.
pub handed_on : {X Y : Type 0} (bytes : List ℕ) (from : Result Y (Failure Refusal)) (result : Result X (Failure Refusal)) (failure : Failure Refusal) →
    IsErrAnd result (λ e. e ≡ failure) → from ≡ Err failure → Tells bytes from → Tells bytes result
handed_on bytes from (Ok x) failure is came told = absurd is
handed_on bytes (Ok y) (Err other) failure is came told = absurd (cc)
handed_on bytes (Err failed.NoMemory) (Err failed.NoMemory) failure is came told = tt
handed_on bytes (Err (failed.Fault refusal)) (Err (failed.Fault other)) failure is came told = subst (λ (r : Refusal). Refuses bytes r) (cc) told
handed_on bytes (Err failed.NoMemory) (Err (failed.Fault other)) failure is came told = absurd (cc)
handed_on bytes (Err (failed.Fault refusal)) (Err failed.NoMemory) failure is came told = tt

-- A fault that is reported as a refusal has its cause.
pub told_as : {X F : Type 0} (bytes : List ℕ) (wrap : F → Refusal) (answer : Result X (Failure F)) →
    ((fault : F) → answer ≡ Err (failed.Fault fault) → Refuses bytes (wrap fault)) → Tells bytes (failing_as wrap answer)
told_as bytes wrap (Ok x) cause = tt
told_as bytes wrap (Err (failed.Fault fault)) cause = cause fault refl
told_as bytes wrap (Err failed.NoMemory) cause = tt

pub ok_as : {X F G : Type 0} (P : X → Type 0) (wrap : F → G) (answer : Result X (Failure F)) → IfOk answer P → IfOk (failing_as wrap answer) P
ok_as P wrap (Ok x) holds = holds
ok_as P wrap (Err (failed.Fault fault)) holds = tt
ok_as P wrap (Err failed.NoMemory) holds = tt
