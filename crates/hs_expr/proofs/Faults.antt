-- Answers of checks in order: each gives the first fault of its part of a list of faults.
use Rattle.std.proofs.Common.{◌≡◌, List, [], ◌∷◌, ◌++◌, Result, Ok, Err, refl, ap, sym, ◌∙◌}
use Rattle.hs_expr.specs.declared.failure.Failure.{Failure}
use Rattle.hs_expr.specs.declared.failure.Failure.TheVariants.{Fault, NoMemory}
use Rattle.hs_expr.specs.Steps.{Fails, Gives}
use Rattle.hs_expr.specs.Verdict.{unless, verdict}
use Rattle.hs_expr.proofs.Verdicts.{verdict-append-ok, verdict-append-err}

ok-not_err : {A F : Type 0} (x : A) (fault : F) → Ok x ≡ Err fault → ⊥
ok-not_err x fault same = absurd (cc)

pub none-from_verdict : {F : Type 0} (faults : List F) → verdict faults ≡ Ok tt → faults ≡ []
none-from_verdict [] e = refl
none-from_verdict (f ∷ faults) e = absurd (ok-not_err tt f (sym e))

-- The first fault of a part is the first of all, after parts without one.
pub part-verdict : {F : Type 0} (a b : List F) (failure : Failure F) → Fails failure (verdict a) → Fails failure (verdict (a ++ b))
part-verdict a b (Fault fault) first = verdict-append-err a b fault first
part-verdict a b NoMemory first = tt

pub rest-verdict : {F : Type 0} (a b : List F) (answer : Result (Unit {0}) (Failure F)) → verdict a ≡ Ok tt → Gives answer (verdict b) → Gives answer (verdict (a ++ b))
rest-verdict a b (Ok done) none gives = verdict-append-ok a b none ∙ gives
rest-verdict a b (Err (Fault fault)) none gives = verdict-append-ok a b none ∙ gives
rest-verdict a b (Err NoMemory) none gives = tt

-- The same of the value that is given where there is no fault.
pub part-fails : {A F : Type 0} (a b : List F) (x : A) (failure : Failure F) → Fails failure (verdict a) → Fails failure (unless (a ++ b) x)
part-fails a b x NoMemory first = tt
part-fails [] b x (Fault fault) first = absurd (ok-not_err tt fault first)
part-fails (f ∷ a) b x (Fault fault) first = cc

pub rest-fails : {A F : Type 0} (a b : List F) (x : A) (failure : Failure F) → verdict a ≡ Ok tt → Fails failure (unless b x) → Fails failure (unless (a ++ b) x)
rest-fails [] b x failure none fails = fails
rest-fails (f ∷ a) b x failure none fails = absurd (ok-not_err tt f (sym none))

pub rest-gives : {A F : Type 0} (a b : List F) (x : A) (answer : Result A (Failure F)) → verdict a ≡ Ok tt → Gives answer (unless b x) → Gives answer (unless (a ++ b) x)
rest-gives [] b x answer none gives = gives
rest-gives (f ∷ a) b x answer none gives = absurd (ok-not_err tt f (sym none))

pub rest-value : {A F : Type 0} (a b : List F) (x : A) → verdict a ≡ Ok tt → unless b x ≡ Ok x → unless (a ++ b) x ≡ Ok x
rest-value [] b x none e = e
rest-value (f ∷ a) b x none e = absurd (ok-not_err tt f (sym none))

pub fails-from_verdict : {A F : Type 0} (faults : List F) (x : A) (failure : Failure F) → Fails failure (verdict faults) → Fails failure (unless faults x)
fails-from_verdict faults x NoMemory first = tt
fails-from_verdict [] x (Fault fault) first = absurd (ok-not_err tt fault first)
fails-from_verdict (f ∷ faults) x (Fault fault) first = cc

pub value-from_verdict : {A F : Type 0} (faults : List F) (x : A) → verdict faults ≡ Ok tt → unless faults x ≡ Ok x
value-from_verdict [] x none = refl
value-from_verdict (f ∷ faults) x none = absurd (ok-not_err tt f (sym none))

pub value-from_none : {A F : Type 0} (faults : List F) (x : A) → faults ≡ [] → unless faults x ≡ Ok x
value-from_none faults x e = ap (λ fs. unless fs x) e

-- Backwards: whatever is given where there is no fault, the first fault is the same; a value is the one that the definition has, and then there is no fault.
pub fails-of_other : {A B F : Type 0} (faults : List F) (x : A) (y : B) (failure : Failure F) → Fails failure (unless faults x) → Fails failure (unless faults y)
fails-of_other faults x y NoMemory fails = tt
fails-of_other [] x y (Fault fault) fails = absurd (ok-not_err x fault fails)
fails-of_other (f ∷ faults) x y (Fault fault) fails = cc

pub verdict-from_fails : {A F : Type 0} (faults : List F) (x : A) (failure : Failure F) → Fails failure (unless faults x) → Fails failure (verdict faults)
verdict-from_fails faults x NoMemory fails = tt
verdict-from_fails [] x (Fault fault) fails = absurd (ok-not_err x fault fails)
verdict-from_fails (f ∷ faults) x (Fault fault) fails = cc

pub none-from_value : {A F : Type 0} (faults : List F) (x y : A) → unless faults x ≡ Ok y → faults ≡ []
none-from_value [] x y e = refl
none-from_value (f ∷ faults) x y e = absurd (ok-not_err y f (sym e))

pub verdict-from_value : {A F : Type 0} (faults : List F) (x y : A) → unless faults x ≡ Ok y → verdict faults ≡ Ok tt
verdict-from_value faults x y e = ap verdict (none-from_value faults x y e)

pub same-from_value : {A F : Type 0} (faults : List F) (x y : A) → unless faults x ≡ Ok y → y ≡ x
same-from_value [] x y e = cc
same-from_value (f ∷ faults) x y e = absurd (ok-not_err y f (sym e))

pub ruleset checks = (part-verdict, rest-verdict, part-fails, rest-fails, rest-gives, rest-value, fails-from_verdict, value-from_verdict)

pub ruleset values = (fails-of_other, verdict-from_fails, none-from_value, verdict-from_value, same-from_value, value-from_none)
