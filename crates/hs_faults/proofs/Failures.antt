-- Failures of checks that are in order.
use Rattle.std.proofs.Common.{ℕ, ◌+◌, ◌<◌, ◌≡◌, List, ◌++◌, drop, get_or, length, IsErrAnd, Result, Ok, Err, ap, subst, sym, ◌∙◌}
use Rattle.hs_expr.specs.declared.failure.Failure.{Failure}
use Rattle.hs_expr.specs.declared.failure.Failure.TheVariants.{Fault, NoMemory}
use Rattle.hs_expr.specs.Steps.{Fails, Gives}
use Rattle.hs_expr.specs.Verdict.{each_from, verdict}
use Rattle.hs_expr.specs.Steps.{GivesWhere}
use Rattle.hs_expr.proofs.Verdicts.{each_from-drop, verdict-append-err, verdict-append-ok}

pub fails_in_front : {F : Type 0} (failure : Failure F) (a b : List F) → Fails failure (verdict a) → Fails failure (verdict (a ++ b))
fails_in_front (Fault fault) a b e = verdict-append-err a b fault e
fails_in_front NoMemory a b e = tt

pub fails_behind : {F : Type 0} (failure : Failure F) (a b : List F) → verdict a ≡ Ok tt → Fails failure (verdict b) → Fails failure (verdict (a ++ b))
fails_behind (Fault fault) a b none e = verdict-append-ok a b none ∙ e
fails_behind NoMemory a b none e = tt

pub given_behind : {F : Type 0} (answer : Result (Unit {0}) (Failure F)) (a b : List F) → verdict a ≡ Ok tt → Gives answer (verdict b) → Gives answer (verdict (a ++ b))
given_behind (Ok done) a b none e = verdict-append-ok a b none ∙ e
given_behind (Err failure) a b none e = fails_behind failure a b none e

pub ruleset fails = (fails_in_front, fails_behind, given_behind)

-- The failure at item i is that of the whole list, where the items before have no fault.
pub fails_here : {X F : Type 0} (finds : ℕ → X → List F) (xs : List X) (i : ℕ) (x : X) (failure : Failure F) (whole : Result (Unit {0}) F) →
    i < length xs → get_or xs i x ≡ x → verdict (each_from finds i (drop i xs)) ≡ whole → Fails failure (verdict (finds i x)) → Fails failure whole
fails_here finds xs i x failure whole h is rest e =
    subst (λ reported. Fails failure reported) (ap verdict (sym (each_from-drop finds xs i x h)) ∙ rest)
    (subst (λ y. Fails failure (verdict (finds i y ++ each_from finds (i + 1) (drop (i + 1) xs)))) (sym is) (fails_in_front failure (finds i x) (each_from finds (i + 1) (drop (i + 1) xs)) e))

-- What a `?` hands on is the failure itself.
pub handed_on : {A F : Type 0} (Holds : A → Type 0) (result : Result A (Failure F)) (failure : Failure F) (reported : Result (Unit {0}) F) →
    IsErrAnd result (λ e. e ≡ failure) → Fails failure reported → GivesWhere Holds result reported
handed_on Holds (Ok x) failure reported is e = absurd is
handed_on Holds (Err other) failure reported is e = subst (λ f. Fails f reported) (sym is) e

pub passed_on : {F : Type 0} (result : Result (Unit {0}) (Failure F)) (failure : Failure F) (reported : Result (Unit {0}) F) →
    IsErrAnd result (λ e. e ≡ failure) → Fails failure reported → Gives result reported
passed_on (Ok x) failure reported is e = absurd is
passed_on (Err other) failure reported is e = subst (λ f. Fails f reported) (sym is) e

-- Behind item i without fault, the faults of the rest stay.
pub goes_on : {X F : Type 0} (finds : ℕ → X → List F) (xs : List X) (i : ℕ) (x : X) (whole : Result (Unit {0}) F) →
    i < length xs → get_or xs i x ≡ x → verdict (each_from finds i (drop i xs)) ≡ whole → verdict (finds i x) ≡ Ok tt → verdict (each_from finds (i + 1) (drop (i + 1) xs)) ≡ whole
goes_on finds xs i x whole h is rest none =
    sym (verdict-append-ok (finds i x) (each_from finds (i + 1) (drop (i + 1) xs)) none)
    ∙ ap (λ y. verdict (finds i y ++ each_from finds (i + 1) (drop (i + 1) xs))) (sym is)
    ∙ ap verdict (sym (each_from-drop finds xs i x h)) ∙ rest
