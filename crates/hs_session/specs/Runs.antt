-- Runs: the course of a call by the outcomes of its attempts, and the attempts that it asks for.
use Rattle.std.specs.Prelude.{ℕ, ◌≡◌, List, [], ◌∷◌}
use Rattle.hs_types.specs.declared.request.Args.{Args}
use Rattle.hs_types.specs.declared.unit.Callee.{Callee}
use Rattle.hs_types.specs.Rules.{Rules}
use Rattle.hs_unit.specs.declared.outcome.Outcome.{Outcome}
use Rattle.hs_unit.specs.Courses.{Course, Asks, course}
use Rattle.hs_session.specs.Standing.{Made, outcome_made}

-- The course of a call by the outcomes of its attempts.
abbrev pub Run : Type 0
Run = List Outcome → Course

-- The run of this callee with these arguments and this fuel, in a session's request of this number.
abbrev pub run_of : Rules → Callee → Args → ℕ → ℕ → Run
run_of rules called args fuel number = course rules.units number called args fuel

-- The rest of a run after an outcome.
abbrev pub rest_after : Outcome → Run → Run
rest_after outcome run = λ outcomes. run (outcome ∷ outcomes)

-- The run asks for exactly these attempts, one by one, and then has this course.
abbrev pub ComesTo : Rules → Run → List Made → Course → Type 0
ComesTo rules run [] course = run [] ≡ course
ComesTo rules run (made ∷ more) course =
    (run [] ≡ Asks made.tried.rule made.tried.args)
    × ComesTo rules (rest_after (outcome_made rules made) run) more course

abbrev pub IsOver : Course → Type 0
IsOver (Asks rule args) = ⊥
IsOver course = Unit {0}
