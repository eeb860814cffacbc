-- A call of a rule is one attempt at it.
use Rattle.std.proofs.Common.{ℕ, zero, suc, ◌≡◌, ◌⊎◌, inl, inr, List, [], ◌∷◌, refl, sym}
use Rattle.hs_types.specs.declared.request.Args.{Args}
use Rattle.hs_types.specs.Rules.{Rules}
use Rattle.hs_unit.specs.declared.outcome.Outcome.{Outcome}
use Rattle.hs_unit.specs.declared.outcome.Outcome.TheVariants.{Applied, Missed}
use Rattle.hs_unit.specs.Courses.{Asks, Course, attempt}
use Rattle.hs_session.specs.Runs.{ComesTo, Run}
use Rattle.hs_session.specs.Standing.{Made, outcome_made}
use Rattle.hs_session.proofs.Runs.{asks_args, asks_rule}

abbrev tries_rule : ℕ → Args → ℕ → Run
tries_rule rule args fuel = λ outcomes. attempt rule args (record { fuel = fuel; outcomes = outcomes; outs = [] })

never_again : (rule again fuel : ℕ) (args more : Args) (o : Outcome) → tries_rule rule args (suc fuel) (o ∷ []) ≡ Asks again more → ⊥
never_again rule again fuel args more (Applied outs) e = absurd (cc)
never_again rule again fuel args more Missed e = absurd (cc)

pub tried_once : (rules : Rules) (rule fuel : ℕ) (args : Args) (made : List Made) (course : Course) → ComesTo rules (tries_rule rule args fuel) made course →
    (made ≡ []) ⊎ ((one : Made) × (made ≡ one ∷ []) × (one.tried.rule ≡ rule) × (one.tried.args ≡ args) × (course ≡ tries_rule rule args fuel (outcome_made rules one ∷ [])))
tried_once rules rule fuel args [] course h = inl refl
tried_once rules rule zero args (m ∷ ms) course h = absurd (cc)
tried_once rules rule (suc fuel) args (m ∷ []) course h = inr (m, refl, sym (asks_rule h.0), sym (asks_args h.0), sym h.1)
tried_once rules rule (suc fuel) args (m ∷ n ∷ ms) course h = absurd (never_again rule n.tried.rule fuel args n.tried.args (outcome_made rules m) h.1.0)
