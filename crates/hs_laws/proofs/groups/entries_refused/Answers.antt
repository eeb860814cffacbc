use Rattle.std.proofs.Common.{ℕ, pos, suc, zero, ◌<◌, ◌≤◌, List, [], ◌∷◌, codes, refl, sym, ap, rules, lit<, inl, arith}
use Rattle.hs_expr.specs.declared.value.Value.{Value}
use Rattle.hs_expr.specs.declared.value.Value.TheVariants as value
use Rattle.hs_expr.proofs.Evaluations.{values}
use Rattle.hs_expr.proofs.Lists.{below_differs}
use Rattle.hs_types.specs.declared.entry.Cause.{Cause}
use Rattle.hs_types.specs.declared.entry.Cause.TheVariants as cause
use Rattle.hs_types.specs.declared.entry.Outcome.TheVariants.{Applied}
use Rattle.hs_types.specs.Journal.{Asks, IsLawful, rank}
use Rattle.hs_laws.specs.Bank.{args_of, bank_rules, client_with_new_account, lone_rules, made_client, makes_first, nothing, object_arg, one, tried}
use Rattle.hs_laws.proofs.BankTries.{adds_lawful}
use Rattle.hs_laws.proofs.LoneTries.{all_drawn_before, first_lawful}
use Rattle.hs_laws.proofs.groups.entries_refused.Goals as goal

pub returns-clause-session : goal.returns-clause-session
returns-clause-session c = record {
  lawful_before = (refl, λ place. tt);
  fails = λ h. let low = h.within_sessions in absurd (omega (arith, low));
}

just_one : IsLawful lone_rules nothing (one 1 (makes_first (codes "#0")) ∷ [])
just_one zero = record { numbered = record { at_its_place = refl; within_sessions = lit< tt; requests_rise = search rules; tries_numbered = refl }; tries = (first_lawful, tt) }
just_one (suc n) = tt

pub returns-clause-request : goal.returns-clause-request
returns-clause-request c = record {
  lawful_before = (refl, just_one);
  fails = λ h. let low : 1 ≤ 0 = h.requests_rise 0 (one 1 (makes_first (codes "#0"))) (lit< tt) refl in absurd (omega (arith, low));
}

pub returns-clause-rule : goal.returns-clause-rule
returns-clause-rule c = record {
  lawful_before = (refl, λ place. tt);
  fails = (
    record { at_its_place = refl; within_sessions = lit< tt; requests_rise = search rules; tries_numbered = refl },
    inl (record { met = met; unmet = λ h. h }),
  );
}
  where
    met : (earlier : Cause) → rank earlier < 1 → Asks lone_rules nothing (tried 1 (args_of []) (made_client (codes "#0"))) earlier
    met cause.Number l = tt
    met cause.Rule l = absurd (omega arith)
    met cause.Match l = absurd (omega arith)
    met cause.Valid l = absurd (omega arith)
    met cause.New l = absurd (omega arith)
    met cause.Old l = absurd (omega arith)

pub returns-clause-numbers : goal.returns-clause-numbers
returns-clause-numbers c = record {
  lawful_before = (refl, λ place. tt);
  fails = (
    record { at_its_place = refl; within_sessions = lit< tt; requests_rise = search rules; tries_numbered = refl },
    inl (record { met = all_drawn_before; unmet = λ h. let low : 1000000001 ≤ 1000000000 = h.1.0 in absurd (omega (arith, low)) }),
  );
}

pub returns-clause-old : goal.returns-clause-old
returns-clause-old c = record {
  lawful_before = (refl, λ place. tt);
  fails = (
    record { at_its_place = refl; within_sessions = lit< tt; requests_rise = search rules; tries_numbered = refl },
    inl (record { met = met; unmet = λ h. below_differs 0 1 (lit< tt) (sym (ap before (simp values at h.0))) }),
  );
}
  where
    before : List Value → ℕ
    before (value.Int (pos n) ∷ values) = n
    before _ = 0

    met : (earlier : Cause) → rank earlier < 5 → Asks bank_rules client_with_new_account (tried 1 (args_of (object_arg (codes "a") (codes "#0") ∷ [])) (Applied (record { nodes = codes "#0" ∷ []; edges = []; copies = [] }) [] (value.Int (pos 1) ∷ []) [])) earlier
    met cause.Number l = adds_lawful cause.Number
    met cause.Rule l = adds_lawful cause.Rule
    met cause.Match l = adds_lawful cause.Match
    met cause.Valid l = adds_lawful cause.Valid
    met cause.New l = adds_lawful cause.New
    met cause.Old l = absurd (omega arith)
