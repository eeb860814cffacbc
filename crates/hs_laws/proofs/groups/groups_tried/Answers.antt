use Rattle.std.proofs.Common.{ℕ, suc, zero, List, [], ◌∷◌, refl, ap, rules, lit<, inl, inr, get_or}
use Rattle.std.specs.List.{flat_map}
use Rattle.hs_expr.proofs.Lists.{below_differs}
use Rattle.hs_types.specs.Journal.{IsLawful, IsLawfulEntry}
use Rattle.hs_laws.specs.Bank.{lone_rules, nothing, undone}
use Rattle.hs_laws.proofs.LoneTries.{after_first_lawful, first_lawful, same_name_before, second_lawful}
use Rattle.hs_laws.proofs.groups.groups_tried.Goals as goal

undone_lawful : IsLawfulEntry lone_rules [] nothing 0 undone
undone_lawful = record { numbered = record { at_its_place = refl; within_sessions = lit< tt; requests_rise = search rules; tries_numbered = refl }; tries = (first_lawful, tt) }

pub returns-clause-undone : goal.returns-clause-undone
returns-clause-undone c zero = undone_lawful
returns-clause-undone c (suc zero) = record { numbered = record { at_its_place = refl; within_sessions = lit< tt; requests_rise = search rules; tries_numbered = refl }; tries = (first_lawful, tt) }
returns-clause-undone c (suc (suc n)) = tt

pub returns-clause-undone_graph : goal.returns-clause-undone_graph
returns-clause-undone_graph c = refl

pub returns-clause-done : goal.returns-clause-done
returns-clause-done c zero = record { numbered = record { at_its_place = refl; within_sessions = lit< tt; requests_rise = search rules; tries_numbered = refl }; tries = (first_lawful, (after_first_lawful, tt)) }
returns-clause-done c (suc n) = tt

pub returns-clause-counted : goal.returns-clause-counted
returns-clause-counted c zero = undone_lawful
returns-clause-counted c (suc zero) = record { numbered = record { at_its_place = refl; within_sessions = lit< tt; requests_rise = search rules; tries_numbered = refl }; tries = (second_lawful, tt) }
returns-clause-counted c (suc (suc n)) = tt

just_undone : IsLawful lone_rules nothing (undone ∷ [])
just_undone zero = undone_lawful
just_undone (suc n) = tt

pub returns-clause-counted_again : goal.returns-clause-counted_again
returns-clause-counted_again c = record {
  lawful_before = (refl, just_undone);
  fails = λ h. below_differs 0 1 (lit< tt) (ap (λ numbers. get_or numbers 0 0) h.tries_numbered);
}

abbrev digit_of : List (List ℕ) → ℕ
digit_of names = get_or (flat_map (λ name. name) names) 1 0

pub returns-clause-same_name : goal.returns-clause-same_name
returns-clause-same_name c = record {
  lawful_before = (refl, λ place. tt);
  fails = (
    record { at_its_place = refl; within_sessions = lit< tt; requests_rise = search rules; tries_numbered = refl },
    inr (first_lawful, inl (record { met = same_name_before; unmet = λ h. below_differs 48 49 (lit< tt) (ap digit_of h.0) })),
  );
}
