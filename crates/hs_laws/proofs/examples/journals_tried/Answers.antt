use Rattle.std.proofs.Common.{suc, zero, ◌≡◌, [], ◌∷◌, codes, refl, sym, subst, rules, lit<, lit≤, ◌<◌, ◌≤◌, inl, map, length, get_or, arith, ap, ℕ, List}
use Rattle.hs_types.specs.declared.entry.Cause.{Cause}
use Rattle.hs_types.specs.declared.entry.Cause.TheVariants as cause
use Rattle.hs_types.specs.declared.entry.Entry.{Entry}
use Rattle.hs_types.specs.declared.entry.Outcome.{Outcome}
use Rattle.hs_types.specs.declared.entry.Outcome.TheVariants.{Applied, Missed}
use Rattle.hs_types.specs.declared.entry.Tried.{Tried}
use Rattle.std.specs.List.{flat_map, range_with_len}
use Rattle.std.proofs.lemmas.List.Elements.{All-nil}
use Rattle.hs_expr.proofs.Lists.{below_differs}
use Rattle.hs_types.specs.declared.graph.Graph.{Graph}
use Rattle.hs_types.specs.Journal.{Asks, IsLawfulEntry, IsNumbered, after_entry, rank, tries_in}
use Rattle.hs_expr.proofs.Evaluations.{values}
use Rattle.hs_laws.specs.Bank.{adds, at_match, bank_rules, client_with_new_account, client_with_one, just_client, open_args, opens, opens_missed, opens_misnamed, opens_and_drops, tried}
use Rattle.hs_laws.proofs.BankTries.{adds_lawful, opens_lawful, opens_valid}
use Rattle.hs_laws.proofs.examples.journals_tried.Goals as goal

opened : after_entry bank_rules just_client opens ≡ client_with_new_account
opened = refl

added : after_entry bank_rules client_with_new_account adds ≡ client_with_one
added = simp values refl

pub returns-clause-graph : goal.returns-clause-graph
returns-clause-graph c = added

pub returns-clause-lawful : goal.returns-clause-lawful
returns-clause-lawful c zero = record { numbered = record { at_its_place = refl; within_sessions = lit< tt; requests_rise = search rules; tries_numbered = refl }; tries = (opens_lawful, tt) }
returns-clause-lawful c (suc zero) = subst (λ (g : Graph). IsLawfulEntry bank_rules (opens ∷ []) g 1 adds) (sym (opened)) (record { numbered = record { at_its_place = refl; within_sessions = lit< tt; requests_rise = search rules; tries_numbered = refl }; tries = (adds_lawful, tt) })
returns-clause-lawful c (suc (suc n)) = tt

numbered : (entry : Entry) → entry.session ≡ 0 → map (λ tried. tried.attempt) (tries_in entry.what) ≡ range_with_len 0 (length (tries_in entry.what)) → IsNumbered [] 0 entry
numbered entry s t = record { at_its_place = refl; within_sessions = rw s (lit< tt); requests_rise = All-nil (λ earlier. earlier.session ≡ entry.session → earlier.request ≤ entry.request); tries_numbered = t }

args_fit : (tried : Tried) → tried.rule ≡ 0 → tried.args ≡ open_args → Asks bank_rules just_client tried cause.Rule
args_fit tried e a = rw (e, a) (search rules)

pub returns-clause-missed : goal.returns-clause-missed
returns-clause-missed c = record {
  lawful_before = (refl, λ place. tt);
  fails = (numbered opens_missed refl refl, inl (record { met = met; unmet = λ h. (h) (at_match (0 ∷ []) []) opens_valid }));
}
  where
    met : (earlier : Cause) → rank earlier < 3 → Asks bank_rules just_client (tried 0 open_args Missed) earlier
    met cause.Number l = tt
    met cause.Rule l = args_fit (tried 0 open_args Missed) refl refl
    met cause.Match l = tt
    met cause.Valid l = absurd (omega arith)
    met cause.New l = absurd (omega arith)
    met cause.Old l = absurd (omega arith)

abbrev digit_of : List (List ℕ) → ℕ
digit_of names = get_or (flat_map (λ name. name) names) 1 0

abbrev misnamed : Outcome
misnamed = Applied (record { nodes = codes "c1" ∷ []; edges = []; copies = [] }) (codes "#1" ∷ []) [] []

pub returns-clause-misnamed : goal.returns-clause-misnamed
returns-clause-misnamed c = record {
  lawful_before = (refl, λ place. tt);
  fails = (numbered opens_misnamed refl refl, inl (record { met = met; unmet = λ h. below_differs 48 49 (lit< tt) (sym (ap digit_of (h).0)) }));
}
  where
    met : (earlier : Cause) → rank earlier < 4 → Asks bank_rules just_client (tried 0 open_args misnamed) earlier
    met cause.Number l = tt
    met cause.Rule l = args_fit (tried 0 open_args misnamed) refl refl
    met cause.Match l = opens_valid
    met cause.Valid l = tt
    met cause.New l = absurd (omega arith)
    met cause.Old l = absurd (omega arith)

abbrev dropping : Outcome
dropping = Applied (record { nodes = codes "c1" ∷ []; edges = []; copies = [] }) (codes "#0" ∷ []) [] (record { name = codes "c1"; class = codes "Client"; values = []; in_order = refl } ∷ [])

pub returns-clause-not_gone : goal.returns-clause-not_gone
returns-clause-not_gone c = record {
  lawful_before = (refl, λ place. tt);
  fails = (numbered opens_and_drops refl refl, inl (record { met = met; unmet = λ h. h.1 }));
}
  where
    met : (earlier : Cause) → rank earlier < 5 → Asks bank_rules just_client (tried 0 open_args dropping) earlier
    met cause.Number l = tt
    met cause.Rule l = args_fit (tried 0 open_args dropping) refl refl
    met cause.Match l = opens_valid
    met cause.Valid l = tt
    met cause.New l = (refl, (lit≤ tt, lit≤ tt))
    met cause.Old l = absurd (omega arith)
