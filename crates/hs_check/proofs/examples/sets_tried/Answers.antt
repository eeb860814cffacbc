use Rattle.std.proofs.Common.{ℕ, zero, suc, [], ◌∷◌, false, refl, rules, lit<, lit≤, codes}
use Rattle.std.proofs.lemmas.Bool.{both_ways}
use Rattle.std.proofs.lemmas.List.Elements.{All-cons, All-nil}
use Rattle.hs_types.specs.declared.rule.Rule.{Rule}
use Rattle.hs_types.specs.declared.unit.Bind.TheVariants.{Take}
use Rattle.hs_types.specs.declared.unit.Unit.{Unit as RuleUnit}
use Rattle.hs_types.specs.Limits.{IsSmallRule, IsSmallUnit}
use Rattle.hs_types.specs.Metamodel.{above, itself}
use Rattle.hs_types.specs.RuleForm.{IsRule}
use Rattle.hs_types.specs.Reachability.{Reaches, by_way_of, direct}
use Rattle.hs_types.specs.UnitForm.{AreBinds, BindFits, CallFits, IsUnit}
use Rattle.hs_types.proofs.Paths.{says_reaches}
use Rattle.hs_faults.specs.Samples.{small_bank}
use Rattle.hs_check.specs.SetSamples.{binds_of_run, empty_rule, give_int, give_name, params_of_pay, params_of_run, pay, run_unit, unit_call}
use Rattle.hs_check.proofs.SetForms.{none_below}
use Rattle.hs_check.proofs.examples.sets_tried.Goals as goal

empty_fits : IsRule small_bank (empty_rule (codes "r"))
empty_fits = search (rules, All-nil)

empty_is_small : IsSmallRule (empty_rule (codes "r"))
empty_is_small = search (rules, All-nil)

tied : AreBinds small_bank params_of_run params_of_pay binds_of_run
tied = record {
  differ = search rules;
  fit = All-cons (BindFits small_bank params_of_run params_of_pay) (give_name (codes "into") (codes "a")) (give_int (codes "sum") 5 ∷ Take (codes "paid") (codes "o") ∷ []) (refl, itself 1)
      (All-cons (BindFits small_bank params_of_run params_of_pay) (give_int (codes "sum") 5) (Take (codes "paid") (codes "o") ∷ []) (refl, refl)
      (All-cons (BindFits small_bank params_of_run params_of_pay) (Take (codes "paid") (codes "o")) [] (refl, (refl, above 1 0 0 refl (itself 0))) (All-nil (BindFits small_bank params_of_run params_of_pay))));
  all_given = search (rules, All-cons, All-nil);
}

run_fits : IsUnit small_bank (empty_rule (codes "r") ∷ []) (run_unit ∷ pay ∷ []) run_unit
run_fits = record {
  params_differ = search rules;
  params_fit = search (rules, All-cons, All-nil);
  calls_fit = All-cons (CallFits small_bank (empty_rule (codes "r") ∷ []) (run_unit ∷ pay ∷ []) params_of_run) (unit_call 1 binds_of_run) [] tied (All-nil (CallFits small_bank (empty_rule (codes "r") ∷ []) (run_unit ∷ pay ∷ []) params_of_run));
  body_fits = tt;
}

pay_fits : IsUnit small_bank (empty_rule (codes "r") ∷ []) (run_unit ∷ pay ∷ []) pay
pay_fits = record {
  params_differ = search rules;
  params_fit = search (rules, All-cons, All-nil);
  calls_fit = search (rules, All-nil);
  body_fits = tt;
}

acyclic : (place : ℕ) → Reaches ((1 ∷ []) ∷ [] ∷ []) place place → ⊥
acyclic zero below = both_ways false refl ((says_reaches ((1 ∷ []) ∷ [] ∷ []) 0 0).1 below)
acyclic (suc zero) below = both_ways false refl ((says_reaches ((1 ∷ []) ∷ [] ∷ []) 1 1).1 below)
acyclic (suc (suc k)) below = none_below ((1 ∷ []) ∷ [] ∷ []) (suc (suc k)) (suc (suc k)) refl below

pub returns-clause-fine : goal.returns-clause-fine
returns-clause-fine c = record {
  are_rules = All-cons OneRule (empty_rule (codes "r")) [] (empty_fits, empty_is_small) (All-nil OneRule);
  are_units = All-cons OneUnit run_unit (pay ∷ []) (run_fits, record { params = lit≤ tt; calls = lit≤ tt }) (All-cons OneUnit pay [] (pay_fits, record { params = lit≤ tt; calls = lit≤ tt }) (All-nil OneUnit));
  names_differ = search rules;
  acyclic = acyclic;
  few_rules = lit≤ tt;
  few_units = lit≤ tt;
}
  where
    OneRule : Rule → Type 0
    OneRule rule = IsRule small_bank rule × IsSmallRule rule

    OneUnit : RuleUnit → Type 0
    OneUnit unit = IsUnit small_bank (empty_rule (codes "r") ∷ []) (run_unit ∷ pay ∷ []) unit × IsSmallUnit unit

pub returns-clause-missing : goal.returns-clause-missing
returns-clause-missing c h = (h.are_units 0 run_unit (lit< tt)).0.calls_fit 0 (unit_call 1 []) (lit< tt)

pub returns-clause-circle : goal.returns-clause-circle
returns-clause-circle c h = h.acyclic 0 (by_way_of 0 1 0 refl (direct 1 0 refl))

pub returns-clause-one_name : goal.returns-clause-one_name
returns-clause-one_name c h = h.names_differ.0 0 (codes "pay") (lit< tt) refl
