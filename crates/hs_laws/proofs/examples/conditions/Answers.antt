use Rattle.std.proofs.Common.{◌≡◌, [], ◌∷◌, Bool, true, false, Option, Some, None, IsSomeAnd, pos, refl, ap, rules, lit<}
use Rattle.std.proofs.lemmas.Bool.{both_ways}
use Rattle.hs_expr.specs.declared.expr.Expr.TheVariants as expr
use Rattle.hs_expr.specs.declared.expr.Sign.TheVariants as sign
use Rattle.hs_expr.specs.declared.value.Value.{Value}
use Rattle.hs_expr.specs.declared.value.Value.TheVariants as value
use Rattle.hs_expr.specs.Evaluation.{Env, value_of}
use Rattle.hs_expr.proofs.Evaluations.{values}
use Rattle.hs_types.specs.declared.rule.SetItem.{SetItem}
use Rattle.hs_types.specs.Conditions.{env_of}
use Rattle.hs_types.specs.Metamodel.{fits, itself}
use Rattle.hs_types.specs.Pattern.{shape_of}
use Rattle.hs_types.specs.PlainMatch.{Extends}
use Rattle.hs_laws.specs.Bank.{add, args_of, balance, copy, link, model, number, one_account, owned_by_another, pair_with, reset, set_balance}
use Rattle.hs_expr.proofs.Lists.{All-one}
use Rattle.hs_laws.proofs.examples.conditions.Goals as goal

pub returns-clause-fits : goal.returns-clause-fits
returns-clause-fits c = All-one F (set_balance 0 (expr.Binary sign.Plus (balance 0) (number (pos 1)))) (simp values refl)
  where
    env : Env
    env = env_of (one_account (pos 2147483646)) add (args_of []) add.shape.nodes (0 ∷ [])

    F : SetItem → Type 0
    F item = IsSomeAnd (value_of env item.value) (λ v. fits model item.attribute v ≡ true)

pub returns-clause-leaves : goal.returns-clause-leaves
returns-clause-leaves c h = both_ways false refl (simp values at (h 0 (set_balance 0 (number (pos 0))) (lit< tt)))

abbrev is_true : Option Value → Bool
is_true (Some (value.Bool b)) = b
is_true None = false
is_true _ = true

pub returns-clause-too_much : goal.returns-clause-too_much
returns-clause-too_much c h = both_ways false refl (ap is_true (simp values at (h 0 (number (pos 0)) (lit< tt))))

found : Extends model (pair_with (link 0 1 2 0 ∷ []) 1) reset.shape (record { nodes = 1 ∷ []; edges = [] }) (shape_of owned_by_another) (copy 0 0)
found = record { nodes_fit = (itself 0, tt); edges_fit = (refl, tt); nodes_differ = search rules; edges_differ = search rules }

pub returns-clause-forbidden : goal.returns-clause-forbidden
returns-clause-forbidden c h = h (copy 0 0) found

pub returns-clause-required : goal.returns-clause-required
returns-clause-required c = (copy 0 0, found)

pub returns-clause-overflows : goal.returns-clause-overflows
returns-clause-overflows c h = both_ways false refl (ap is_true (simp values at (h 0 (number (pos 0)) (lit< tt))))
