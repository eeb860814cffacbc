use Rattle.std.proofs.Common.{◌≡◌, ◌≤◌, [], ◌∷◌, Some, IsSomeAnd, codes, pos, true, false, refl, rules}
use Rattle.hs_expr.specs.declared.expr.Expr.{Expr}
use Rattle.hs_expr.specs.declared.expr.Expr.TheVariants as expr
use Rattle.hs_expr.specs.declared.expr.Sign.TheVariants as sign
use Rattle.hs_expr.specs.declared.value.Kind.TheVariants as kind
use Rattle.hs_expr.specs.declared.value.Value.TheVariants as value
use Rattle.hs_expr.specs.Evaluation.{Env, kind_in, value_of}
use Rattle.hs_expr.proofs.Evaluations.{kinds, reads, values}
use Rattle.hs_types.specs.declared.rule.SetItem.{SetItem}
use Rattle.hs_types.specs.declared.rule.Mark.TheVariants.{Keep}
use Rattle.hs_types.specs.Conditions.{env_of}
use Rattle.hs_types.specs.Metamodel.{HaveCommon, IsConcrete, fits, itself}
use Rattle.hs_types.specs.RuleForm.{NodeFits, SetFits, scope_of}
use Rattle.hs_laws.specs.Bank.{balance, model, node, number, set_balance, transfer, transfer_args, two_accounts}
use Rattle.hs_expr.proofs.Lists.{All-one, All-two}
use Rattle.hs_laws.proofs.examples.transfers.Goals as goal

pub returns-clause-after : goal.returns-clause-after
returns-clause-after c = simp values refl

pub returns-clause-valid : goal.returns-clause-valid
returns-clause-valid c = record {
  plain = record { nodes_fit = (itself 1, (itself 1, tt)); edges_fit = tt; nodes_differ = search rules; edges_differ = search rules };
  follows = search rules;
  none_dangle = search rules;
  wheres = All-one W (expr.Binary sign.And (expr.Binary sign.Greater (expr.Param 2) (number (pos 0))) (expr.Binary sign.AtLeast (balance 0) (expr.Param 2))) (simp values refl);
  sets_fit = All-two F (set_balance 0 (expr.Binary sign.Minus (balance 0) (expr.Param 2))) (set_balance 1 (expr.Binary sign.Plus (balance 1) (expr.Param 2))) (simp values refl) (simp values refl);
  forbids = search rules;
  needs = search rules;
  copies = search rules;
  copies_fit = search rules;
  none_touch = search rules;
}
  where
    env : Env
    env = env_of (two_accounts (pos 100) (pos 5)) transfer (transfer_args (pos 30)) transfer.shape.nodes (0 ∷ 1 ∷ [])

    W : Expr → Type 0
    W e = value_of env e ≡ Some (value.Bool true)

    F : SetItem → Type 0
    F item = IsSomeAnd (value_of env item.value) (λ v. fits model item.attribute v ≡ true)

pub returns-clause-is_rule : goal.returns-clause-is_rule
returns-clause-is_rule c = record {
  params_differ = search rules;
  params_fit = search rules;
  names_differ = search rules;
  kernel = record {
    form = record {
      nodes_fit = All-two (NodeFits model) (node (codes "from") 1 Keep) (node (codes "to") 1 Keep) account_fits account_fits;
      edges_fit = search rules;
      in_order = search rules;
      at_own = search rules;
    };
    wheres_fit = All-one W where_ (simp kinds refl);
    sets_fit = All-two F first second (search rules, (search rules, simp kinds refl)) (search rules, (search rules, simp kinds refl));
    sets_once = search rules;
    slots = record {
      needed = simp reads (search rules);
      all_read = simp reads (search rules);
      all_written = search rules;
    };
  };
  forbids = search rules;
  needs = search rules;
  multis = search rules;
}
  where
    account_fits : HaveCommon model 1 1 × (false ≡ true → IsConcrete model 1)
    account_fits = ((1, refl, itself 1, itself 1), λ h. refl)

    where_ : Expr
    where_ = expr.Binary sign.And (expr.Binary sign.Greater (expr.Param 2) (number (pos 0))) (expr.Binary sign.AtLeast (balance 0) (expr.Param 2))

    first : SetItem
    first = set_balance 0 (expr.Binary sign.Minus (balance 0) (expr.Param 2))

    second : SetItem
    second = set_balance 1 (expr.Binary sign.Plus (balance 1) (expr.Param 2))

    W : Expr → Type 0
    W e = kind_in (scope_of model transfer transfer.shape.nodes) e ≡ Some kind.Bool

    F : SetItem → Type 0
    F item = (0 ≤ item.node) × SetFits model (scope_of model transfer transfer.shape.nodes) transfer.shape.nodes item
