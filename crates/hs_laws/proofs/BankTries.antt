-- Attempts of the bank's journal: an account is opened, and added to.
use Rattle.std.proofs.Common.{◌≡◌, [], ◌∷◌, IsSomeAnd, codes, pos, true, refl, rules, lit≤}
use Rattle.hs_expr.specs.declared.expr.Expr.TheVariants as expr
use Rattle.hs_expr.specs.declared.expr.Sign.TheVariants as sign
use Rattle.hs_expr.specs.declared.value.Value.TheVariants as value
use Rattle.hs_expr.specs.Evaluation.{Env, value_of}
use Rattle.hs_types.specs.declared.entry.Cause.{Cause}
use Rattle.hs_types.specs.declared.entry.Cause.TheVariants as cause
use Rattle.hs_types.specs.declared.entry.Outcome.TheVariants.{Applied}
use Rattle.hs_types.specs.declared.rule.SetItem.{SetItem}
use Rattle.hs_types.specs.Conditions.{env_of}
use Rattle.hs_types.specs.Metamodel.{fits, itself}
use Rattle.hs_types.specs.ValidMatch.{IsValid}
use Rattle.hs_expr.proofs.Lists.{All-one}
use Rattle.hs_types.specs.Journal.{Asks}
use Rattle.hs_expr.proofs.Evaluations.{values}
use Rattle.hs_laws.specs.Bank.{add, args_of, at_match, balance, bank_rules, client_with_new_account, just_client, model, number, object_arg, open_account, set_balance, tried}

pub opens_valid : IsValid model just_client open_account (args_of (object_arg (codes "c") (codes "c1") ∷ [])) (at_match (0 ∷ []) [])
opens_valid = record {
  plain = record { nodes_fit = (itself 0, tt); edges_fit = tt; nodes_differ = search rules; edges_differ = search rules };
  follows = search rules;
  none_dangle = search rules;
  wheres = search rules;
  sets_fit = search rules;
  forbids = search rules;
  needs = search rules;
  copies = search rules;
  copies_fit = search rules;
  none_touch = search rules;
}

pub adds_valid : IsValid model client_with_new_account add (args_of (object_arg (codes "a") (codes "#0") ∷ [])) (at_match (1 ∷ []) [])
adds_valid = record {
  plain = record { nodes_fit = (itself 1, tt); edges_fit = tt; nodes_differ = search rules; edges_differ = search rules };
  follows = search rules;
  none_dangle = search rules;
  wheres = search rules;
  sets_fit = All-one F (set_balance 0 (expr.Binary sign.Plus (balance 0) (number (pos 1)))) (simp values refl);
  forbids = search rules;
  needs = search rules;
  copies = search rules;
  copies_fit = search rules;
  none_touch = search rules;
}
  where
    env : Env
    env = env_of client_with_new_account add (args_of (object_arg (codes "a") (codes "#0") ∷ [])) add.shape.nodes (1 ∷ [])

    F : SetItem → Type 0
    F item = IsSomeAnd (value_of env item.value) (λ v. fits model item.attribute v ≡ true)

pub opens_lawful : (asked : Cause) → Asks bank_rules just_client (tried 0 (args_of (object_arg (codes "c") (codes "c1") ∷ [])) (Applied (record { nodes = codes "c1" ∷ []; edges = []; copies = [] }) (codes "#0" ∷ []) [] [])) asked
opens_lawful cause.Number = tt
opens_lawful cause.Rule = (search rules)
opens_lawful cause.Match = opens_valid
opens_lawful cause.Valid = tt
opens_lawful cause.New = (refl, (lit≤ tt, lit≤ tt))
opens_lawful cause.Old = (refl, tt)

pub adds_lawful : (asked : Cause) → Asks bank_rules client_with_new_account (tried 1 (args_of (object_arg (codes "a") (codes "#0") ∷ [])) (Applied (record { nodes = codes "#0" ∷ []; edges = []; copies = [] }) [] (value.Int (pos 0) ∷ []) [])) asked
adds_lawful cause.Number = tt
adds_lawful cause.Rule = (search rules)
adds_lawful cause.Match = adds_valid
adds_lawful cause.Valid = tt
adds_lawful cause.New = (refl, (lit≤ tt, lit≤ tt))
adds_lawful cause.Old = (simp values refl, tt)
