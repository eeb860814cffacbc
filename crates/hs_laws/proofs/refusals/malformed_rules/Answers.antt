use Rattle.std.proofs.Common.{◌≡◌, ◌∙◌, [], Some, codes, false, true, pos, refl, sym, lit<}
use Rattle.std.proofs.lemmas.Bool.{both_ways}
use Rattle.hs_expr.specs.declared.value.Kind.TheVariants as kind
use Rattle.hs_expr.specs.declared.value.Value.TheVariants as value
use Rattle.hs_expr.proofs.Evaluations.{kind_in-Literal}
use Rattle.hs_types.specs.declared.rule.Direction.TheVariants.{Out}
use Rattle.hs_types.specs.declared.rule.Mark.TheVariants.{Drop, Keep, Make}
use Rattle.hs_types.specs.declared.rule.ParamKind.TheVariants as param
use Rattle.hs_laws.specs.Bank.{arrow, balance_of, node, number, set_balance}
use Rattle.hs_laws.proofs.refusals.malformed_rules.Goals as goal

pub returns-clause-abstract_node : goal.returns-clause-abstract_node
returns-clause-abstract_node c h = both_ways true ((h.kernel.form.nodes_fit 0 (node (codes "a") 0 Make) (lit< tt)).1 refl) refl

pub returns-clause-kept_at_dropped : goal.returns-clause-kept_at_dropped
returns-clause-kept_at_dropped c h = both_ways false refl (h.kernel.form.edges_fit 0 (arrow 0 0 1 Keep) (lit< tt)).0.0

pub returns-clause-foreign : goal.returns-clause-foreign
returns-clause-foreign c h = both_ways false refl (h.kernel.form.edges_fit 0 (arrow 1 0 0 Keep) (lit< tt)).0.1

pub returns-clause-number_condition : goal.returns-clause-number_condition
returns-clause-number_condition c h = let e : Some kind.Int ≡ Some kind.Bool = sym (kind_in-Literal _ (value.Int (pos 1))) ∙ h.kernel.wheres_fit 0 (number (pos 1)) (lit< tt) in absurd (cc)

pub returns-clause-set_at_dropped : goal.returns-clause-set_at_dropped
returns-clause-set_at_dropped c h = both_ways false refl (h.kernel.sets_fit 0 (set_balance 0 (number (pos 1))) (lit< tt)).1.0.0

pub returns-clause-set_twice : goal.returns-clause-set_twice
returns-clause-set_twice c h = h.kernel.sets_once.0 0 (set_balance 0 (number (pos 2))) (lit< tt) (refl, refl)

pub returns-clause-slot_not_needed : goal.returns-clause-slot_not_needed
returns-clause-slot_not_needed c h = both_ways false refl (h.kernel.slots.needed 0 (balance_of 0) (lit< tt)).0

pub returns-clause-slot_not_written : goal.returns-clause-slot_not_written
returns-clause-slot_not_written c h = both_ways false refl (h.kernel.slots.needed 0 (balance_of 0) (lit< tt)).1

pub returns-clause-deleting_part : goal.returns-clause-deleting_part
returns-clause-deleting_part c h = both_ways false refl ((h.forbids 0 (record { nodes = []; edges = [] }) (lit< tt)).nodes_kept 0 (node (codes "z") 0 Drop) (lit< tt))

pub returns-clause-data_out : goal.returns-clause-data_out
returns-clause-data_out c h = let e = h.params_fit 0 (record { direction = Out; name = codes "n"; kind = param.Data kind.Int }) (lit< tt) in absurd (cc)
