use Rattle.std.proofs.Common.{◌≤◌, ◌&&◌, eqb, sym}
use Rattle.hs_expr.specs.declared.expr.TheConstants.{MAX_NESTING}
use Rattle.hs_expr.specs.Evaluation.{nesting}
use Rattle.hs_expr.proofs.Lists.{All-find}
use Rattle.hs_types.specs.declared.rule.SetItem.{SetItem}
use Rattle.hs_apply.proofs.making.value_set.Goals as goal

pub value_of-requires : goal.value_of-requires
value_of-requires g c = record { shallow = All-find (λ (item : SetItem). nesting item.value ≤ MAX_NESTING) (λ (item : SetItem). eqb item.node c.args.number && eqb item.attribute c.args.attribute) c.args.sets.now c.in-Some.item.now c.requires.shallow (sym c.in-Some.ensures) }
