-- Values whose texts are borrowed.
use Rattle.hs_eval.specs.declared.value_ref.ValueRef.{ValueRef}
use Rattle.hs_eval.specs.declared.value_ref.ValueRef.TheVariants as lent
use Rattle.hs_expr.specs.declared.value.Value.{Value}
use Rattle.hs_expr.specs.declared.value.Value.TheVariants as value

-- The value that is referred to.
abbrev pub referent : ValueRef → Value
referent (lent.Int n) = value.Int n
referent (lent.Bool b) = value.Bool b
referent (lent.Text t) = value.Text t.now
