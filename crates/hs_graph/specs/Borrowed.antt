-- Borrowed values, as the values that they are.
use Rattle.hs_expr.specs.declared.value.Value.{Value}
use Rattle.hs_expr.specs.declared.value.Value.TheVariants as value
use Rattle.hs_graph.specs.declared.borrowed.Scalar.{Scalar}
use Rattle.hs_graph.specs.declared.borrowed.Scalar.TheVariants.{Int, Bool, Text}

abbrev pub value_of_scalar : Scalar → Value
value_of_scalar (Int n) = value.Int n
value_of_scalar (Bool b) = value.Bool b
value_of_scalar (Text t) = value.Text t.now
