-- The values in a typed graph are integers of 64 bits, truth values and texts.
use Rattle.std.proofs.Common.{ℕ, ◌≤◌, ◌≡◌, ◌^◌, ℤ, pos, negsuc, true, false, nat_lt, Option, Some, None, arith, rules}
use Rattle.std.proofs.lemmas.Bool.{false≢true}
use Rattle.std.specs.List.{All}
use Rattle.std.specs.Option.{option_map, unwrap_or}
use Rattle.hs_expr.specs.declared.value.Value.{Value}
use Rattle.hs_expr.specs.declared.value.Value.TheVariants as value
use Rattle.hs_expr.specs.Evaluation.{is_within}
use Rattle.hs_types.specs.declared.graph.Graph.{Graph}
use Rattle.hs_types.specs.declared.graph.Object.{Object}
use Rattle.hs_types.specs.declared.graph.Slot.{Slot}
use Rattle.hs_types.specs.declared.meta.DataType.{DataType}
use Rattle.hs_types.specs.declared.meta.DataType.TheVariants.{EInt, ELong, EBoolean, EString}
use Rattle.hs_types.specs.declared.meta.Metamodel.{Metamodel}
use Rattle.hs_types.specs.Metamodel.{fits, is_of_type, type_of}
use Rattle.hs_types.specs.TypedGraph.{IsTyped}
use Rattle.hs_json_model.proofs.FormBack.{IsHeld}

wider : (k a b : ℕ) → a ≤ b → nat_lt k a ≡ true → nat_lt k b ≡ true
wider k a b le h = grind (arith, rules)

whole_held : (n : ℤ) → is_within (2 ^ 31) n ≡ true → is_within (2 ^ 63) n ≡ true
whole_held (pos k) h = wider k (2 ^ 31) (2 ^ 63) (omega arith) h
whole_held (negsuc k) h = wider k (2 ^ 31) (2 ^ 63) (omega arith) h

of_type_held : (t : DataType) (v : Value) → is_of_type t v ≡ true → IsHeld v
of_type_held t (value.Bool b) h = tt
of_type_held t (value.Text s) h = tt
of_type_held EInt (value.Int n) h = whole_held n h
of_type_held ELong (value.Int n) h = h
of_type_held EBoolean (value.Int n) h = absurd (false≢true h)
of_type_held EString (value.Int n) h = absurd (false≢true h)

fitting_held : (m : Metamodel) (f : ℕ) (v : Value) → fits m f v ≡ true → IsHeld v
fitting_held m f v h = go (type_of m f) h
  where
    go : (o : Option DataType) → unwrap_or (option_map (λ t. is_of_type t v) o) false ≡ true → IsHeld v
    go None e = absurd (false≢true e)
    go (Some t) e = of_type_held t v e

pub values_held : (m : Metamodel) (g : Graph) → IsTyped m g → All (λ (o : Object). All (λ (slot : Slot). IsHeld slot.value) o.slots) g.objects
values_held m g typed = λ i o h j slot l. fitting_held m _ _ ((typed.objects_fit i o h).2 j slot l)
