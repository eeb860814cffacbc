-- Objects that are found by their numbers.
use Rattle.std.proofs.Common.{ℕ, ◌≡◌, Option, Some, None, IsSomeAnd, refl}
use Rattle.hs_types.specs.declared.graph.Graph.{Graph}
use Rattle.hs_types.specs.declared.graph.Object.{Object}
use Rattle.hs_types.specs.declared.meta.Metamodel.{Metamodel}
use Rattle.hs_types.specs.Metamodel.{Conforms}
use Rattle.hs_types.specs.TypedGraph.{IsOf, object_numbered}

-- There is an object where there is one of a class.
pub object_there : (m : Metamodel) (g : Graph) (class n : ℕ) → IsOf m g class n → (x : Object) × (object_numbered g n ≡ Some x)
object_there m g class n h = go (object_numbered g n) refl h
  where
    go : (o : Option Object) → object_numbered g n ≡ o → IsSomeAnd o (λ o. Conforms m o.class class) → (x : Object) × (object_numbered g n ≡ Some x)
    go None e h = absurd h
    go (Some x) e h = (x, e)
