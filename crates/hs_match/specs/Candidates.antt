-- Numbers that an image may have, and the least of them.
use Rattle.std.specs.Prelude.{ℕ, ◌<◌, ◌≤◌, ◌≡◌, List, false, Option, Some, slice_get, MatchOption}
use Rattle.hs_types.specs.declared.graph.Edge.{Edge}
use Rattle.hs_types.specs.declared.graph.Graph.{Graph}
use Rattle.hs_types.specs.declared.graph.Object.{Object}
use Rattle.hs_types.specs.declared.meta.Metamodel.{Metamodel}
use Rattle.hs_expr.specs.Lists.{has}
use Rattle.hs_types.specs.Metamodel.{Conforms}
use Rattle.hs_types.specs.TypedGraph.{edge_numbered, IsOf}

-- Of the numbers from `from` on that the fact holds of, x is the least.
pub record IsLeastFrom (P : ℕ → Type 0) (from x : ℕ) : Type 0 where
  pub fits : P x
  pub late : from ≤ x
  pub least : (y : ℕ) → from ≤ y → y < x → P y → ⊥

-- The fact holds of no number from `from` on.
abbrev pub NoneFrom : (ℕ → Type 0) → ℕ → Type 0
NoneFrom P from = (y : ℕ) → from ≤ y → P y → ⊥

-- The least number from `from` on that the fact holds of, or nothing where there is none.
abbrev pub IsNextFrom : (ℕ → Type 0) → ℕ → Option ℕ → Type 0
IsNextFrom P from answer = MatchOption answer (NoneFrom P from) (IsLeastFrom P from)

-- The items are in the order of their numbers, which differ.
abbrev pub Ascend : {A : Type 0} → (A → ℕ) → List A → Type 0
Ascend {A} number items =
    (i j : ℕ) (a b : A) → slice_get items i ≡ Some a → slice_get items j ≡ Some b → i < j
    → number a < number b

-- n is an object of the class, and it isn't taken.
pub record IsFree (m : Metamodel) (g : Graph) (class : ℕ) (taken : List ℕ) (n : ℕ) : Type 0 where
  pub of_class : IsOf m g class n
  pub free : has taken n ≡ false

-- The object is of the class, and isn't taken.
pub record MayBe (m : Metamodel) (class : ℕ) (taken : List ℕ) (object : Object) : Type 0 where
  pub of_class : Conforms m object.class class
  pub free : has taken object.number ≡ false

-- Edge n is of the reference and joins these two, and it isn't taken.
pub record IsFreeEdge (g : Graph) (source reference target : ℕ) (taken : List ℕ)
    (n : ℕ) : Type 0 where
  pub joins : edge_numbered g n
      ≡ Some (record { number = n; source = source; reference = reference; target = target })
  pub free : has taken n ≡ false

-- The edge is of the reference and joins these two, and it isn't taken.
pub record MayJoin (source reference target : ℕ) (taken : List ℕ) (edge : Edge) : Type 0 where
  pub source_same : edge.source ≡ source
  pub reference_same : edge.reference ≡ reference
  pub target_same : edge.target ≡ target
  pub free : has taken edge.number ≡ false
