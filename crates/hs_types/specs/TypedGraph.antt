-- Typed graphs: objects of concrete classes with their slots, and edges between them.
use Rattle.std.specs.Prelude.{ℕ, zero, suc, ◌+◌, ◌<◌, ◌≤◌, ◌≡◌, ◌⊎◌, List, ◌∷◌, [], map, length, true, eqb, Option, None, IsSomeAnd}
use Rattle.std.specs.List.{All, Any, find, position_or_len, range_with_len}
use Rattle.std.specs.Option.{option_map, option_and_then}
use Rattle.std.specs.Int.Digits.{digits_of}
use Rattle.hs_expr.specs.declared.value.Value.{Value}
use Rattle.hs_types.specs.declared.graph.Edge.{Edge}
use Rattle.hs_types.specs.declared.graph.Graph.{Graph}
use Rattle.hs_types.specs.declared.graph.Object.{Object}
use Rattle.hs_types.specs.declared.graph.Slot.{Slot}
use Rattle.hs_types.specs.declared.meta.Metamodel.{Metamodel}
use Rattle.hs_types.specs.declared.rule.SlotKind.{SlotKind}
use Rattle.hs_types.specs.declared.rule.SlotKind.TheVariants.{Attribute, Link, Container}
use Rattle.hs_expr.specs.Lists.{has, same_text, Differ, EachPair, Rise}
use Rattle.hs_types.specs.Metamodel.{Conforms, IsConcrete, attributes_of, features_of, fits, target_of}

-- The object and the edge of a number.
abbrev pub object_numbered : Graph → ℕ → Option Object
object_numbered g n = find (λ object. eqb object.number n) g.objects

abbrev pub edge_numbered : Graph → ℕ → Option Edge
edge_numbered g n = find (λ edge. eqb edge.number n) g.edges

-- The number of the object of this name, and the name of the object at this number.
abbrev pub object_named : Graph → List ℕ → Option ℕ
object_named g name =
    option_map (λ object. object.number) (find (λ object. same_text object.name name) g.objects)

abbrev pub name_at : Graph → ℕ → Option (List ℕ)
name_at g n = option_map (λ object. object.name) (object_numbered g n)

-- The value for an attribute among these slots.
abbrev pub value_in : ℕ → List Slot → Option Value
value_in a slots = option_map (λ slot. slot.value) (find (λ slot. eqb slot.attribute a) slots)

-- The value that the object at n has in a slot. Only slots of attributes have values.
abbrev pub value_at : Graph → ℕ → SlotKind → Option Value
value_at g n (Attribute a) =
    option_and_then (λ object. value_in a object.slots) (object_numbered g n)
value_at g n (Link r) = None
value_at g n Container = None

-- n is an object, and the fact holds of its class.
abbrev pub Stands : Graph → (ℕ → Type 0) → ℕ → Type 0
Stands g P n = IsSomeAnd (object_numbered g n) (λ object. P object.class)

-- n is an object whose class conforms to this one.
abbrev pub IsOf : Metamodel → Graph → ℕ → ℕ → Type 0
IsOf m g class n = Stands g (λ c. Conforms m c class) n

-- n is an object whose class has this feature.
abbrev pub HasFeature : Metamodel → Graph → ℕ → ℕ → Type 0
HasFeature m g f n = Stands g (λ c. has (features_of m c) f ≡ true) n

-- `#` and the decimal digits of k without leading zeros.
abbrev pub hash_name : ℕ → List ℕ
hash_name zero = 35 ∷ 48 ∷ []
hash_name (suc k) = 35 ∷ map (λ d. 48 + d) (digits_of 10 (suc k))

-- An object can be of this class and have these slots: the class is concrete, there is exactly one
-- slot for each of its attributes, in their order, and each value is of its attribute's type.
abbrev pub AreSlotsOf : Metamodel → ℕ → List Slot → Type 0
AreSlotsOf m class slots =
    IsConcrete m class × (map (λ slot. slot.attribute) slots ≡ attributes_of m class)
    × All (λ slot. fits m slot.attribute slot.value ≡ true) slots

-- An edge of the reference can join them: the source's class has the reference as a feature, and
-- the target's class conforms to the class that the reference leads to.
abbrev pub CanJoin : Metamodel → Graph → ℕ → ℕ → ℕ → Type 0
CanJoin m g source reference target =
    HasFeature m g reference source
    × IsSomeAnd (target_of m reference) (λ class. IsOf m g class target)

-- Objects and edges are in the order of their numbers, which differ and are below the next ones.
-- Names differ; where one is `#` and the digits of a number, that number is below the next name's.
pub record IsTyped (m : Metamodel) (g : Graph) : Type 0 where
  pub objects_rise : Rise 0 (map (λ object. object.number) g.objects) g.next_object
  pub edges_rise : Rise 0 (map (λ edge. edge.number) g.edges) g.next_edge
  pub names_differ : Differ (map (λ object. object.name) g.objects)
  pub names_below : All (λ object. (k : ℕ) → object.name ≡ hash_name k → k < g.next_name) g.objects
  pub objects_fit : All (λ object. AreSlotsOf m object.class object.slots) g.objects
  pub edges_fit : All (λ edge. CanJoin m g edge.source edge.reference edge.target) g.edges

-- Edges are in the order of their sources, and of one source in the order of its class's features.
abbrev pub EdgeBefore : Metamodel → Graph → Edge → Edge → Type 0
EdgeBefore m g e f =
    (e.source < f.source) ⊎ ((e.source ≡ f.source)
    × Stands g (λ c. position_or_len (eqb e.reference) (features_of m c)
    ≤ position_or_len (eqb f.reference) (features_of m c)) e.source)

-- A graph from which a journal begins: numbers are places, and the next name is the first above all
-- names of this form.
pub record IsOpening (m : Metamodel) (g : Graph) : Type 0 where
  pub typed : IsTyped m g
  pub objects_numbered : map (λ object. object.number) g.objects
      ≡ range_with_len 0 (length g.objects)
  pub edges_numbered : map (λ edge. edge.number) g.edges ≡ range_with_len 0 (length g.edges)
  pub edges_in_order : EachPair (EdgeBefore m g) g.edges
  pub next_object : g.next_object ≡ length g.objects
  pub next_edge : g.next_edge ≡ length g.edges
  pub next_name : (k : ℕ) → suc k ≡ g.next_name
      → Any (λ object. object.name ≡ hash_name k) g.objects
