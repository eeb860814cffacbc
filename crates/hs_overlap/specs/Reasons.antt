-- Conflict reasons, after Born, Lambers, Strüber and Taentzer (ICGT 2017).
use Rattle.std.specs.List.{AllPairs}
use Rattle.std.specs.Prelude.{ℕ, ◌<◌, ◌≡◌, ◌⊎◌, ◌↔◌, List, Contains, slice_get, Some}
use Rattle.hs_types.specs.declared.graph.Graph.{Graph}
use Rattle.hs_types.specs.declared.meta.Metamodel.{Metamodel}
use Rattle.hs_types.specs.declared.rule.PatternSlot.{PatternSlot}
use Rattle.hs_types.specs.declared.rule.Shape.{Shape}
use Rattle.hs_types.specs.TypedGraph.{IsTyped}
use Rattle.hs_types.specs.Elements.{Element}
use Rattle.hs_overlap.specs.Contexts.{IsDeleted, IsInContext, IsLeft, Needs, of_first, of_second}
use Rattle.hs_overlap.specs.declared.pair.Pair.{Pair}
use Rattle.hs_overlap.specs.declared.pair.Pair.TheVariants.{Node, Edge, Slot}
use Rattle.hs_overlap.specs.Maps.{HasNoDangling, IsPlainMatch, Map}

-- An element of the deletion context of r, with an element of the left side p.
pub record CanMeet (r p : Shape) (q : Pair) : Type 0 where
  pub context : IsInContext r (of_first q)
  pub left : IsLeft p (of_second q)

-- Two slots coincide where their kinds are the same and their nodes have one image.
pub record SlotsCoincide (r p : Shape) (f n : Map) (k l : ℕ) : Type 0 where
  pub one : PatternSlot
  pub other : PatternSlot
  pub first : slice_get r.slots k ≡ Some one
  pub second : slice_get p.slots l ≡ Some other
  pub node : f.node one.node ≡ n.node other.node
  pub kind : one.kind ≡ other.kind

-- The two elements of the pair have one image, under the map f of r and the map n of p.
abbrev pub Coincide : Shape → Shape → Map → Map → Pair → Type 0
Coincide r p f n (Node i j) = f.node i ≡ n.node j
Coincide r p f n (Edge x y) = f.edge x ≡ n.edge y
Coincide r p f n (Slot k l) = SlotsCoincide r p f n k l

-- In some typed graph there are plain matches of r and of p, both without dangling edges, under
-- which an element of the context of r and one of p coincide exactly where they are a pair of the
-- span. Arguments and values of attributes aren't looked at. Elements of r outside its context may
-- coincide with elements of p or not.
pub record MeetExactly (m : Metamodel) (r p : Shape) (span : List Pair) : Type 0 where
  pub graph : Graph
  pub one : Map
  pub other : Map
  pub typed : IsTyped m graph
  pub first : IsPlainMatch m graph r one
  pub second : IsPlainMatch m graph p other
  pub first_clean : HasNoDangling graph r one
  pub second_clean : HasNoDangling graph p other
  pub exact : (q : Pair) → CanMeet r p q → Coincide r p one other q ↔ Contains span q

-- By the first number, then by the second.
abbrev pub IsLess : ℕ → ℕ → ℕ → ℕ → Type 0
IsLess i j k l = (i < k) ⊎ ((i ≡ k) × (j < l))

-- The order of pairs: nodes before edges before slots, and of one kind by their numbers.
abbrev pub IsPairBefore : Pair → Pair → Type 0
IsPairBefore (Node i j) (Node k l) = IsLess i j k l
IsPairBefore (Node i j) _ = Unit {0}
IsPairBefore (Edge i j) (Edge k l) = IsLess i j k l
IsPairBefore (Edge i j) (Slot k l) = Unit {0}
IsPairBefore (Slot i j) (Slot k l) = IsLess i j k l
IsPairBefore _ _ = ⊥

-- A span as a list: pairs in order, each of an element of the context of r and an element of p.
pub record IsListed (r p : Shape) (span : List Pair) : Type 0 where
  pub order : AllPairs IsPairBefore span
  pub pairs : (q : Pair) → Contains span q → CanMeet r p q

-- The span pairs an element that r deletes.
pub record HasDeleted (r : Shape) (span : List Pair) : Type 0 where
  pub pair : Pair
  pub held : Contains span pair
  pub deleted : IsDeleted r (of_first pair)

-- A conflict reason of r and p: where and how an application of r can delete what p needs.
pub record IsReason (m : Metamodel) (r p : Shape) (span : List Pair) : Type 0 where
  pub listed : IsListed r p span
  pub deleted : HasDeleted r span
  pub meet : MeetExactly m r p span

-- Some pair of the span has this element first.
pub record HasFirst (span : List Pair) (c : Element) : Type 0 where
  pub pair : Pair
  pub held : Contains span pair
  pub first : of_first pair ≡ c

-- A span in the field's sense, two injective morphisms from one graph: no element is in two pairs,
-- and the first elements are a subgraph of r.
pub record IsSpan (r : Shape) (span : List Pair) : Type 0 where
  pub firsts_differ : (a b : Pair) → Contains span a → Contains span b
      → of_first a ≡ of_first b → a ≡ b
  pub seconds_differ : (a b : Pair) → Contains span a → Contains span b
      → of_second a ≡ of_second b → a ≡ b
  pub needed : (q : Pair) (d : Element) → Contains span q → Needs r (of_first q) d → HasFirst span d
