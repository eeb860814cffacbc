-- Candidates along an edge.
use Rattle.std.specs.Prelude.{ℕ, ◌<◌, ◌≤◌, ◌≡◌, eqb, ◌&&◌, if◌then◌else◌, Option, Some, None, slice_get}
use Rattle.hs_types.specs.declared.graph.Edge.{Edge}
use Rattle.hs_types.specs.declared.graph.Graph.{Graph}
use Rattle.hs_match.specs.declared.link.Link.{Link}
use Rattle.hs_match.specs.declared.link.Link.TheVariants.{From, Into}

-- The other end of the edge, where it has the reference and the known end.
abbrev pub far_end : Link → Edge → Option ℕ
far_end (From source reference) edge =
    if eqb edge.source source && eqb edge.reference reference then Some edge.target else None
far_end (Into reference target) edge =
    if eqb edge.target target && eqb edge.reference reference then Some edge.source else None

-- Such an edge, at this place or before it, leads to y.
pub record IsLinkedBefore (g : Graph) (link : Link) (end y : ℕ) : Type 0 where
  pub place : ℕ
  pub edge : Edge
  pub at : slice_get g.edges place ≡ Some edge
  pub before : place < end
  pub leads : far_end link edge ≡ Some y

-- Such an edge leads to y.
pub record IsLinked (g : Graph) (link : Link) (y : ℕ) : Type 0 where
  pub place : ℕ
  pub edge : Edge
  pub at : slice_get g.edges place ≡ Some edge
  pub leads : far_end link edge ≡ Some y

-- The number is below the other one, if there is one.
abbrev pub IsSmaller : ℕ → Option ℕ → Type 0
IsSmaller found least = (other : ℕ) → least ≡ Some other → found < other

-- The end is free and below the least one so far, and it is the answer.
pub record Takes (Free : ℕ → Type 0) (from : ℕ) (end least answer : Option ℕ) : Type 0 where
  pub found : ℕ
  pub is : end ≡ Some found
  pub late : from ≤ found
  pub before : IsSmaller found least
  pub free : Free found
  pub taken : answer ≡ Some found

-- There is no such end, and the least one so far is the answer.
pub record Keeps (Free : ℕ → Type 0) (from : ℕ) (end least answer : Option ℕ) : Type 0 where
  pub none : (found : ℕ) → end ≡ Some found → from ≤ found → IsSmaller found least → Free found → ⊥
  pub kept : answer ≡ least
