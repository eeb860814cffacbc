-- The weight of two left sides: in how many ways each element of the first can be paired or not.
use Rattle.std.specs.Prelude.{ℕ, ◌*◌, ◌+◌, ◌≡◌, List, [], ◌∷◌, Some, length, min, slice_get}
use Rattle.hs_types.specs.declared.meta.Metamodel.{Metamodel}
use Rattle.hs_types.specs.declared.rule.PatternEdge.{PatternEdge}
use Rattle.hs_types.specs.declared.rule.Shape.{Shape}
use Rattle.hs_overlap.specs.declared.bound.TheConstants.{MAX_WEIGHT}
use Rattle.hs_overlap.specs.LeftSide.{IsLeftEdge}
use Rattle.hs_overlap.specs.Overlaps.{NodesMeet}
use Rattle.hs_overlap.specs.SubShapes.{AreThose}

-- The fact holds of n numbers.
pub record HasCount (Is : ℕ → Type 0) (n : ℕ) : Type 0 where
  pub numbers : List ℕ
  pub those : AreThose Is numbers
  pub count : length numbers ≡ n

-- Two left edges of one reference.
pub record HaveOneReference (r p : Shape) (x y : ℕ) : Type 0 where
  pub one : PatternEdge
  pub other : PatternEdge
  pub first : IsLeftEdge r x one
  pub second : IsLeftEdge p y other
  pub same : one.reference ≡ other.reference

-- How many partners each of the first n elements has.
pub record ArePartnerCounts (CanPair : ℕ → ℕ → Type 0) (n : ℕ) (counts : List ℕ) : Type 0 where
  pub each : length counts ≡ n
  pub exact : (i k : ℕ) → slice_get counts i ≡ Some k → HasCount (CanPair i) k

-- Each element is paired with one of its partners, or with none.
abbrev pub ways : List ℕ → ℕ
ways [] = 1
ways (k ∷ counts) = (1 + k) * ways counts

-- Left nodes can be paired where they have a common concrete class, left edges where they are of
-- one reference. An element that isn't on the left side has no partner, and so counts once.
pub record IsWeight (m : Metamodel) (r p : Shape) (weight : ℕ) : Type 0 where
  pub nodes : List ℕ
  pub edges : List ℕ
  pub node_counts : ArePartnerCounts (NodesMeet m r p) (length r.nodes) nodes
  pub edge_counts : ArePartnerCounts (HaveOneReference r p) (length r.edges) edges
  pub product : ways nodes * ways edges ≡ weight

-- A weight above the greatest is as good as the next one.
abbrev pub capped : ℕ → ℕ
capped weight = min weight (MAX_WEIGHT + 1)

-- The product for the first n elements, up to the cap.
pub record IsCappedProduct (CanPair : ℕ → ℕ → Type 0) (n w : ℕ) : Type 0 where
  pub counts : List ℕ
  pub exact : ArePartnerCounts CanPair n counts
  pub product : w ≡ capped (ways counts)

-- The weight up to the cap.
pub record IsCappedWeight (m : Metamodel) (r p : Shape) (w : ℕ) : Type 0 where
  pub weight : ℕ
  pub exact : IsWeight m r p weight
  pub capped : w ≡ min weight (MAX_WEIGHT + 1)
