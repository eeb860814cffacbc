-- Parts and atoms of conflict reasons, and the rows of a table: the least reasons that meet a need.
use Rattle.std.specs.List.{AllPairs}
use Rattle.std.specs.Prelude.{ℕ, ◌≤◌, ◌≡◌, List, Contains}
use Rattle.hs_types.specs.declared.meta.Metamodel.{Metamodel}
use Rattle.hs_types.specs.declared.rule.Shape.{Shape}
use Rattle.hs_overlap.specs.Contexts.{IsDeleted, of_first}
use Rattle.hs_overlap.specs.declared.pair.Pair.{Pair}
use Rattle.hs_overlap.specs.declared.pair.Pair.TheVariants.{Node, Edge, Slot}
use Rattle.hs_overlap.specs.declared.table.Need.{Need}
use Rattle.hs_overlap.specs.declared.table.Need.TheVariants.{Use, Require, Forbid}
use Rattle.hs_overlap.specs.Reasons.{HasDeleted, IsPairBefore, IsReason, IsSpan}

-- Every pair of the part is one of the span.
abbrev pub Includes : List Pair → List Pair → Type 0
Includes span part = (q : Pair) → Contains part q → Contains span q

-- Of the spans of which the fact holds, one that includes no other.
pub record IsMinimal (Is : List Pair → Type 0) (span : List Pair) : Type 0 where
  pub one : Is span
  pub least : (part : List Pair) → Is part → Includes span part → part ≡ span

-- A part of a conflict reason: a span in it that pairs a deleted element.
pub record IsReasonPart (m : Metamodel) (r p : Shape) (part : List Pair) : Type 0 where
  pub order : AllPairs IsPairBefore part
  pub span : IsSpan r part
  pub deleted : HasDeleted r part
  pub reason : List Pair
  pub is_reason : IsReason m r p reason
  pub included : Includes reason part

-- A conflict atom: a part that includes no smaller part.
abbrev pub IsConflictAtom : Metamodel → Shape → Shape → List Pair → Type 0
IsConflictAtom m r p = IsMinimal (IsReasonPart m r p)

-- The second element is one of the extra part, whose nodes and edges are numbered from these
-- numbers on.
abbrev pub IsExtra : ℕ → ℕ → Pair → Type 0
IsExtra nodes edges (Node i j) = nodes ≤ j
IsExtra nodes edges (Edge x y) = edges ≤ y
IsExtra nodes edges (Slot k l) = ⊥

-- A deleted element is paired with one of the extra part.
pub record ReachesExtra (r : Shape) (nodes edges : ℕ) (span : List Pair) : Type 0 where
  pub pair : Pair
  pub held : Contains span pair
  pub deleted : IsDeleted r (of_first pair)
  pub extra : IsExtra nodes edges pair

-- No deleted element is paired with one outside the extra part.
abbrev pub StaysInExtra : Shape → ℕ → ℕ → List Pair → Type 0
StaysInExtra r nodes edges span =
    (q : Pair) → Contains span q → IsDeleted r (of_first q) → IsExtra nodes edges q

-- Where the deleted element has to be: anywhere on the left side, in a require part, or in a forbid
-- part and nowhere else.
abbrev pub Meets : Need → Shape → ℕ → ℕ → List Pair → Type 0
Meets Use r nodes edges span = Unit {0}
Meets Require r nodes edges span = ReachesExtra r nodes edges span
Meets Forbid r nodes edges span =
    ReachesExtra r nodes edges span × StaysInExtra r nodes edges span

-- A minimal reason: one that meets the need and includes no smaller one that does.
abbrev pub IsRow : Metamodel → Need → Shape → Shape → ℕ → ℕ → List Pair → Type 0
IsRow m need r p nodes edges =
    IsMinimal (λ span. IsReason m r p span × Meets need r nodes edges span)
