-- The deletion context as lists of numbers.
use Rattle.std.specs.List.{AllPairs}
use Rattle.std.specs.Prelude.{ℕ, ◌<◌, ◌↔◌, List, Contains}
use Rattle.hs_types.specs.declared.rule.Shape.{Shape}
use Rattle.hs_types.specs.Elements.{Edge as EdgeAt, Node as NodeAt, Slot as SlotAt}
use Rattle.hs_overlap.specs.Contexts.{IsInContext}
use Rattle.hs_overlap.specs.declared.context.SubShape.{SubShape}

-- The numbers of which the fact holds, in rising order.
pub record AreThose (Is : ℕ → Type 0) (numbers : List ℕ) : Type 0 where
  pub rising : AllPairs (λ i j. i < j) numbers
  pub exact : (i : ℕ) → Contains numbers i ↔ Is i

pub record IsContext (s : Shape) (c : SubShape) : Type 0 where
  pub nodes : AreThose (λ i. IsInContext s (NodeAt i)) c.nodes
  pub edges : AreThose (λ x. IsInContext s (EdgeAt x)) c.edges
  pub slots : AreThose (λ k. IsInContext s (SlotAt k)) c.slots
