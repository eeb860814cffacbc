-- What a plan leaves alone of a valid match.
use Rattle.std.specs.Prelude.{ℕ, ◌<◌, ◌≡◌, List, ◌++◌, Bool, false, ◌||◌}
use Rattle.std.specs.List.{All, AllZip, list_any, flat_map}
use Rattle.hs_types.specs.declared.graph.Graph.{Graph}
use Rattle.hs_types.specs.declared.matching.Extension.{Extension}
use Rattle.hs_types.specs.declared.matching.Match.{Match}
use Rattle.hs_types.specs.declared.meta.Metamodel.{Metamodel}
use Rattle.hs_types.specs.Plan.{Plan}
use Rattle.hs_types.specs.declared.request.Args.{Args}
use Rattle.hs_types.specs.declared.rule.Multi.{Multi}
use Rattle.hs_types.specs.declared.rule.Rule.{Rule}
use Rattle.hs_types.specs.declared.rule.Shape.{Shape}
use Rattle.hs_types.specs.declared.rule.SlotKind.{SlotKind}
use Rattle.hs_types.specs.Copies.{all_dropped_nodes, copies_of}
use Rattle.hs_expr.specs.Lists.{has, Apart}
use Rattle.hs_types.specs.Metamodel.{Conforms}
use Rattle.hs_types.specs.Pattern.{is_kind, shape_of}
use Rattle.hs_types.specs.PlainMatch.{image, Extends, kernel_of}
use Rattle.hs_types.specs.Step.{is_to, number_of, step}
use Rattle.hs_types.specs.ValidMatch.{IsValid}

-- The objects, and the edges, that a match has, those of its copies included.
abbrev pub all_nodes_of : Rule → Match → List ℕ
all_nodes_of rule f = f.nodes ++ flat_map (λ copy. copy.found.nodes) (copies_of rule f)

abbrev pub all_edges_of : Rule → Match → List ℕ
all_edges_of rule f = f.edges ++ flat_map (λ copy. copy.found.edges) (copies_of rule f)

-- It has no object and no edge that came later.
pub record IsOld (g : Graph) (x : Extension) : Type 0 where
  pub nodes : All (λ n. n < g.next_object) x.nodes
  pub edges : All (λ n. n < g.next_edge) x.edges

-- The plan writes this slot, or a slot of this kind.
abbrev pub touches : Plan → ℕ → SlotKind → Bool
touches plan n slot = list_any (is_to n slot) plan.writes

abbrev pub touches_kind : Plan → SlotKind → Bool
touches_kind plan kind = list_any (λ write. is_kind write.slot kind) plan.writes

-- The plan makes no object of a class of the shape's nodes, and no edge of a reference of its
-- edges.
pub record MakesNone (m : Metamodel) (plan : Plan) (shape : Shape) : Type 0 where
  pub objects : All (λ node.
      All (λ object. Conforms m object.class node.class → ⊥) plan.make_objects) shape.nodes
  pub edges : All (λ edge. All (λ made. made.reference ≡ edge.reference → ⊥) plan.make_edges)
      shape.edges

-- Of the kinds that the multi-rule has the plan makes nothing, and touches no slot.
pub record LeavesKinds (m : Metamodel) (plan : Plan) (multi : Multi) : Type 0 where
  pub makes : MakesNone m plan multi.shape
  pub slots : All (λ slot. touches_kind plan slot.kind ≡ false) multi.shape.slots

-- A plan spares a match, and these extensions onto the require parts, where it drops none of their
-- objects and edges, touches no slot that the kernel uses, makes no edge at an object that the
-- match drops, makes no extension onto a forbid part, and leaves the kinds of the multi-rules
-- alone.
pub record Spares (m : Metamodel) (g : Graph) (plan : Plan) (rule : Rule) (f : Match)
    (supports : List Extension) : Type 0 where
  pub objects : Apart (all_nodes_of rule f ++ flat_map (λ x. x.nodes) supports) plan.drop_objects
  pub edges : Apart (all_edges_of rule f ++ flat_map (λ x. x.edges) supports) plan.drop_edges
  pub slots : All
      (λ slot. touches plan (image rule.shape.nodes f.nodes slot.node) slot.kind ≡ false)
      rule.shape.slots
  pub ends : All (λ edge.
      (has (all_dropped_nodes rule f) (number_of g.next_object edge.source) || has
      (all_dropped_nodes rule f) (number_of g.next_object edge.target)) ≡ false) plan.make_edges
  pub forbids : All (λ part. (x : Extension)
      → Extends m (step g plan) rule.shape (kernel_of f) (shape_of part) x → IsOld g x) rule.forbids
  pub multis : All (LeavesKinds m plan) rule.multis

-- A valid match, with an extension onto each require part.
pub record IsSupported (m : Metamodel) (g : Graph) (rule : Rule) (args : Args) (f : Match)
    (supports : List Extension) : Type 0 where
  pub valid : IsValid m g rule args f
  pub supported : AllZip (λ part x. Extends m g rule.shape (kernel_of f) (shape_of part) x)
      rule.needs supports
