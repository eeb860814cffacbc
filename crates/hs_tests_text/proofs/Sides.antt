-- Left sides of rules and of their inverses.
use Rattle.std.proofs.Common.{ℕ, ◌≤◌, length, map, subst, sym}
use Rattle.std.proofs.lemmas.List.{length-map}
use Rattle.hs_types.specs.declared.limits.TheConstants.{MAX_PATTERN_EDGES, MAX_PATTERN_NODES}
use Rattle.hs_types.specs.declared.meta.Metamodel.{Metamodel}
use Rattle.hs_types.specs.declared.rule.Rule.{Rule}
use Rattle.hs_types.specs.declared.rule.Shape.{Shape}
use Rattle.hs_types.specs.declared.rule.PatternNode.{PatternNode}
use Rattle.hs_types.specs.declared.rule.PatternEdge.{PatternEdge}
use Rattle.hs_types.specs.Pattern.{inverse_mark}
use Rattle.hs_types.specs.Limits.{IsSmallRule}
use Rattle.hs_types.specs.RuleForm.{inverse}
use Rattle.hs_overlap.specs.Overlaps.{CanOccur}
use Rattle.hs_tests_text.specs.Sides.{IsSide}

pub side_from : (m : Metamodel) (shape : Shape) → length shape.nodes ≤ MAX_PATTERN_NODES → length shape.edges ≤ MAX_PATTERN_EDGES → CanOccur m shape → IsSide m shape
side_from m shape nodes edges occurs = record {
  few = nodes;
  few_edges = edges;
  graph = λ x e left. let h = occurs.edges x e left in record { source = h.source; target = h.target; begins = h.begins; ends = h.ends };
  occurs = occurs;
}

pub inverse_side : (m : Metamodel) (rule : Rule) → IsSmallRule rule → CanOccur m (inverse rule.shape) → IsSide m (inverse rule.shape)
inverse_side m rule small occurs =
    side_from m (inverse rule.shape)
    (subst (λ n. n ≤ MAX_PATTERN_NODES) (sym (length-map rule.shape.nodes (λ (node : PatternNode). record { name = node.name; class = node.class; mark = inverse_mark node.mark }))) small.kernel.few_nodes)
    (subst (λ n. n ≤ MAX_PATTERN_EDGES) (sym (length-map rule.shape.edges (λ (edge : PatternEdge). record { source = edge.source; reference = edge.reference; target = edge.target; mark = inverse_mark edge.mark }))) small.kernel.few_edges)
    occurs
