-- The sizes that metamodels, rules and units keep.
use Rattle.std.specs.Prelude.{ℕ, ◌+◌, ◌≤◌, List, length, ◌&&◌, eqb}
use Rattle.std.specs.List.{All, filter}
use Rattle.hs_expr.specs.declared.expr.Expr.{Expr}
use Rattle.hs_expr.specs.declared.expr.TheConstants.{MAX_NESTING}
use Rattle.hs_expr.specs.Evaluation.{nesting}
use Rattle.hs_types.specs.declared.meta.Metamodel.{Metamodel}
use Rattle.hs_types.specs.declared.rule.PatternEdge.{PatternEdge}
use Rattle.hs_types.specs.declared.rule.PatternNode.{PatternNode}
use Rattle.hs_types.specs.declared.rule.Rule.{Rule}
use Rattle.hs_types.specs.declared.rule.SetItem.{SetItem}
use Rattle.hs_types.specs.declared.unit.Unit.{Unit as RuleUnit}
use Rattle.hs_types.specs.declared.limits.TheConstants.{MAX_CLASSES, MAX_FEATURES, MAX_PARAMS, MAX_PATTERN_BLOCKS, MAX_MULTI_BLOCKS, MAX_PATTERN_NODES, MAX_PATTERN_EDGES, MAX_PARALLEL_EDGES, MAX_CALLS}
use Rattle.hs_types.specs.Units.{calls_of}

-- At most 256 classes, each with at most 64 features.
pub record IsSmallMeta (m : Metamodel) : Type 0 where
  pub classes : length m.classes ≤ MAX_CLASSES
  pub features : All (λ class. length class.features ≤ MAX_FEATURES) m.classes

-- How many of the edges have this one's source, reference and target, whatever their marks are.
abbrev pub parallel_to : PatternEdge → List PatternEdge → ℕ
parallel_to edge edges =
    length (filter (λ other. eqb other.source edge.source && eqb other.reference edge.reference
    && eqb other.target edge.target) edges)

-- At most 12 nodes and 16 edges of one kernel, part or multi-rule, and at most 3 edges of one
-- source, reference and target.
pub record IsSmallShape (nodes : List PatternNode) (edges : List PatternEdge) : Type 0 where
  pub few_nodes : length nodes ≤ MAX_PATTERN_NODES
  pub few_edges : length edges ≤ MAX_PATTERN_EDGES
  pub few_parallel : All (λ edge. parallel_to edge edges ≤ MAX_PARALLEL_EDGES) edges

-- No operator is below more than 31 others.
abbrev pub AreFlat : List Expr → List SetItem → Type 0
AreFlat wheres sets =
    All (λ expr. nesting expr ≤ MAX_NESTING) wheres
    × All (λ item. nesting item.value ≤ MAX_NESTING) sets

-- At most 16 parameters, 8 forbid and require parts together, and 4 multi-rules.
pub record IsSmallRule (rule : Rule) : Type 0 where
  pub params : length rule.params ≤ MAX_PARAMS
  pub parts : length rule.forbids + length rule.needs ≤ MAX_PATTERN_BLOCKS
  pub multis : length rule.multis ≤ MAX_MULTI_BLOCKS
  pub kernel : IsSmallShape rule.shape.nodes rule.shape.edges
  pub each_forbid : All (λ part. IsSmallShape part.nodes part.edges) rule.forbids
  pub each_need : All (λ part. IsSmallShape part.nodes part.edges) rule.needs
  pub each_multi : All (λ multi. IsSmallShape multi.shape.nodes multi.shape.edges
      × AreFlat multi.wheres multi.sets) rule.multis
  pub flat : AreFlat rule.wheres rule.sets

-- At most 16 parameters and 16 calls.
pub record IsSmallUnit (unit : RuleUnit) : Type 0 where
  pub params : length unit.params ≤ MAX_PARAMS
  pub calls : length (calls_of unit.body) ≤ MAX_CALLS
