-- Plans block by block: what the kernel does, and then what each copy does.
use Rattle.std.specs.Prelude.{ℕ, ◌+◌, List, [], ◌++◌, length, nat_lt, if◌then◌else◌}
use Rattle.std.specs.List.{fold}
use Rattle.hs_expr.specs.Evaluation.{Env}
use Rattle.hs_types.specs.declared.graph.Graph.{Graph}
use Rattle.hs_types.specs.declared.matching.Extension.{Extension}
use Rattle.hs_types.specs.declared.matching.Match.{Match}
use Rattle.hs_types.specs.declared.meta.Metamodel.{Metamodel}
use Rattle.hs_types.specs.declared.plan.End.{End}
use Rattle.hs_types.specs.declared.request.Args.{Args}
use Rattle.hs_types.specs.declared.rule.PatternNode.{PatternNode}
use Rattle.hs_types.specs.declared.rule.Rule.{Rule}
use Rattle.hs_types.specs.declared.rule.SetItem.{SetItem}
use Rattle.hs_types.specs.declared.rule.Shape.{Shape}
use Rattle.hs_types.specs.Conditions.{env_of}
use Rattle.hs_types.specs.Copies.{Copy}
use Rattle.hs_types.specs.Dangling.{dropped_nodes, dropped_edges}
use Rattle.hs_types.specs.Pattern.{made_nodes}
use Rattle.hs_types.specs.Plan.{Plan, edges_for, end_after, end_of, objects_for, writes_of}
use Rattle.hs_types.specs.PlainMatch.{kernel_of}

-- What a kernel or a copy is to a plan: its shape, its sets and its match. A copy's nodes and
-- images are numbered after those of the kernel, its base; a kernel's base is empty.
pub record Block : Type 0 where
  pub base : List PatternNode
  pub base_images : List ℕ
  pub shape : Shape
  pub sets : List SetItem
  pub found : Extension

abbrev pub kernel_block : Rule → Match → Block
kernel_block rule f = record {
  base = [];
  base_images = [];
  shape = rule.shape;
  sets = rule.sets;
  found = kernel_of f;
}

abbrev pub copy_block : Rule → Extension → Copy → Block
copy_block rule f copy = record {
  base = rule.shape.nodes;
  base_images = f.nodes;
  shape = copy.multi.shape;
  sets = copy.multi.sets;
  found = copy.found;
}

-- The nodes that the block's expressions and edges may name, the base's first, and the images of
-- those on the left side.
abbrev pub block_nodes : Block → List PatternNode
block_nodes block = block.base ++ block.shape.nodes

abbrev pub block_images : Block → List ℕ
block_images block = block.base_images ++ block.found.nodes

abbrev pub block_env : Graph → Rule → Args → Block → Env
block_env g rule args block = env_of g rule args (block_nodes block) (block_images block)

-- The object of node n, where the copies before the block make `count` objects: a node of the base
-- keeps its object.
abbrev pub block_end : Block → ℕ → ℕ → End
block_end block count n =
    if nat_lt n (length block.base) then end_of block.base block.base_images n
    else end_after count (end_of (block_nodes block) (block_images block) n)

-- The plan with what the block does at its end, where the copies before it make `count` objects.
abbrev pub with_block : Metamodel → Graph → Rule → Args → Block → ℕ → Plan → Plan
with_block m g rule args block count plan = record {
  drop_objects = plan.drop_objects ++ dropped_nodes block.shape block.found;
  drop_edges = plan.drop_edges ++ dropped_edges block.shape block.found;
  writes =
      plan.writes
      ++ writes_of (block_env g rule args block) (block_nodes block) (block_images block)
      block.sets;
  make_objects =
      plan.make_objects
      ++ objects_for m (block_env g rule args block) block.sets (length block.base)
      block.shape.nodes;
  make_edges = plan.make_edges ++ edges_for (block_end block count) block.shape.edges;
}

-- A plan in the making, with how many objects its copies make.
pub record Draft : Type 0 where
  pub plan : Plan
  pub count : ℕ

abbrev pub with_copy : Metamodel → Graph → Rule → Args → Extension → Draft → Copy → Draft
with_copy m g rule args f draft copy = record {
  plan = with_block m g rule args (copy_block rule f copy) draft.count draft.plan;
  count = draft.count + length (made_nodes copy.multi.shape.nodes);
}

abbrev pub with_copies : Metamodel → Graph → Rule → Args → Extension → Draft → List Copy → Draft
with_copies m g rule args f draft copies = fold (with_copy m g rule args f) draft copies
