-- The rules that a text means.
use Rattle.std.specs.Prelude.{ℕ, List, [], ◌∷◌, ◌++◌, map, length}
use Rattle.std.specs.List.{flat_map}
use Rattle.hs_expr.specs.declared.SlotRead.{SlotRead}
use Rattle.hs_expr.specs.Verdict.{each}
use Rattle.hs_text.specs.declared.syntax.Definition.{Definition}
use Rattle.hs_text.specs.declared.syntax.Item.{Item}
use Rattle.hs_text.specs.declared.syntax.Item.TheVariants as item
use Rattle.hs_text.specs.declared.syntax.Rule.{Rule as WrittenRule}
use Rattle.hs_types.specs.declared.meta.Metamodel.{Metamodel}
use Rattle.hs_types.specs.declared.rule.Multi.{Multi}
use Rattle.hs_types.specs.declared.rule.Part.{Part}
use Rattle.hs_types.specs.declared.rule.PatternNode.{PatternNode}
use Rattle.hs_types.specs.declared.rule.Rule.{Rule}
use Rattle.hs_types.specs.declared.rule.Shape.{Shape}
use Rattle.hs_types.specs.RuleForm.{reads_in}
use Rattle.hs_faults.specs.declared.nodes.BlockId.{BlockId}
use Rattle.hs_faults.specs.declared.nodes.BlockId.TheVariants as home
use Rattle.hs_faults.specs.Contents.{RuleContents, rule_contents}
use Rattle.hs_faults.specs.UnitFaults.{rules_of}
use Rattle.hs_check.specs.declared.block.Block.{Block}
use Rattle.hs_check.specs.Elements.{edges_of_part, nodes_in}
use Rattle.hs_check.specs.Expressions.{sets_in, wheres_in}
use Rattle.hs_check.specs.Parameters.{params_meant}
use Rattle.hs_check.specs.Slots.{slots_from}

-- The blocks of each sort, in written order.
abbrev pub forbid_at : ℕ → Item → List BlockId
forbid_at i (item.Simple simple) = []
forbid_at i (item.Forbid elements) = home.Pattern i ∷ []
forbid_at i (item.Require elements) = []
forbid_at i (item.Multi simples) = []

abbrev pub require_at : ℕ → Item → List BlockId
require_at i (item.Simple simple) = []
require_at i (item.Forbid elements) = []
require_at i (item.Require elements) = home.Pattern i ∷ []
require_at i (item.Multi simples) = []

abbrev pub multi_at : ℕ → Item → List BlockId
multi_at i (item.Simple simple) = []
multi_at i (item.Forbid elements) = []
multi_at i (item.Require elements) = []
multi_at i (item.Multi simples) = home.Multi i ∷ []

-- A forbid or require block. Its nodes are numbered after the kernel's.
abbrev pub part_meant : Metamodel → RuleContents → BlockId → Part
part_meant m contents part = record {
  nodes = nodes_in m contents.nodes part;
  edges = edges_of_part m contents.nodes contents.statements part;
}

-- The kernel or a multi block.
abbrev pub block_meant : Metamodel → RuleContents → BlockId → Block
block_meant m contents part = record {
  nodes = nodes_in m contents.nodes part;
  edges = edges_of_part m contents.nodes contents.statements part;
  wheres = wheres_in contents.statements part;
  sets = sets_in m contents.nodes contents.statements part;
}

-- The block with its slots: those of its nodes, the first of which has this number, that are read
-- or set.
abbrev pub shape_with : Metamodel → List SlotRead → ℕ → Block → Shape
shape_with m reads first block = record {
  nodes = block.nodes;
  edges = block.edges;
  slots = slots_from m reads block.sets first block.nodes;
}

-- A multi-rule, whose own numbers begin with this one.
abbrev pub multi_of : Metamodel → ℕ → Block → Multi
multi_of m first block = record {
  shape = shape_with m (reads_in block.wheres block.sets) first block;
  wheres = block.wheres;
  sets = block.sets;
}

abbrev pub multi_meant : Metamodel → RuleContents → List PatternNode → BlockId → Multi
multi_meant m contents kernel part = multi_of m (length kernel) (block_meant m contents part)

-- What a rule reads, its multi-rules included.
abbrev pub reads_with : Block → List Multi → List SlotRead
reads_with kernel multis =
    reads_in kernel.wheres kernel.sets
    ++ flat_map (λ multi. reads_in multi.wheres multi.sets) multis

-- The rule with this kernel and these multi-rules. A slot of the kernel that a multi-rule reads is
-- the kernel's.
abbrev pub rule_with : Metamodel → RuleContents → Block → List Multi → Rule
rule_with m contents kernel multis = record {
  name = contents.rule.name.text;
  params = params_meant m contents.rule.params;
  shape = shape_with m (reads_with kernel multis) 0 kernel;
  forbids = map (part_meant m contents) (each forbid_at contents.rule.items);
  needs = map (part_meant m contents) (each require_at contents.rule.items);
  multis = multis;
  wheres = kernel.wheres;
  sets = kernel.sets;
}

-- The rule with this kernel. The nodes of its multi-rules are numbered after the kernel's.
abbrev pub rule_around : Metamodel → RuleContents → Block → Rule
rule_around m contents kernel =
    rule_with m contents kernel
    (map (multi_meant m contents kernel.nodes) (each multi_at contents.rule.items))

abbrev pub rule_from : Metamodel → RuleContents → Rule
rule_from m contents = rule_around m contents (block_meant m contents home.Kernel)

abbrev pub rule_meant : Metamodel → WrittenRule → Rule
rule_meant m rule = rule_from m (rule_contents m rule)

-- The rules of a text, in written order.
abbrev pub rules_meant : Metamodel → List Definition → List Rule
rules_meant m definitions = map (rule_meant m) (rules_of definitions)
