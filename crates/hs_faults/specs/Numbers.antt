-- The numbers that data parameters and nodes have in expressions.
use Rattle.std.specs.Prelude.{ℕ, ◌+◌, ◌≡◌, List, [], ◌∷◌, length, min, take, if◌then◌else◌}
use Rattle.std.specs.List.{filter}
use Rattle.std.specs.Option.{option_map_or, unwrap_or}
use Rattle.indexmap.specs.IndexMap.{IndexMap, get_by}
use Rattle.hs_expr.specs.Verdict.{each}
use Rattle.hs_text.specs.declared.syntax.Param.{Param}
use Rattle.hs_faults.specs.declared.data_parameters.DataParam.{DataParam}
use Rattle.hs_faults.specs.declared.nodes.BlockId.{BlockId}
use Rattle.hs_faults.specs.declared.nodes.BlockId.TheVariants.{Kernel}
use Rattle.hs_faults.specs.declared.nodes.DeclaredNode.{DeclaredNode}
use Rattle.hs_faults.specs.Names.{data_named}
use Rattle.hs_faults.specs.ParamNodes.{is_kernel}
use Rattle.hs_faults.specs.StatementFaults.{same_block}

-- Numbers go up to 65,535. A rule with more parameters or nodes is beyond the limits of rules.
abbrev pub number_at : ℕ → ℕ
number_at place = min place 65535

-- A parameter for data, with its place among all parameters.
abbrev pub data_param : ℕ → Param → List DataParam
data_param place param =
    option_map_or (λ k. record { name = param.name; number = number_at place; kind = k } ∷ [])
    (data_named param.kind.text) []

abbrev pub data_params : List Param → List DataParam
data_params params = each data_param params

-- How many of the nodes are of this part of the rule.
abbrev pub count_in : List DeclaredNode → BlockId → ℕ
count_in nodes block = length (filter (λ node. same_block block node.block) nodes)

-- The kernel's nodes have the first numbers, and those of a block come after them.
abbrev pub first_number : List DeclaredNode → BlockId → ℕ
first_number nodes block = if is_kernel block then 0 else count_in nodes Kernel

-- The number of a node of these, after those before it: it counts those of its own part.
abbrev pub number_of_node : List DeclaredNode → List DeclaredNode → DeclaredNode → ℕ
number_of_node nodes before node =
    number_at (first_number nodes node.block + count_in before node.block)

abbrev pub with_number : ℕ → DeclaredNode → DeclaredNode
with_number n node = record {
  name = node.name;
  class = node.class;
  mark = node.mark;
  block = node.block;
  number = n;
}

abbrev pub numbered_nodes : List DeclaredNode → List DeclaredNode
numbered_nodes nodes =
    each (λ i node. with_number (number_of_node nodes (take i nodes) node) node ∷ []) nodes

-- The map has the counts of these nodes, as far as they are numbers.
abbrev pub HasCounts : {S : Type 0} → IndexMap BlockId ℕ S → List DeclaredNode → Type 0
HasCounts counts nodes = (block : BlockId) →
    unwrap_or (get_by (same_block block) counts) 0 ≡ number_at (count_in nodes block)
