-- The sizes that rules keep.
use Rattle.std.specs.Prelude.{ℕ, List, [], ◌∷◌, length, Bool, true, false, not, ◌&&◌, nat_le}
use Rattle.std.specs.List.{filter, list_all}
use Rattle.hs_expr.specs.declared.Name.{Name}
use Rattle.hs_expr.specs.Verdict.{each, fault_if}
use Rattle.hs_text.specs.declared.syntax.Item.{Item}
use Rattle.hs_text.specs.declared.syntax.Item.TheVariants as item
use Rattle.hs_text.specs.declared.syntax.Param.{Param}
use Rattle.hs_text.specs.declared.syntax.Rule.{Rule}
use Rattle.hs_types.specs.declared.meta.Metamodel.{Metamodel}
use Rattle.hs_types.specs.declared.limits.TheConstants.{MAX_MULTI_BLOCKS, MAX_PARALLEL_EDGES, MAX_PARAMS, MAX_PATTERN_BLOCKS, MAX_PATTERN_EDGES, MAX_PATTERN_NODES}
use Rattle.hs_expr.specs.Lists.{same_text}
use Rattle.hs_faults.specs.declared.nodes.DeclaredNode.{DeclaredNode}
use Rattle.hs_faults.specs.declared.nodes.BlockId.{BlockId}
use Rattle.hs_faults.specs.declared.nodes.BlockId.TheVariants.{Kernel, Pattern, Multi}
use Rattle.hs_faults.specs.declared.fault.RuleFault.{RuleFault}
use Rattle.hs_faults.specs.declared.fault.RuleFaultKind.TheVariants as kind
use Rattle.hs_faults.specs.Depths.{is_flat}
use Rattle.hs_faults.specs.Nodes.{declared_nodes}
use Rattle.hs_faults.specs.Numbers.{count_in, data_params}
use Rattle.hs_faults.specs.Places.{fault_at}
use Rattle.hs_faults.specs.Statements.{Statement, Edge, Set, Where, statements}
use Rattle.hs_faults.specs.StatementFaults.{same_block}

-- The block of an item, which has this place, if it is one.
abbrev pub block_of : ℕ → Item → List BlockId
block_of i (item.Simple simple) = []
block_of i (item.Forbid elements) = Pattern i ∷ []
block_of i (item.Require elements) = Pattern i ∷ []
block_of i (item.Multi simples) = Multi i ∷ []

-- The forbid, require and multi blocks of the rule that has these items.
abbrev pub blocks : List Item → List BlockId
blocks items = each block_of items

abbrev pub is_pattern : BlockId → Bool
is_pattern Kernel = false
is_pattern (Pattern i) = true
is_pattern (Multi i) = false

abbrev pub is_multi : BlockId → Bool
is_multi Kernel = false
is_multi (Pattern i) = false
is_multi (Multi i) = true

abbrev pub is_edge_of : BlockId → Statement → Bool
is_edge_of part (Edge block mark source target reference) = same_block part block
is_edge_of part (Set block node attribute value) = false
is_edge_of part (Where block word test) = false

-- At most 12 nodes and 16 edges of this part of the rule.
abbrev pub has_few : List DeclaredNode → List Statement → BlockId → Bool
has_few nodes statements part =
    nat_le (count_in nodes part) MAX_PATTERN_NODES
    && nat_le (length (filter (is_edge_of part) statements)) MAX_PATTERN_EDGES

-- An edge of this part, source, target and reference, whatever its mark is.
abbrev pub is_alike : BlockId → Name → Name → Name → Statement → Bool
is_alike part from to by (Edge block mark source target reference) =
    same_block part block && same_text from.text source.text && same_text to.text target.text
    && same_text by.text reference.text
is_alike part from to by (Set block node attribute value) = false
is_alike part from to by (Where block word test) = false

-- Few edges are alike.
abbrev pub has_few_alike : List Statement → Statement → Bool
has_few_alike statements (Edge block mark source target reference) =
    nat_le (length (filter (is_alike block source target reference) statements)) MAX_PARALLEL_EDGES
has_few_alike statements (Set block node attribute value) = true
has_few_alike statements (Where block word test) = true

-- At most 16 parameters, 8 forbid and require blocks together, and 4 multi blocks; the kernel and
-- each block have few nodes and edges, and few edges that are alike.
abbrev pub sizes_fit : List Param → List BlockId → List DeclaredNode → List Statement → Bool
sizes_fit params blocks nodes statements =
    nat_le (length params) MAX_PARAMS
    && (nat_le (length (filter is_pattern blocks)) MAX_PATTERN_BLOCKS
    && (nat_le (length (filter is_multi blocks)) MAX_MULTI_BLOCKS
    && (has_few nodes statements Kernel
    && (list_all (has_few nodes statements) blocks
    && list_all (has_few_alike statements) statements))))

-- The rule is of such sizes, and none of its expressions nests deep.
abbrev pub keeps_limits : Metamodel → Rule → Bool
keeps_limits m rule =
    sizes_fit rule.params (blocks rule.items) (declared_nodes rule.items) (statements rule.items)
    && list_all (is_flat m (data_params rule.params) (declared_nodes rule.items))
    (statements rule.items)

abbrev pub size_faults : Metamodel → Rule → List RuleFault
size_faults m rule = fault_if (not (keeps_limits m rule)) (fault_at rule.name.span kind.Limit)
