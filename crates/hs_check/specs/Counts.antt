-- How many conditions and sets a rule has, in its text and in what the text means.
use Rattle.std.specs.Prelude.{ℕ, ◌≡◌, List, ◌∷◌, map, length, Bool, false}
use Rattle.std.specs.List.{filter}
use Rattle.hs_expr.specs.Verdict.{each}
use Rattle.hs_text.specs.declared.syntax.Definition.{Definition}
use Rattle.hs_text.specs.declared.syntax.Rule.{Rule as WrittenRule}
use Rattle.hs_types.specs.declared.rule.Multi.{Multi}
use Rattle.hs_types.specs.declared.rule.Rule.{Rule}
use Rattle.hs_faults.specs.declared.nodes.BlockId.{BlockId}
use Rattle.hs_faults.specs.declared.nodes.BlockId.TheVariants as home
use Rattle.hs_faults.specs.Statements.{Statement, Edge, Set, Where, statements}
use Rattle.hs_faults.specs.StatementFaults.{same_block}
use Rattle.hs_faults.specs.UnitFaults.{rules_of}
use Rattle.hs_check.specs.Rules.{multi_at}

-- The statement is a condition of this part of the rule.
abbrev pub is_where_of : BlockId → Statement → Bool
is_where_of part (Edge home mark source target reference) = false
is_where_of part (Set home node attribute value) = false
is_where_of part (Where home word test) = same_block part home

-- The statement is a set of this part of the rule.
abbrev pub is_set_of : BlockId → Statement → Bool
is_set_of part (Edge home mark source target reference) = false
is_set_of part (Set home node attribute value) = same_block part home
is_set_of part (Where home word test) = false

-- How many conditions and how many sets this block has.
abbrev pub counts_in : List Statement → BlockId → ℕ × ℕ
counts_in statements part =
    (length (filter (is_where_of part) statements), length (filter (is_set_of part) statements))

-- The counts of a rule's text: of the kernel, and then of each multi block in written order.
abbrev pub written_counts : WrittenRule → List (ℕ × ℕ)
written_counts rule =
    map (counts_in (statements rule.items)) (home.Kernel ∷ each multi_at rule.items)

abbrev pub multi_counts : Multi → ℕ × ℕ
multi_counts multi = (length multi.wheres, length multi.sets)

-- The counts of a rule by numbers: of the kernel, and then of each multi-rule.
abbrev pub rule_counts : Rule → List (ℕ × ℕ)
rule_counts rule = (length rule.wheres, length rule.sets) ∷ map multi_counts rule.multis

-- Each part of each rule has as many conditions and sets as its text.
abbrev pub KeepAll : List Definition → List Rule → Type 0
KeepAll definitions rules = map rule_counts rules ≡ map written_counts (rules_of definitions)
