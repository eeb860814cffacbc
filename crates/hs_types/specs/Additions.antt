-- Rules that only keep and make.
use Rattle.std.specs.Prelude.{◌≡◌, List, [], ◌∷◌, Bool, true, false, not, ◌&&◌}
use Rattle.std.specs.List.{All, list_all}
use Rattle.hs_types.specs.declared.rule.Rule.{Rule}
use Rattle.hs_types.specs.declared.rule.Shape.{Shape}
use Rattle.hs_types.specs.Pattern.{is_drop}

abbrev pub is_empty : {A : Type 0} → List A → Bool
is_empty [] = true
is_empty (x ∷ xs) = false

-- Nothing is dropped.
abbrev pub keeps_all : Shape → Bool
keeps_all shape =
    list_all (λ node. not (is_drop node.mark)) shape.nodes
    && list_all (λ edge. not (is_drop edge.mark)) shape.edges

-- The rule keeps and makes, without condition: it drops nothing, sets nothing, and has no forbid
-- and require blocks and no multi-rules.
abbrev pub only_adds : Rule → Bool
only_adds rule =
    keeps_all rule.shape
    && is_empty rule.forbids
    && is_empty rule.needs
    && is_empty rule.multis
    && is_empty rule.wheres
    && is_empty rule.sets

-- There are no blocks and no conditions, and nothing is set.
pub record IsUnconditional (rule : Rule) : Type 0 where
  pub forbids : rule.forbids ≡ []
  pub needs : rule.needs ≡ []
  pub multis : rule.multis ≡ []
  pub wheres : rule.wheres ≡ []
  pub sets : rule.sets ≡ []

-- The same as a fact, part by part.
pub record OnlyAdds (rule : Rule) : Type 0 where
  pub keeps_nodes : All (λ node. is_drop node.mark ≡ false) rule.shape.nodes
  pub keeps_edges : All (λ edge. is_drop edge.mark ≡ false) rule.shape.edges
  pub is_unconditional : IsUnconditional rule
