-- Conditions on a match: what its expressions see, and which forbid and require parts hold.
use Rattle.std.specs.Prelude.{ℕ, ◌≡◌, List, Some, true, IsSomeAnd}
use Rattle.std.specs.List.{All}
use Rattle.hs_expr.specs.declared.expr.Expr.{Expr}
use Rattle.hs_expr.specs.declared.value.Value.TheVariants as value
use Rattle.hs_expr.specs.Evaluation.{Env, value_of}
use Rattle.hs_types.specs.declared.graph.Graph.{Graph}
use Rattle.hs_types.specs.declared.matching.Extension.{Extension}
use Rattle.hs_types.specs.declared.meta.Metamodel.{Metamodel}
use Rattle.hs_types.specs.declared.request.Args.{Args}
use Rattle.hs_types.specs.declared.rule.Part.{Part}
use Rattle.hs_types.specs.declared.rule.PatternNode.{PatternNode}
use Rattle.hs_types.specs.declared.rule.Rule.{Rule}
use Rattle.hs_types.specs.declared.rule.SetItem.{SetItem}
use Rattle.hs_types.specs.declared.rule.SlotKind.TheVariants.{Attribute}
use Rattle.hs_types.specs.Arguments.{param_value}
use Rattle.hs_types.specs.Metamodel.{fits}
use Rattle.hs_types.specs.Pattern.{shape_of}
use Rattle.hs_types.specs.PlainMatch.{image, Extends}
use Rattle.hs_types.specs.TypedGraph.{value_at}

-- What expressions over these nodes see: the slots of the nodes' images, with their values in the
-- graph, and the values of the arguments.
abbrev pub env_of : Graph → Rule → Args → List PatternNode → List ℕ → Env
env_of g rule args nodes images = record {
  slot = λ node attribute. value_at g (image nodes images node) (Attribute attribute);
  param = λ number. param_value rule args number;
}

-- Each is true. One without a value isn't.
abbrev pub AreTrue : Env → List Expr → Type 0
AreTrue env wheres = All (λ expr. value_of env expr ≡ Some (value.Bool true)) wheres

-- Each has a value, and one of its attribute's type.
abbrev pub AreFit : Metamodel → Env → List SetItem → Type 0
AreFit m env sets =
    All (λ item. IsSomeAnd (value_of env item.value) (λ v. fits m item.attribute v ≡ true)) sets

-- No extension of the match to the part exists.
abbrev pub IsAbsent : Metamodel → Graph → Rule → Extension → Part → Type 0
IsAbsent m g rule f part = (x : Extension) → Extends m g rule.shape f (shape_of part) x → ⊥

-- An extension of the match to the part exists.
abbrev pub IsPresent : Metamodel → Graph → Rule → Extension → Part → Type 0
IsPresent m g rule f part = (x : Extension) × Extends m g rule.shape f (shape_of part) x
