-- Valid matches, and the least of them.
use Rattle.std.specs.Prelude.{Option, MatchOption}
use Rattle.std.specs.List.{All, AllZip}
use Rattle.hs_types.specs.declared.graph.Graph.{Graph}
use Rattle.hs_types.specs.declared.matching.Match.{Match}
use Rattle.hs_types.specs.declared.meta.Metamodel.{Metamodel}
use Rattle.hs_types.specs.declared.request.Args.{Args}
use Rattle.hs_types.specs.declared.rule.Rule.{Rule}
use Rattle.hs_types.specs.Arguments.{Follows}
use Rattle.hs_types.specs.Conditions.{env_of, AreTrue, AreFit, IsAbsent, IsPresent}
use Rattle.hs_types.specs.Copies.{AreCopies, CopyFits, NoneTouch, all_dropped_edges, all_dropped_nodes, copies_of}
use Rattle.hs_types.specs.Dangling.{NoneDangle}
use Rattle.hs_types.specs.MatchOrder.{IsEarlier}
use Rattle.hs_types.specs.Pattern.{left_nodes}
use Rattle.hs_types.specs.PlainMatch.{IsPlain, kernel_of}

-- The rule can be applied here.
pub record IsValid (m : Metamodel) (g : Graph) (rule : Rule) (args : Args)
    (f : Match) : Type 0 where
  pub plain : IsPlain m g rule.shape (kernel_of f)
  pub follows : AllZip (Follows g args) (left_nodes rule.shape.nodes) f.nodes
  pub none_dangle : NoneDangle (all_dropped_nodes rule f) (all_dropped_edges rule f) g
  pub wheres : AreTrue (env_of g rule args rule.shape.nodes f.nodes) rule.wheres
  pub sets_fit : AreFit m (env_of g rule args rule.shape.nodes f.nodes) rule.sets
  pub forbids : All (IsAbsent m g rule (kernel_of f)) rule.forbids
  pub needs : All (IsPresent m g rule (kernel_of f)) rule.needs
  pub copies : AllZip (AreCopies m g rule args (kernel_of f)) rule.multis f.copies
  pub copies_fit : All (CopyFits m g rule args (kernel_of f)) (copies_of rule f)
  pub none_touch : NoneTouch rule f

abbrev pub NoneIsValid : Metamodel → Graph → Rule → Args → Type 0
NoneIsValid m g rule args = (f : Match) → IsValid m g rule args f → ⊥

-- It is valid, and no valid match is earlier.
pub record IsLeast (m : Metamodel) (g : Graph) (rule : Rule) (args : Args)
    (f : Match) : Type 0 where
  pub valid : IsValid m g rule args f
  pub least : (h : Match) → IsValid m g rule args h → IsEarlier (kernel_of h) (kernel_of f) → ⊥

-- What a search for the rule answers: the least valid match, or nothing where none is valid.
abbrev pub IsFirst : Metamodel → Graph → Rule → Args → Option Match → Type 0
IsFirst m g rule args answer =
    MatchOption answer (NoneIsValid m g rule args) (IsLeast m g rule args)

-- It is valid and comes after one, and none between is valid.
pub record IsLeastAfter (m : Metamodel) (g : Graph) (rule : Rule) (args : Args)
    (after f : Match) : Type 0 where
  pub valid : IsValid m g rule args f
  pub later : IsEarlier (kernel_of after) (kernel_of f)
  pub least : (h : Match) → IsValid m g rule args h → IsEarlier (kernel_of after) (kernel_of h)
      → IsEarlier (kernel_of h) (kernel_of f) → ⊥

abbrev pub NoneIsAfter : Metamodel → Graph → Rule → Args → Match → Type 0
NoneIsAfter m g rule args after =
    (f : Match) → IsValid m g rule args f → IsEarlier (kernel_of after) (kernel_of f) → ⊥

-- What a search answers after a match: the next valid one in order, or nothing where no later one
-- is valid.
abbrev pub IsNext : Metamodel → Graph → Rule → Args → Match → Option Match → Type 0
IsNext m g rule args after answer =
    MatchOption answer (NoneIsAfter m g rule args after) (IsLeastAfter m g rule args after)
