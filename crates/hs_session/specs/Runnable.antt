-- What a run asks of a rule that it applies once, without arguments.
use Rattle.std.specs.Prelude.{◌+◌, ◌≤◌, ◌≡◌, [], length}
use Rattle.hs_types.specs.declared.limits.TheConstants.{MAX_NUMBERS}
use Rattle.hs_types.specs.declared.entry.Outcome.{Outcome}
use Rattle.hs_types.specs.declared.entry.Outcome.TheVariants.{Applied, Missed}
use Rattle.hs_types.specs.declared.graph.Graph.{Graph}
use Rattle.hs_types.specs.declared.rule.Rule.{Rule}
use Rattle.hs_types.specs.Additions.{OnlyAdds}
use Rattle.hs_match.specs.FirstMatch.{IsSmall}
use Rattle.hs_session.specs.declared.report.Word.{Word}
use Rattle.hs_session.specs.declared.report.Word.TheVariants as word

-- Numbers are left for what the rule makes.
pub record HasRoomFor (g : Graph) (rule : Rule) : Type 0 where
  pub objects : g.next_object + length rule.shape.nodes ≤ MAX_NUMBERS
  pub edges : g.next_edge + length rule.shape.edges ≤ MAX_NUMBERS

-- A rule without parameters that only adds; few enough elements for a search, and room for what it
-- makes.
pub record IsRunnable (g : Graph) (rule : Rule) : Type 0 where
  pub no_params : rule.params ≡ []
  pub only_adds : OnlyAdds rule
  pub small : IsSmall rule.shape
  pub room : HasRoomFor g rule

-- The word on the one attempt at a rule.
abbrev pub outcome_word : Outcome → Word
outcome_word (Applied found new old gone) = word.Ok
outcome_word Missed = word.NoMatch
