-- An attempt of a rule that only adds, at a valid match, says what it did.
use Rattle.std.specs.List.{AllZip}
use Rattle.std.proofs.Common.{ℕ, ◌≤◌, ◌≡◌, List, [], length, Some, refl, ap, sym, ◌∙◌, subst, arith}
use Rattle.std.specs.Option.{option_map, unwrap_or}
use Rattle.hs_types.specs.declared.entry.Cause.{Cause}
use Rattle.hs_types.specs.declared.entry.Cause.TheVariants as cause
use Rattle.hs_types.specs.declared.entry.MatchNames.{MatchNames}
use Rattle.hs_types.specs.declared.graph.Graph.{Graph}
use Rattle.hs_types.specs.declared.matching.Match.{Match}
use Rattle.hs_types.specs.declared.meta.Metamodel.{Metamodel}
use Rattle.hs_types.specs.declared.rule.Rule.{Rule}
use Rattle.hs_types.specs.Journal.{AppliedAsks, IsWithinNumbers, IsGone, dropped_objects, match_named, new_names, old_values}
use Rattle.hs_types.specs.Plan.{Fits, Plan, plan_of}
use Rattle.hs_types.specs.Host.{CanInstall}
use Rattle.hs_types.specs.Step.{step}
use Rattle.hs_types.specs.ValidMatch.{IsValid}
use Rattle.hs_types.specs.Arguments.{no_args}
use Rattle.hs_types.specs.Additions.{OnlyAdds}
use Rattle.hs_apply.specs.Additions.{AdditionsOnlyMake, OnlyMakes}
use Rattle.hs_session.specs.Runnable.{HasRoomFor}

-- The plan of a rule that only adds is one that only makes, no more than the rule names.
pub only_makes : (m : Metamodel) (g : Graph) (rule : Rule) (f : Match) (plan : Plan) → AdditionsOnlyMake → plan ≡ plan_of m g rule no_args f → OnlyAdds rule → OnlyMakes plan × (length plan.make_objects ≤ length rule.shape.nodes) × (length plan.make_edges ≤ length rule.shape.edges)
only_makes m g rule f plan law same adds = subst (λ (p : Plan). OnlyMakes p × (length p.make_objects ≤ length rule.shape.nodes) × (length p.make_edges ≤ length rule.shape.edges)) (sym same) (law m g rule f adds)

pub within_numbers : (g : Graph) (rule : Rule) (plan : Plan) → HasRoomFor g rule → length plan.make_objects ≤ length rule.shape.nodes → length plan.make_edges ≤ length rule.shape.edges → IsWithinNumbers (step g plan)
within_numbers g rule plan room objects edges = (omega (arith, room.objects, objects), omega (arith, room.edges, edges))

pub can_install : (m : Metamodel) (g : Graph) (rule : Rule) (plan : Plan) → Fits m g plan → HasRoomFor g rule → length plan.make_objects ≤ length rule.shape.nodes → length plan.make_edges ≤ length rule.shape.edges → CanInstall m g plan
can_install m g rule plan fits room objects edges = record { fits = fits; objects_drawn = omega (arith, room.objects, objects); edges_drawn = omega (arith, room.edges, edges) }

pub applied_asks : (m : Metamodel) (g : Graph) (rule : Rule) (f : Match) (plan : Plan) (found : MatchNames) (new : List (List ℕ)) →
    plan ≡ plan_of m g rule no_args f → OnlyMakes plan → IsValid m g rule no_args f → match_named g found ≡ Some f → new ≡ new_names g plan → IsWithinNumbers (step g plan) →
    (asked : Cause) → AppliedAsks m g rule no_args found new [] [] asked
applied_asks m g rule f plan found new same only valid named names within cause.Number = tt
applied_asks m g rule f plan found new same only valid named names within cause.Rule = tt
applied_asks m g rule f plan found new same only valid named names within cause.Match = rw named valid
applied_asks m g rule f plan found new same only valid named names within cause.Valid = tt
applied_asks m g rule f plan found new same only valid named names within cause.New = rw named (subst (λ (p : Plan). (new ≡ new_names g p) × IsWithinNumbers (step g p)) same (names, within))
applied_asks m g rule f plan found new same only valid named names within cause.Old = rw named (subst (λ (p : Plan). ([] ≡ old_values g p) × AllZip (IsGone m) (dropped_objects g p) []) same (rw (only.slots_stay, only.objects_stay) (refl, tt)))

-- The graph after it.
pub after_applied : (m : Metamodel) (g h : Graph) (rule : Rule) (f : Match) (plan : Plan) (found : MatchNames) →
    plan ≡ plan_of m g rule no_args f → match_named g found ≡ Some f → h ≡ step g plan →
    h ≡ unwrap_or (option_map (λ f. step g (plan_of m g rule no_args f)) (match_named g found)) g
after_applied m g h rule f plan found same named after = rw named (after ∙ ap (step g) same)
