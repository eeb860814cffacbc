use Rattle.std.proofs.Common.{◌≡◌, List, map, rules, subst, sym, ap, ◌∙◌}
use Rattle.std.proofs.lemmas.Simd.{map-map}
use Rattle.std.specs.Arc.{arc_value}
use Rattle.hs_text.specs.declared.syntax.Definition.{Definition}
use Rattle.hs_types.specs.declared.meta.Metamodel.{Metamodel}
use Rattle.hs_types.specs.declared.rule.Rule.{Rule}
use Rattle.hs_types.specs.Limits.{IsSmallMeta}
use Rattle.hs_types.specs.Metamodel.{IsMeta}
use Rattle.hs_types.specs.Rules.{AreFormed}
use Rattle.hs_types.specs.UnitForm.{IsRuleSet}
use Rattle.hs_faults.specs.Contents.{RuleContents, rule_contents}
use Rattle.hs_faults.specs.UnitFaults.{rules_of}
use Rattle.hs_check.specs.Rules.{rule_from, rules_meant}
use Rattle.hs_check.proofs.Counts.{checked_keep}
use Rattle.hs_check.proofs.Resolution.{checked_resolve}
use Rattle.hs_check.proofs.SetForms.{checked_formed}
use Rattle.hs_check.proofs.checking.set_meant.Goals as goal

-- What is made of the contents of a text's rules are the rules that the text means.
made_of : (m : Metamodel) (definitions : List Definition) (all : List RuleContents) (made : List Rule) → all ≡ map (rule_contents m) (rules_of definitions) → made ≡ map (rule_from m) all → made ≡ rules_meant m definitions
made_of m definitions all made all_are made_are = made_are ∙ ap (map (rule_from m)) all_are ∙ map-map (rule_from m) (rule_contents m) (rules_of definitions)

pub invariant_of-result : goal.invariant_of-result
invariant_of-result c =
    let m = arc_value c.args.meta.now in
    let rules_are = made_of m c.args.syntax.now.definitions c.args.rules.now c.in_ok-rules_meant.field-0 c.requires.rules (rw c.deref-2.ensures at c.in_ok-rules_meant.ensures) in
    let units_are = rw (c.deref-3.ensures, c.as_slice.ensures) at c.in_ok-units_meant.ensures in
    let sound : IsMeta m = subst IsMeta c.deref.ensures c.is_metamodel.ensures.sound in
    let small : IsSmallMeta m = subst IsSmallMeta c.deref.ensures c.is_metamodel.ensures.small in
    let formed : IsRuleSet m c.in_ok-rules_meant.field-0 c.in_ok-units_meant.field-0 = checked_formed m c.args.syntax.now.definitions c.in_ok-rules_meant.field-0 c.in_ok-units_meant.field-0 c.requires.fine rules_are units_are sound in
    let same : arc_value c.in_ok-clone.field-0 ≡ m = search rules in
    ∣ subst (λ (n : Metamodel). AreFormed (record { meta = n; rules = c.in_ok-rules_meant.field-0; units = c.in_ok-units_meant.field-0 })) (sym same) (sound, small, formed) ∣₁

pub returns-clause-set : goal.returns-clause-set
returns-clause-set c = (
  made_of (arc_value c.args.meta.now) c.args.syntax.now.definitions c.args.rules.now c.in_ok-rules_meant.field-0 c.requires.rules (rw c.deref-2.ensures at c.in_ok-rules_meant.ensures),
  rw (c.deref-3.ensures, c.as_slice.ensures) at c.in_ok-units_meant.ensures,
)

pub returns-clause-whole : goal.returns-clause-whole
returns-clause-whole c = checked_keep (arc_value c.args.meta.now) c.args.syntax.now.definitions c.in_ok-rules_meant.field-0 c.requires.fine (made_of (arc_value c.args.meta.now) c.args.syntax.now.definitions c.args.rules.now c.in_ok-rules_meant.field-0 c.requires.rules (rw c.deref-2.ensures at c.in_ok-rules_meant.ensures))

pub returns-clause-found : goal.returns-clause-found
returns-clause-found c = checked_resolve (arc_value c.args.meta.now) c.args.syntax.now.definitions c.requires.fine
