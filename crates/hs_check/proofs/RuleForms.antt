-- A rule without faults means a rule over the metamodel, within the limits.
use Rattle.std.proofs.Common.{◌≡◌, List, map, true}
use Rattle.std.proofs.lemmas.List.Elements.{All-map, All-weaker}
use Rattle.std.specs.List.{All}
use Rattle.hs_expr.specs.Verdict.{each}
use Rattle.hs_text.specs.declared.syntax.Definition.{Definition}
use Rattle.hs_text.specs.declared.syntax.Rule.{Rule as WrittenRule}
use Rattle.hs_types.specs.declared.meta.Metamodel.{Metamodel}
use Rattle.hs_types.specs.declared.rule.Rule.{Rule}
use Rattle.hs_types.specs.Limits.{IsSmallRule}
use Rattle.hs_types.specs.Metamodel.{IsMeta}
use Rattle.hs_types.specs.RuleForm.{IsMulti, IsPart, IsRule}
use Rattle.hs_faults.specs.declared.nodes.BlockId.{BlockId}
use Rattle.hs_faults.specs.Sizes.{has_few, is_multi, is_pattern}
use Rattle.hs_faults.specs.Nodes.{declared_nodes}
use Rattle.hs_faults.specs.Statements.{statements}
use Rattle.hs_faults.specs.UnitFaults.{rules_of}
use Rattle.hs_check.specs.Rules.{forbid_at, multi_at, multi_meant, part_meant, require_at, rule_meant, rules_meant}
use Rattle.hs_faults.specs.Contents.{rule_contents}
use Rattle.hs_check.proofs.Uniqueness.{params_apart}
use Rattle.hs_check.proofs.Params.{names_differ, params_fit}
use Rattle.hs_check.proofs.Bounds.{is_few}
use Rattle.hs_check.proofs.BlockIds.{are_multis, are_patterns_forbid, are_patterns_require, each_passes, forbid_passes, multi_passes, require_passes}
use Rattle.hs_check.proofs.Parts.{IsFewPart, kernel_fits, kernel_of, multi_fits, part_fits}
use Rattle.hs_check.proofs.NoFaults.{Clean}
use Rattle.hs_check.proofs.SmallRules.{small}
use Rattle.hs_expr.proofs.Items.{All-at, All-from}

few_forbids : (m : Metamodel) (rule : WrittenRule) → Clean m rule → All (IsFewPart rule) (each forbid_at rule.items)
few_forbids m rule clean = each_passes (has_few (declared_nodes rule.items) (statements rule.items)) forbid_at (forbid_passes (has_few (declared_nodes rule.items) (statements rule.items))) 0 rule.items (is_few m rule clean).each_block

few_requires : (m : Metamodel) (rule : WrittenRule) → Clean m rule → All (IsFewPart rule) (each require_at rule.items)
few_requires m rule clean = each_passes (has_few (declared_nodes rule.items) (statements rule.items)) require_at (require_passes (has_few (declared_nodes rule.items) (statements rule.items))) 0 rule.items (is_few m rule clean).each_block

pub few_multis : (m : Metamodel) (rule : WrittenRule) → Clean m rule → All (IsFewPart rule) (each multi_at rule.items)
few_multis m rule clean = each_passes (has_few (declared_nodes rule.items) (statements rule.items)) multi_at (multi_passes (has_few (declared_nodes rule.items) (statements rule.items))) 0 rule.items (is_few m rule clean).each_block

parts_fit : (m : Metamodel) (rule : WrittenRule) → Clean m rule → (parts : List BlockId) → All (λ h. is_pattern h ≡ true) parts → All (IsFewPart rule) parts → All (IsPart m (rule_meant m rule)) (map (part_meant m (rule_contents m rule)) parts)
parts_fit m rule clean parts patterns few = All-map (IsPart m (rule_meant m rule)) (part_meant m (rule_contents m rule)) parts
    (All-from (λ (h : BlockId). IsPart m (rule_meant m rule) (part_meant m (rule_contents m rule) h)) parts (λ k h at.
    part_fits m rule clean h (All-at (λ (h : BlockId). is_pattern h ≡ true) parts k h patterns at) (All-at (IsFewPart rule) parts k h few at)))

multis_fit : (m : Metamodel) → IsMeta m → (rule : WrittenRule) → Clean m rule → All (IsMulti m (rule_meant m rule)) (map (multi_meant m (rule_contents m rule) (kernel_of m rule)) (each multi_at rule.items))
multis_fit m is rule clean = All-map (IsMulti m (rule_meant m rule)) (multi_meant m (rule_contents m rule) (kernel_of m rule)) (each multi_at rule.items)
    (All-from (λ (h : BlockId). IsMulti m (rule_meant m rule) (multi_meant m (rule_contents m rule) (kernel_of m rule) h)) (each multi_at rule.items) (λ k h at.
    multi_fits m is rule clean h (All-at (λ (h : BlockId). is_multi h ≡ true) (each multi_at rule.items) k h (are_multis rule.items) at) (All-at (IsFewPart rule) (each multi_at rule.items) k h (few_multis m rule clean) at)))

formed : (m : Metamodel) → IsMeta m → (rule : WrittenRule) → Clean m rule → IsRule m (rule_meant m rule)
formed m is rule clean = record {
  params_differ = params_apart m rule.params clean.params_new;
  params_fit = params_fit m rule clean;
  names_differ = names_differ m rule clean;
  kernel = kernel_fits m is rule clean (few_multis m rule clean);
  forbids = parts_fit m rule clean (each forbid_at rule.items) (are_patterns_forbid rule.items) (few_forbids m rule clean);
  needs = parts_fit m rule clean (each require_at rule.items) (are_patterns_require rule.items) (few_requires m rule clean);
  multis = multis_fit m is rule clean;
}

pub all_formed : (m : Metamodel) (definitions : List Definition) → IsMeta m → All (Clean m) (rules_of definitions) → All (λ rule. IsRule m rule × IsSmallRule rule) (rules_meant m definitions)
all_formed m definitions is clean = All-map (λ (rule : Rule). IsRule m rule × IsSmallRule rule) (rule_meant m) (rules_of definitions)
    (All-weaker (Clean m) (λ (rule : WrittenRule). IsRule m (rule_meant m rule) × IsSmallRule (rule_meant m rule))
    (λ rule clean. (formed m is rule clean, small m rule clean (few_forbids m rule clean) (few_requires m rule clean) (few_multis m rule clean)))
    (rules_of definitions) clean)
