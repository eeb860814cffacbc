-- A rule without faults keeps all its conditions and sets.
use Rattle.std.proofs.Common.{ℕ, suc, ◌≡◌, List, [], ◌∷◌, Bool, true, false, cond, map, length, take, slice_get, is_some, Option, Some, None, Result, Ok, if◌then◌else◌, refl, ap, ap₂, sym, ◌∙◌}
use Rattle.std.proofs.lemmas.Bool.{and_parts, false≢true}
use Rattle.std.proofs.lemmas.List.Elements.{All-head, All-tail}
use Rattle.std.specs.List.{All, cons_option, filter, filter_map, flat_map, list_all}
use Rattle.std.specs.Option.{option_map}
use Rattle.hs_eval.specs.Checking.{Names, Outcome}
use Rattle.hs_eval.specs.Results.{checked_of, ok_map}
use Rattle.hs_eval.specs.declared.checked.Checked.{Checked}
use Rattle.hs_expr.specs.Steps.{fault_as}
use Rattle.hs_expr.specs.declared.Kind.{Kind}
use Rattle.hs_expr.specs.declared.Kind.TheVariants as sort
use Rattle.hs_expr.specs.declared.NameExpr.{NameExpr}
use Rattle.hs_expr.specs.Verdict.{each, verdict}
use Rattle.hs_text.specs.declared.syntax.Definition.{Definition}
use Rattle.hs_text.specs.declared.syntax.Rule.{Rule as WrittenRule}
use Rattle.hs_types.specs.declared.meta.Metamodel.{Metamodel}
use Rattle.hs_types.specs.declared.rule.Rule.{Rule}
use Rattle.hs_faults.specs.declared.nodes.BlockId.{BlockId}
use Rattle.hs_faults.specs.declared.nodes.BlockId.TheVariants as home
use Rattle.hs_faults.specs.Contents.{expr_found}
use Rattle.hs_faults.specs.declared.fault.RuleFault.{RuleFault}
use Rattle.hs_faults.specs.Depths.{has_expr, is_flat, nests_few}
use Rattle.hs_faults.specs.Sizes.{blocks, sizes_fit}
use Rattle.hs_faults.specs.Nodes.{declared_nodes}
use Rattle.hs_faults.specs.Numbers.{data_params}
use Rattle.hs_faults.specs.Statements.{Statement, Edge, Set, Where, statements}
use Rattle.hs_faults.specs.StatementFaults.{expr_checked, rule_fault, same_block, slot_set_by}
use Rattle.hs_faults.specs.UnitFaults.{faults_of, rules_of}
use Rattle.hs_check.specs.Counts.{KeepAll, counts_in, is_set_of, is_where_of, multi_counts, rule_counts, written_counts}
use Rattle.hs_check.specs.Expressions.{set_in, set_meant, sets_in, where_in, wheres_in}
use Rattle.hs_check.specs.Rules.{multi_at, multi_meant, rule_meant, rules_meant}
use Rattle.hs_faults.specs.Contents.{rule_contents}
use Rattle.hs_check.proofs.PartForms.{checked_in, names_in, statements_in}
use Rattle.hs_expr.proofs.Faults.{none-from_verdict}
use Rattle.hs_check.proofs.Parts.{kernel_of}
use Rattle.hs_check.proofs.Filters.{filter_map-map, list_all-at}
use Rattle.hs_check.proofs.NoFaults.{Clean, IsOfKind, sound_set, sound_where}
use Rattle.hs_check.proofs.NoUnitFaults.{clean_text}

-- ---- lists

-- Something is made of each item that passes the test, and of no other.
as_many : {A B : Type 0} (p : A → Bool) (f : A → Option B) (xs : List A) → ((k : ℕ) (x : A) → slice_get xs k ≡ Some x → is_some (f x) ≡ p x) → length (filter_map f xs) ≡ length (filter p xs)
as_many p f [] h = refl
as_many {A} {B} p f (x ∷ xs) h = go (p x) (f x) (h 0 x refl) (as_many p f xs (λ k y at. h (suc k) y at))
  where
    go : (b : Bool) (o : Option B) → is_some o ≡ b → length (filter_map f xs) ≡ length (filter p xs) → length (cons_option o (filter_map f xs)) ≡ length (cond b (x ∷ filter p xs) (filter p xs))
    go true (Some y) e rest = ap suc rest
    go true None e rest = absurd (false≢true e)
    go false None e rest = rest
    go false (Some y) e rest = absurd (false≢true (sym e))

there : {A : Type 0} (o : Option A) → is_some o ≡ true → (x : A) × (o ≡ Some x)
there (Some x) e = (x, refl)
there None e = absurd (false≢true e)

some_mapped : {A B : Type 0} (f : A → B) (o : Option A) → is_some o ≡ true → is_some (option_map f o) ≡ true
some_mapped f (Some x) e = refl
some_mapped f None e = absurd (false≢true e)

-- ---- expressions

-- An expression without faults is found, where it nests few.
expr_kept : (names : Names) (value : NameExpr) (k : Kind) → IsOfKind names value k → nests_few (expr_checked names value) ≡ true → is_some (expr_found (expr_checked names value)) ≡ true
expr_kept names value k of_kind few =
    let is : expr_checked names value ≡ Ok (checked_of (of_kind.0, k)) = ap (λ (c : Outcome). fault_as rule_fault (ok_map checked_of c)) of_kind.1 in
    ap (λ (c : Result Checked RuleFault). is_some (expr_found c)) is ∙ sym (ap nests_few is) ∙ few

-- ---- one part of a rule

module _ (m : Metamodel) (rule : WrittenRule) (clean : Clean m rule) (part : BlockId) where
  flat_at : (k : ℕ) (s : Statement) → slice_get (statements rule.items) k ≡ Some s → is_flat m (data_params rule.params) (declared_nodes rule.items) s ≡ true
  flat_at k s at = list_all-at (is_flat m (data_params rule.params) (declared_nodes rule.items)) (statements rule.items) k s
      (and_parts (sizes_fit rule.params (blocks rule.items) (declared_nodes rule.items) (statements rule.items)) (list_all (is_flat m (data_params rule.params) (declared_nodes rule.items)) (statements rule.items)) clean.limits).1 at

  -- A set or a condition has its expression.
  kept : (k : ℕ) (s : Statement) → slice_get (statements rule.items) k ≡ Some s → has_expr (checked_in m rule s).expr s ≡ true
  kept k (Edge home mark source target reference) at = refl
  kept k (Set home node attribute value) at =
      let sound = sound_set m (data_params rule.params) (declared_nodes rule.items) (flat_map slot_set_by (take k (statements rule.items))) home node attribute value (clean.said k (Set home node attribute value) at) in
      expr_kept (names_in m rule home) value sound.wanted.1 sound.of_kind (flat_at k (Set home node attribute value) at)
  kept k (Where home word test) at = expr_kept (names_in m rule home) test sort.Bool (sound_where m (data_params rule.params) (declared_nodes rule.items) home word test (clean.said k (Where home word test) at)) (flat_at k (Where home word test) at)

  where_counts : (k : ℕ) (s : Statement) → slice_get (statements rule.items) k ≡ Some s → is_some (where_in part (checked_in m rule s)) ≡ is_where_of part s
  where_counts k (Edge home mark source target reference) at = refl
  where_counts k (Set home node attribute value) at = refl
  where_counts k (Where home word test) at = go (same_block part home)
    where
      go : (b : Bool) → is_some (if b then expr_found (expr_checked (names_in m rule home) test) else None) ≡ b
      go false = refl
      go true = kept k (Where home word test) at

  set_counts : (k : ℕ) (s : Statement) → slice_get (statements rule.items) k ≡ Some s → is_some (set_in m (declared_nodes rule.items) part (checked_in m rule s)) ≡ is_set_of part s
  set_counts k (Edge home mark source target reference) at = refl
  set_counts k (Where home word test) at = refl
  set_counts k (Set home node attribute value) at = go (same_block part home)
    where
      go : (b : Bool) → is_some (if b then option_map (set_meant m (declared_nodes rule.items) node.text attribute.text) (expr_found (expr_checked (names_in m rule home) value)) else None) ≡ b
      go false = refl
      go true = some_mapped (set_meant m (declared_nodes rule.items) node.text attribute.text) (expr_found (expr_checked (names_in m rule home) value)) (kept k (Set home node attribute value) at)

  part_counts : (length (wheres_in (statements_in m rule) part), length (sets_in m (declared_nodes rule.items) (statements_in m rule) part)) ≡ counts_in (statements rule.items) part
  part_counts = ap₂ (λ (a b : ℕ). (a, b))
      (ap length (filter_map-map (where_in part) (checked_in m rule) (statements rule.items)) ∙ as_many (is_where_of part) (λ s. where_in part (checked_in m rule s)) (statements rule.items) where_counts)
      (ap length (filter_map-map (set_in m (declared_nodes rule.items) part) (checked_in m rule) (statements rule.items)) ∙ as_many (is_set_of part) (λ s. set_in m (declared_nodes rule.items) part (checked_in m rule s)) (statements rule.items) set_counts)

-- ---- the whole rule

multis_counted : (m : Metamodel) (rule : WrittenRule) → Clean m rule → (parts : List BlockId) → map multi_counts (map (multi_meant m (rule_contents m rule) (kernel_of m rule)) parts) ≡ map (counts_in (statements rule.items)) parts
multis_counted m rule clean [] = refl
multis_counted m rule clean (part ∷ parts) = ap₂ (λ (c : ℕ × ℕ) (cs : List (ℕ × ℕ)). c ∷ cs) (part_counts m rule clean part) (multis_counted m rule clean parts)

rule_counted : (m : Metamodel) (rule : WrittenRule) → Clean m rule → rule_counts (rule_meant m rule) ≡ written_counts rule
rule_counted m rule clean =
    ap₂ (λ (c : ℕ × ℕ) (cs : List (ℕ × ℕ)). c ∷ cs) (part_counts m rule clean home.Kernel)
    (multis_counted m rule clean (each multi_at rule.items))

rules_counted : (m : Metamodel) (rules : List WrittenRule) → All (Clean m) rules → map rule_counts (map (rule_meant m) rules) ≡ map written_counts rules
rules_counted m [] clean = refl
rules_counted m (rule ∷ rules) clean =
    ap₂ (λ (c : List (ℕ × ℕ)) (cs : List (List (ℕ × ℕ))). c ∷ cs)
    (rule_counted m rule (All-head (Clean m) rule rules clean))
    (rules_counted m rules (All-tail (Clean m) rule rules clean))

pub keep_all : (m : Metamodel) (definitions : List Definition) → faults_of m definitions ≡ [] → KeepAll definitions (rules_meant m definitions)
keep_all m definitions none = rules_counted m (rules_of definitions) (clean_text m definitions none).rules_clean

-- The rules that a text means keep all, where the check reports no fault.
pub checked_keep : (m : Metamodel) (definitions : List Definition) (rules : List Rule) → verdict (faults_of m definitions) ≡ Ok tt → rules ≡ rules_meant m definitions → KeepAll definitions rules
checked_keep m definitions rules none rules_are = rw rules_are (keep_all m definitions (none-from_verdict (faults_of m definitions) none))
