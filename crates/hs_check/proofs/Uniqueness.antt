-- Names that differ, and nodes by their names.
use Rattle.std.proofs.Common.{ℕ, ◌<◌, ◌≡◌, List, Bool, true, false, map, take, slice_get, Option, Some, None, if◌then◌else◌, refl, ap, sym, ◌∙◌, inl, inr}
use Rattle.std.proofs.lemmas.Bool.{cases_order, false≢true}
use Rattle.std.proofs.lemmas.Option.{none-some, same_Some}
use Rattle.std.specs.Option.{option_and_then}
use Rattle.hs_expr.specs.declared.Name.{Name}
use Rattle.hs_text.specs.declared.syntax.Param.{Param as WrittenParam}
use Rattle.hs_types.specs.declared.meta.Metamodel.{Metamodel}
use Rattle.hs_types.specs.declared.rule.Param.{Param}
use Rattle.hs_expr.specs.Lists.{Differ, same_text}
use Rattle.hs_faults.specs.declared.nodes.DeclaredNode.{DeclaredNode}
use Rattle.hs_faults.specs.declared.nodes.BlockId.{BlockId}
use Rattle.hs_faults.specs.Declarations.{is_again}
use Rattle.hs_faults.specs.Names.{node_named}
use Rattle.hs_faults.specs.StatementFaults.{is_visible, visible_node}
use Rattle.hs_check.specs.Parameters.{param_meant, params_meant}
use Rattle.hs_check.proofs.Filters.{EachPair-from, EachPair-map, find_some}
use Rattle.hs_expr.proofs.Items.{same_text-from, slice_get-take}

-- Each item has a name that none before it has.
abbrev pub HaveOwn : {T : Type 0} → (T → Name) → List T → Type 0
HaveOwn {T} name_of xs = (k : ℕ) (x : T) → slice_get xs k ≡ Some x → is_again name_of (take k xs) (name_of x) ≡ false

pub names_apart : {T : Type 0} (name_of : T → Name) (xs : List T) → HaveOwn name_of xs → (i j : ℕ) (x y : T) → i < j → slice_get xs i ≡ Some x → slice_get xs j ≡ Some y → (name_of x).text ≡ (name_of y).text → ⊥
names_apart {T} name_of xs h i j x y low at_i at_j same =
    let there = find_some (λ (item : T). same_text (name_of y).text (name_of item).text) (take j xs) i x (slice_get-take xs j i low ∙ at_i) (same_text-from (name_of y).text (name_of x).text (sym same)) in
    false≢true (sym (h j y at_j) ∙ there)

-- Items of one name are at one place.
pub one_place : {T : Type 0} (name_of : T → Name) (xs : List T) → HaveOwn name_of xs → (i j : ℕ) (x y : T) → slice_get xs i ≡ Some x → slice_get xs j ≡ Some y → (name_of x).text ≡ (name_of y).text → i ≡ j
one_place name_of xs h i j x y at_i at_j same = elim (cases_order i j) [
  | inl here ↦ here
  | inr (inl low) ↦ absurd (names_apart name_of xs h i j x y low at_i at_j same)
  | inr (inr high) ↦ absurd (names_apart name_of xs h j i y x high at_j at_i (sym same))
]

-- Parameters with names of their own have names that differ.
pub params_apart : (m : Metamodel) (params : List WrittenParam) → HaveOwn (λ (p : WrittenParam). p.name) params → Differ (map (λ param. param.name) (params_meant m params))
params_apart m params own = EachPair-map (λ x y. x ≡ y → ⊥) (λ (param : Param). param.name) (params_meant m params)
    (EachPair-map (λ (p q : Param). p.name ≡ q.name → ⊥) (param_meant m) params
    (EachPair-from (λ (p q : WrittenParam). p.name.text ≡ q.name.text → ⊥) params (names_apart (λ (p : WrittenParam). p.name) params own)))

-- What is open is the node of the name.
pub opened : (nodes : List DeclaredNode) (home : BlockId) (name : List ℕ) (d : DeclaredNode) → visible_node nodes home name ≡ Some d → (node_named nodes name ≡ Some d) × (is_visible home d ≡ true)
opened nodes home name d e = go (node_named nodes name) refl e
  where
    may : (n : DeclaredNode) (b : Bool) → is_visible home n ≡ b → node_named nodes name ≡ Some n → (if b then Some n else None) ≡ Some d → (node_named nodes name ≡ Some d) × (is_visible home d ≡ true)
    may n true t is e = (is ∙ e, ap (is_visible home) (sym (same_Some n d e)) ∙ t)
    may n false t is e = absurd (none-some d e)

    go : (o : Option DeclaredNode) → node_named nodes name ≡ o → option_and_then (λ node. if is_visible home node then Some node else None) o ≡ Some d → (node_named nodes name ≡ Some d) × (is_visible home d ≡ true)
    go None is e = absurd (none-some d e)
    go (Some n) is e = may n (is_visible home n) refl is e
