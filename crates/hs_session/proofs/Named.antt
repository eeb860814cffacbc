-- In a typed graph a name leads back to its object.
use Rattle.std.proofs.Common.{ℕ, ◌≡◌, List, [], ◌∷◌, map, Bool, eqb, Some, refl, ap, ◌∙◌, inl, inr}
use Rattle.std.specs.List.{All, AllZip, find, filter_map}
use Rattle.std.specs.Option.{option_map}
use Rattle.std.proofs.lemmas.Bool.{cases_Bool, eqb-true}
use Rattle.std.proofs.lemmas.List.Elements.{All-head, All-tail}
use Rattle.hs_types.specs.declared.graph.Graph.{Graph}
use Rattle.hs_types.specs.declared.graph.Object.{Object}
use Rattle.hs_types.specs.declared.matching.Extension.{Extension}
use Rattle.hs_types.specs.declared.matching.Match.{Match}
use Rattle.hs_types.specs.declared.meta.Metamodel.{Metamodel}
use Rattle.hs_types.specs.declared.rule.Multi.{Multi}
use Rattle.hs_types.specs.declared.rule.PatternNode.{PatternNode}
use Rattle.hs_types.specs.declared.rule.Rule.{Rule}
use Rattle.hs_types.specs.Copies.{AreCopies}
use Rattle.hs_types.specs.Journal.{match_named}
use Rattle.hs_expr.specs.Lists.{Differ, map_all, same_text}
use Rattle.hs_types.specs.Pattern.{left_nodes}
use Rattle.hs_types.specs.PlainMatch.{kernel_of}
use Rattle.hs_types.specs.TypedGraph.{IsOf, IsTyped, name_at, object_numbered, object_named}
use Rattle.hs_types.specs.ValidMatch.{IsValid}
use Rattle.hs_types.specs.Arguments.{no_args}
use Rattle.hs_types.proofs.Lookups.{object_there}
use Rattle.hs_expr.proofs.Items.{same_text-itself, text_same}
use Rattle.hs_expr.proofs.Lists.{All-find, All-of_map, AllZip-right, find-passes}

-- What is found is found again by its text, where texts differ.
found_again : {A : Type 0} (f : A → List ℕ) (p : A → Bool) (xs : List A) (x : A) → Differ (map f xs) → find p xs ≡ Some x → find (λ y. same_text (f y) (f x)) xs ≡ Some x
found_again f p [] x differ e = cc
found_again {A} f p (y ∷ ys) x differ e = elim (cases_Bool (p y)) [
  | inl passes ↦ let here : y ≡ x = cc in rw (here, same_text-itself (f x)) refl
  | inr fails ↦ let there : find p ys ≡ Some x = rw fails at e in
      let apart : f y ≡ f x → ⊥ = All-find (λ (z : A). f y ≡ f z → ⊥) p ys x (All-of_map (λ t. f y ≡ t → ⊥) f ys differ.0) there in
      elim (cases_Bool (same_text (f y) (f x))) [
        | inl same ↦ absurd (apart (text_same (f y) (f x) same))
        | inr other ↦ rw other (found_again f p ys x differ.1 there)
      ]
]

object-again : (g : Graph) (p : Object → Bool) (x : Object) → Differ (map (λ o. o.name) g.objects) → find p g.objects ≡ Some x → object_named g x.name ≡ Some x.number
object-again g p x differ e = ap (option_map (λ o. o.number)) (found_again (λ (o : Object). o.name) p g.objects x differ e)

-- At this number is an object.
abbrev Stands-at : Graph → ℕ → Type 0
Stands-at g n = (x : Object) × (object_numbered g n ≡ Some x)

names_again : (m : Metamodel) (g : Graph) (ns : List ℕ) → IsTyped m g → All (Stands-at g) ns → map_all (object_named g) (filter_map (name_at g) ns) ≡ Some ns
names_again m g [] typed all = refl
names_again m g (n ∷ ns) typed all =
    let here : Stands-at g n = All-head (Stands-at g) n ns all in
    let number : here.0.number ≡ n = eqb-true here.0.number n (find-passes (λ (o : Object). eqb o.number n) g.objects here.0 here.1) in
    let again : object_named g here.0.name ≡ Some n = object-again g (λ (o : Object). eqb o.number n) here.0 typed.names_differ here.1 ∙ ap Some number in
    rw here.1 (rw again (rw (names_again m g ns typed (All-tail (Stands-at g) n ns all)) refl))

-- The names of a valid match's objects, with its edges, name the match.
pub named_again : (m : Metamodel) (g : Graph) (rule : Rule) (f : Match) → IsTyped m g → rule.multis ≡ [] → IsValid m g rule no_args f →
    match_named g (record { nodes = filter_map (name_at g) f.nodes; edges = f.edges; copies = [] }) ≡ Some f
named_again m g rule f typed none valid =
    let stand : All (Stands-at g) f.nodes =
    AllZip-right (λ (node : PatternNode) n. IsOf m g node.class n) (Stands-at g) (λ node n fits. object_there m g node.class n fits) (left_nodes rule.shape.nodes) f.nodes valid.plain.nodes_fit in
    let copies : f.copies ≡ [] = no_lists rule.multis f.copies none valid.copies in
    rw (names_again m g f.nodes typed stand) (rw copies refl)
  where
    no_lists : (multis : List Multi) (lists : List (List Extension)) → multis ≡ [] → AllZip (AreCopies m g rule no_args (kernel_of f)) multis lists → lists ≡ []
    no_lists [] [] e z = refl
    no_lists [] (l ∷ ls) e z = absurd z
    no_lists (x ∷ xs) lists e z = cc
