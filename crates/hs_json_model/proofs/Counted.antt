-- A graph has no length-filter-le edges than begin at its objects.
use Rattle.std.proofs.Common.{ℕ, suc, ◌+◌, ◌≤◌, ◌≡◌, ◌||◌, List, [], ◌∷◌, Bool, true, false, cond, map, length, eqb, refl, ap, sym, ◌∙◌, arith, length-append}
use Rattle.std.proofs.lemmas.Bool.{eqb-true, false≢true}
use Rattle.std.specs.List.{filter, flat_map}
use Rattle.hs_types.specs.declared.graph.Edge.{Edge}
use Rattle.hs_types.specs.declared.graph.Graph.{Graph}
use Rattle.hs_types.specs.declared.graph.Object.{Object}
use Rattle.hs_types.specs.declared.meta.Metamodel.{Metamodel}
use Rattle.hs_expr.specs.Lists.{Differ, has}
use Rattle.hs_types.specs.Metamodel.{IsMeta, features_of}
use Rattle.hs_types.specs.TypedGraph.{IsTyped}
use Rattle.std.proofs.lemmas.List.{length-map}
use Rattle.hs_expr.proofs.Lists.{Differ-apart, length-filter-le}
use Rattle.hs_json_model.specs.Renumbered.{link_between, links_at, links_by_place}
use Rattle.hs_graph.specs.Problems.{edges_leaving}
use Rattle.hs_json_model.proofs.NamesBack.{name_at, names_differ}
use Rattle.hs_expr.proofs.Keys.{differ-unmapped}
use Rattle.hs_types.proofs.Keyed.{rise_differs}

-- Those that pass the one test, and those that pass the other, where none passes both.
split : {A : Type 0} (p q : A → Bool) (xs : List A) → ((x : A) → p x ≡ true → q x ≡ false) → length (filter p xs) + length (filter q xs) ≡ length (filter (λ x. p x || q x) xs)
split p q [] apart = refl
split {A} p q (x ∷ xs) apart = go (p x) (q x) (apart x) (split p q xs apart)
  where
    go : (a b : Bool) → (a ≡ true → b ≡ false) → length (filter p xs) + length (filter q xs) ≡ length (filter (λ x. p x || q x) xs) →
        length (cond a (x ∷ filter p xs) (filter p xs)) + length (cond b (x ∷ filter q xs) (filter q xs)) ≡ length (cond (a || b) (x ∷ filter (λ x. p x || q x) xs) (filter (λ x. p x || q x) xs))
    go true true h rest = absurd (false≢true (sym (h refl)))
    go true false h rest = let e : suc (length (filter p xs)) + length (filter q xs) ≡ suc (length (filter (λ x. p x || q x) xs)) = omega (arith, rest) in e
    go false true h rest = let e : length (filter p xs) + suc (length (filter q xs)) ≡ suc (length (filter (λ x. p x || q x) xs)) = omega (arith, rest) in e
    go false false h rest = rest

none_again : {A : Type 0} (key : A → ℕ) (n : ℕ) (ns : List ℕ) → Differ (n ∷ ns) → (x : A) → eqb (key x) n ≡ true → has ns (key x) ≡ false
none_again key n ns d x e = ap (has ns) (eqb-true (key x) n e) ∙ Differ-apart n ns d.0

-- By key, those of one key after those of another.
by_key : {A B : Type 0} (key : A → ℕ) (h : ℕ → A → B) (xs : List A) (ns : List ℕ) → Differ ns →
    length (flat_map (λ n. map (h n) (filter (λ x. eqb (key x) n) xs)) ns) ≡ length (filter (λ x. has ns (key x)) xs)
by_key key h xs [] d = sym (none xs)
  where
    none : {A : Type 0} (xs : List A) → length (filter (λ x. false) xs) ≡ 0
    none [] = refl
    none (x ∷ xs) = none xs
by_key key h xs (n ∷ ns) d =
    length-append (map (h n) (filter (λ x. eqb (key x) n) xs)) (flat_map (λ n. map (h n) (filter (λ x. eqb (key x) n) xs)) ns)
    ∙ ap (λ k. k + length (flat_map (λ n. map (h n) (filter (λ x. eqb (key x) n) xs)) ns)) (length-map (filter (λ x. eqb (key x) n) xs) (h n))
    ∙ ap (λ k. length (filter (λ x. eqb (key x) n) xs) + k) (by_key key h xs ns d.1)
    ∙ split (λ x. eqb (key x) n) (λ x. has ns (key x)) xs (none_again key n ns d)

object_counted : (m : Metamodel) (g : Graph) (place : ℕ) (o : Object) → IsMeta m → length (links_at m g place o) ≤ length (edges_leaving g o.number)
object_counted m g place o is =
    let same = by_key (λ (e : Edge). e.reference) (link_between g place) (edges_leaving g o.number) (features_of m o.class) (differ-unmapped (name_at m) (features_of m o.class) (names_differ m o.class is)) in
    let few = length-filter-le (λ (e : Edge). has (features_of m o.class) e.reference) (edges_leaving g o.number) in
    omega (arith, same, few)

links_counted : (m : Metamodel) (g : Graph) (place : ℕ) (os : List Object) → IsMeta m → Differ (map (λ (o : Object). o.number) os) →
    length (links_by_place m g place os) ≤ length (filter (λ (e : Edge). has (map (λ (o : Object). o.number) os) e.source) g.edges)
links_counted m g place [] is d = omega arith
links_counted m g place (o ∷ os) is d =
    let here = object_counted m g place o is in
    let later = links_counted m g (place + 1) os is d.1 in
    let both = split (λ (e : Edge). eqb e.source o.number) (λ (e : Edge). has (map (λ (o : Object). o.number) os) e.source) g.edges (none_again (λ (e : Edge). e.source) o.number (map (λ (o : Object). o.number) os) d) in
    let long = length-append (links_at m g place o) (links_by_place m g (place + 1) os) in
    omega (arith, here, later, both, long)

pub links_few : (m : Metamodel) (g : Graph) → IsMeta m → IsTyped m g → length (links_by_place m g 0 g.objects) ≤ length g.edges
links_few m g is typed =
    let counted = links_counted m g 0 g.objects is (rise_differs 0 (map (λ (o : Object). o.number) g.objects) g.next_object typed.objects_rise) in
    let few = length-filter-le (λ (e : Edge). has (map (λ (o : Object). o.number) g.objects) e.source) g.edges in
    omega (arith, counted, few)
