-- A match has one way to be named.
use Rattle.std.proofs.Common.{ℕ, ◌≡◌, ◌≤◌, List, [], ◌∷◌, eqb, Option, Some, None, refl, ap, sym, ◌∙◌}
use Rattle.std.specs.List.{find}
use Rattle.std.specs.Option.{option_map, option_and_then}
use Rattle.hs_types.specs.declared.entry.MatchNames.{MatchNames}
use Rattle.hs_types.specs.declared.graph.Graph.{Graph}
use Rattle.hs_types.specs.declared.graph.Object.{Object}
use Rattle.hs_types.specs.declared.matching.Extension.{Extension}
use Rattle.hs_types.specs.declared.matching.Match.{Match}
use Rattle.hs_types.specs.declared.meta.Metamodel.{Metamodel}
use Rattle.hs_types.specs.Journal.{extension_named, match_named}
use Rattle.hs_expr.proofs.Items.{option_map-some}
use Rattle.hs_expr.specs.Lists.{map_all, same_text}
use Rattle.hs_types.specs.TypedGraph.{IsTyped, object_named}
use Rattle.hs_expr.proofs.Lists.{All-find, Rise-at, find-passes}
use Rattle.hs_expr.proofs.Items.{text_same}

pub some-same : {A : Type 0} {x y : A} → Some x ≡ Some y → x ≡ y
some-same e = cc

-- No two items give the same.
abbrev pub Injective : {A B : Type 0} → (A → Option B) → Type 0
Injective {A} {B} f = (x y : A) (z : B) → f x ≡ Some z → f y ≡ Some z → x ≡ y

all_parts : {A B : Type 0} (f : A → Option B) (x : A) (xs : List A) (zs : List B) → map_all f (x ∷ xs) ≡ Some zs → (z : B) × (rest : List B) × (f x ≡ Some z) × (map_all f xs ≡ Some rest) × (zs ≡ z ∷ rest)
all_parts {A} {B} f x xs zs e = go (f x) (map_all f xs) refl refl e
  where
    go : (o : Option B) (os : Option (List B)) → f x ≡ o → map_all f xs ≡ os → option_and_then (λ y. option_map (λ ys. y ∷ ys) os) o ≡ Some zs → (z : B) × (rest : List B) × (f x ≡ Some z) × (map_all f xs ≡ Some rest) × (zs ≡ z ∷ rest)
    go None os p q e = absurd (cc)
    go (Some z) None p q e = absurd (cc)
    go (Some z) (Some rest) p q e = (z, rest, p, q, sym (some-same e))

pub head_of : {A : Type 0} {x y : A} {xs ys : List A} → x ∷ xs ≡ y ∷ ys → x ≡ y
head_of e = cc

pub tail_of : {A : Type 0} {x y : A} {xs ys : List A} → x ∷ xs ≡ y ∷ ys → xs ≡ ys
tail_of e = cc

pub map_all-injective : {A B : Type 0} (f : A → Option B) → Injective f → Injective (map_all f)
map_all-injective f one [] [] zs p q = refl
map_all-injective f one [] (y ∷ ys) zs p q = let there = all_parts f y ys zs q in let none : [] ≡ zs = some-same p in let some : zs ≡ there.0 ∷ there.1 = there.4 in absurd (cc)
map_all-injective f one (x ∷ xs) [] zs p q = let here = all_parts f x xs zs p in let none : [] ≡ zs = some-same q in let some : zs ≡ here.0 ∷ here.1 = here.4 in absurd (cc)
map_all-injective f one (x ∷ xs) (y ∷ ys) zs p q =
    let here = all_parts f x xs zs p in
    let there = all_parts f y ys zs q in
    let both : here.0 ∷ here.1 ≡ there.0 ∷ there.1 = sym here.4 ∙ there.4 in
    let first : x ≡ y = one x y there.0 (here.2 ∙ ap Some (head_of both)) there.2 in
    let rest : xs ≡ ys = map_all-injective f one xs ys there.1 (here.3 ∙ ap Some (tail_of both)) there.3 in
    λ i. first i ∷ rest i

object_named-injective : (m : Metamodel) (g : Graph) → IsTyped m g → Injective (object_named g)
object_named-injective m g typed s t n p q =
    let here = option_map-some (λ (o : Object). o.number) (find (λ o. same_text o.name s) g.objects) n p in
    let there = option_map-some (λ (o : Object). o.number) (find (λ o. same_text o.name t) g.objects) n q in
    let x_at : find (λ o. eqb o.number here.0.number) g.objects ≡ Some here.0 = (All-find (λ (x : Object). (0 ≤ x.number) × (find (λ y. eqb y.number x.number) g.objects ≡ Some x)) (λ (o : Object). same_text o.name s) g.objects here.0 (Rise-at (λ (o : Object). o.number) 0 g.objects g.next_object typed.objects_rise) here.1).1 in
    let y_at : find (λ o. eqb o.number there.0.number) g.objects ≡ Some there.0 = (All-find (λ (x : Object). (0 ≤ x.number) × (find (λ y. eqb y.number x.number) g.objects ≡ Some x)) (λ (o : Object). same_text o.name t) g.objects there.0 (Rise-at (λ (o : Object). o.number) 0 g.objects g.next_object typed.objects_rise) there.1).1 in
    let same : here.0 ≡ there.0 = some-same (sym x_at ∙ ap (λ k. find (λ o. eqb o.number k) g.objects) (here.2 ∙ sym there.2) ∙ y_at) in
    sym (text_same here.0.name s (find-passes (λ (o : Object). same_text o.name s) g.objects here.0 here.1)) ∙ ap (λ (o : Object). o.name) same ∙ text_same there.0.name t (find-passes (λ (o : Object). same_text o.name t) g.objects there.0 there.1)

extension_named-injective : (m : Metamodel) (g : Graph) → IsTyped m g → Injective (extension_named g)
extension_named-injective m g typed x y z p q =
    let here = option_map-some (λ (ns : List ℕ). record { nodes = ns; edges = x.edges }) (map_all (object_named g) x.nodes) z p in
    let there = option_map-some (λ (ns : List ℕ). record { nodes = ns; edges = y.edges }) (map_all (object_named g) y.nodes) z q in
    let numbers : here.0 ≡ there.0 = ap (λ (e : Extension). e.nodes) (here.2 ∙ sym there.2) in
    let names : x.nodes ≡ y.nodes = map_all-injective (object_named g) (object_named-injective m g typed) x.nodes y.nodes there.0 (here.1 ∙ ap Some numbers) there.1 in
    let edges : x.edges ≡ y.edges = ap (λ (e : Extension). e.edges) (here.2 ∙ sym there.2) in
    λ i. record { nodes = names i; edges = edges i }

named_parts : (g : Graph) (found : MatchNames) (f : Match) → match_named g found ≡ Some f → (map_all (object_named g) found.nodes ≡ Some f.nodes) × (map_all (map_all (extension_named g)) found.copies ≡ Some f.copies) × (found.edges ≡ f.edges)
named_parts g found f e = go (map_all (object_named g) found.nodes) (map_all (map_all (extension_named g)) found.copies) refl refl e
  where
    go : (ns : Option (List ℕ)) (cs : Option (List (List Extension))) → map_all (object_named g) found.nodes ≡ ns → map_all (map_all (extension_named g)) found.copies ≡ cs →
        option_and_then (λ nodes. option_map (λ copies. record { nodes = nodes; edges = found.edges; copies = copies }) cs) ns ≡ Some f →
        (map_all (object_named g) found.nodes ≡ Some f.nodes) × (map_all (map_all (extension_named g)) found.copies ≡ Some f.copies) × (found.edges ≡ f.edges)
    go None cs p q e = absurd (cc)
    go (Some ns) None p q e = absurd (cc)
    go (Some ns) (Some cs) p q e =
        let same : record { nodes = ns; edges = found.edges; copies = cs } ≡ f = some-same e in
        (p ∙ ap (λ (h : Match). Some h.nodes) same, q ∙ ap (λ (h : Match). Some h.copies) same, ap (λ (h : Match). h.edges) same)

pub match_named-injective : (m : Metamodel) (g : Graph) → IsTyped m g → Injective (match_named g)
match_named-injective m g typed a b f p q =
    let here = named_parts g a f p in
    let there = named_parts g b f q in
    let nodes : a.nodes ≡ b.nodes = map_all-injective (object_named g) (object_named-injective m g typed) a.nodes b.nodes f.nodes here.0 there.0 in
    let copies : a.copies ≡ b.copies = map_all-injective (map_all (extension_named g)) (map_all-injective (extension_named g) (extension_named-injective m g typed)) a.copies b.copies f.copies here.1 there.1 in
    let edges : a.edges ≡ b.edges = here.2 ∙ sym there.2 in
    λ i. record { nodes = nodes i; edges = edges i; copies = copies i }
