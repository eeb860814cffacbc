-- Conformance, and what classes inherit.
use Rattle.std.proofs.Common.{ℕ, suc, zero, ◌<◌, ◌≡◌, inl, inr, List, [], ◌∷◌, ◌++◌, length, true, false, not, eqb, Option, Some, None, IsSomeAnd, slice_get, refl, ap, subst, arith}
use Rattle.std.specs.List.{filter, flat_map}
use Rattle.std.specs.Option.{is_some}
use Rattle.std.proofs.lemmas.Bool.{cases_Bool, both_ways, eqb-true, eq-eqb}
use Rattle.hs_expr.proofs.Items.{has-filter, has-kept}
use Rattle.hs_types.specs.declared.graph.Graph.{Graph}
use Rattle.hs_types.specs.declared.graph.Object.{Object}
use Rattle.hs_types.specs.declared.meta.Class.{Class}
use Rattle.hs_types.specs.declared.meta.Metamodel.{Metamodel}
use Rattle.hs_expr.specs.Lists.{has, each_once}
use Rattle.hs_types.specs.Metamodel.{Conforms, itself, above, HasSuper, IsMeta, attributes_of, class_at, features_of, owned_by, type_of}
use Rattle.hs_types.specs.TypedGraph.{IsOf, Stands, object_numbered}
use Rattle.hs_expr.proofs.Lists.{has-append_left, has-append_right, has-here, has-later, has_cases}

pub Conforms-trans : (m : Metamodel) (a b c : ℕ) → Conforms m a b → Conforms m b c → Conforms m a c
Conforms-trans m a b c (itself d) k = k
Conforms-trans m a b c (above e d f s h) k = above a d c s (Conforms-trans m d b c h k)

-- Two classes that conform to each other are one.
pub Conforms-antisym : (m : Metamodel) (a b : ℕ) → IsMeta m → Conforms m a b → Conforms m b a → a ≡ b
Conforms-antisym m a b is (itself c) back = refl
Conforms-antisym m a b is (above c d e step rest) back = absurd (is.no_cycle a d step (Conforms-trans m d b a rest back))

-- A fact that goes down from a class to those that conform to it.
abbrev pub GoesDown : Metamodel → (ℕ → Type 0) → Type 0
GoesDown m P = (c d : ℕ) → Conforms m c d → P d → P c

pub conforms-down : (m : Metamodel) (class : ℕ) → GoesDown m (λ c. Conforms m c class)
conforms-down m class c d k h = Conforms-trans m c d class k h

pub has-each_once : (ns : List ℕ) (n : ℕ) → has ns n ≡ true → has (each_once ns) n ≡ true
has-each_once [] n h = h
has-each_once (m ∷ ns) n h = elim (cases_Bool (eqb n m)) [
  | inl e ↦ subst (λ (i : ℕ). has (i ∷ filter (λ k. not (eqb k m)) (each_once ns)) n ≡ true) (eqb-true n m e) (has-here n (filter (λ k. not (eqb k m)) (each_once ns)))
  | inr e ↦ elim (has_cases n m ns h) [
    | inl s ↦ absurd (both_ways (eqb n m) e (eq-eqb n m s))
    | inr l ↦ has-later n m (filter (λ k. not (eqb k m)) (each_once ns)) (has-kept (λ k. not (eqb k m)) (each_once ns) n (has-each_once ns n l) (ap not e))
  ]
]

pub has-flat_map : (h : ℕ → List ℕ) (ns : List ℕ) (m n : ℕ) → has ns m ≡ true → has (h m) n ≡ true → has (flat_map h ns) n ≡ true
has-flat_map h [] m n a b = absurd (both_ways false refl a)
has-flat_map h (k ∷ ns) m n a b = elim (has_cases m k ns a) [
  | inl e ↦ has-append_left n (h k) (flat_map h ns) (subst (λ (i : ℕ). has (h i) n ≡ true) e b)
  | inr l ↦ has-append_right n (h k) (flat_map h ns) (has-flat_map h ns m n l b)
]

slice_get-below : {A : Type 0} (xs : List A) (i : ℕ) (x : A) → slice_get xs i ≡ Some x → i < length xs
slice_get-below [] i x h = absurd (cc)
slice_get-below (y ∷ ys) zero x h = omega arith
slice_get-below (y ∷ ys) (suc i) x h = let l = slice_get-below ys i x h in omega arith

-- A class has the features of each class that it conforms to, and its attributes.
super-feature : (m : Metamodel) (c d f : ℕ) → IsMeta m → HasSuper m c d → has (features_of m d) f ≡ true → has (features_of m c) f ≡ true
super-feature m c d f w s h = go (class_at m c) refl s
  where
    go : (o : Option Class) → class_at m c ≡ o → IsSomeAnd o (λ class. has class.supers d ≡ true) → has (features_of m c) f ≡ true
    go None e k = absurd k
    go (Some class) e k =
        let whole : class.features ≡ each_once (flat_map (features_of m) class.supers) ++ owned_by m c = rw e at (w.features_whole c (slice_get-below m.classes c class e)) in
        let here : has class.features f ≡ true = rw whole (has-append_left f (each_once (flat_map (features_of m) class.supers)) (owned_by m c) (has-each_once (flat_map (features_of m) class.supers) f (has-flat_map (features_of m) class.supers d f k h))) in
        rw e here

pub feature-down : (m : Metamodel) (f : ℕ) → IsMeta m → GoesDown m (λ c. has (features_of m c) f ≡ true)
feature-down m f w c d (itself e) h = h
feature-down m f w c d (above e i k s r) h = super-feature m c i f w s (feature-down m f w i d r h)

pub attribute-down : (m : Metamodel) (a : ℕ) → IsMeta m → GoesDown m (λ c. has (attributes_of m c) a ≡ true)
attribute-down m a w c d k h = let was = has-filter (λ f. is_some (type_of m f)) (features_of m d) a h in has-kept (λ f. is_some (type_of m f)) (features_of m c) a (feature-down m a w c d k was.0) was.1

-- What goes down along conformance holds at each object of the class.
pub Stands-down : (m : Metamodel) (g : Graph) (P : ℕ → Type 0) (class n : ℕ) → GoesDown m P → P class → IsOf m g class n → Stands g P n
Stands-down m g P class n down p h = go (object_numbered g n) h
  where
    go : (o : Option Object) → IsSomeAnd o (λ object. Conforms m object.class class) → IsSomeAnd o (λ object. P object.class)
    go None h = h
    go (Some x) h = down x.class class h p
