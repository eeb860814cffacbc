-- The order of matches is total, and the least valid match is one.
use Rattle.std.proofs.Common.{ℕ, ◌≡◌, ◌⊎◌, inl, inr, List, [], ◌∷◌, Option, Some, None, refl, sym, ap, ◌∙◌, subst, arith, Contains}
use Rattle.std.specs.List.{All, AllZip}
use Rattle.std.proofs.lemmas.Bool.{cases_lt}
use Rattle.std.proofs.lemmas.List.Elements.{All-cons, All-head, All-tail, All-weaker, All-contains, All-contains_itself}
use Rattle.hs_types.specs.declared.graph.Graph.{Graph}
use Rattle.hs_types.specs.declared.matching.Extension.{Extension}
use Rattle.hs_types.specs.declared.matching.Match.{Match}
use Rattle.hs_types.specs.declared.meta.Metamodel.{Metamodel}
use Rattle.hs_types.specs.declared.request.Args.{Args}
use Rattle.hs_types.specs.declared.rule.Multi.{Multi}
use Rattle.hs_types.specs.declared.rule.Rule.{Rule}
use Rattle.hs_types.specs.Copies.{AreCopies, IsCopy}
use Rattle.hs_expr.specs.Lists.{EachPair}
use Rattle.hs_expr.specs.Lexicographic.{IsBefore}
use Rattle.hs_types.specs.MatchOrder.{IsEarlier, IsFirstOf, IsLeastOf, IsNextOf}
use Rattle.hs_types.specs.PlainMatch.{kernel_of}
use Rattle.hs_types.specs.ValidMatch.{IsFirst, IsLeast, IsLeastAfter, IsNext, IsValid}

pub IsBefore-not_itself : (ns : List ℕ) → IsBefore ns ns → ⊥
IsBefore-not_itself [] h = h
IsBefore-not_itself (n ∷ ns) (inl l) = absurd (omega arith)
IsBefore-not_itself (n ∷ ns) (inr k) = IsBefore-not_itself ns k.1

pub IsBefore-trans : (xs ys zs : List ℕ) → IsBefore xs ys → IsBefore ys zs → IsBefore xs zs
IsBefore-trans [] [] zs h k = absurd h
IsBefore-trans [] (y ∷ ys) [] h k = absurd k
IsBefore-trans [] (y ∷ ys) (z ∷ zs) h k = tt
IsBefore-trans (x ∷ xs) [] zs h k = absurd h
IsBefore-trans (x ∷ xs) (y ∷ ys) [] h k = absurd k
IsBefore-trans (x ∷ xs) (y ∷ ys) (z ∷ zs) (inl l) (inl m) = inl (omega arith)
IsBefore-trans (x ∷ xs) (y ∷ ys) (z ∷ zs) (inl l) (inr m) = inl (omega (arith, m.0))
IsBefore-trans (x ∷ xs) (y ∷ ys) (z ∷ zs) (inr l) (inl m) = inl (omega (arith, l.0))
IsBefore-trans (x ∷ xs) (y ∷ ys) (z ∷ zs) (inr l) (inr m) = inr (l.0 ∙ m.0, IsBefore-trans xs ys zs l.1 m.1)

pub IsBefore-total : (xs ys : List ℕ) → IsBefore xs ys ⊎ ((xs ≡ ys) ⊎ IsBefore ys xs)
IsBefore-total [] [] = inr (inl refl)
IsBefore-total [] (y ∷ ys) = inl tt
IsBefore-total (x ∷ xs) [] = inr (inr tt)
IsBefore-total (x ∷ xs) (y ∷ ys) = elim (cases_lt x y) [
  | inl l ↦ inl (inl l)
  | inr l ↦ elim (cases_lt y x) [
    | inl k ↦ inr (inr (inl k))
    | inr k ↦ let same : x ≡ y = omega arith in elim (IsBefore-total xs ys) [
      | inl b ↦ inl (inr (same, b))
      | inr (inl e) ↦ inr (inl (cc))
      | inr (inr b) ↦ inr (inr (inr (sym same, b)))
    ]
  ]
]

pub IsEarlier-not_itself : (x : Extension) → IsEarlier x x → ⊥
IsEarlier-not_itself x (inl h) = IsBefore-not_itself x.nodes h
IsEarlier-not_itself x (inr h) = IsBefore-not_itself x.edges h.1

pub IsEarlier-trans : (x y z : Extension) → IsEarlier x y → IsEarlier y z → IsEarlier x z
IsEarlier-trans x y z (inl h) (inl k) = inl (IsBefore-trans x.nodes y.nodes z.nodes h k)
IsEarlier-trans x y z (inl h) (inr k) = inl (subst (λ (ns : List ℕ). IsBefore x.nodes ns) k.0 h)
IsEarlier-trans x y z (inr h) (inl k) = inl (subst (λ (ns : List ℕ). IsBefore ns z.nodes) (sym h.0) k)
IsEarlier-trans x y z (inr h) (inr k) = inr (h.0 ∙ k.0, IsBefore-trans x.edges y.edges z.edges h.1 k.1)

same_extension : (x y : Extension) → x.nodes ≡ y.nodes → x.edges ≡ y.edges → x ≡ y
same_extension x y a b = ap (λ (ns : List ℕ). record { nodes = ns; edges = x.edges }) a ∙ ap (λ (es : List ℕ). record { nodes = y.nodes; edges = es }) b

pub IsEarlier-total : (x y : Extension) → IsEarlier x y ⊎ ((x ≡ y) ⊎ IsEarlier y x)
IsEarlier-total x y = elim (IsBefore-total x.nodes y.nodes) [
  | inl h ↦ inl (inl h)
  | inr (inr h) ↦ inr (inr (inl h))
  | inr (inl e) ↦ elim (IsBefore-total x.edges y.edges) [
    | inl h ↦ inl (inr (e, h))
    | inr (inl k) ↦ inr (inl (same_extension x y e k))
    | inr (inr h) ↦ inr (inr (inr (sym e, h)))
  ]
]

-- Two lists in order that have the same items are the same.
Contains-cons : (y z : Extension) (ys : List Extension) → (z ≡ y → ⊥) → Contains (y ∷ ys) z → Contains ys z
Contains-cons y z ys differs h = elim (All-contains P (y ∷ ys) z (All-cons P y ys (inl refl) (All-weaker (Contains ys) P (λ x k. inr k) ys (All-contains_itself ys))) h) [
  | inl e ↦ absurd (differs e)
  | inr k ↦ k
]
  where
    P : Extension → Type 0
    P x = (x ≡ y) ⊎ Contains ys x

first_or_later : (x y : Extension) (ys : List Extension) → EachPair IsEarlier (y ∷ ys) → Contains (y ∷ ys) x → (x ≡ y) ⊎ IsEarlier y x
first_or_later x y ys p h = All-contains P (y ∷ ys) x (All-cons P y ys (inl refl) (All-weaker (IsEarlier y) P (λ z k. inr k) ys p.0)) h
  where
    P : Extension → Type 0
    P z = (z ≡ y) ⊎ IsEarlier y z

pub in_order-same : (xs ys : List Extension) → EachPair IsEarlier xs → EachPair IsEarlier ys → All (Contains ys) xs → All (Contains xs) ys → xs ≡ ys
in_order-same [] [] p q a b = refl
in_order-same [] (y ∷ ys) p q a b = let h = All-head (Contains []) y ys b in absurd (omega (arith, h.1))
in_order-same (x ∷ xs) [] p q a b = let h = All-head (Contains []) x xs a in absurd (omega (arith, h.1))
in_order-same (x ∷ xs) (y ∷ ys) p q a b =
    let forth = first_or_later x y ys q (All-head (Contains (y ∷ ys)) x xs a) in
    let back = first_or_later y x xs p (All-head (Contains (x ∷ xs)) y ys b) in
    let same : x ≡ y = elim forth [
      | inl e ↦ e
      | inr h ↦ elim back [ inl e ↦ sym e | inr k ↦ absurd (IsEarlier-not_itself x (IsEarlier-trans x y x k h)) ]
    ] in
    let others : All (Contains ys) xs = All-weaker (λ z. IsEarlier x z × Contains (y ∷ ys) z) (Contains ys) (λ z i. Contains-cons y z ys (λ e. IsEarlier-not_itself x (subst (IsEarlier x) (e ∙ sym same) i.0)) i.1) xs (λ k d l. (p.0 k d l, All-tail (Contains (y ∷ ys)) x xs a k d l)) in
    let those : All (Contains xs) ys = All-weaker (λ z. IsEarlier y z × Contains (x ∷ xs) z) (Contains xs) (λ z i. Contains-cons x z xs (λ e. IsEarlier-not_itself y (subst (IsEarlier y) (e ∙ same) i.0)) i.1) ys (λ k d l. (q.0 k d l, All-tail (Contains (x ∷ xs)) y ys b k d l)) in
    let rest : xs ≡ ys = in_order-same xs ys p.1 q.1 others those in
    cc

-- A multi-rule's copies are determined.
AreCopies-same : (m : Metamodel) (g : Graph) (rule : Rule) (args : Args) (f : Extension) (multi : Multi) (xs ys : List Extension) → AreCopies m g rule args f multi xs → AreCopies m g rule args f multi ys → xs ≡ ys
AreCopies-same m g rule args f multi xs ys h k = in_order-same xs ys h.in_order k.in_order (All-weaker C (Contains ys) (λ x i. k.whole x i) xs h.each) (All-weaker C (Contains xs) (λ x i. h.whole x i) ys k.each)
  where
    C : Extension → Type 0
    C x = IsCopy m g rule args f multi x

copies-same : (m : Metamodel) (g : Graph) (rule : Rule) (args : Args) (f : Extension) (multis : List Multi) (xss yss : List (List Extension)) → AllZip (AreCopies m g rule args f) multis xss → AllZip (AreCopies m g rule args f) multis yss → xss ≡ yss
copies-same m g rule args f [] [] [] h k = refl
copies-same m g rule args f [] [] (ys ∷ yss) h k = absurd k
copies-same m g rule args f [] (xs ∷ xss) yss h k = absurd h
copies-same m g rule args f (multi ∷ multis) [] yss h k = absurd h
copies-same m g rule args f (multi ∷ multis) (xs ∷ xss) [] h k = absurd k
copies-same m g rule args f (multi ∷ multis) (xs ∷ xss) (ys ∷ yss) h k =
    let head : xs ≡ ys = AreCopies-same m g rule args f multi xs ys h.0 k.0 in
    let rest : xss ≡ yss = copies-same m g rule args f multis xss yss h.1 k.1 in
    cc

same_match : (f h : Match) → f.nodes ≡ h.nodes → f.edges ≡ h.edges → f.copies ≡ h.copies → f ≡ h
same_match f h a b c = ap (λ (ns : List ℕ). record { nodes = ns; edges = f.edges; copies = f.copies }) a ∙ (ap (λ (es : List ℕ). record { nodes = h.nodes; edges = es; copies = f.copies }) b ∙ ap (λ (cs : List (List Extension)). record { nodes = h.nodes; edges = h.edges; copies = cs }) c)

-- Two valid matches with one kernel are the same.
pub IsValid-same : (m : Metamodel) (g : Graph) (rule : Rule) (args : Args) (f h : Match) → IsValid m g rule args f → IsValid m g rule args h → kernel_of f ≡ kernel_of h → f ≡ h
IsValid-same m g rule args f h v w e = same_match f h (ap (λ (x : Extension). x.nodes) e) (ap (λ (x : Extension). x.edges) e) (copies-same m g rule args (kernel_of f) rule.multis f.copies h.copies v.copies (subst (λ (k : Extension). AllZip (AreCopies m g rule args k) rule.multis h.copies) (sym e) w.copies))

pub IsLeast-same : (m : Metamodel) (g : Graph) (rule : Rule) (args : Args) (f h : Match) → IsLeast m g rule args f → IsLeast m g rule args h → f ≡ h
IsLeast-same m g rule args f h a b = elim (IsEarlier-total (kernel_of f) (kernel_of h)) [
  | inl k ↦ absurd (b.least f a.valid k)
  | inr (inl e) ↦ IsValid-same m g rule args f h a.valid b.valid e
  | inr (inr k) ↦ absurd (a.least h b.valid k)
]

pub IsFirst-same : (m : Metamodel) (g : Graph) (rule : Rule) (args : Args) (a b : Option Match) → IsFirst m g rule args a → IsFirst m g rule args b → a ≡ b
IsFirst-same m g rule args None None h k = refl
IsFirst-same m g rule args None (Some f) h k = absurd (h f k.valid)
IsFirst-same m g rule args (Some f) None h k = absurd (k f h.valid)
IsFirst-same m g rule args (Some f) (Some e) h k = ap Some (IsLeast-same m g rule args f e h k)

-- The next match is one.
IsLeastAfter-same : (m : Metamodel) (g : Graph) (rule : Rule) (args : Args) (after f h : Match) → IsLeastAfter m g rule args after f → IsLeastAfter m g rule args after h → f ≡ h
IsLeastAfter-same m g rule args after f h a b = elim (IsEarlier-total (kernel_of f) (kernel_of h)) [
  | inl k ↦ absurd (b.least f a.valid a.later k)
  | inr (inl e) ↦ IsValid-same m g rule args f h a.valid b.valid e
  | inr (inr k) ↦ absurd (a.least h b.valid b.later k)
]

pub IsNext-same : (m : Metamodel) (g : Graph) (rule : Rule) (args : Args) (after : Match) (a b : Option Match) → IsNext m g rule args after a → IsNext m g rule args after b → a ≡ b
IsNext-same m g rule args after None None h k = refl
IsNext-same m g rule args after None (Some f) h k = absurd (h f k.valid k.later)
IsNext-same m g rule args after (Some f) None h k = absurd (k f h.valid h.later)
IsNext-same m g rule args after (Some f) (Some k) h l = ap (λ (x : Match). Some x) (IsLeastAfter-same m g rule args after f k h l)

-- The least extension is one.
IsLeastOf-same : (P : Extension → Type 0) (x y : Extension) → IsLeastOf P x → IsLeastOf P y → x ≡ y
IsLeastOf-same P x y a b = elim (IsEarlier-total x y) [
  | inl k ↦ absurd (b.1 x a.0 k)
  | inr (inl e) ↦ e
  | inr (inr k) ↦ absurd (a.1 y b.0 k)
]

pub IsFirstOf-same : (P : Extension → Type 0) (a b : Option Extension) → IsFirstOf P a → IsFirstOf P b → a ≡ b
IsFirstOf-same P None None h k = refl
IsFirstOf-same P None (Some x) h k = absurd (h x k.0)
IsFirstOf-same P (Some x) None h k = absurd (k x h.0)
IsFirstOf-same P (Some x) (Some y) h k = ap (λ (z : Extension). Some z) (IsLeastOf-same P x y h k)

pub IsNextOf-same : (P : Extension → Type 0) (after : Extension) (a b : Option Extension) → IsNextOf P after a → IsNextOf P after b → a ≡ b
IsNextOf-same P after a b h k = IsFirstOf-same (λ (x : Extension). P x × IsEarlier after x) a b h k
