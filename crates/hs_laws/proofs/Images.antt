-- Images of nodes, and extensions of matches.
use Rattle.std.proofs.Common.{ℕ, suc, zero, ◌-◌, ◌≤◌, ◌≡◌, inl, inr, List, [], ◌∷◌, ◌++◌, length, true, false, eqb, Some, slice_get, refl, sym, ap, ◌∙◌, subst, arith}
use Rattle.std.specs.List.{All, AllZip}
use Rattle.std.proofs.lemmas.Bool.{cases_Bool, both_ways, ne_eqb, or_from, false_from_ne_true}
use Rattle.std.proofs.lemmas.List.Elements.{All-head, All-tail, filter-append}
use Rattle.hs_types.specs.declared.graph.Graph.{Graph}
use Rattle.hs_types.specs.declared.matching.Extension.{Extension}
use Rattle.hs_types.specs.declared.meta.Metamodel.{Metamodel}
use Rattle.hs_types.specs.declared.rule.PatternNode.{PatternNode}
use Rattle.hs_types.specs.declared.rule.Shape.{Shape}
use Rattle.hs_expr.specs.Lists.{has, beside, Differ}
use Rattle.hs_types.specs.Pattern.{is_left, is_drop, left_nodes, node_is}
use Rattle.hs_types.specs.PlainMatch.{image, Extends, IsPlain}
use Rattle.hs_types.specs.TypedGraph.{IsOf}
use Rattle.hs_expr.proofs.Lists.{AllZip-append, Differ-apart, All-by_has, beside-has}

-- The object at n is of the node's class.
abbrev pub FitsNode : Metamodel → Graph → PatternNode → ℕ → Type 0
FitsNode m g node n = IsOf m g node.class n

-- Node n is on the left side.
abbrev pub IsLeft : List PatternNode → ℕ → Type 0
IsLeft nodes n = node_is is_left nodes n ≡ true

-- What holds of all images holds of a left node's.
pub image-all : (R : PatternNode → ℕ → Type 0) (P : ℕ → Type 0) (nodes : List PatternNode) (images : List ℕ) (n : ℕ) → AllZip R (left_nodes nodes) images → All P images → IsLeft nodes n → P (image nodes images n)
image-all R P [] images n z a l = absurd (both_ways false refl l)
image-all R P (x ∷ xs) [] zero z a l = absurd (rw l at z)
image-all R P (x ∷ xs) (i ∷ is) zero z a l = All-head P i is a
image-all R P (x ∷ xs) [] (suc n) z a l = elim (cases_Bool (is_left x.mark)) [
  | inl e ↦ absurd (rw e at z)
  | inr e ↦ image-all R P xs [] n (rw e at z) a l
]
image-all R P (x ∷ xs) (i ∷ is) (suc n) z a l = elim (cases_Bool (is_left x.mark)) [
  | inl e ↦ let z' : AllZip R (x ∷ left_nodes xs) (i ∷ is) = rw e at z in
      let same : image (x ∷ xs) (i ∷ is) (suc n) ≡ image xs is n = rw e refl in subst P (sym same) (image-all R P xs is n z'.1 (All-tail P i is a) l)
  | inr e ↦ let same : image (x ∷ xs) (i ∷ is) (suc n) ≡ image xs (i ∷ is) n = rw e refl in subst P (sym same) (image-all R P xs (i ∷ is) n (rw e at z) a l)
]

-- The image of a left node is related to it.
pub image-at : (R : PatternNode → ℕ → Type 0) (nodes : List PatternNode) (images : List ℕ) (n : ℕ) (x : PatternNode) → AllZip R (left_nodes nodes) images → slice_get nodes n ≡ Some x → is_left x.mark ≡ true → R x (image nodes images n)
image-at R [] images n x z h l = absurd (cc)
image-at R (y ∷ ys) [] zero x z h l = let same : y ≡ x = cc in absurd (rw (ap (λ (k : PatternNode). is_left k.mark) same ∙ l) at z)
image-at R (y ∷ ys) (i ∷ is) zero x z h l = let same : y ≡ x = cc in let z' : AllZip R (y ∷ left_nodes ys) (i ∷ is) = rw (ap (λ (k : PatternNode). is_left k.mark) same ∙ l) at z in subst (λ (k : PatternNode). R k i) same z'.0
image-at R (y ∷ ys) [] (suc n) x z h l = elim (cases_Bool (is_left y.mark)) [
  | inl e ↦ absurd (rw e at z)
  | inr e ↦ image-at R ys [] n x (rw e at z) h l
]
image-at R (y ∷ ys) (i ∷ is) (suc n) x z h l = elim (cases_Bool (is_left y.mark)) [
  | inl e ↦ let z' : AllZip R (y ∷ left_nodes ys) (i ∷ is) = rw e at z in
      let same : image (y ∷ ys) (i ∷ is) (suc n) ≡ image ys is n = rw e refl in
      subst (R x) (sym same) (image-at R ys is n x z'.1 h l)
  | inr e ↦ let same : image (y ∷ ys) (i ∷ is) (suc n) ≡ image ys (i ∷ is) n = rw e refl in
      subst (R x) (sym same) (image-at R ys (i ∷ is) n x (rw e at z) h l)
]

-- It is one of the images.
pub image-among : (R : PatternNode → ℕ → Type 0) (nodes : List PatternNode) (images : List ℕ) (n : ℕ) → AllZip R (left_nodes nodes) images → IsLeft nodes n → has images (image nodes images n) ≡ true
image-among R nodes images n z l = image-all R (λ i. has images i ≡ true) nodes images n z (All-by_has (λ i. has images i ≡ true) images (λ i h. h)) l

-- A node that is left and kept, by what is at its number.
pub IsLeft-from : (nodes : List PatternNode) (n : ℕ) (x : PatternNode) → slice_get nodes n ≡ Some x → is_left x.mark ≡ true → IsLeft nodes n
IsLeft-from nodes n x e l = rw e l

-- The image of a kept node is not dropped.
pub image-stays : (R : PatternNode → ℕ → Type 0) (nodes : List PatternNode) (images : List ℕ) (n : ℕ) (x : PatternNode) → AllZip R (left_nodes nodes) images → Differ images → slice_get nodes n ≡ Some x → is_left x.mark ≡ true → is_drop x.mark ≡ false → has (beside (λ k. is_drop k.mark) (left_nodes nodes) images) (image nodes images n) ≡ false
image-stays R [] images n x z d h l k = absurd (cc)
image-stays R (y ∷ ys) [] n x z d h l k = nothing (left_nodes (y ∷ ys))
  where
    nothing : (zs : List PatternNode) → has (beside (λ k. is_drop k.mark) zs []) (image (y ∷ ys) [] n) ≡ false
    nothing [] = refl
    nothing (z ∷ zs) = refl
image-stays R (y ∷ ys) (i ∷ is) zero x z d h l k =
    let same : y ≡ x = cc in
    let left : is_left y.mark ≡ true = ap (λ (k : PatternNode). is_left k.mark) same ∙ l in
    let kept : is_drop y.mark ≡ false = ap (λ (k : PatternNode). is_drop k.mark) same ∙ k in
    let rest : has (beside (λ k. is_drop k.mark) (left_nodes ys) is) i ≡ false = false_from_ne_true (has (beside (λ k. is_drop k.mark) (left_nodes ys) is) i) (λ t. both_ways (has is i) (Differ-apart i is d.0) (beside-has (λ k. is_drop k.mark) (left_nodes ys) is i t)) in
    let at : image (y ∷ ys) (i ∷ is) zero ≡ i = refl in
    subst (λ (o : ℕ). has (beside (λ k. is_drop k.mark) (left_nodes (y ∷ ys)) (i ∷ is)) o ≡ false) (sym at) (rw (left, kept) rest)
image-stays R (y ∷ ys) (i ∷ is) (suc n) x z d h l k = elim (cases_Bool (is_left y.mark)) [
  | inl e ↦ let z' : AllZip R (y ∷ left_nodes ys) (i ∷ is) = rw e at z in
      let o : ℕ = image ys is n in
      let same : image (y ∷ ys) (i ∷ is) (suc n) ≡ image ys is n = rw e refl in
      let rest : has (beside (λ k. is_drop k.mark) (left_nodes ys) is) o ≡ false = image-stays R ys is n x z'.1 d.1 h l k in
      let among : has is o ≡ true = image-among R ys is n z'.1 (IsLeft-from ys n x h l) in
      let differs : eqb o i ≡ false = ne_eqb o i (λ s. both_ways (has is i) (Differ-apart i is d.0) (subst (λ (j : ℕ). has is j ≡ true) s among)) in
      subst (λ (o : ℕ). has (beside (λ k. is_drop k.mark) (left_nodes (y ∷ ys)) (i ∷ is)) o ≡ false) (sym same) (rw e (elim (cases_Bool (is_drop y.mark)) [ inl t ↦ rw t (or_from (eqb o i) (has (beside (λ k. is_drop k.mark) (left_nodes ys) is) o) differs rest) | inr t ↦ rw t rest ]))
  | inr e ↦ let same : image (y ∷ ys) (i ∷ is) (suc n) ≡ image ys (i ∷ is) n = rw e refl in
      subst (λ (o : ℕ). has (beside (λ k. is_drop k.mark) (left_nodes (y ∷ ys)) (i ∷ is)) o ≡ false) (sym same) (rw e (image-stays R ys (i ∷ is) n x (rw e at z) d h l k))
]

-- More nodes and images at the end change no image.
pub image-front : (R : PatternNode → ℕ → Type 0) (xs ys : List PatternNode) (ms ns : List ℕ) (n : ℕ) → AllZip R (left_nodes xs) ms → IsLeft xs n → image (xs ++ ys) (ms ++ ns) n ≡ image xs ms n
image-front R [] ys ms ns n z l = absurd (both_ways false refl l)
image-front R (x ∷ xs) ys [] ns zero z l = absurd (rw l at z)
image-front R (x ∷ xs) ys (m ∷ ms) ns zero z l = refl
image-front R (x ∷ xs) ys [] ns (suc n) z l = elim (cases_Bool (is_left x.mark)) [
  | inl e ↦ absurd (rw e at z)
  | inr e ↦ let a : image (x ∷ (xs ++ ys)) ns (suc n) ≡ image (xs ++ ys) ns n = rw e refl in a ∙ image-front R xs ys [] ns n (rw e at z) l
]
image-front R (x ∷ xs) ys (m ∷ ms) ns (suc n) z l = elim (cases_Bool (is_left x.mark)) [
  | inl e ↦ let z' : AllZip R (x ∷ left_nodes xs) (m ∷ ms) = rw e at z in
      let a : image (x ∷ (xs ++ ys)) (m ∷ (ms ++ ns)) (suc n) ≡ image (xs ++ ys) (ms ++ ns) n = rw e refl in
      let b : image (x ∷ xs) (m ∷ ms) (suc n) ≡ image xs ms n = rw e refl in
      a ∙ (image-front R xs ys ms ns n z'.1 l ∙ sym b)
  | inr e ↦ let a : image (x ∷ (xs ++ ys)) (m ∷ (ms ++ ns)) (suc n) ≡ image (xs ++ ys) (m ∷ (ms ++ ns)) n = rw e refl in
      let b : image (x ∷ xs) (m ∷ ms) (suc n) ≡ image xs (m ∷ ms) n = rw e refl in
      a ∙ (image-front R xs ys (m ∷ ms) ns n (rw e at z) l ∙ sym b)
]

-- The images of a match and of an extension, together.
pub joined : (m : Metamodel) (g : Graph) (s : Shape) (f : Extension) (t : Shape) (x : Extension) → IsPlain m g s f → Extends m g s f t x → AllZip (FitsNode m g) (left_nodes (s.nodes ++ t.nodes)) (f.nodes ++ x.nodes)
joined m g s f t x h e = rw (filter-append (λ n. is_left n.mark) s.nodes t.nodes) (AllZip-append (FitsNode m g) (left_nodes s.nodes) (left_nodes t.nodes) f.nodes x.nodes h.nodes_fit e.nodes_fit)

-- The image of a node of the part is that among the part's own.
pub image-behind : (R : PatternNode → ℕ → Type 0) (xs ys : List PatternNode) (ms ns : List ℕ) (n : ℕ) → AllZip R (left_nodes xs) ms → length xs ≤ n → image (xs ++ ys) (ms ++ ns) n ≡ image ys ns (n - length xs)
image-behind R [] ys [] ns n z l = let e : n - 0 ≡ n = omega arith in rw e refl
image-behind R [] ys (m ∷ ms) ns n z l = absurd z
image-behind R (x ∷ xs) ys ms ns zero z l = absurd (omega arith)
image-behind R (x ∷ xs) ys [] ns (suc n) z l = elim (cases_Bool (is_left x.mark)) [
  | inl e ↦ absurd (rw e at z)
  | inr e ↦ let a : image (x ∷ (xs ++ ys)) ns (suc n) ≡ image (xs ++ ys) ns n = rw e refl in
      let s : suc n - length (x ∷ xs) ≡ n - length xs = omega arith in
      a ∙ (image-behind R xs ys [] ns n (rw e at z) (omega arith) ∙ ap (image ys ns) (sym s))
]
image-behind R (x ∷ xs) ys (m ∷ ms) ns (suc n) z l =
    let s : suc n - length (x ∷ xs) ≡ n - length xs = omega arith in
    elim (cases_Bool (is_left x.mark)) [
      | inl e ↦ let z' : AllZip R (x ∷ left_nodes xs) (m ∷ ms) = rw e at z in
          let a : image (x ∷ (xs ++ ys)) (m ∷ (ms ++ ns)) (suc n) ≡ image (xs ++ ys) (ms ++ ns) n = rw e refl in
          a ∙ (image-behind R xs ys ms ns n z'.1 (omega arith) ∙ ap (image ys ns) (sym s))
      | inr e ↦ let a : image (x ∷ (xs ++ ys)) (m ∷ (ms ++ ns)) (suc n) ≡ image (xs ++ ys) (m ∷ (ms ++ ns)) n = rw e refl in
          a ∙ (image-behind R xs ys (m ∷ ms) ns n (rw e at z) (omega arith) ∙ ap (image ys ns) (sym s))
    ]

-- Different left nodes have different images.
pub image-injective : (R : PatternNode → ℕ → Type 0) (nodes : List PatternNode) (images : List ℕ) (i j : ℕ) → AllZip R (left_nodes nodes) images → Differ images → IsLeft nodes i → IsLeft nodes j → image nodes images i ≡ image nodes images j → i ≡ j
image-injective R [] images i j z d a b e = absurd (both_ways false refl a)
image-injective R (x ∷ xs) images zero zero z d a b e = refl
image-injective R (x ∷ xs) [] zero (suc j) z d a b e = absurd (rw a at z)
image-injective R (x ∷ xs) (m ∷ ms) zero (suc j) z d a b e =
    let z' : AllZip R (x ∷ left_nodes xs) (m ∷ ms) = rw a at z in
    let same : image (x ∷ xs) (m ∷ ms) (suc j) ≡ image xs ms j = rw a refl in
    let among : has ms (image xs ms j) ≡ true = image-among R xs ms j z'.1 b in
    let first : m ≡ image xs ms j = e ∙ same in
    absurd (both_ways (has ms m) (Differ-apart m ms d.0) (subst (λ (k : ℕ). has ms k ≡ true) (sym first) among))
image-injective R (x ∷ xs) [] (suc i) zero z d a b e = absurd (rw b at z)
image-injective R (x ∷ xs) (m ∷ ms) (suc i) zero z d a b e =
    let z' : AllZip R (x ∷ left_nodes xs) (m ∷ ms) = rw b at z in
    let same : image (x ∷ xs) (m ∷ ms) (suc i) ≡ image xs ms i = rw b refl in
    let among : has ms (image xs ms i) ≡ true = image-among R xs ms i z'.1 a in
    let first : image xs ms i ≡ m = sym same ∙ e in
    absurd (both_ways (has ms m) (Differ-apart m ms d.0) (subst (λ (k : ℕ). has ms k ≡ true) first among))
image-injective R (x ∷ xs) [] (suc i) (suc j) z d a b e = elim (cases_Bool (is_left x.mark)) [
  | inl t ↦ absurd (rw t at z)
  | inr t ↦ let p : image (x ∷ xs) [] (suc i) ≡ image xs [] i = refl in
      let q : image (x ∷ xs) [] (suc j) ≡ image xs [] j = refl in
      ap suc (image-injective R xs [] i j (rw t at z) d a b (sym p ∙ (e ∙ q)))
]
image-injective R (x ∷ xs) (m ∷ ms) (suc i) (suc j) z d a b e = elim (cases_Bool (is_left x.mark)) [
  | inl t ↦ let z' : AllZip R (x ∷ left_nodes xs) (m ∷ ms) = rw t at z in
      let p : image (x ∷ xs) (m ∷ ms) (suc i) ≡ image xs ms i = rw t refl in
      let q : image (x ∷ xs) (m ∷ ms) (suc j) ≡ image xs ms j = rw t refl in
      ap suc (image-injective R xs ms i j z'.1 d.1 a b (sym p ∙ (e ∙ q)))
  | inr t ↦ let p : image (x ∷ xs) (m ∷ ms) (suc i) ≡ image xs (m ∷ ms) i = rw t refl in
      let q : image (x ∷ xs) (m ∷ ms) (suc j) ≡ image xs (m ∷ ms) j = rw t refl in
      ap suc (image-injective R xs (m ∷ ms) i j (rw t at z) d a b (sym p ∙ (e ∙ q)))
]
