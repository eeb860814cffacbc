use Rattle.std.proofs.Common.{ℕ, zero, suc, ◌+◌, ◌-◌, ◌<◌, ◌≤◌, ◌≡◌, List, [], ◌∷◌, ◌++◌, length, take, drop, get_or, slice_get, Option, Some, None, true, false, refl, arith, ap, sym, ◌∙◌, append_assoc, length-append, length-drop, inl, inr}
use Rattle.std.specs.Prelude.{IsSomeAnd, IfSome, IfNone}
use Rattle.std.specs.List.{AllZip}
use Rattle.std.proofs.lemmas.Bool.{ne_eqb}
use Rattle.std.proofs.lemmas.Bool.Decides.{eqb_tells}
use Rattle.std.proofs.lemmas.List.{append-nil, length_push, take_at, drop_at, take-append-drop, length-take-le, take-append-le, drop-append-le}
use Rattle.std.proofs.lemmas.List.Elements.{All-append, All-cons, All-nil}
use Rattle.std.proofs.lemmas.Option.{slice_get_past, slice_get_within}
use Rattle.std.proofs.lemmas.Slice.Zip.{AllZip-left, AllZip-long}
use Rattle.std.proofs.Math.Seq.{get_or-append_seam, take-append-add}
use Rattle.hs_search.specs.Choice.{EachFits, IsChoice}
use Rattle.hs_expr.proofs.Lists.{item_within}
use Rattle.hs_types.specs.declared.matching.Extension.{Extension}
use Rattle.hs_types.specs.declared.rule.PatternEdge.{PatternEdge}
use Rattle.hs_types.specs.declared.rule.PatternNode.{PatternNode}
use Rattle.hs_expr.specs.Lists.{has, Differ}
use Rattle.hs_types.specs.Pattern.{left_nodes, left_edges}
use Rattle.hs_types.specs.PlainMatch.{image, IsImage, Extends}
use Rattle.hs_types.specs.TypedGraph.{IsOf}
use Rattle.hs_match.specs.Candidates.{IsFree, IsNextFrom}
use Rattle.hs_match.specs.declared.link.Link.{Link}
use Rattle.hs_match.specs.Linked.{IsLinked}
use Rattle.hs_match.proofs.Scans.{some_and}
use Rattle.hs_match.specs.Extending.{Sought, shape, split, AreImages, IsFreeImage, FitsNext, FitsAs, NoObject}

-- what comes after has none of the numbers before it
pub Differ-at : (us : List ℕ) (y : ℕ) (vs : List ℕ) → Differ (us ++ y ∷ vs) → has us y ≡ false
Differ-at [] y vs d = refl
Differ-at (u ∷ us) y vs d =
    let at : get_or (us ++ y ∷ vs) (length us) y ≡ y = get_or-append_seam us y vs y in
    let long : length us < length (us ++ y ∷ vs) = omega (arith, length-append us (y ∷ vs)) in
    let apart : u ≡ get_or (us ++ y ∷ vs) (length us) y → ⊥ = d.0 (length us) y long in
    let other : y ≡ u → ⊥ = λ e. apart (sym e ∙ sym at) in
    rw (ne_eqb y u other) (Differ-at us y vs d.1)

has-neither : (u y : ℕ) (us : List ℕ) → has (u ∷ us) y ≡ false → (y ≡ u → ⊥) × (has us y ≡ false)
has-neither u y us h = elim (eqb_tells y u) [
  | inl same ↦ let t : has (u ∷ us) y ≡ true = rw same.0 refl in cc
  | inr other ↦ (other.1, rw other.0 at h)
]

pub Differ-push : (us : List ℕ) (y : ℕ) → Differ us → has us y ≡ false → Differ (us ++ y ∷ [])
Differ-push [] y d new = (All-nil _, tt)
Differ-push (u ∷ us) y d new =
    let parts = has-neither u y us new in
    (All-append (λ n. u ≡ n → ⊥) us (y ∷ []) d.0 (All-cons (λ n. u ≡ n → ⊥) y [] (λ e. parts.0 (sym e)) (All-nil _)), Differ-push us y d.1 parts.1)

pub AllZip-at : {A B : Type 0} (R : A → B → Type 0) (ps : List A) (xs : List B) (k : ℕ) (p : A) (x : B) → AllZip R ps xs → slice_get ps k ≡ Some p → slice_get xs k ≡ Some x → R p x
AllZip-at R ps xs k p x z at_p at_x = rw at_x at (rw at_p at (AllZip-left R ps xs z k))

slice_get_at : {A : Type 0} (pf p : List A) (c : A) (k : ℕ) → length pf ≡ k → slice_get (pf ++ c ∷ p) k ≡ Some c
slice_get_at [] p c zero e = refl
slice_get_at [] p c (suc k) e = absurd (omega arith)
slice_get_at (x ∷ pf) p c zero e = absurd (omega arith)
slice_get_at (x ∷ pf) p c (suc k) e = slice_get_at pf p c k (omega arith)

-- the next image fits the next part, and isn't taken
abbrev Next : {A : Type 0} → (A → ℕ → Type 0) → List A → List ℕ → List ℕ → ℕ → Type 0
Next R p base front x = IsSomeAnd (slice_get p (length front)) (λ c. R c x × (has (base ++ front) x ≡ false))

record Matched {A : Type 0} (R : A → ℕ → Type 0) (p : List A) (taken xs : List ℕ) : Type 0 where
  parts : AllZip R p xs
  differ : Differ (taken ++ xs)

matched : {A : Type 0} (R : A → ℕ → Type 0) (base : List ℕ) (pf p : List A) (front xs : List ℕ) → length pf ≡ length front → length xs ≡ length p → EachFits (Next R (pf ++ p) base) front xs → Differ (base ++ front) → Matched R p (base ++ front) xs
matched R base pf [] front [] e w h d = record { parts = tt; differ = rw append-nil d }
matched R base pf [] front (x ∷ xs) e w h d = absurd (omega arith)
matched R base pf (c ∷ p) front [] e w h d = absurd (omega arith)
matched {A} R base pf (c ∷ p) front (x ∷ xs) e w h d =
    let at : slice_get (pf ++ c ∷ p) (length front) ≡ Some c = slice_get_at pf p c (length front) e in
    let fit : R c x × (has (base ++ front) x ≡ false) = rw at at h.0 in
    let e' : length (pf ++ c ∷ []) ≡ length (front ++ x ∷ []) = omega (arith, length-append pf (c ∷ []), length-append front (x ∷ [])) in
    let d' : Differ (base ++ (front ++ x ∷ [])) = rw append_assoc at (Differ-push (base ++ front) x d fit.1) in
    let rest : Matched R p (base ++ (front ++ x ∷ [])) xs = matched R base (pf ++ c ∷ []) p (front ++ x ∷ []) xs e' (omega arith) (rw append_assoc h.1) d' in
    record { parts = (fit.0, rest.parts); differ = rw append_assoc (rw (append_assoc, append_assoc) at rest.differ) }

EachFits-parts : (FitsNext : List ℕ → ℕ → Type 0) (front xs ys : List ℕ) → EachFits FitsNext front (xs ++ ys) → EachFits FitsNext front xs × EachFits FitsNext (front ++ xs) ys
EachFits-parts FitsNext front [] ys h = (tt, rw append-nil h)
EachFits-parts FitsNext front (x ∷ xs) ys h = let r = EachFits-parts FitsNext (front ++ x ∷ []) xs ys h.1 in ((h.0, r.0), rw append_assoc at r.1)

-- another fact in its place, below a length
EachFits-below : (P Q : List ℕ → ℕ → Type 0) (n : ℕ) → ((f : List ℕ) (x : ℕ) → length f < n → P f x → Q f x) → (front xs : List ℕ) → length front + length xs ≤ n → EachFits P front xs → EachFits Q front xs
EachFits-below P Q n step front [] l h = tt
EachFits-below P Q n step front (x ∷ xs) l h = (step front x (omega arith) h.0, EachFits-below P Q n step (front ++ x ∷ []) xs (omega (arith, length_push front x)) h.1)

-- The same after the images of the nodes.
EachFits-behind : (P Q : List ℕ → ℕ → Type 0) (ns : List ℕ) → ((f : List ℕ) (x : ℕ) → P (ns ++ f) x → Q f x) → (front xs : List ℕ) → EachFits P (ns ++ front) xs → EachFits Q front xs
EachFits-behind P Q ns step front [] h = tt
EachFits-behind P Q ns step front (x ∷ xs) h = (step front x h.0, EachFits-behind P Q ns step (front ++ x ∷ []) xs (rw append_assoc at h.1))

node_next : (s : Sought) (f : List ℕ) (x : ℕ) → length f < length (left_nodes s.nodes) → FitsNext s f x → Next (λ (node : PatternNode) n. IsOf s.meta s.graph node.class n) (left_nodes s.nodes) s.base.nodes f x
node_next s f x l h =
    let there = item_within (left_nodes s.nodes) (length f) l in
    let e = there.1 in
    let w : FitsAs s f x (Some there.0) = rw e at h in
    rw e (w.of_class, w.free)

-- After all nodes the next image is an edge's.
pub edge_fits : (s : Sought) (ns f : List ℕ) (x : ℕ) → length ns ≡ length (left_nodes s.nodes) → FitsNext s (ns ++ f) x → IsSomeAnd (slice_get (left_edges s.edges) (length f)) (λ edge. IsFreeImage s ns f edge x)
edge_fits s ns f x w h =
    let past : slice_get (left_nodes s.nodes) (length (ns ++ f)) ≡ None = slice_get_past (left_nodes s.nodes) (length (ns ++ f)) (omega (arith, length-append ns f)) in
    let k : length (ns ++ f) - length (left_nodes s.nodes) ≡ length f = omega (arith, length-append ns f) in
    let t : take (length (left_nodes s.nodes)) (ns ++ f) ≡ ns = take_at ns f (length (left_nodes s.nodes)) w in
    let d : drop (length (left_nodes s.nodes)) (ns ++ f) ≡ f = drop_at ns f (length (left_nodes s.nodes)) w in
    let behind : FitsAs s (ns ++ f) x None = rw past at h in
    rw (k, t, d) at behind

edge_next : (s : Sought) (ns f : List ℕ) (x : ℕ) → length ns ≡ length (left_nodes s.nodes) → FitsNext s (ns ++ f) x →
    Next (IsImage s.graph (image (s.base_nodes ++ s.nodes) (s.base.nodes ++ ns))) (left_edges s.edges) s.base.edges f x
edge_next s ns f x w h =
    let there = some_and (slice_get (left_edges s.edges) (length f)) (λ edge. IsFreeImage s ns f edge x) (edge_fits s ns f x w h) in
    let e = there.1 in
    rw e (there.2.joins, there.2.free)

-- images that fit one by one make an extension
pub fits_good : (s : Sought) (all : List ℕ) → length all ≡ length (left_nodes s.nodes) + length (left_edges s.edges) → EachFits (FitsNext s) [] all → Differ s.base.nodes → Differ s.base.edges → AreImages s all
fits_good s all whole h dn de =
    let n : ℕ = length (left_nodes s.nodes) in
    let ns : List ℕ = take n all in
    let es : List ℕ = drop n all in
    let join : ns ++ es ≡ all = take-append-drop n all in
    let w : length ns ≡ n = length-take-le n all (omega arith) in
    let we : length es ≡ length (left_edges s.edges) = omega (arith, length-append ns es, ap length join) in
    let both = EachFits-parts (FitsNext s) [] ns es (rw join h) in
    let nodes = matched (λ (node : PatternNode) n. IsOf s.meta s.graph node.class n) s.base.nodes [] (left_nodes s.nodes) [] ns refl w
    (EachFits-below (FitsNext s) (Next (λ (node : PatternNode) n. IsOf s.meta s.graph node.class n) (left_nodes s.nodes) s.base.nodes) n (node_next s) [] ns (omega arith) both.0) (rw append-nil dn) in
    let behind : EachFits (FitsNext s) (ns ++ []) es = rw append-nil both.1 in
    let edges = matched (IsImage s.graph (image (s.base_nodes ++ s.nodes) (s.base.nodes ++ ns))) s.base.edges [] (left_edges s.edges) [] es refl we
    (EachFits-behind (FitsNext s) (Next (IsImage s.graph (image (s.base_nodes ++ s.nodes) (s.base.nodes ++ ns))) (left_edges s.edges) s.base.edges) ns (λ f x. edge_next s ns f x w) [] es behind) (rw append-nil de) in
    record { nodes_fit = nodes.parts; edges_fit = edges.parts; nodes_differ = rw append-nil at nodes.differ; edges_differ = rw append-nil at edges.differ }

take_behind : (front : List ℕ) (y : ℕ) (rest : List ℕ) (n m : ℕ) → n ≡ length front + suc m → take n (front ++ y ∷ rest) ≡ front ++ y ∷ take m rest
take_behind front y rest n m e = rw e (take-append-add front (y ∷ rest) (suc m))

-- an extension is a choice
pub extension_choice : (s : Sought) (x : Extension) → Extends s.meta s.graph (shape s.base_nodes []) s.base (shape s.nodes s.edges) x →
    IsChoice (length (left_nodes s.nodes) + length (left_edges s.edges)) (AreImages s) (x.nodes ++ x.edges)
extension_choice s x extends =
    let wn : length x.nodes ≡ length (left_nodes s.nodes) = AllZip-long _ (left_nodes s.nodes) x.nodes extends.nodes_fit in
    let we : length x.edges ≡ length (left_edges s.edges) = AllZip-long _ (left_edges s.edges) x.edges extends.edges_fit in
    let t : take (length (left_nodes s.nodes)) (x.nodes ++ x.edges) ≡ x.nodes = take_at x.nodes x.edges (length (left_nodes s.nodes)) wn in
    let d : drop (length (left_nodes s.nodes)) (x.nodes ++ x.edges) ≡ x.edges = drop_at x.nodes x.edges (length (left_nodes s.nodes)) wn in
    let same : split s (x.nodes ++ x.edges) ≡ x = rw (t, d) refl in
    record { whole = omega (arith, length-append x.nodes x.edges); good = rw same extends }

-- In a choice the next number is a free object of the next node's class.
pub node_in_choice : (s : Sought) (size : ℕ) (front : List ℕ) (y : ℕ) (rest : List ℕ) (node : PatternNode) → slice_get (left_nodes s.nodes) (length front) ≡ Some node →
    IsChoice size (AreImages s) ((front ++ y ∷ []) ++ rest) → IsFree s.meta s.graph node.class (s.base.nodes ++ front) y
node_in_choice s size front y rest node at c =
    let n : ℕ = length (left_nodes s.nodes) in
    let lt : length front < n = slice_get_within (left_nodes s.nodes) (length front) node at in
    let good : AreImages s (front ++ y ∷ rest) = rw append_assoc at c.good in
    let cut : take n (front ++ y ∷ rest) ≡ front ++ y ∷ take (n - length front - 1) rest = take_behind front y rest n (n - length front - 1) (omega arith) in
    let here : slice_get (take n (front ++ y ∷ rest)) (length front) ≡ Some y = rw cut (slice_get_at front (take (n - length front - 1) rest) y (length front) refl) in
    record {
      of_class = AllZip-at (λ (node : PatternNode) n. IsOf s.meta s.graph node.class n) (left_nodes s.nodes) (take n (front ++ y ∷ rest)) (length front) node y good.nodes_fit at here;
      free = Differ-at (s.base.nodes ++ front) y (take (n - length front - 1) rest) (rw append_assoc (rw cut at good.nodes_differ));
    }

-- And after the images of all nodes it is a free image of the next edge.
pub edge_in_choice : (s : Sought) (size : ℕ) (front : List ℕ) (y : ℕ) (rest : List ℕ) (edge : PatternEdge) → length (left_nodes s.nodes) ≤ length front →
    slice_get (left_edges s.edges) (length front - length (left_nodes s.nodes)) ≡ Some edge → IsChoice size (AreImages s) ((front ++ y ∷ []) ++ rest) →
    IsFreeImage s (take (length (left_nodes s.nodes)) front) (drop (length (left_nodes s.nodes)) front) edge y
edge_in_choice s size front y rest edge le at c =
    let n : ℕ = length (left_nodes s.nodes) in
    let good : AreImages s (front ++ y ∷ rest) = rw append_assoc at c.good in
    let nodes : take n (front ++ y ∷ rest) ≡ take n front = take-append-le n front (y ∷ rest) le in
    let edges : drop n (front ++ y ∷ rest) ≡ drop n front ++ y ∷ rest = drop-append-le n front (y ∷ rest) le in
    let long : length (drop n front) ≡ length front - n = length-drop n front in
    let here : slice_get (drop n (front ++ y ∷ rest)) (length front - n) ≡ Some y = rw edges (slice_get_at (drop n front) rest y (length front - n) long) in
    let fits : AllZip (IsImage s.graph (image (s.base_nodes ++ s.nodes) (s.base.nodes ++ take n front))) (left_edges s.edges) (drop n (front ++ y ∷ rest)) = rw nodes at good.edges_fit in
    record {
      joins = AllZip-at (IsImage s.graph (image (s.base_nodes ++ s.nodes) (s.base.nodes ++ take n front))) (left_edges s.edges) (drop n (front ++ y ∷ rest)) (length front - n) edge y fits at here;
      free = Differ-at (s.base.edges ++ drop n front) y rest (rw append_assoc (rw edges at good.edges_differ));
    }

pub edge_in_choice_at : (s : Sought) (size n : ℕ) (front : List ℕ) (y : ℕ) (rest : List ℕ) (edge : PatternEdge) → n ≡ length (left_nodes s.nodes) → length (left_nodes s.nodes) ≤ length front →
    slice_get (left_edges s.edges) (length front - n) ≡ Some edge → IsChoice size (AreImages s) ((front ++ y ∷ []) ++ rest) → IsFreeImage s (take n front) (drop n front) edge y
edge_in_choice_at s size n front y rest edge e le at c = rw e (edge_in_choice s size front y rest edge le (rw e at at) c)

-- where no object fits and extends to a choice, no choice does
pub object_passed : (s : Sought) (size : ℕ) (front : List ℕ) (node : PatternNode) (from : ℕ) (o : Option ℕ) → slice_get (left_nodes s.nodes) (length front) ≡ Some node →
    IfSome o (λ x. (y : ℕ) → from ≤ y → y < x → NoObject s node.class front y) →
    IfSome o (λ x. (y : ℕ) → from ≤ y → y < x → (rest : List ℕ) → IsChoice size (AreImages s) ((front ++ y ∷ []) ++ rest) → ⊥)
object_passed s size front node from (Some x) at none = λ y ge lt rest c. none y ge lt rest (node_in_choice s size front y rest node at c) (rw append_assoc at c.good)
object_passed s size front node from None at none = tt

pub object_none : (s : Sought) (size : ℕ) (front : List ℕ) (node : PatternNode) (from : ℕ) (o : Option ℕ) → slice_get (left_nodes s.nodes) (length front) ≡ Some node →
    IfNone o ((y : ℕ) → from ≤ y → NoObject s node.class front y) →
    IfNone o ((y : ℕ) → from ≤ y → (rest : List ℕ) → IsChoice size (AreImages s) ((front ++ y ∷ []) ++ rest) → ⊥)
object_none s size front node from (Some x) at none = tt
object_none s size front node from None at none = λ y ge rest c. none y ge rest (node_in_choice s size front y rest node at c) (rw append_assoc at c.good)

-- what the image of an edge says, the images of the whole say
pub link_whole : (s : Sought) (front : List ℕ) (place : ℕ) (edge : PatternEdge) (o : Option Link) → slice_get (left_edges s.edges) place ≡ Some edge → length front < length (left_nodes s.nodes) →
    IfSome o (λ link. (y : ℕ) (rest : List ℕ) (n : ℕ) → IsImage s.graph (image (s.base_nodes ++ s.nodes) (s.base.nodes ++ (front ++ y ∷ rest))) edge n → IsLinked s.graph link y) →
    IfSome o (λ link. (y : ℕ) (rest : List ℕ) → AreImages s (front ++ y ∷ rest) → IsLinked s.graph link y)
link_whole s front place edge None at short says = tt
link_whole s front place edge (Some link) at short says = λ y rest images.
    let n : ℕ = length (left_nodes s.nodes) in
    let m : ℕ = n - length front - 1 in
    let cut : take n (front ++ y ∷ rest) ≡ front ++ y ∷ take m rest = take_behind front y rest n m (omega arith) in
    let fits : AllZip (IsImage s.graph (image (s.base_nodes ++ s.nodes) (s.base.nodes ++ (front ++ y ∷ take m rest)))) (left_edges s.edges) (drop n (front ++ y ∷ rest)) = rw cut at images.edges_fit in
    let found = some_and (slice_get (drop n (front ++ y ∷ rest)) place) (IsImage s.graph (image (s.base_nodes ++ s.nodes) (s.base.nodes ++ (front ++ y ∷ take m rest))) edge)
    (rw at at (AllZip-left _ (left_edges s.edges) (drop n (front ++ y ∷ rest)) fits place)) in
    says y (take m rest) found.0 found.2

-- what a next number passes over
pub next_passed : (P : ℕ → Type 0) (C : ℕ → List ℕ → Type 0) (from : ℕ) (o : Option ℕ) → IsNextFrom P from o → ((y : ℕ) (rest : List ℕ) → C y rest → P y) →
    IfSome o (λ x. (y : ℕ) → from ≤ y → y < x → (rest : List ℕ) → C y rest → ⊥)
next_passed P C from (Some x) next into = λ y ge lt rest c. next.least y ge lt (into y rest c)
next_passed P C from None next into = tt

pub next_none : (P : ℕ → Type 0) (C : ℕ → List ℕ → Type 0) (from : ℕ) (o : Option ℕ) → IsNextFrom P from o → ((y : ℕ) (rest : List ℕ) → C y rest → P y) →
    IfNone o ((y : ℕ) → from ≤ y → (rest : List ℕ) → C y rest → ⊥)
next_none P C from (Some x) next into = tt
next_none P C from None next into = λ y ge rest c. next y ge (into y rest c)
