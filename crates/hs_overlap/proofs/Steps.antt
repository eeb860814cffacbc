-- What the steps of the search make of a front.
use Rattle.std.proofs.Common.{ℕ, suc, zero, ◌<◌, ◌≡◌, List, [], ◌∷◌, length, refl, sym, ap, ◌∙◌, subst, arith, Contains, Option, Some, None, slice_get, IfSome, true}
use Rattle.std.proofs.lemmas.Option.{same_Some}
use Rattle.hs_types.specs.declared.meta.Metamodel.{Metamodel}
use Rattle.hs_types.specs.declared.rule.Mark.TheVariants.{Drop, Keep, Make}
use Rattle.hs_types.specs.declared.rule.Mark.{Mark}
use Rattle.hs_types.specs.declared.rule.PatternEdge.{PatternEdge}
use Rattle.hs_types.specs.declared.rule.Shape.{Shape}
use Rattle.hs_types.specs.Pattern.{is_left}
use Rattle.hs_overlap.specs.declared.pair.Pair.{Pair}
use Rattle.hs_overlap.specs.declared.pair.Pair.TheVariants.{Node, Edge}
use Rattle.hs_overlap.specs.Contexts.{IsDroppedEdge}
use Rattle.hs_overlap.specs.Overlaps.{EdgesMeet}
use Rattle.hs_overlap.specs.declared.partners.Partners.{Partners}
use Rattle.hs_overlap.specs.Completions.{partner, put, free_count, Joins, IsNearlyClosed, Completes, IsPut, IsSubmap}
use Rattle.hs_overlap.specs.Tests.{CanPair, EdgesFit, EndsPut}
use Rattle.hs_overlap.proofs.Puts.{edge_front, edge_grows, edge_kept, edge_within, node_alone, node_front, node_grows, node_out, node_within, put_here, with_edge}

partners_same : (t : Partners) (ns es : List (Option ℕ)) → t.nodes ≡ ns → t.edges ≡ es → record { nodes = ns; edges = es } ≡ t
partners_same t ns es a b = rw (← a, ← b) refl

module _ (m : Metamodel) (r p : Shape) (span : List Pair) (s : Partners) (front : IsNearlyClosed m r p span s) where
  pub node_put : (i j : ℕ) → partner s.nodes i ≡ None → i < length s.nodes → CanPair m r p s i j → (t : Partners) → t.nodes ≡ put s.nodes i (Some j) → t.edges ≡ s.edges → IsPut m r p span s (Node i j) t
  node_put i j free below can t a b = subst (λ z. IsPut m r p span s (Node i j) z) (partners_same t (put s.nodes i (Some j)) s.edges a b)
      (record { front = node_front m r p span s front i j free below can.out can.alone can.meet; within = node_within m r p span s front i j free below; held = put_here s.nodes i (Some j) below })

  module _ (overlap : List Pair) (g : Completes m r p span s overlap) where
    pub node_grown : (i j : ℕ) → i < length s.nodes → Contains overlap (Node i j) → (t : Partners) → t.nodes ≡ put s.nodes i (Some j) → t.edges ≡ s.edges → Completes m r p span t overlap
    node_grown i j below has t a b = subst (λ z. Completes m r p span z overlap) (partners_same t (put s.nodes i (Some j)) s.edges a b) (node_grows m r p span s front overlap g i j below has)

    pub can_pair : (i j : ℕ) → partner s.nodes i ≡ None → Contains overlap (Node i j) → CanPair m r p s i j
    can_pair i j free has = record { meet = g.closed.nodes i j has; out = node_out m r p span s front overlap g i j free has; alone = node_alone m r p span s front overlap g i j free has }

pub if_some : {A : Type 0} (o : Option A) (P Q : A → Type 0) → ((x : A) → P x → Q x) → IfSome o P → IfSome o Q
if_some None P Q f h = h
if_some (Some x) P Q f h = f x h

pub within_both : (s t u : Partners) → IsSubmap s t → IsSubmap t u → IsSubmap s u
within_both s t u a b = record { nodes = λ i j h. b.nodes i j (a.nodes i j h); edges = λ x y h. b.edges x y (a.edges x y h) }

-- both ends, one after the other
pub ends_put : (m : Metamodel) (r p : Shape) (span : List Pair) (s t u : Partners) (e f : PatternEdge) → IsPut m r p span s (Node e.source f.source) t → IsPut m r p span t (Node e.target f.target) u → EndsPut m r p span s e f u
ends_put m r p span s t u e f a b = record { front = b.front; within = within_both s t u a.within b.within; sources = b.within.nodes e.source f.source a.held; targets = b.held }

keep_is : (mark : Mark) → is_left mark ≡ true → ((mark ≡ Drop) → ⊥) → mark ≡ Keep
keep_is Keep l d = refl
keep_is Drop l d = absurd (d refl)
keep_is Make l d = cc

-- an edge after its ends
pub edge_put : (m : Metamodel) (r p : Shape) (span : List Pair) (s t u : Partners) (e f : PatternEdge) (x y : ℕ) →
    slice_get r.edges x ≡ Some e → slice_get p.edges y ≡ Some f → EdgesFit e f → partner s.edges x ≡ None → ((k : ℕ) → partner s.edges k ≡ Some y → ⊥) →
    EndsPut m r p span s e f t → t.edges ≡ s.edges → x < length t.edges → u.nodes ≡ t.nodes → u.edges ≡ put t.edges x (Some y) → IsPut m r p span s (Edge x y) u
edge_put m r p span s t u e f x y at at' fit free alone ends same below a b =
    let free' : partner t.edges x ≡ None = ap (λ z. partner z x) same ∙ free in
    let kept : IsDroppedEdge r x → ⊥ = λ d. let one : d.edge ≡ e = same_Some d.edge e (sym d.left.at ∙ at) in let both : Drop ≡ Keep = sym d.dropped ∙ ap (λ (z : PatternEdge). z.mark) one ∙ fit.kept in cc in
    let alone' : (k : ℕ) → partner t.edges k ≡ Some y → ⊥ = λ k h. alone k (ap (λ z. partner z k) (sym same) ∙ h) in
    let meet : EdgesMeet (Joins t) r p x y = record { one = e; other = f; first = record { at = at; left = ap is_left fit.kept }; second = record { at = at'; left = fit.left }; same = fit.same; sources = ends.sources; targets = ends.targets } in
    subst (λ z. IsPut m r p span s (Edge x y) z) (partners_same u t.nodes (put t.edges x (Some y)) a b)
    (record {
      front = edge_front m r p span t ends.front x y free' below kept alone' meet;
      within = within_both s t (with_edge t x y) ends.within (edge_within m r p span t ends.front x y free' below);
      held = put_here t.edges x (Some y) below;
    })

pub edge_grown : (m : Metamodel) (r p : Shape) (span : List Pair) (t u : Partners) (overlap : List Pair) (x y : ℕ) → IsNearlyClosed m r p span t → Completes m r p span t overlap → x < length t.edges → Contains overlap (Edge x y) →
    u.nodes ≡ t.nodes → u.edges ≡ put t.edges x (Some y) → Completes m r p span u overlap
edge_grown m r p span t u overlap x y front g below has a b = subst (λ z. Completes m r p span z overlap) (partners_same u t.nodes (put t.edges x (Some y)) a b) (edge_grows m r p span t front overlap g x y below has)

-- what a closed overlap says of two edges that it pairs
pub record EdgesHeld (overlap : List Pair) (e f : PatternEdge) : Type 0 where
  pub fit : EdgesFit e f
  pub sources : Contains overlap (Node e.source f.source)
  pub targets : Contains overlap (Node e.target f.target)

pub edges_held : (m : Metamodel) (r p : Shape) (span : List Pair) (s : Partners) (overlap : List Pair) (x y : ℕ) (e f : PatternEdge) → IsNearlyClosed m r p span s → Completes m r p span s overlap → Contains overlap (Edge x y) → partner s.edges x ≡ None →
    slice_get r.edges x ≡ Some e → slice_get p.edges y ≡ Some f → EdgesHeld overlap e f
edges_held m r p span s overlap x y e f front g has free at at' =
    let n : EdgesMeet (Contains overlap) r p x y = g.closed.edges x y has in
    let one : n.one ≡ e = same_Some n.one e (sym n.first.at ∙ at) in
    let other : n.other ≡ f = same_Some n.other f (sym n.second.at ∙ at') in
    let left : is_left e.mark ≡ true = ap (λ (z : PatternEdge). is_left z.mark) (sym one) ∙ n.first.left in
    let kept : e.mark ≡ Keep = keep_is e.mark left (λ d. edge_kept m r p span s front overlap g x y free has (record { edge = e; left = record { at = at; left = left }; dropped = d })) in
    record {
      fit = record { kept = kept; left = ap (λ (z : PatternEdge). is_left z.mark) (sym other) ∙ n.second.left; same = ap (λ (z : PatternEdge). z.reference) (sym one) ∙ n.same ∙ ap (λ (z : PatternEdge). z.reference) other };
      sources = rw (one, other) at n.sources;
      targets = rw (one, other) at n.targets;
    }

-- a pair of edges stands within both shapes
pub edge_there : (m : Metamodel) (r p : Shape) (span : List Pair) (s : Partners) (overlap : List Pair) (x y : ℕ) → Completes m r p span s overlap → Contains overlap (Edge x y) → EdgesMeet (Contains overlap) r p x y
edge_there m r p span s overlap x y g has = g.closed.edges x y has

pub no_edge : (o : Option PatternEdge) → o ≡ None → (e : PatternEdge) → o ≡ Some e → ⊥
no_edge o a e b = cc

pub free_less : (xs : List (Option ℕ)) (i j : ℕ) → partner xs i ≡ None → i < length xs → free_count (put xs i (Some j)) < free_count xs
free_less [] i j free below = absurd (omega arith)
free_less (None ∷ xs) zero j free below = omega arith
free_less (Some k ∷ xs) zero j free below = cc
free_less (None ∷ xs) (suc i) j free below = let h : free_count (put xs i (Some j)) < free_count xs = free_less xs i j free (omega arith) in omega arith
free_less (Some k ∷ xs) (suc i) j free below = free_less xs i j free (omega arith)
