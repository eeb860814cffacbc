-- The left sides of a rule, of its inverse and of its conditions can occur in a graph.
use Rattle.std.proofs.Common.{◌-◌, ◌⊎◌, map, length, ℕ, suc, zero, ◌<◌, ◌≡◌, List, [], ◌∷◌, ◌++◌, refl, sym, ap, ◌∙◌, subst, inl, inr, arith, Bool, true, Option, Some, None, IsSomeAnd, slice_get}
use Rattle.std.specs.Option.{option_map}
use Rattle.std.proofs.lemmas.Bool.{cases_lt, cases_order}
use Rattle.hs_expr.proofs.Items.{All-at}
use Rattle.hs_expr.proofs.Lists.{slice_get-first, slice_get-last}
use Rattle.std.proofs.lemmas.Option.{same_Some, slice_get-map, slice_get_within}
use Rattle.hs_types.specs.declared.meta.Metamodel.{Metamodel}
use Rattle.hs_types.specs.declared.rule.Mark.{Mark}
use Rattle.hs_types.specs.declared.rule.Mark.TheVariants.{Keep, Drop, Make}
use Rattle.hs_types.specs.declared.rule.Part.{Part}
use Rattle.hs_types.specs.declared.rule.PatternNode.{PatternNode}
use Rattle.hs_types.specs.declared.rule.PatternEdge.{PatternEdge}
use Rattle.hs_types.specs.declared.rule.PatternSlot.{PatternSlot}
use Rattle.hs_types.specs.declared.rule.Rule.{Rule}
use Rattle.hs_types.specs.declared.rule.Shape.{Shape}
use Rattle.hs_types.specs.declared.rule.SlotKind.{SlotKind}
use Rattle.hs_types.specs.declared.rule.SlotKind.TheVariants.{Attribute, Link, Container}
use Rattle.hs_expr.specs.Lists.{EachPair, has}
use Rattle.hs_types.specs.Metamodel.{Conforms, HaveCommon, features_of, target_of}
use Rattle.hs_types.specs.Pattern.{inverse_mark, is_left}
use Rattle.hs_types.specs.RuleForm.{EdgeFits, EndFits, IsPart, IsRule, KindBefore, NodeFits, SlotBefore, inverse, joins}
use Rattle.hs_overlap.specs.LeftSide.{IsLeftNode, with_part}
use Rattle.hs_overlap.specs.Overlaps.{HasFittingEnds, CanOccur}

-- A node that a left edge, or an edge of the inverse, may join.
left_end : (a b : Mark) → is_left a ≡ true → joins a b ≡ true → is_left b ≡ true
left_end Keep Keep l j = refl
left_end Keep Drop l j = refl
left_end Keep Make l j = j
left_end Drop b l j = j
left_end Make b l j = absurd cc

right_end : (a b : Mark) → is_left (inverse_mark a) ≡ true → joins a b ≡ true → is_left (inverse_mark b) ≡ true
right_end Keep Keep l j = refl
right_end Keep Drop l j = j
right_end Keep Make l j = refl
right_end Drop b l j = absurd cc
right_end Make Keep l j = refl
right_end Make Drop l j = j
right_end Make Make l j = refl

abbrev inverse_node : PatternNode → PatternNode
inverse_node v = record { name = v.name; class = v.class; mark = inverse_mark v.mark }

abbrev inverse_edge : PatternEdge → PatternEdge
inverse_edge e = record { source = e.source; reference = e.reference; target = e.target; mark = inverse_mark e.mark }

inverse_mark_twice : (a : Mark) → inverse_mark (inverse_mark a) ≡ a
inverse_mark_twice Keep = refl
inverse_mark_twice Drop = refl
inverse_mark_twice Make = refl

map_twice : {A : Type 0} (f : A → A) → ((x : A) → f (f x) ≡ x) → (xs : List A) → map f (map f xs) ≡ xs
map_twice f twice [] = refl
map_twice f twice (x ∷ xs) = rw (twice x, map_twice f twice xs) refl

pub inverse_twice : (s : Shape) → inverse (inverse s) ≡ s
inverse_twice s = rw (map_twice inverse_node node_twice s.nodes, map_twice inverse_edge edge_twice s.edges) refl
  where
    node_twice : (v : PatternNode) → inverse_node (inverse_node v) ≡ v
    node_twice v = ap (λ (a : Mark). record { name = v.name; class = v.class; mark = a }) (inverse_mark_twice v.mark)

    edge_twice : (e : PatternEdge) → inverse_edge (inverse_edge e) ≡ e
    edge_twice e = ap (λ (a : Mark). record { source = e.source; reference = e.reference; target = e.target; mark = a }) (inverse_mark_twice e.mark)

-- What an item of a list was before the map.
record IsMapped {A : Type 0} (f : A → A) (xs : List A) (i : ℕ) (y : A) : Type 0 where
  what : A
  at : slice_get xs i ≡ Some what
  same : f what ≡ y

of_option : {A : Type 0} (f : A → A) (xs : List A) (i : ℕ) (y : A) (o : Option A) → slice_get xs i ≡ o → option_map f o ≡ Some y → IsMapped f xs i y
of_option f xs i y None e h = absurd cc
of_option f xs i y (Some x) e h = record { what = x; at = e; same = same_Some (f x) y h }

of_map : {A : Type 0} (f : A → A) (xs : List A) (i : ℕ) (y : A) → slice_get (map f xs) i ≡ Some y → IsMapped f xs i y
of_map f xs i y h = of_option f xs i y (slice_get xs i) refl (sym (slice_get-map f xs i) ∙ h)

-- An item of two lists is one of the first, or of the second.
item_of_either : {A : Type 0} (xs ys : List A) (i : ℕ) (x : A) → slice_get (xs ++ ys) i ≡ Some x → (slice_get xs i ≡ Some x) ⊎ (slice_get ys (i - length xs) ≡ Some x)
item_of_either xs ys i x h = elim (cases_lt i (length xs)) [
  | inl near ↦ inl (sym (slice_get-first xs ys i near) ∙ h)
  | inr far ↦ inr (sym (slice_get-last xs ys i far) ∙ h)
]

-- A left node is one of the whole.
whole_node : (s : Shape) (part : Part) (i : ℕ) (v : PatternNode) → IsLeftNode s i v → IsLeftNode (with_part s part) i v
whole_node s part i v h = record { at = slice_get-first s.nodes part.nodes i (slice_get_within s.nodes i v h.at) ∙ h.at; left = h.left }

-- an end that is there, with what is said of its class
record IsEnd (test : Mark → Bool) (P : ℕ → Type 0) (nodes : List PatternNode) (n : ℕ) : Type 0 where
  node : PatternNode
  at : slice_get nodes n ≡ Some node
  passes : test node.mark ≡ true
  fact : P node.class

end_by : (test : Mark → Bool) (P : ℕ → Type 0) (nodes : List PatternNode) (n : ℕ) (o : Option PatternNode) → slice_get nodes n ≡ o → IsSomeAnd o (λ node. (test node.mark ≡ true) × P node.class) → IsEnd test P nodes n
end_by test P nodes n None e h = absurd h
end_by test P nodes n (Some v) e h = record { node = v; at = e; passes = h.0; fact = h.1 }

target_by : (m : Metamodel) (test : Mark → Bool) (nodes : List PatternNode) (n : ℕ) (o : Option ℕ) → IsSomeAnd o (λ class. EndFits test nodes (λ c. Conforms m c class) n) → IsEnd test (λ c. IsSomeAnd o (λ class. Conforms m c class)) nodes n
target_by m test nodes n None h = absurd h
target_by m test nodes n (Some class) h = end_by test (λ c. Conforms m c class) nodes n (slice_get nodes n) refl h

source_end : (m : Metamodel) (test : Mark → Bool) (nodes : List PatternNode) (e : PatternEdge) → EdgeFits m test nodes e → IsEnd test (λ c. has (features_of m c) e.reference ≡ true) nodes e.source
source_end m test nodes e h = end_by test (λ c. has (features_of m c) e.reference ≡ true) nodes e.source (slice_get nodes e.source) refl h.0

target_end : (m : Metamodel) (test : Mark → Bool) (nodes : List PatternNode) (e : PatternEdge) → EdgeFits m test nodes e → IsEnd test (λ c. IsSomeAnd (target_of m e.reference) (λ class. Conforms m c class)) nodes e.target
target_end m test nodes e h = target_by m test nodes e.target (target_of m e.reference) h.1

-- an edge whose ends pass a test that makes them left nodes
ends_fit : (m : Metamodel) (s : Shape) (test : Mark → Bool) (e : PatternEdge) → ((a : Mark) → test a ≡ true → is_left a ≡ true) → EdgeFits m test s.nodes e → HasFittingEnds m s e
ends_fit m s test e left h =
    let a = source_end m test s.nodes e h in
    let b = target_end m test s.nodes e h in
    record { source = a.node; target = b.node; begins = record { at = a.at; left = left a.node.mark a.passes }; ends = record { at = b.at; left = left b.node.mark b.passes }; owns = a.fact; takes = b.fact }

-- what holds between each item and each later one
EachPair-at : {A : Type 0} (R : A → A → Type 0) (xs : List A) (i j : ℕ) (x y : A) → EachPair R xs → slice_get xs i ≡ Some x → slice_get xs j ≡ Some y → i < j → R x y
EachPair-at R [] i j x y h a b l = absurd cc
EachPair-at R (z ∷ zs) zero zero x y h a b l = absurd (omega arith)
EachPair-at R (z ∷ zs) zero (suc j) x y h a b l = subst (λ k. R k y) (same_Some z x a) (All-at (R z) zs j y h.0 b)
EachPair-at R (z ∷ zs) (suc i) zero x y h a b l = absurd (omega arith)
EachPair-at R (z ∷ zs) (suc i) (suc j) x y h a b l = EachPair-at R zs i j x y h.1 a b (omega arith)

not_before_itself : (features : List ℕ) (kind : SlotKind) → KindBefore features kind kind → ⊥
not_before_itself features (Attribute a) h = omega arith
not_before_itself features (Link r) h = omega arith
not_before_itself features Container h = h

kind_apart : (m : Metamodel) (t u : PatternSlot) (o : Option PatternNode) → t.kind ≡ u.kind → IsSomeAnd o (λ node. KindBefore (features_of m node.class) t.kind u.kind) → ⊥
kind_apart m t u None e h = h
kind_apart m t u (Some v) e h = not_before_itself (features_of m v.class) u.kind (subst (λ k. KindBefore (features_of m v.class) k u.kind) e h)

slots_apart : (m : Metamodel) (nodes : List PatternNode) (t u : PatternSlot) → t.node ≡ u.node → t.kind ≡ u.kind → SlotBefore m nodes t u → ⊥
slots_apart m nodes t u e f h = elim h [ inl l ↦ omega arith | inr k ↦ kind_apart m t u (slice_get nodes t.node) f k.1 ]

module _ (m : Metamodel) (rule : Rule) (w : IsRule m rule) where
  slots_once : (k l : ℕ) (t u : PatternSlot) → slice_get rule.shape.slots k ≡ Some t → slice_get rule.shape.slots l ≡ Some u → t.node ≡ u.node → t.kind ≡ u.kind → k ≡ l
  slots_once k l t u a b e f = elim (cases_order k l) [
    | inl same ↦ same
    | inr o ↦ elim o [
      | inl less ↦ absurd (slots_apart m rule.shape.nodes t u e f (EachPair-at (SlotBefore m rule.shape.nodes) rule.shape.slots k l t u w.kernel.form.in_order a b less))
      | inr more ↦ absurd (slots_apart m rule.shape.nodes u t (sym e) (sym f) (EachPair-at (SlotBefore m rule.shape.nodes) rule.shape.slots l k u t w.kernel.form.in_order b a more))
    ]
  ]

  common_at : (i : ℕ) (v : PatternNode) → slice_get rule.shape.nodes i ≡ Some v → HaveCommon m v.class v.class
  common_at i v at = (All-at (NodeFits m) rule.shape.nodes i v w.kernel.form.nodes_fit at).0

  fits_at : (x : ℕ) (e : PatternEdge) → slice_get rule.shape.edges x ≡ Some e → EdgeFits m (joins e.mark) rule.shape.nodes e
  fits_at x e at = All-at (λ e. EdgeFits m (joins e.mark) rule.shape.nodes e) rule.shape.edges x e w.kernel.form.edges_fit at

  pub kernel_occurs : CanOccur m rule.shape
  kernel_occurs = record {
    nodes = λ i v left. common_at i v left.at;
    edges = λ x e left. ends_fit m rule.shape (joins e.mark) e (λ a. left_end e.mark a left.left) (fits_at x e left.at);
    slots = λ k l t u v z a b e f. slots_once k l t u a.at b.at e f;
  }

  in_inverse : (n : ℕ) (v : PatternNode) → slice_get rule.shape.nodes n ≡ Some v → slice_get (inverse rule.shape).nodes n ≡ Some (inverse_node v)
  in_inverse n v at = slice_get-map inverse_node rule.shape.nodes n ∙ ap (λ (o : Option PatternNode). option_map inverse_node o) at

  ends_inverse : (x : ℕ) (e : PatternEdge) → slice_get rule.shape.edges x ≡ Some e → is_left (inverse_mark e.mark) ≡ true → HasFittingEnds m (inverse rule.shape) (inverse_edge e)
  ends_inverse x e at right =
      let a = source_end m (joins e.mark) rule.shape.nodes e (fits_at x e at) in
      let b = target_end m (joins e.mark) rule.shape.nodes e (fits_at x e at) in
      record {
        source = inverse_node a.node;
        target = inverse_node b.node;
        begins = record { at = in_inverse e.source a.node a.at; left = right_end e.mark a.node.mark right a.passes };
        ends = record { at = in_inverse e.target b.node b.at; left = right_end e.mark b.node.mark right b.passes };
        owns = a.fact;
        takes = b.fact;
      }

  pub inverse_occurs : CanOccur m (inverse rule.shape)
  inverse_occurs = record {
    nodes = λ i v left. let h : IsMapped inverse_node rule.shape.nodes i v = of_map inverse_node rule.shape.nodes i v left.at in
        subst (λ z. HaveCommon m z z) (ap (λ (z : PatternNode). z.class) h.same) (common_at i h.what h.at);
    edges = λ x e left. let h : IsMapped inverse_edge rule.shape.edges x e = of_map inverse_edge rule.shape.edges x e left.at in
        subst (λ z. HasFittingEnds m (inverse rule.shape) z) h.same (ends_inverse x h.what h.at (ap (λ (z : PatternEdge). is_left z.mark) h.same ∙ left.left));
    slots = λ k l t u v z a b e f. slots_once k l t u a.at b.at e f;
  }

  -- with a condition's part behind it
  pub whole_occurs : (part : Part) → IsPart m rule part → CanOccur m (with_part rule.shape part)
  whole_occurs part is = record {
    nodes = λ i v left. elim (item_of_either rule.shape.nodes part.nodes i v left.at) [
      | inl a ↦ common_at i v a
      | inr b ↦ (All-at (NodeFits m) part.nodes (i - length rule.shape.nodes) v is.nodes_fit b).0
    ];
    edges = λ x e left. elim (item_of_either rule.shape.edges part.edges x e left.at) [
      | inl a ↦ whole_ends e (kernel_occurs.edges x e (record { at = a; left = left.left }))
      | inr b ↦ ends_fit m (with_part rule.shape part) is_left e (λ a l. l) (All-at (EdgeFits m is_left (rule.shape.nodes ++ part.nodes)) part.edges (x - length rule.shape.edges) e is.edges_fit b)
    ];
    slots = λ k l t u v z a b e f. slots_once k l t u a.at b.at e f;
  }
    where
      whole_ends : (e : PatternEdge) → HasFittingEnds m rule.shape e → HasFittingEnds m (with_part rule.shape part) e
      whole_ends e h = record { source = h.source; target = h.target; begins = whole_node rule.shape part e.source h.source h.begins; ends = whole_node rule.shape part e.target h.target h.ends; owns = h.owns; takes = h.takes }
