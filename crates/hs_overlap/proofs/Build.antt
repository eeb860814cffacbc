-- The typed graph of a closed overlap.
use Rattle.std.proofs.Common.{ℕ, suc, zero, ◌<◌, ◌≡◌, ◌⊎◌, List, [], ◌∷◌, length, get_or, refl, sym, ap, ◌∙◌, subst, inl, inr, arith, true, Option, Some, None, slice_get}
use Rattle.std.proofs.lemmas.Option.{same_Some, slice_get_within}
use Rattle.std.proofs.lemmas.Bool.{cases_eq}
use Rattle.hs_types.specs.declared.rule.PatternNode.{PatternNode}
use Rattle.hs_types.specs.declared.rule.PatternEdge.{PatternEdge}
use Rattle.hs_types.specs.declared.rule.Shape.{Shape}
use Rattle.hs_types.specs.declared.graph.Graph.{Graph}
use Rattle.hs_types.specs.declared.meta.Metamodel.{Metamodel}
use Rattle.hs_types.specs.TypedGraph.{IsTyped}
use Rattle.hs_overlap.specs.LeftSide.{IsLeftNode, IsLeftEdge}
use Rattle.hs_overlap.specs.Maps.{Map}
use Rattle.hs_types.specs.declared.graph.Edge.{Edge}
use Rattle.hs_types.specs.declared.graph.Object.{Object}
use Rattle.hs_types.specs.Metamodel.{Conforms, HaveCommon, IsConcrete, IsMeta, features_of, target_of}
use Rattle.hs_expr.specs.Lists.{has}
use Rattle.hs_types.specs.TypedGraph.{IsOf, object_numbered}
use Rattle.hs_overlap.specs.Overlaps.{HasFittingEnds, CanOccur}
use Rattle.hs_overlap.proofs.Decided.{Decided, some_below}
use Rattle.hs_overlap.proofs.DefaultSlots.{default_slots, default_slots-fit}
use Rattle.hs_overlap.proofs.LeftElements.{edge_here, node_here, left_node_same, left_edge_same}
use Rattle.hs_overlap.proofs.Joined.{Agree, ComesFrom, HasLink, IsGluing, IsLaid}
use Rattle.hs_overlap.proofs.Tables.{table, table_all, table_at, table_pairs, table_past, table_rises}
use Rattle.std.proofs.Common.{eqb, replicate}
use Rattle.std.specs.List.{find}
use Rattle.std.specs.Option.{option_map}
use Rattle.std.proofs.lemmas.List.{length-replicate}
use Rattle.std.proofs.lemmas.List.Elements.{All-map}
use Rattle.hs_types.specs.Metamodel.{fits}
use Rattle.std.proofs.Common.{map, IsSomeAnd}
use Rattle.std.proofs.lemmas.Bool.{cases_lt}
use Rattle.hs_types.specs.TypedGraph.{AreSlotsOf, CanJoin, HasFeature, Stands, hash_name}
use Rattle.hs_expr.specs.Lists.{Differ, EachPair}

-- What is used of the law that conformance is an order.
pub record Inherits (m : Metamodel) : Type 0 where
  pub transitive : (a b c : ℕ) → Conforms m a b → Conforms m b c → Conforms m a c
  pub features : (c d f : ℕ) → Conforms m c d → has (features_of m d) f ≡ true → has (features_of m c) f ≡ true

-- Images that differ.
Differ-map : {A B : Type 0} (f : A → B) (xs : List A) → EachPair (λ x y. f x ≡ f y → ⊥) xs → Differ (map f xs)
Differ-map f [] h = tt
Differ-map f (x ∷ xs) h = (All-map (λ y. f x ≡ y → ⊥) f xs h.0, Differ-map f xs h.1)

-- what is said of the entry at k
abbrev pub Says : {A : Type 0} → (ℕ → A → Type 0) → ℕ → Option A → Type 0
Says {A} P k None = Unit {0}
Says P k (Some a) = P k a

-- a left node of the shape whose image is k
pub record NodeOn (s : Shape) (m : Map) (k : ℕ) : Type 0 where
  pub node : ℕ
  pub what : PatternNode
  pub left : IsLeftNode s node what
  pub image : m.node node ≡ k

pub record EdgeOn (s : Shape) (m : Map) (k : ℕ) : Type 0 where
  pub edge : ℕ
  pub what : PatternEdge
  pub left : IsLeftEdge s edge what
  pub image : m.edge edge ≡ k

node_on_here : (s : Shape) (m : Map) (k i : ℕ) → Decided ((v : PatternNode) × IsLeftNode s i v × (m.node i ≡ k))
node_on_here s m k i = elim (cases_eq (m.node i) k) [
  | inl e ↦ elim (node_here s i (slice_get s.nodes i) refl) [ inl h ↦ inl (h.0, h.1, e) | inr none ↦ inr (λ h. none (h.0, h.1)) ]
  | inr ne ↦ inr (λ h. ne h.2)
]

edge_on_here : (s : Shape) (m : Map) (k x : ℕ) → Decided ((e : PatternEdge) × IsLeftEdge s x e × (m.edge x ≡ k))
edge_on_here s m k x = elim (cases_eq (m.edge x) k) [
  | inl e ↦ elim (edge_here s x (slice_get s.edges x) refl) [ inl h ↦ inl (h.0, h.1, e) | inr none ↦ inr (λ h. none (h.0, h.1)) ]
  | inr ne ↦ inr (λ h. ne h.2)
]

pub node_on : (s : Shape) (m : Map) (k : ℕ) → Decided (NodeOn s m k)
node_on s m k = elim (some_below (λ i. (v : PatternNode) × IsLeftNode s i v × (m.node i ≡ k)) (node_on_here s m k) (length s.nodes)) [
  | inl h ↦ inl (record { node = h.0; what = h.2.0; left = h.2.1; image = h.2.2 })
  | inr none ↦ inr (λ w. none w.node (slice_get_within s.nodes w.node w.what w.left.at) (w.what, w.left, w.image))
]

pub edge_on : (s : Shape) (m : Map) (k : ℕ) → Decided (EdgeOn s m k)
edge_on s m k = elim (some_below (λ x. (e : PatternEdge) × IsLeftEdge s x e × (m.edge x ≡ k)) (edge_on_here s m k) (length s.edges)) [
  | inl h ↦ inl (record { edge = h.0; what = h.2.0; left = h.2.1; image = h.2.2 })
  | inr none ↦ inr (λ w. none w.edge (slice_get_within s.edges w.edge w.what w.left.at) (w.what, w.left, w.image))
]

-- the source, reference and target of a link
pub record Body : Type 0 where
  pub source : ℕ
  pub reference : ℕ
  pub target : ℕ

pub body_of : Map → PatternEdge → Body
body_of m e = record { source = m.node e.source; reference = e.reference; target = m.node e.target }

module _ (meta : Metamodel) (s : Shape) (m : Map) (t : Shape) (n : Map) (is_meta : IsMeta meta) (inherits : Inherits meta) (objects links : ℕ) (formed : CanOccur meta s) (formed' : CanOccur meta t) (laid : IsLaid s m objects links) (laid' : IsLaid t n objects links) (agree : Agree meta s m t n) where
  -- class c suits all that lies on object k
  record Suits (k c : ℕ) : Type 0 where
    concrete : IsConcrete meta c
    first : (i : ℕ) (v : PatternNode) → IsLeftNode s i v → m.node i ≡ k → Conforms meta c v.class
    second : (j : ℕ) (w : PatternNode) → IsLeftNode t j w → n.node j ≡ k → Conforms meta c w.class

  -- the class of object k, and none where nothing lies on it
  record ObjectAt (k : ℕ) : Type 0 where
    class : Option ℕ
    suits : Says Suits k class
    first : NodeOn s m k → (c : ℕ) × (class ≡ Some c)
    second : NodeOn t n k → (c : ℕ) × (class ≡ Some c)

  suits_first : (k : ℕ) (a : NodeOn s m k) → (c : ℕ) → Conforms meta c a.what.class → (i : ℕ) (v : PatternNode) → IsLeftNode s i v → m.node i ≡ k → Conforms meta c v.class
  suits_first k a c fits i v left at =
      let here : a.node ≡ i = laid.nodes a.node i a.what v a.left left (a.image ∙ sym at) in
      let same : a.what ≡ v = left_node_same s i a.what v (rw here at a.left) left in
      rw same at fits

  suits_second : (k : ℕ) (a : NodeOn t n k) → (c : ℕ) → Conforms meta c a.what.class → (j : ℕ) (w : PatternNode) → IsLeftNode t j w → n.node j ≡ k → Conforms meta c w.class
  suits_second k a c fits i v left at =
      let here : a.node ≡ i = laid'.nodes a.node i a.what v a.left left (a.image ∙ sym at) in
      let same : a.what ≡ v = left_node_same t i a.what v (rw here at a.left) left in
      rw same at fits

  object_at_place : (k : ℕ) → ObjectAt k
  object_at_place k = elim (node_on s m k) [
    | inl a ↦ elim (node_on t n k) [
      | inl b ↦ let h : HaveCommon meta a.what.class b.what.class = agree.nodes a.node b.node a.what b.what a.left b.left (a.image ∙ sym b.image) in
          record { class = Some h.0; suits = record { concrete = h.1; first = suits_first k a h.0 h.2; second = suits_second k b h.0 h.3 }; first = λ _. (h.0, refl); second = λ _. (h.0, refl) }
      | inr none ↦ let h : HaveCommon meta a.what.class a.what.class = formed.nodes a.node a.what a.left in
          record { class = Some h.0; suits = record { concrete = h.1; first = suits_first k a h.0 h.2; second = λ j w left at. absurd (none (record { node = j; what = w; left = left; image = at })) }; first = λ _. (h.0, refl); second = λ _. (h.0, refl) }
    ]
    | inr away ↦ elim (node_on t n k) [
      | inl b ↦ let h : HaveCommon meta b.what.class b.what.class = formed'.nodes b.node b.what b.left in
          record { class = Some h.0; suits = record { concrete = h.1; first = λ i v left at. absurd (away (record { node = i; what = v; left = left; image = at })); second = suits_second k b h.0 h.3 }; first = λ _. (h.0, refl); second = λ _. (h.0, refl) }
      | inr none ↦ record { class = None; suits = tt; first = λ a. absurd (away a); second = λ b. absurd (none b) }
    ]
  ]

  -- a body suits all that lies on link k, and something lies there
  record LinkLeads (k : ℕ) (body : Body) : Type 0 where
    first : (x : ℕ) (e : PatternEdge) → IsLeftEdge s x e → m.edge x ≡ k → body ≡ body_of m e
    second : (y : ℕ) (f : PatternEdge) → IsLeftEdge t y f → n.edge y ≡ k → body ≡ body_of n f
    from : ((a : EdgeOn s m k) × (body ≡ body_of m a.what)) ⊎ ((b : EdgeOn t n k) × (body ≡ body_of n b.what))

  record LinkAt (k : ℕ) : Type 0 where
    body : Option Body
    leads : Says LinkLeads k body
    first : EdgeOn s m k → (b : Body) × (body ≡ Some b)
    second : EdgeOn t n k → (b : Body) × (body ≡ Some b)

  leads_first : (k : ℕ) (a : EdgeOn s m k) → (x : ℕ) (e : PatternEdge) → IsLeftEdge s x e → m.edge x ≡ k → body_of m a.what ≡ body_of m e
  leads_first k a x e left at =
      let here : a.edge ≡ x = laid.edges a.edge x a.what e a.left left (a.image ∙ sym at) in
      let same : a.what ≡ e = left_edge_same s x a.what e (rw here at a.left) left in
      ap (body_of m) same

  leads_second : (k : ℕ) (a : EdgeOn t n k) → (y : ℕ) (f : PatternEdge) → IsLeftEdge t y f → n.edge y ≡ k → body_of n a.what ≡ body_of n f
  leads_second k a x e left at =
      let here : a.edge ≡ x = laid'.edges a.edge x a.what e a.left left (a.image ∙ sym at) in
      let same : a.what ≡ e = left_edge_same t x a.what e (rw here at a.left) left in
      ap (body_of n) same

  leads_across : (k : ℕ) (a : EdgeOn s m k) (b : EdgeOn t n k) → body_of m a.what ≡ body_of n b.what
  unfolding body_of
  leads_across k a b =
      let same : m.edge a.edge ≡ n.edge b.edge = a.image ∙ sym b.image in
      let sources : m.node a.what.source ≡ n.node b.what.source = agree.sources a.edge b.edge a.what b.what a.left b.left same in
      let targets : m.node a.what.target ≡ n.node b.what.target = agree.targets a.edge b.edge a.what b.what a.left b.left same in
      let references : a.what.reference ≡ b.what.reference = agree.references a.edge b.edge a.what b.what a.left b.left same in
      cc

  link_at : (k : ℕ) → LinkAt k
  link_at k = elim (edge_on s m k) [
    | inl a ↦ record {
      body = Some (body_of m a.what);
      leads = record { first = leads_first k a; second = λ y f left at. leads_across k a (record { edge = y; what = f; left = left; image = at }); from = inl (a, refl) };
      first = λ _. (body_of m a.what, refl);
      second = λ _. (body_of m a.what, refl);
    }
    | inr away ↦ elim (edge_on t n k) [
      | inl b ↦ record {
        body = Some (body_of n b.what);
        leads = record { first = λ x e left at. absurd (away (record { edge = x; what = e; left = left; image = at })); second = leads_second k b; from = inr (b, refl) };
        first = λ _. (body_of n b.what, refl);
        second = λ _. (body_of n b.what, refl);
      }
      | inr none ↦ record { body = None; leads = tt; first = λ a. absurd (away a); second = λ b. absurd (none b) }
    ]
  ]

  class_at : ℕ → Option ℕ
  class_at k = (object_at_place k).class

  body_at : ℕ → Option Body
  body_at k = (link_at k).body

  make_object : ℕ → ℕ → Object
  make_object k c = record { number = k; name = replicate (suc k) 97; class = c; slots = default_slots meta c }

  make_link : ℕ → Body → Edge
  make_link k b = record { number = k; source = b.source; reference = b.reference; target = b.target }

  pub graph_of : Graph
  graph_of = record {
    objects = table make_object class_at objects;
    edges = table make_link body_at links;
    next_object = objects;
    next_edge = links;
    next_name = 0;
  }

  number_of_object : (k c : ℕ) → (make_object k c).number ≡ k
  unfolding make_object
  number_of_object k c = refl

  number_of_link : (k : ℕ) (b : Body) → (make_link k b).number ≡ k
  unfolding make_link
  number_of_link k b = refl

  -- what stands at a number
  stands_at : (k c : ℕ) → k < objects → class_at k ≡ Some c → object_numbered graph_of k ≡ Some (make_object k c)
  unfolding graph_of
  stands_at k c l e = table_at make_object (λ (x : Object). x.number) number_of_object class_at objects k l ∙ ap (option_map (make_object k)) e

  class_stands : (P : ℕ → Type 0) (k c : ℕ) → k < objects → class_at k ≡ Some c → P c → Stands graph_of P k
  unfolding make_object
  class_stands P k c l e p = subst (λ (o : Option Object). IsSomeAnd o (λ object. P object.class)) (sym (stands_at k c l e)) p

  joins_at : (k : ℕ) (b : Body) → k < links → body_at k ≡ Some b → HasLink graph_of k b.source b.reference b.target
  unfolding graph_of make_link
  joins_at k b l e = table_at make_link (λ (x : Edge). x.number) number_of_link body_at links k l ∙ ap (option_map (make_link k)) e

  -- images of nodes
  record Found (k : ℕ) (v : PatternNode) : Type 0 where
    class : ℕ
    at : class_at k ≡ Some class
    conforms : Conforms meta class v.class
    below : k < objects

  found_first : (i : ℕ) (v : PatternNode) → IsLeftNode s i v → Found (m.node i) v
  unfolding class_at
  found_first i v left =
      let at : ObjectAt (m.node i) = object_at_place (m.node i) in
      let some : (c : ℕ) × (at.class ≡ Some c) = at.first (record { node = i; what = v; left = left; image = refl }) in
      let suits : Suits (m.node i) some.0 = rw some.1 at at.suits in
      record { class = some.0; at = some.1; conforms = suits.first i v left refl; below = laid.objects_below i v left }

  found_second : (j : ℕ) (w : PatternNode) → IsLeftNode t j w → Found (n.node j) w
  unfolding class_at
  found_second j w left =
      let at : ObjectAt (n.node j) = object_at_place (n.node j) in
      let some : (c : ℕ) × (at.class ≡ Some c) = at.second (record { node = j; what = w; left = left; image = refl }) in
      let suits : Suits (n.node j) some.0 = rw some.1 at at.suits in
      record { class = some.0; at = some.1; conforms = suits.second j w left refl; below = laid'.objects_below j w left }

  image_first : (i : ℕ) (v : PatternNode) → IsLeftNode s i v → IsOf meta graph_of v.class (m.node i)
  image_first i v left = let f : Found (m.node i) v = found_first i v left in class_stands (λ c. Conforms meta c v.class) (m.node i) f.class f.below f.at f.conforms

  image_second : (j : ℕ) (w : PatternNode) → IsLeftNode t j w → IsOf meta graph_of w.class (n.node j)
  image_second j w left = let f : Found (n.node j) w = found_second j w left in class_stands (λ c. Conforms meta c w.class) (n.node j) f.class f.below f.at f.conforms

  link_body : (k : ℕ) (b c : Body) → k < links → body_at k ≡ Some b → b ≡ c → HasLink graph_of k c.source c.reference c.target
  link_body k b c l e same = joins_at k c l (e ∙ ap (λ (x : Body). Some x) same)

  edge_first : (x : ℕ) (e : PatternEdge) → IsLeftEdge s x e → HasLink graph_of (m.edge x) (m.node e.source) e.reference (m.node e.target)
  unfolding body_of body_at
  edge_first x e left =
      let at : LinkAt (m.edge x) = link_at (m.edge x) in
      let some : (b : Body) × (at.body ≡ Some b) = at.first (record { edge = x; what = e; left = left; image = refl }) in
      let leads : LinkLeads (m.edge x) some.0 = rw some.1 at at.leads in
      link_body (m.edge x) some.0 (body_of m e) (laid.links_below x e left) some.1 (leads.first x e left refl)

  edge_second : (y : ℕ) (f : PatternEdge) → IsLeftEdge t y f → HasLink graph_of (n.edge y) (n.node f.source) f.reference (n.node f.target)
  unfolding body_of body_at
  edge_second y f left =
      let at : LinkAt (n.edge y) = link_at (n.edge y) in
      let some : (b : Body) × (at.body ≡ Some b) = at.second (record { edge = y; what = f; left = left; image = refl }) in
      let leads : LinkLeads (n.edge y) some.0 = rw some.1 at at.leads in
      link_body (n.edge y) some.0 (body_of n f) (laid'.links_below y f left) some.1 (leads.second y f left refl)

  from_first : (k : ℕ) (b : Body) (o : EdgeOn s m k) → b ≡ body_of m o.what → ComesFrom s m k b.source b.reference b.target
  unfolding body_of
  from_first k b o e = record { edge = o.edge; what = o.what; left = o.left; image = o.image; source = ap (λ (x : Body). x.source) e; reference = ap (λ (x : Body). x.reference) e; target = ap (λ (x : Body). x.target) e }

  from_second : (k : ℕ) (b : Body) (o : EdgeOn t n k) → b ≡ body_of n o.what → ComesFrom t n k b.source b.reference b.target
  unfolding body_of
  from_second k b o e = record { edge = o.edge; what = o.what; left = o.left; image = o.image; source = ap (λ (x : Body). x.source) e; reference = ap (λ (x : Body). x.reference) e; target = ap (λ (x : Body). x.target) e }

  comes : (k : ℕ) (b : Body) → body_at k ≡ Some b → ComesFrom s m k b.source b.reference b.target ⊎ ComesFrom t n k b.source b.reference b.target
  unfolding body_at
  comes k b e =
      let leads : LinkLeads k b = rw e at ((link_at k).leads) in
      elim leads.from [ inl h ↦ inl (from_first k b h.0 h.1) | inr h ↦ inr (from_second k b h.0 h.1) ]

  only_by : (k a r b : ℕ) (o : Option Body) → body_at k ≡ o → option_map (make_link k) o ≡ Some (record { number = k; source = a; reference = r; target = b }) → ComesFrom s m k a r b ⊎ ComesFrom t n k a r b
  unfolding make_link
  only_by k a r b None e h = absurd cc
  only_by k a r b (Some body) e h =
      let same = same_Some (record { number = k; source = body.source; reference = body.reference; target = body.target }) (record { number = k; source = a; reference = r; target = b }) h in
      moved body.source a body.reference r body.target b (ap (λ (x : Edge). x.source) same) (ap (λ (x : Edge). x.reference) same) (ap (λ (x : Edge). x.target) same) (comes k body e)
    where
      moved : (a a' r r' b b' : ℕ) → a ≡ a' → r ≡ r' → b ≡ b' → ComesFrom s m k a r b ⊎ ComesFrom t n k a r b → ComesFrom s m k a' r' b' ⊎ ComesFrom t n k a' r' b'
      moved a a' r r' b b' e f g h = rw (e, f, g) at h

  only : (k a r b : ℕ) → HasLink graph_of k a r b → ComesFrom s m k a r b ⊎ ComesFrom t n k a r b
  unfolding graph_of
  only k a r b h = elim (cases_lt k links) [
    | inl l ↦ only_by k a r b (body_at k) refl (sym (table_at make_link (λ (x : Edge). x.number) number_of_link body_at links k l) ∙ h)
    | inr l ↦ let none : find (λ x. eqb x.number k) (table make_link body_at links) ≡ None = table_past make_link (λ (x : Edge). x.number) number_of_link body_at links k l in absurd (never (record { number = k; source = a; reference = r; target = b }) (sym none ∙ h))
  ]
    where
      never : (e : Edge) → ◌≡◌ {A = Option Edge} None (Some e) → ⊥
      never e h = cc

  pub graph_glued : IsGluing meta graph_of s m t n
  graph_glued = record { first_nodes = image_first; second_nodes = image_second; first_edges = edge_first; second_edges = edge_second; only = only }

  target_joins : (k : ℕ) (v : PatternNode) → Found k v → (o : Option ℕ) → IsSomeAnd o (λ class. Conforms meta v.class class) → IsSomeAnd o (λ class. IsOf meta graph_of class k)
  target_joins k v f None h = h
  target_joins k v f (Some class) h = class_stands (λ z. Conforms meta z class) k f.class f.below f.at (inherits.transitive f.class v.class class f.conforms h)

  -- the ends of an edge suit it
  joins_first : (k a r b : ℕ) → ComesFrom s m k a r b → CanJoin meta graph_of a r b
  joins_first k a r b c =
      let ends : HasFittingEnds meta s c.what = formed.edges c.edge c.what c.left in
      let one : Found (m.node c.what.source) ends.source = found_first c.what.source ends.source ends.begins in
      let two : Found (m.node c.what.target) ends.target = found_first c.what.target ends.target ends.ends in
      let owner : HasFeature meta graph_of c.what.reference (m.node c.what.source) = class_stands (λ z. has (features_of meta z) c.what.reference ≡ true) (m.node c.what.source) one.class one.below one.at (inherits.features one.class ends.source.class c.what.reference one.conforms ends.owns) in
      rw (c.source, c.reference, c.target) (owner, target_joins (m.node c.what.target) ends.target two (target_of meta c.what.reference) ends.takes)

  joins_second : (k a r b : ℕ) → ComesFrom t n k a r b → CanJoin meta graph_of a r b
  joins_second k a r b c =
      let ends : HasFittingEnds meta t c.what = formed'.edges c.edge c.what c.left in
      let one : Found (n.node c.what.source) ends.source = found_second c.what.source ends.source ends.begins in
      let two : Found (n.node c.what.target) ends.target = found_second c.what.target ends.target ends.ends in
      let owner : HasFeature meta graph_of c.what.reference (n.node c.what.source) = class_stands (λ z. has (features_of meta z) c.what.reference ≡ true) (n.node c.what.source) one.class one.below one.at (inherits.features one.class ends.source.class c.what.reference one.conforms ends.owns) in
      rw (c.source, c.reference, c.target) (owner, target_joins (n.node c.what.target) ends.target two (target_of meta c.what.reference) ends.takes)

  class_concrete : (k c : ℕ) → class_at k ≡ Some c → IsConcrete meta c
  unfolding class_at
  class_concrete k c e = let suits : Suits k c = rw e at ((object_at_place k).suits) in suits.concrete

  object_fits : (k c : ℕ) → class_at k ≡ Some c → AreSlotsOf meta (make_object k c).class (make_object k c).slots
  unfolding make_object
  object_fits k c e = default_slots-fit meta c is_meta (class_concrete k c e)

  link_fits : (k : ℕ) (b : Body) → body_at k ≡ Some b → CanJoin meta graph_of (make_link k b).source (make_link k b).reference (make_link k b).target
  unfolding make_link
  link_fits k b e = elim (comes k b e) [ inl c ↦ joins_first k b.source b.reference b.target c | inr c ↦ joins_second k b.source b.reference b.target c ]

  names_apart : (k l a b : ℕ) → k < l → (make_object k a).name ≡ (make_object l b).name → ⊥
  unfolding make_object
  names_apart k l a b less e =
      let one : suc k ≡ suc l = sym (length-replicate (suc k) 97) ∙ ap length e ∙ length-replicate (suc l) 97 in omega arith

  no_sign : (k c j : ℕ) → (make_object k c).name ≡ hash_name j → ⊥
  unfolding make_object
  no_sign k c zero e = let head : ◌≡◌ {A = ℕ} 97 35 = ap (λ xs. get_or xs 0 0) e in omega arith
  no_sign k c (suc j) e = let head : ◌≡◌ {A = ℕ} 97 35 = ap (λ xs. get_or xs 0 0) e in omega arith

  pub graph_typed : IsTyped meta graph_of
  unfolding graph_of
  graph_typed = record {
    objects_rise = table_rises make_object (λ (x : Object). x.number) number_of_object class_at objects;
    edges_rise = table_rises make_link (λ (x : Edge). x.number) number_of_link body_at links;
    names_differ = Differ-map (λ (x : Object). x.name) (table make_object class_at objects) (table_pairs make_object (λ (x : Object). x.number) number_of_object class_at (λ x y. x.name ≡ y.name → ⊥) objects (λ k l a b less. names_apart k l a b less));
    names_below = table_all make_object (λ (x : Object). x.number) number_of_object class_at (λ object. (k : ℕ) → object.name ≡ hash_name k → k < 0) objects (λ k c l e j h. absurd (no_sign k c j h));
    objects_fit = table_all make_object (λ (x : Object). x.number) number_of_object class_at (λ object. AreSlotsOf meta object.class object.slots) objects (λ k c l e. object_fits k c e);
    edges_fit = table_all make_link (λ (x : Edge). x.number) number_of_link body_at (λ edge. CanJoin meta graph_of edge.source edge.reference edge.target) links (λ k b l e. link_fits k b e);
  }
