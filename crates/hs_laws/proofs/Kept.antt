-- Matches and extensions in the graph after a step.
use Rattle.std.proofs.Common.{ℕ, ◌+◌, ◌<◌, ◌≡◌, inl, inr, List, [], ◌∷◌, ◌++◌, true, false, not, ◌||◌, ◌&&◌, eqb, Some, refl, subst}
use Rattle.std.specs.List.{All, AllZip, filter, list_any}
use Rattle.std.proofs.lemmas.Bool.{both_ways, eqb-true, or_cases, or_from, or_parts, and_right, and_parts}
use Rattle.std.proofs.lemmas.List.Elements.{All-nil, All-cons, All-head, All-tail, All-append, All-filter}
use Rattle.hs_types.specs.declared.graph.Edge.{Edge}
use Rattle.hs_types.specs.declared.graph.Graph.{Graph}
use Rattle.hs_types.specs.declared.graph.Object.{Object}
use Rattle.hs_types.specs.declared.matching.Extension.{Extension}
use Rattle.hs_types.specs.declared.meta.Metamodel.{Metamodel}
use Rattle.hs_types.specs.declared.plan.MadeEdge.{MadeEdge}
use Rattle.hs_types.specs.Plan.{Plan}
use Rattle.hs_types.specs.declared.plan.Write.{Write}
use Rattle.hs_types.specs.declared.rule.PatternEdge.{PatternEdge}
use Rattle.hs_types.specs.declared.rule.PatternNode.{PatternNode}
use Rattle.hs_types.specs.declared.rule.PatternSlot.{PatternSlot}
use Rattle.hs_types.specs.declared.rule.Shape.{Shape}
use Rattle.hs_types.specs.declared.rule.SlotKind.{SlotKind}
use Rattle.hs_types.specs.Dangling.{NoneDangle}
use Rattle.hs_expr.specs.Lists.{has, Apart}
use Rattle.hs_types.specs.Metamodel.{Conforms}
use Rattle.hs_types.specs.Pattern.{is_kind, is_left, left_nodes, left_edges}
use Rattle.hs_types.specs.PlainMatch.{image, IsImage, Extends}
use Rattle.hs_types.specs.RuleForm.{has_slot}
use Rattle.hs_types.specs.Spares.{IsOld, MakesNone}
use Rattle.hs_types.specs.Step.{is_to, new_edges, number_of, step}
use Rattle.hs_types.specs.TypedGraph.{object_numbered, value_at, IsOf}
use Rattle.hs_types.proofs.Lookups.{object_there}
use Rattle.hs_types.proofs.SlotKinds.{is_kind-same}
use Rattle.hs_laws.proofs.Images.{FitsNode, IsLeft, image-all}
use Rattle.hs_expr.proofs.Lists.{All-both, AllZip-with, AllZip-items, AllZip-right}
use Rattle.hs_types.proofs.AfterStep.{Stands-kept, Stands-old, edge_numbered-kept, edge-old, object-unmade, edge-unmade, value_at-kept}

-- It is not dropped.
abbrev pub Stays : List ℕ → ℕ → Type 0
Stays drops n = has drops n ≡ false

abbrev edge_of : (ℕ → ℕ) → PatternEdge → ℕ → Edge
edge_of at a n = record { number = n; source = at a.source; reference = a.reference; target = at a.target }

-- An extension of which nothing is dropped stays one.
pub Extends-kept : (m : Metamodel) (g : Graph) (p : Plan) (s : Shape) (f : Extension) (t : Shape) (x : Extension) → Apart x.nodes p.drop_objects → Apart x.edges p.drop_edges → Extends m g s f t x → Extends m (step g p) s f t x
Extends-kept m g p s f t x a b h =
    let at : ℕ → ℕ = image (s.nodes ++ t.nodes) (f.nodes ++ x.nodes) in
    record {
      nodes_fit = AllZip-with (Stays p.drop_objects) (FitsNode m g) (FitsNode m (step g p)) (λ node n d k. Stands-kept (λ c. Conforms m c node.class) g p n d k) (left_nodes t.nodes) x.nodes a h.nodes_fit;
      edges_fit = AllZip-with (Stays p.drop_edges) (IsImage g at) (IsImage (step g p) at) (λ y n d k. edge_numbered-kept g p n (edge_of at y n) d k) (left_edges t.edges) x.edges b h.edges_fit;
      nodes_differ = h.nodes_differ;
      edges_differ = h.edges_differ;
    }

-- An extension of old objects and edges was one before.
pub Extends-old : (m : Metamodel) (g : Graph) (p : Plan) (s : Shape) (f : Extension) (t : Shape) (x : Extension) → IsOld g x → Extends m (step g p) s f t x → Extends m g s f t x
Extends-old m g p s f t x old h =
    let at : ℕ → ℕ = image (s.nodes ++ t.nodes) (f.nodes ++ x.nodes) in
    record {
      nodes_fit = AllZip-with (λ n. n < g.next_object) (FitsNode m (step g p)) (FitsNode m g) (λ node n l k. (Stands-old (λ c. Conforms m c node.class) g p n l k).1) (left_nodes t.nodes) x.nodes old.nodes h.nodes_fit;
      edges_fit = AllZip-with (λ n. n < g.next_edge) (IsImage (step g p) at) (IsImage g at) (λ y n l k. edge-old g p n (edge_of at y n) l k) (left_edges t.edges) x.edges old.edges h.edges_fit;
      nodes_differ = h.nodes_differ;
      edges_differ = h.edges_differ;
    }

-- An extension onto kinds of which nothing is made was one before, and its objects were not dropped.
pub Extends-unmade : (m : Metamodel) (g : Graph) (p : Plan) (s : Shape) (f : Extension) (t : Shape) (x : Extension) → MakesNone m p t → Extends m (step g p) s f t x → Extends m g s f t x × Apart x.nodes p.drop_objects
Extends-unmade m g p s f t x none h =
    let at : ℕ → ℕ = image (s.nodes ++ t.nodes) (f.nodes ++ x.nodes) in
    let P : PatternNode → Type 0 = λ node. All (λ o. Conforms m o.class node.class → ⊥) p.make_objects in
    let Q : PatternEdge → Type 0 = λ a. All (λ e. e.reference ≡ a.reference → ⊥) p.make_edges in
    let R : PatternNode → ℕ → Type 0 = λ node n. (has p.drop_objects n ≡ false) × IsOf m g node.class n in
    let both : AllZip R (left_nodes t.nodes) x.nodes = AllZip-items P (FitsNode m (step g p)) R (λ node n made k. object-unmade m g p node.class n made k) (left_nodes t.nodes) x.nodes (All-filter (λ n. is_left n.mark) P t.nodes none.objects) h.nodes_fit in
    let stay : Apart x.nodes p.drop_objects = AllZip-right R (Stays p.drop_objects) (λ node n k. k.0) (left_nodes t.nodes) x.nodes both in (
      record {
        nodes_fit = AllZip-with (Stays p.drop_objects) R (FitsNode m g) (λ node n d k. k.1) (left_nodes t.nodes) x.nodes stay both;
        edges_fit = AllZip-items Q (IsImage (step g p) at) (IsImage g at) (λ y n made k. edge-unmade g p n (edge_of at y n) made k) (left_edges t.edges) x.edges (All-filter (λ a. is_left a.mark) Q t.edges none.edges) h.edges_fit;
        nodes_differ = h.nodes_differ;
        edges_differ = h.edges_differ;
      },
      stay,
    )

-- No edge dangles after the step that didn't before, where none is made at a dropped object.
pub NoneDangle-kept : (ns es : List ℕ) (g : Graph) (p : Plan) → All (λ e. (has ns (number_of g.next_object e.source) || has ns (number_of g.next_object e.target)) ≡ false) p.make_edges → NoneDangle ns es g → NoneDangle ns es (step g p)
NoneDangle-kept ns es g p ends h = All-append D (filter (λ e. not (has p.drop_edges e.number)) g.edges) (new_edges g.next_object g.next_edge p.make_edges) (All-filter (λ e. not (has p.drop_edges e.number)) D g.edges h) (made g.next_edge p.make_edges ends)
  where
    D : Edge → Type 0
    D e = (has ns e.source || has ns e.target) ≡ true → has es e.number ≡ true

    E : MadeEdge → Type 0
    E e = (has ns (number_of g.next_object e.source) || has ns (number_of g.next_object e.target)) ≡ false

    made : (k : ℕ) (xs : List MadeEdge) → All E xs → All D (new_edges g.next_object k xs)
    made k [] a = All-nil D
    made k (x ∷ xs) a = All-cons D (record { number = k; source = number_of g.next_object x.source; reference = x.reference; target = number_of g.next_object x.target }) (new_edges g.next_object (k + 1) xs) (λ t. absurd (both_ways (has ns (number_of g.next_object x.source) || has ns (number_of g.next_object x.target)) (All-head E x xs a) t)) (made (k + 1) xs (All-tail E x xs a))

-- What holds of each slot holds of one of them, by its node and kind.
pub has_slot-all : (P : ℕ → SlotKind → Type 0) (slots : List PatternSlot) (n : ℕ) (kind : SlotKind) → All (λ slot. P slot.node slot.kind) slots → has_slot slots n kind ≡ true → P n kind
has_slot-all P [] n kind a h = absurd (cc)
has_slot-all P (slot ∷ slots) n kind a h = elim (or_cases (eqb slot.node n && is_kind slot.kind kind) (has_slot slots n kind) h) [
  | inl e ↦ let at = and_parts (eqb slot.node n) (is_kind slot.kind kind) e in
      subst (λ (k : ℕ). P k kind) (eqb-true slot.node n at.0) (subst (λ (k : SlotKind). P slot.node k) (is_kind-same slot.kind kind at.1) (All-head (λ slot. P slot.node slot.kind) slot slots a))
  | inr l ↦ has_slot-all P slots n kind (All-tail (λ slot. P slot.node slot.kind) slot slots a) l
]

-- A kind that is not written is not written at any object.
pub unwritten_kind : (n : ℕ) (kind : SlotKind) (writes : List Write) → list_any (λ write. is_kind write.slot kind) writes ≡ false → list_any (is_to n kind) writes ≡ false
unwritten_kind n kind [] a = refl
unwritten_kind n kind (w ∷ ws) a =
    let parts = or_parts (is_kind w.slot kind) (list_any (λ write. is_kind write.slot kind) ws) a in
    or_from (is_to n kind w) (list_any (is_to n kind) ws) (and_right (eqb w.object n) (is_kind w.slot kind) parts.0) (unwritten_kind n kind ws parts.1)

-- A slot of an image that stays keeps its value where it is not written.
pub value-stays : (m : Metamodel) (g : Graph) (p : Plan) (nodes : List PatternNode) (images : List ℕ) (n : ℕ) (slot : SlotKind) → AllZip (FitsNode m g) (left_nodes nodes) images → Apart images p.drop_objects → IsLeft nodes n → list_any (is_to (image nodes images n) slot) p.writes ≡ false → value_at (step g p) (image nodes images n) slot ≡ value_at g (image nodes images n) slot
value-stays m g p nodes images n slot fit stay left w =
    let There : ℕ → Type 0 = λ i. (x : Object) × (object_numbered g i ≡ Some x) in
    let there : All There images = AllZip-right (FitsNode m g) There (λ node i k. object_there m g node.class i k) (left_nodes nodes) images fit in
    let both : There (image nodes images n) × Stays p.drop_objects (image nodes images n) = image-all (FitsNode m g) (λ i. There i × Stays p.drop_objects i) nodes images n fit (All-both There (Stays p.drop_objects) images there stay) left in
    value_at-kept g p (image nodes images n) slot both.0.0 both.1 both.0.1 w
