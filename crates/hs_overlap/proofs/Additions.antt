-- Reasons of the rule that adds to a balance, against itself.
use Rattle.std.proofs.Common.{ℕ, suc, zero, ◌<◌, ◌≡◌, ◌⊎◌, ◌↔◌, List, [], ◌∷◌, refl, sym, ap, ◌∙◌, subst, inl, inr, arith, codes, Contains, Some, get_or, slice_get}
use Rattle.std.proofs.lemmas.Option.{same_Some}
use Rattle.hs_laws.specs.Bank.{add, balance_of, model, node}
use Rattle.hs_types.specs.declared.rule.Mark.TheVariants.{Keep, Drop}
use Rattle.hs_types.specs.declared.rule.PatternEdge.{PatternEdge}
use Rattle.hs_types.specs.declared.rule.PatternNode.{PatternNode}
use Rattle.hs_types.specs.declared.rule.PatternSlot.{PatternSlot}
use Rattle.hs_types.specs.Elements.{Node as NodeAt, Slot as SlotAt}
use Rattle.hs_types.specs.Metamodel.{HaveCommon, itself}
use Rattle.hs_overlap.specs.Contexts.{IsDeleted, IsDroppedNode, IsWrittenSlot, of_first, of_second}
use Rattle.hs_overlap.specs.declared.pair.Pair.{Pair}
use Rattle.hs_overlap.specs.declared.pair.Pair.TheVariants.{Node, Edge, Slot}
use Rattle.hs_overlap.specs.LeftSide.{IsLeftNode, IsLeftSlot}
use Rattle.hs_overlap.specs.Overlaps.{CanOccur, HasClosedOverlap, IsClosed, NodesMeet, SlotsMeet}
use Rattle.hs_overlap.specs.Reasons.{CanMeet, HasDeleted, HasFirst, IsListed, IsPairBefore, IsReason, IsSpan, MeetExactly}
use Rattle.hs_overlap.specs.Rows.{IsConflictAtom, IsExtra, IsReasonPart, IsRow, ReachesExtra}
use Rattle.hs_overlap.specs.declared.table.Need.TheVariants.{Require}
use Rattle.hs_overlap.specs.Weights.{HasCount, IsWeight}
use Rattle.hs_overlap.proofs.Pairs.{Contains-cons_cases, Contains-here, Contains-later}

abbrev account_node : PatternNode
account_node = node (codes "a") 1 Keep

the_node : IsLeftNode add.shape 0 account_node
the_node = record { at = refl; left = refl }

the_slot : IsLeftSlot add.shape 0 (balance_of 0) account_node
the_slot = record { at = refl; node = the_node }

the_written : IsWrittenSlot add.shape 0
the_written = record { slot = balance_of 0; node = account_node; left = the_slot; written = refl }

one_node : (i : ℕ) (v : PatternNode) → slice_get add.shape.nodes i ≡ Some v → i ≡ 0
one_node zero v at = refl
one_node (suc i) v at = absurd cc

one_slot : (k : ℕ) (t : PatternSlot) → slice_get add.shape.slots k ≡ Some t → k ≡ 0
one_slot zero t at = refl
one_slot (suc k) t at = absurd cc

no_edge : (x : ℕ) (e : PatternEdge) → slice_get add.shape.edges x ≡ Some e → ⊥
no_edge x e at = cc

common : HaveCommon model 1 1
common = (1, refl, itself 1, itself 1)

common_at : (i : ℕ) (v : PatternNode) → slice_get add.shape.nodes i ≡ Some v → HaveCommon model v.class v.class
common_at zero v at = subst (λ (z : PatternNode). HaveCommon model z.class z.class) (same_Some account_node v at) common
common_at (suc i) v at = absurd cc

pub add_occurs : CanOccur model add.shape
add_occurs = record {
  nodes = λ i v left. common_at i v left.at;
  edges = λ x e left. absurd (no_edge x e left.at);
  slots = λ k l t u v w a b e f. one_slot k t a.at ∙ sym (one_slot l u b.at);
}

abbrev both : List Pair
both = Node 0 0 ∷ Slot 0 0 ∷ []

has_node : Contains both (Node 0 0)
has_node = Contains-here (Node 0 0) (Slot 0 0 ∷ [])

has_slot : Contains both (Slot 0 0)
has_slot = Contains-later (Node 0 0) (Slot 0 0) (Slot 0 0 ∷ []) (Contains-here (Slot 0 0) [])

one_of_both : (q : Pair) → Contains both q → (q ≡ Node 0 0) ⊎ (q ≡ Slot 0 0)
one_of_both q c = elim (Contains-cons_cases (Node 0 0) q (Slot 0 0 ∷ []) c) [
  | inl e ↦ inl (sym e)
  | inr later ↦ elim (Contains-cons_cases (Slot 0 0) q [] later) [
    | inl e ↦ inr (sym e)
    | inr none ↦ let l : none.0 < 0 = none.1 in absurd (omega arith)
  ]
]

node_meets : CanMeet add.shape add.shape (Node 0 0)
node_meets = record { context = inr (SlotAt 0, the_written, (balance_of 0, refl, refl)); left = (account_node, the_node) }

slot_meets : CanMeet add.shape add.shape (Slot 0 0)
slot_meets = record { context = inl the_written; left = (balance_of 0, account_node, the_slot) }

listed : IsListed add.shape add.shape both
listed = record {
  order = in_order;
  pairs = λ q c. elim (one_of_both q c) [ inl e ↦ subst (λ z. CanMeet add.shape add.shape z) (sym e) node_meets | inr e ↦ subst (λ z. CanMeet add.shape add.shape z) (sym e) slot_meets ];
}
  where
    in_order : (i j : ℕ) (d : Pair) → i < j → j < 2 → IsPairBefore (get_or both i d) (get_or both j d)
    in_order zero zero d l m = absurd (omega arith)
    in_order zero (suc zero) d l m = tt
    in_order zero (suc (suc j)) d l m = absurd (omega arith)
    in_order (suc i) zero d l m = absurd (omega arith)
    in_order (suc i) (suc j) d l m = absurd (omega arith)

firsts : (a b : Pair) → Contains both a → Contains both b → of_first a ≡ of_first b → a ≡ b
firsts a b c d e = elim (one_of_both a c) [
  | inl p ↦ elim (one_of_both b d) [ inl q ↦ p ∙ sym q | inr q ↦ let f : of_first (Node 0 0) ≡ of_first (Slot 0 0) = ap of_first (sym p) ∙ e ∙ ap of_first q in absurd cc ]
  | inr p ↦ elim (one_of_both b d) [ inl q ↦ let f : of_first (Slot 0 0) ≡ of_first (Node 0 0) = ap of_first (sym p) ∙ e ∙ ap of_first q in absurd cc | inr q ↦ p ∙ sym q ]
]

seconds : (a b : Pair) → Contains both a → Contains both b → of_second a ≡ of_second b → a ≡ b
seconds a b c d e = elim (one_of_both a c) [
  | inl p ↦ elim (one_of_both b d) [ inl q ↦ p ∙ sym q | inr q ↦ let f : of_second (Node 0 0) ≡ of_second (Slot 0 0) = ap of_second (sym p) ∙ e ∙ ap of_second q in absurd cc ]
  | inr p ↦ elim (one_of_both b d) [ inl q ↦ let f : of_second (Slot 0 0) ≡ of_second (Node 0 0) = ap of_second (sym p) ∙ e ∙ ap of_second q in absurd cc | inr q ↦ p ∙ sym q ]
]

nodes_in : (i j : ℕ) → Contains both (Node i j) → NodesMeet model add.shape add.shape i j
nodes_in i j c = elim (one_of_both (Node i j) c) [
  | inl e ↦ let one : i ≡ 0 = cc in let other : j ≡ 0 = cc in rw (one, other) (record { one = account_node; other = account_node; first = the_node; second = the_node; common = common })
  | inr e ↦ absurd cc
]

no_edge_in : (x y : ℕ) → Contains both (Edge x y) → ⊥
no_edge_in x y c = elim (one_of_both (Edge x y) c) [ inl e ↦ cc | inr e ↦ cc ]

slots_in : (k l : ℕ) → Contains both (Slot k l) ↔ SlotsMeet (Contains both) add.shape add.shape k l
slots_in k l = (
  (λ c. elim (one_of_both (Slot k l) c) [
    | inl e ↦ absurd cc
    | inr e ↦ let one : k ≡ 0 = cc in let other : l ≡ 0 = cc in
        rw (one, other) (record { one = balance_of 0; other = balance_of 0; node = account_node; other_node = account_node; first = the_slot; second = the_slot; same = refl; nodes = has_node })
  ]),
  (λ h. let one : k ≡ 0 = one_slot k h.one h.first.at in let other : l ≡ 0 = one_slot l h.other h.second.at in rw (one, other) has_slot),
)

closed : IsClosed model add.shape add.shape (Contains both)
closed = record {
  firsts_differ = firsts;
  seconds_differ = seconds;
  nodes = nodes_in;
  edges = λ x y c. absurd (no_edge_in x y c);
  slots = slots_in;
  second_edges = λ i j y f c d left at. absurd (no_edge y f left.at);
  first_edges = λ i j x e c d left at. absurd (no_edge x e left.at);
  first_drops = λ x i e left d at. absurd (no_edge x e left.at);
  second_drops = λ x i e left d at. absurd (no_edge x e left.at);
}

pub overlaps : HasClosedOverlap model add.shape add.shape both
overlaps = record { overlap = both; closed = closed; part = λ q can. ((λ h. h), (λ h. h)) }

pub balance_reason : MeetExactly model add.shape add.shape both → IsReason model add.shape add.shape both
balance_reason meet = record { listed = listed; deleted = record { pair = Slot 0 0; held = has_slot; deleted = the_written }; meet = meet }

-- The pair of nodes alone deletes nothing.
nothing_deleted : HasDeleted add.shape (Node 0 0 ∷ []) → ⊥
nothing_deleted h = kept h.pair h.held h.deleted
  where
    kept : (q : Pair) → Contains (Node 0 0 ∷ []) q → IsDeleted add.shape (of_first q) → ⊥
    kept q c d = elim (Contains-cons_cases (Node 0 0) q [] c) [
      | inl e ↦ not_dropped (subst (λ z. IsDeleted add.shape (of_first z)) (sym e) d)
      | inr none ↦ let l : none.0 < 0 = none.1 in absurd (omega arith)
    ]
      where
        not_dropped : IsDroppedNode add.shape 0 → ⊥
        not_dropped n = let same : account_node ≡ n.node = same_Some account_node n.node n.left.at in let e : account_node.mark ≡ Drop = ap (λ (z : PatternNode). z.mark) same ∙ n.dropped in cc

pub no_balance : IsReason model add.shape add.shape (Node 0 0 ∷ []) → ⊥
no_balance h = nothing_deleted h.deleted

pub no_part : IsReasonPart model add.shape add.shape (Node 0 0 ∷ []) → ⊥
no_part h = nothing_deleted h.deleted

pub no_atom : IsConflictAtom model add.shape add.shape (Node 0 0 ∷ []) → ⊥
no_atom h = no_part h.one

-- What a span holds is in it.
pub no_account : IsReason model add.shape add.shape (Slot 0 0 ∷ []) → IsSpan add.shape (Slot 0 0 ∷ []) → ⊥
no_account h s = away (s.needed (Slot 0 0) (NodeAt 0) (Contains-here (Slot 0 0) []) (balance_of 0, refl, refl))
  where
    away : HasFirst (Slot 0 0 ∷ []) (NodeAt 0) → ⊥
    away f = elim (Contains-cons_cases (Slot 0 0) f.pair [] f.held) [
      | inl e ↦ let g : of_first (Slot 0 0) ≡ NodeAt 0 = ap of_first e ∙ f.first in cc
      | inr none ↦ let l : none.0 < 0 = none.1 in absurd (omega arith)
    ]

pub out_of_order : IsReason model add.shape add.shape (Slot 0 0 ∷ Node 0 0 ∷ []) → ⊥
out_of_order h = h.listed.order 0 1 (Node 0 0) (omega arith) (omega arith)

pub twice : IsReason model add.shape add.shape (Node 0 0 ∷ Node 0 0 ∷ Slot 0 0 ∷ []) → ⊥
twice h = elim (h.listed.order 0 1 (Node 0 0) (omega arith) (omega arith)) [ inl l ↦ absurd (omega arith) | inr l ↦ let m : 0 < 0 = l.1 in absurd (omega arith) ]

pub not_there : IsReason model add.shape add.shape (Node 0 1 ∷ Slot 0 0 ∷ []) → ⊥
not_there h = let can : CanMeet add.shape add.shape (Node 0 1) = h.listed.pairs (Node 0 1) (Contains-here (Node 0 1) (Slot 0 0 ∷ [])) in let e : ◌≡◌ {A = ℕ} 1 0 = one_node 1 can.left.0 can.left.1.at in absurd (omega arith)

nodes_meet : NodesMeet model add.shape add.shape 0 0
nodes_meet = record { one = account_node; other = account_node; first = the_node; second = the_node; common = common }

one_partner : HasCount (NodesMeet model add.shape add.shape 0) 1
one_partner = record {
  numbers = 0 ∷ [];
  those = record {
    rising = λ i j d l m. let n : j < 1 = m in absurd (omega arith);
    exact = λ j. (
      (λ c. elim (Contains-cons_cases 0 j [] c) [
        | inl e ↦ subst (λ z. NodesMeet model add.shape add.shape 0 z) e nodes_meet
        | inr none ↦ let l : none.0 < 0 = none.1 in absurd (omega arith)
      ]),
      (λ h. subst (λ z. Contains (0 ∷ []) z) (sym (one_node j h.other h.second.at)) (Contains-here 0 [])),
    );
  };
  count = refl;
}

partners_at : (i k : ℕ) → slice_get (1 ∷ []) i ≡ Some k → HasCount (NodesMeet model add.shape add.shape i) k
partners_at zero k at = subst (λ z. HasCount (NodesMeet model add.shape add.shape 0) z) (same_Some 1 k at) one_partner
partners_at (suc i) k at = absurd cc

pub add_weight : IsWeight model add.shape add.shape 2
add_weight = record {
  nodes = 1 ∷ [];
  edges = [];
  node_counts = record { each = refl; exact = partners_at };
  edge_counts = record { each = refl; exact = λ i k at. absurd cc };
  product = refl;
}

-- The one slot has to be paired with an element of the extra part, which has none.
pub no_row : IsRow model Require add.shape add.shape 1 0 both → ⊥
no_row h = away h.one.1
  where
    away : ReachesExtra add.shape 1 0 both → ⊥
    away r = elim (one_of_both r.pair r.held) [
      | inl e ↦ let x : IsExtra 1 0 (Node 0 0) = subst (IsExtra 1 0) e r.extra in absurd (omega arith)
      | inr e ↦ subst (IsExtra 1 0) e r.extra
    ]
