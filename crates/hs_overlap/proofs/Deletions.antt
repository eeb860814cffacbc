-- Reasons of the rule that deletes a client.
use Rattle.std.proofs.Common.{ℕ, suc, zero, ◌<◌, ◌≡◌, List, [], ◌∷◌, refl, sym, ap, ◌∙◌, subst, inl, inr, arith, codes, true, Contains, get_or}
use Rattle.std.proofs.lemmas.Option.{same_Some}
use Rattle.hs_laws.specs.Bank.{arrow, drop_client, model, node, open_account, touch}
use Rattle.hs_types.specs.declared.rule.Mark.TheVariants.{Keep, Drop, Make}
use Rattle.hs_types.specs.declared.rule.PatternEdge.{PatternEdge}
use Rattle.hs_types.specs.declared.rule.PatternNode.{PatternNode}
use Rattle.hs_types.specs.declared.rule.PatternSlot.{PatternSlot}
use Rattle.hs_types.specs.Metamodel.{HaveCommon, itself}
use Rattle.hs_types.specs.Pattern.{is_left}
use Rattle.hs_overlap.specs.Contexts.{IsDroppedNode}
use Rattle.hs_overlap.specs.declared.pair.Pair.{Pair}
use Rattle.hs_overlap.specs.declared.pair.Pair.TheVariants.{Node, Edge, Slot}
use Rattle.hs_overlap.specs.LeftSide.{IsLeftEdge, IsLeftNode, IsLeftSlot}
use Rattle.hs_overlap.specs.Overlaps.{CanOccur, HasClosedOverlap, HasFittingEnds, MeetsDropped, NodesMeet}
use Rattle.hs_overlap.specs.Reasons.{CanMeet, IsPairBefore, IsReason, MeetExactly}
use Rattle.hs_overlap.proofs.Pairs.{Contains-cons_cases, Contains-here}

abbrev dropped : PatternNode
dropped = node (codes "c") 0 Drop

abbrev kept : PatternNode
kept = node (codes "c") 0 Keep

client_node : IsLeftNode drop_client.shape 0 dropped
client_node = record { at = refl; left = refl }

pub client_dropped : IsDroppedNode drop_client.shape 0
client_dropped = record { node = dropped; left = client_node; dropped = refl }

owner_node : IsLeftNode open_account.shape 0 kept
owner_node = record { at = refl; left = refl }

common : HaveCommon model 0 0
common = (0, refl, itself 0, itself 0)

drop_common : (i : ℕ) (v : PatternNode) → IsLeftNode drop_client.shape i v → HaveCommon model v.class v.class
drop_common zero v h = subst (λ (z : PatternNode). HaveCommon model z.class z.class) (same_Some dropped v h.at) common
drop_common (suc i) v h = let at = h.at in absurd cc

open_common : (i : ℕ) (v : PatternNode) → IsLeftNode open_account.shape i v → HaveCommon model v.class v.class
open_common zero v h = subst (λ (z : PatternNode). HaveCommon model z.class z.class) (same_Some kept v h.at) common
open_common (suc zero) v h = let e : node (codes "a") 1 Make ≡ v = same_Some (node (codes "a") 1 Make) v h.at in let f : is_left Make ≡ true = ap (λ (z : PatternNode). is_left z.mark) e ∙ h.left in absurd cc
open_common (suc (suc i)) v h = let at = h.at in absurd cc

pub no_edge : (x : ℕ) (e : PatternEdge) → IsLeftEdge drop_client.shape x e → ⊥
no_edge x e h = let at = h.at in cc

no_left_edge : (x : ℕ) (e : PatternEdge) → IsLeftEdge open_account.shape x e → ⊥
no_left_edge zero e h = let s : arrow 0 0 1 Make ≡ e = same_Some (arrow 0 0 1 Make) e h.at in let f : is_left Make ≡ true = ap (λ (z : PatternEdge). is_left z.mark) s ∙ h.left in cc
no_left_edge (suc x) e h = let at = h.at in cc

no_drop_slot : (k : ℕ) (t : PatternSlot) (v : PatternNode) → IsLeftSlot drop_client.shape k t v → ⊥
no_drop_slot k t v h = let at = h.at in cc

no_open_slot : (k : ℕ) (t : PatternSlot) (v : PatternNode) → IsLeftSlot open_account.shape k t v → ⊥
no_open_slot k t v h = let at = h.at in cc

no_touch_slot : (k : ℕ) (t : PatternSlot) (v : PatternNode) → IsLeftSlot touch.shape k t v → ⊥
no_touch_slot k t v h = let at = h.at in cc

pub drop_occurs : CanOccur model drop_client.shape
drop_occurs = record { nodes = drop_common; edges = λ x e h. absurd (no_edge x e h); slots = λ k l t u v w a b e f. absurd (no_drop_slot k t v a) }

pub open_occurs : CanOccur model open_account.shape
open_occurs = record { nodes = open_common; edges = λ x e h. absurd (no_left_edge x e h); slots = λ k l t u v w a b e f. absurd (no_open_slot k t v a) }

touch_common : (i : ℕ) (v : PatternNode) → IsLeftNode touch.shape i v → HaveCommon model v.class v.class
touch_common zero v h = subst (λ (z : PatternNode). HaveCommon model z.class z.class) (same_Some (node (codes "q") 0 Keep) v h.at) common
touch_common (suc zero) v h = subst (λ (z : PatternNode). HaveCommon model z.class z.class) (same_Some (node (codes "p") 1 Keep) v h.at) (1, refl, itself 1, itself 1)
touch_common (suc (suc i)) v h = let at = h.at in absurd cc

arrow_fits : HasFittingEnds model touch.shape (arrow 0 0 1 Keep)
arrow_fits = record {
  source = node (codes "q") 0 Keep;
  target = node (codes "p") 1 Keep;
  begins = record { at = refl; left = refl };
  ends = record { at = refl; left = refl };
  owns = refl;
  takes = itself 1;
}

touch_ends : (x : ℕ) (e : PatternEdge) → IsLeftEdge touch.shape x e → HasFittingEnds model touch.shape e
touch_ends zero e h = subst (λ (z : PatternEdge). HasFittingEnds model touch.shape z) (same_Some (arrow 0 0 1 Keep) e h.at) arrow_fits
touch_ends (suc zero) e h = subst (λ (z : PatternEdge). HasFittingEnds model touch.shape z) (same_Some (arrow 0 0 1 Keep) e h.at) arrow_fits
touch_ends (suc (suc x)) e h = let at = h.at in absurd cc

pub touch_occurs : CanOccur model touch.shape
touch_occurs = record { nodes = touch_common; edges = touch_ends; slots = λ k l t u v w a b e f. absurd (no_touch_slot k t v a) }

abbrev lone : List Pair
lone = Node 0 0 ∷ []

the_one : (q : Pair) → Contains lone q → Node 0 0 ≡ q
the_one q c = elim (Contains-cons_cases (Node 0 0) q [] c) [
  | inl e ↦ e
  | inr none ↦ let l : none.0 < 0 = none.1 in absurd (omega arith)
]

nodes_in : (i j : ℕ) → Contains lone (Node i j) → NodesMeet model drop_client.shape open_account.shape i j
nodes_in i j c =
    let e : Node 0 0 ≡ Node i j = the_one (Node i j) c in let one : i ≡ 0 = cc in let other : j ≡ 0 = cc in
    rw (one, other) (record { one = dropped; other = kept; first = client_node; second = owner_node; common = common })

no_edge_in : (x y : ℕ) → Contains lone (Edge x y) → ⊥
no_edge_in x y c = let e : Node 0 0 ≡ Edge x y = the_one (Edge x y) c in cc

no_slot_in : (k l : ℕ) → Contains lone (Slot k l) → ⊥
no_slot_in k l c = let e : Node 0 0 ≡ Slot k l = the_one (Slot k l) c in cc

pub client_overlap : HasClosedOverlap model drop_client.shape open_account.shape lone
client_overlap = record {
  overlap = lone;
  closed = record {
    firsts_differ = λ a b c d e. sym (the_one a c) ∙ the_one b d;
    seconds_differ = λ a b c d e. sym (the_one a c) ∙ the_one b d;
    nodes = nodes_in;
    edges = λ x y c. absurd (no_edge_in x y c);
    slots = λ k l. ((λ c. absurd (no_slot_in k l c)), (λ h. absurd (no_drop_slot k h.one h.node h.first)));
    second_edges = λ i j y f c d left at. absurd (no_left_edge y f left);
    first_edges = λ i j x e c d left at. absurd (no_edge x e left);
    first_drops = λ x i e left d at. absurd (no_edge x e left);
    second_drops = λ x i e left d at. absurd (no_left_edge x e left);
  };
  part = λ q can. ((λ h. h), (λ h. h));
}

pub client_reason : MeetExactly model drop_client.shape open_account.shape lone → IsReason model drop_client.shape open_account.shape lone
client_reason meet = record {
  listed = record {
    order = in_order;
    pairs = λ q c. subst (λ z. CanMeet drop_client.shape open_account.shape z) (the_one q c) (record { context = inl client_dropped; left = (kept, owner_node) });
  };
  deleted = record { pair = Node 0 0; held = Contains-here (Node 0 0) []; deleted = client_dropped };
  meet = meet;
}
  where
    in_order : (i j : ℕ) (d : Pair) → i < j → j < 1 → IsPairBefore (get_or lone i d) (get_or lone j d)
    in_order i j d l m = absurd (omega arith)

pub dangles : MeetsDropped drop_client.shape (λ x. Contains lone (Edge x 0)) → ⊥
dangles h = no_edge h.edge h.dropped.edge h.dropped.left

pub kept_arrow : IsLeftEdge touch.shape 0 (arrow 0 0 1 Keep)
kept_arrow = record { at = refl; left = refl }
