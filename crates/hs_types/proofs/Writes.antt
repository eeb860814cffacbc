-- Writes, one by one, come to the writes together.
use Rattle.std.proofs.Common.{ℕ, ◌<◌, ◌≡◌, List, [], ◌∷◌, ◌++◌, map, length, get_or, slice_set, true, false, eqb, Option, Some, None, refl, sym, ap, ◌∙◌, subst, inl, inr}
use Rattle.std.proofs.lemmas.Bool.{eqb-true, eq-eqb, ne_eqb, both_ways, cases_Bool}
use Rattle.std.proofs.lemmas.List.Elements.{All-map, All-weaker}
use Rattle.std.proofs.lemmas.List.Folds.{find-append}
use Rattle.std.specs.List.{All, find}
use Rattle.std.specs.Option.{option_map, option_or, unwrap_or}
use Rattle.hs_expr.specs.Lists.{Differ, Rise}
use Rattle.hs_expr.specs.declared.value.Value.{Value}
use Rattle.hs_types.proofs.Keyed.{rise_differs, set_keyed, unchanged}
use Rattle.hs_types.proofs.TypedStep.{attributes_written, rewritten-same}
use Rattle.hs_types.specs.Pattern.{is_kind}
use Rattle.hs_types.specs.Step.{is_to, object_after, slot_after}
use Rattle.hs_types.specs.Writing.{AreKeyed, set_slot}
use Rattle.hs_types.specs.declared.graph.Object.{Object}
use Rattle.hs_types.specs.declared.graph.Slot.{Slot}
use Rattle.hs_types.specs.declared.plan.Write.{Write}
use Rattle.hs_types.specs.declared.rule.SlotKind.TheVariants.{Attribute, Link, Container}
use Rattle.hs_types.specs.declared.rule.SlotKind.{SlotKind}

-- A slot of another attribute stays.
other_slot : (a : ℕ) (v : Value) (s : Slot) → (s.attribute ≡ a → ⊥) → set_slot a v s ≡ s
other_slot a v s ne = rw (ne_eqb s.attribute a ne) refl

pub slot_unchanged : (a : ℕ) (v : Value) (ss : List Slot) → All (λ s. s.attribute ≡ a → ⊥) ss → map (set_slot a v) ss ≡ ss
slot_unchanged a v ss none = unchanged (λ (s : Slot). s.attribute) (set_slot a v) a (other_slot a v) ss none

pub slot_set : (a : ℕ) (v : Value) (ss : List Slot) (i : ℕ) (s : Slot) → Differ (map (λ s. s.attribute) ss) → i < length ss → s ≡ get_or ss i s → s.attribute ≡ a → slice_set ss i (record { attribute = s.attribute; value = v }) ≡ map (set_slot a v) ss
slot_set a v ss i s h l e k =
    let whole : slice_set ss i (set_slot a v (get_or ss i s)) ≡ map (set_slot a v) ss = set_keyed (λ (s : Slot). s.attribute) (set_slot a v) a (other_slot a v) ss i s h l (sym (ap (λ (s : Slot). s.attribute) e) ∙ k) in
    let here : set_slot a v s ≡ record { attribute = s.attribute; value = v } = rw (eq-eqb s.attribute a k) refl in
    ap (λ x. slice_set ss i x) (sym here ∙ ap (set_slot a v) e) ∙ whole

-- What one write leaves as it is.
written_other : (w : Write) (n : ℕ) (ss : List Slot) → eqb w.object n ≡ false → map (slot_after (w ∷ []) n) ss ≡ ss
written_other w n [] e = refl
written_other w n (s ∷ ss) e = rw (e, written_other w n ss e) refl

no_kind : (k : SlotKind) → ((a : ℕ) → k ≡ Attribute a → ⊥) → (a : ℕ) → is_kind k (Attribute a) ≡ false
no_kind (Attribute b) none a = absurd (none b refl)
no_kind (Link r) none a = refl
no_kind Container none a = refl

written_no_attribute : (w : Write) (n : ℕ) (ss : List Slot) → ((a : ℕ) → is_kind w.slot (Attribute a) ≡ false) → map (slot_after (w ∷ []) n) ss ≡ ss
written_no_attribute w n [] none = refl
written_no_attribute w n (s ∷ ss) none = elim (cases_Bool (eqb w.object n)) [
  | inl e ↦ rw (e, none s.attribute, written_no_attribute w n ss none) refl
  | inr e ↦ rw (e, written_no_attribute w n ss none) refl
]

pub rewritten_no_attribute : (w : Write) (os : List Object) → ((a : ℕ) → is_kind w.slot (Attribute a) ≡ false) → map (object_after (w ∷ [])) os ≡ os
rewritten_no_attribute w [] none = refl
rewritten_no_attribute w (o ∷ os) none = rw (written_no_attribute w o.number o.slots none, rewritten_no_attribute w os none) refl

written_here : (a n : ℕ) (v : Value) (m : ℕ) (ss : List Slot) → eqb m n ≡ true → map (slot_after (record { object = m; slot = Attribute a; value = v } ∷ []) n) ss ≡ map (set_slot a v) ss
written_here a n v m [] e = refl
written_here a n v m (s ∷ ss) e = elim (cases_Bool (eqb a s.attribute)) [
  | inl k ↦ let b : eqb s.attribute a ≡ true = eq-eqb s.attribute a (sym (eqb-true a s.attribute k)) in rw (e, k, b, written_here a n v m ss e) refl
  | inr k ↦ let b : eqb s.attribute a ≡ false = ne_eqb s.attribute a (λ h. both_ways (eqb a s.attribute) k (eq-eqb a s.attribute (sym h))) in rw (e, k, b, written_here a n v m ss e) refl
]

other_object : (w : Write) (o : Object) → (o.number ≡ w.object → ⊥) → object_after (w ∷ []) o ≡ o
other_object w o ne = rw (written_other w o.number o.slots (ne_eqb w.object o.number (λ e. ne (sym e)))) refl

pub object_unchanged : (w : Write) (os : List Object) → All (λ o. o.number ≡ w.object → ⊥) os → map (object_after (w ∷ [])) os ≡ os
object_unchanged w os none = unchanged (λ (o : Object). o.number) (object_after (w ∷ [])) w.object (other_object w) os none

pub object_set : (w : Write) (a : ℕ) (os : List Object) (i : ℕ) (o : Object) (new : List Slot) → w.slot ≡ Attribute a → AreKeyed os → i < length os → o ≡ get_or os i o → o.number ≡ w.object → new ≡ map (set_slot a w.value) o.slots → slice_set os i (record { number = o.number; name = o.name; class = o.class; slots = new }) ≡ map (object_after (w ∷ [])) os
object_set w a os i o new attribute keyed l e k made =
    let whole : slice_set os i (object_after (w ∷ []) (get_or os i o)) ≡ map (object_after (w ∷ [])) os = set_keyed (λ (o : Object). o.number) (object_after (w ∷ [])) w.object (other_object w) os i o (rise_differs 0 (map (λ (o : Object). o.number) os) keyed.rise.0 keyed.rise.1) l (sym (ap (λ (o : Object). o.number) e) ∙ k) in
    let same : w ≡ record { object = w.object; slot = Attribute a; value = w.value } = ap (λ (s : SlotKind). record { object = w.object; slot = s; value = w.value }) attribute in
    let slots : map (slot_after (w ∷ []) o.number) o.slots ≡ map (set_slot a w.value) o.slots = ap (λ (x : Write). map (slot_after (x ∷ []) o.number) o.slots) same ∙ written_here a o.number w.value w.object o.slots (eq-eqb w.object o.number (sym k)) in
    let here : object_after (w ∷ []) o ≡ record { number = o.number; name = o.name; class = o.class; slots = new } = ap (λ (l : List Slot). record { number = o.number; name = o.name; class = o.class; slots = l }) (slots ∙ sym made) in
    ap (λ x. slice_set os i x) (sym here ∙ ap (object_after (w ∷ [])) e) ∙ whole

-- Two rounds of writes, the later first, are one.
value_of_both : (a b : Option Write) (v : Value) → unwrap_or (option_map (λ (w : Write). w.value) (option_or a b)) v ≡ unwrap_or (option_map (λ (w : Write). w.value) a) (unwrap_or (option_map (λ (w : Write). w.value) b) v)
value_of_both None b v = refl
value_of_both (Some w) b v = refl

written_both : (xs ys : List Write) (n : ℕ) (s : Slot) → slot_after (xs ++ ys) n s ≡ slot_after xs n (slot_after ys n s)
written_both xs ys n s = ap (λ (v : Value). record { attribute = s.attribute; value = v }) (ap (λ (o : Option Write). unwrap_or (option_map (λ (w : Write). w.value) o) s.value) (find-append (is_to n (Attribute s.attribute)) xs ys) ∙ value_of_both (find (is_to n (Attribute s.attribute)) xs) (find (is_to n (Attribute s.attribute)) ys) s.value)

all_written_both : (xs ys : List Write) (n : ℕ) (ss : List Slot) → map (slot_after xs n) (map (slot_after ys n) ss) ≡ map (slot_after (xs ++ ys) n) ss
all_written_both xs ys n [] = refl
all_written_both xs ys n (s ∷ ss) = rw (written_both xs ys n s, all_written_both xs ys n ss) refl

pub rewritten_both : (xs ys : List Write) (os : List Object) → map (object_after xs) (map (object_after ys) os) ≡ map (object_after (xs ++ ys)) os
rewritten_both xs ys [] = refl
rewritten_both xs ys (o ∷ os) = rw (all_written_both xs ys o.number o.slots, rewritten_both xs ys os) refl

written_none : (n : ℕ) (ss : List Slot) → map (slot_after [] n) ss ≡ ss
written_none n [] = refl
written_none n (s ∷ ss) = ap (λ l. s ∷ l) (written_none n ss)

pub rewritten_none : (os : List Object) → map (object_after []) os ≡ os
rewritten_none [] = refl
rewritten_none (o ∷ os) = rw (written_none o.number o.slots, rewritten_none os) refl

-- Writes keep numbers and attributes.
pub keyed_written : (ws : List Write) (os : List Object) → AreKeyed os → AreKeyed (map (object_after ws) os)
keyed_written ws os keyed = record {
  rise = (keyed.rise.0, subst (λ (l : List ℕ). Rise 0 l keyed.rise.0) (sym (rewritten-same (λ (o : Object). o.number) ws (λ o. refl) os)) keyed.rise.1);
  slots_differ = All-map D (object_after ws) os (All-weaker D (λ o. D (object_after ws o)) (λ o h. subst Differ (sym (attributes_written ws o.number o.slots)) h) os keyed.slots_differ);
}
  where
    D : Object → Type 0
    D o = Differ (map (λ s. s.attribute) o.slots)
