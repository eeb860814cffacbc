-- The slots of the kernel or a multi-rule are those that are read or set, each once, in order.
use Rattle.std.proofs.Common.{ℕ, zero, suc, ◌+◌, ◌-◌, ◌<◌, ◌≤◌, ◌≡◌, ◌&&◌, ◌||◌, ◌++◌, List, [], ◌∷◌, Bool, true, false, not, cond, eqb, map, length, slice_get, Option, Some, None, IsSomeAnd, is_some, if◌then◌else◌, refl, ap, ap₂, sym, ◌∙◌, subst, inl, inr, arith}
use Rattle.std.proofs.lemmas.Bool.{and_from, and_parts, eq-eqb, eqb-true, false≢true, ne_eqb, or_cases, or_left, or_right}
use Rattle.std.proofs.lemmas.List.Elements.{All-cons, All-map, All-nil}
use Rattle.std.proofs.lemmas.List.Folds.{list_any-append}
use Rattle.std.proofs.lemmas.Option.{none-some, same_Some, slice_get_within}
use Rattle.std.specs.List.{All, filter, list_any, position_or_len}
use Rattle.std.specs.Option.{option_and_then, option_map, option_map_or, unwrap_or}
use Rattle.hs_expr.specs.declared.SlotRead.{SlotRead}
use Rattle.hs_expr.specs.Evaluation.{Scope}
use Rattle.hs_expr.specs.Verdict.{each_from}
use Rattle.hs_types.specs.declared.meta.Metamodel.{Metamodel}
use Rattle.hs_types.specs.declared.rule.Mark.{Mark}
use Rattle.hs_types.specs.declared.rule.Mark.TheVariants as mark
use Rattle.hs_types.specs.declared.rule.PatternNode.{PatternNode}
use Rattle.hs_types.specs.declared.rule.PatternSlot.{PatternSlot}
use Rattle.hs_types.specs.declared.rule.SetItem.{SetItem}
use Rattle.hs_types.specs.declared.rule.SlotKind.TheVariants.{Attribute}
use Rattle.hs_expr.specs.Lists.{Differ, EachPair, has}
use Rattle.hs_types.specs.Metamodel.{IsMeta, attributes_of, features_of, type_of, kind_of_type}
use Rattle.hs_types.specs.Pattern.{is_drop, is_keep, is_kind, is_left, node_is}
use Rattle.hs_types.specs.RuleForm.{AreSlots, SetFits, SlotBefore, has_slot, is_among, slot_kind, slot_of_read, slot_of_set, slots_read, slots_set}
use Rattle.hs_check.specs.Slots.{is_read, is_set, is_used, slot_at, slot_with, slots_at_node, slots_from}
use Rattle.hs_check.proofs.Visibility.{number_there}
use Rattle.hs_check.proofs.Filters.{EachPair-from, EachPair-map, slice_get-rest}
use Rattle.hs_expr.proofs.Items.{All-at, All-each_from, All-from, any_at}
use Rattle.hs_expr.proofs.Lists.{EachPair-append, EachPair-filter}
use Rattle.hs_types.proofs.ClassFeatures.{features_differ}

-- Attribute a of node n is read, and is set.
abbrev pub is_read_at : List SlotRead → ℕ → ℕ → Bool
is_read_at reads n a = is_read reads (slot_with n a false)

abbrev pub is_set_at : List SetItem → ℕ → ℕ → Bool
is_set_at sets n a = is_set sets (slot_with n a false)

-- A number's first place is where it is.
stands_first : (fs : List ℕ) (i a : ℕ) → Differ fs → slice_get fs i ≡ Some a → position_or_len (eqb a) fs ≡ i
stands_first [] i a d at = absurd (none-some a at)
stands_first (f ∷ fs) zero a d at = go (eqb a f) (eq-eqb a f (sym (same_Some f a at)))
  where
    go : (b : Bool) → b ≡ true → cond (not b) (1 + position_or_len (eqb a) fs) 0 ≡ 0
    go true e = refl
    go false e = absurd (false≢true e)
stands_first (f ∷ fs) (suc i) a d at = go (eqb a f) (ne_eqb a f (λ e. All-at (λ g. f ≡ g → ⊥) fs i a d.0 at (sym e))) (stands_first fs i a d.1 at)
  where
    go : (b : Bool) → b ≡ false → position_or_len (eqb a) fs ≡ i → cond (not b) (1 + position_or_len (eqb a) fs) 0 ≡ suc i
    go false e rest = omega arith
    go true e rest = absurd (false≢true (sym e))

-- ---- the slots of one node

-- What holds of each slot of a left node that is read or set holds of all its slots.
all_at : (m : Metamodel) (P : PatternSlot → Type 0) (reads : List SlotRead) (sets : List SetItem) (n : ℕ) (node : PatternNode) →
    (is_left node.mark ≡ true → (a : ℕ) → (is_read_at reads n a || is_set_at sets n a) ≡ true → P (slot_at sets n a)) → All P (slots_at_node m reads sets n node)
all_at m P reads sets n node h = go (is_left node.mark) h
  where
    passing : (P : ℕ → Type 0) (t : ℕ → Bool) (ns : List ℕ) → ((a : ℕ) → t a ≡ true → P a) → All P (filter t ns)
    passing P t [] h = All-nil P
    passing P t (a ∷ ns) h = step (t a) refl (passing P t ns h)
      where
        step : (b : Bool) → t a ≡ b → All P (filter t ns) → All P (cond b (a ∷ filter t ns) (filter t ns))
        step true is rest = All-cons P a (filter t ns) (h a is) rest
        step false is rest = rest

    go : (b : Bool) → (b ≡ true → (a : ℕ) → (is_read_at reads n a || is_set_at sets n a) ≡ true → P (slot_at sets n a)) →
        All P (if b then map (slot_at sets n) (filter (is_used reads sets n) (attributes_of m node.class)) else [])
    go true h = All-map P (slot_at sets n) (filter (is_used reads sets n) (attributes_of m node.class))
        (passing (λ a. P (slot_at sets n a)) (is_used reads sets n) (attributes_of m node.class) (h refl))
    go false h = All-nil P

any_mapped : (p : PatternSlot → Bool) (f : ℕ → PatternSlot) (t : ℕ → Bool) (ns : List ℕ) (a : ℕ) → has ns a ≡ true → t a ≡ true → p (f a) ≡ true → list_any p (map f (filter t ns)) ≡ true
any_mapped p f t [] a there is yes_it = absurd (false≢true there)
any_mapped p f t (b ∷ ns) a there is yes_it = go (t b) refl (any_mapped p f t ns a)
  where
    go : (c : Bool) → t b ≡ c → (has ns a ≡ true → t a ≡ true → p (f a) ≡ true → list_any p (map f (filter t ns)) ≡ true) → list_any p (map f (cond c (b ∷ filter t ns) (filter t ns))) ≡ true
    go true at rest = elim (or_cases (eqb a b) (has ns a) there) [
      | inl same ↦ or_left (p (f b)) (list_any p (map f (filter t ns))) (ap (λ x. p (f x)) (sym (eqb-true a b same)) ∙ yes_it)
      | inr later ↦ or_right (p (f b)) (list_any p (map f (filter t ns))) (rest later is yes_it)
    ]
    go false at rest = elim (or_cases (eqb a b) (has ns a) there) [
      | inl same ↦ absurd (false≢true (sym at ∙ ap t (sym (eqb-true a b same)) ∙ is))
      | inr later ↦ rest later is yes_it
    ]

-- A left node has the slot of an attribute of its class that is read or set.
slot_there : (m : Metamodel) (reads : List SlotRead) (sets : List SetItem) (n a : ℕ) (node : PatternNode) → is_left node.mark ≡ true → has (attributes_of m node.class) a ≡ true → (is_read_at reads n a || is_set_at sets n a) ≡ true →
    has_slot (slots_at_node m reads sets n node) n (Attribute a) ≡ true
slot_there m reads sets n a node left there is = go (is_left node.mark) left
  where
    go : (b : Bool) → b ≡ true → has_slot (if b then map (slot_at sets n) (filter (is_used reads sets n) (attributes_of m node.class)) else []) n (Attribute a) ≡ true
    go true e = any_mapped (λ (slot : PatternSlot). eqb slot.node n && is_kind slot.kind (Attribute a)) (slot_at sets n) (is_used reads sets n) (attributes_of m node.class) a there is
        (and_from (eqb n n) (eqb a a) (eq-eqb n n refl) (eq-eqb a a refl))
    go false e = absurd (false≢true e)

any_each : {A B : Type 0} (p : B → Bool) (finds : ℕ → A → List B) (n : ℕ) (xs : List A) (i k : ℕ) (x : A) → k ≡ n + i → slice_get xs i ≡ Some x → list_any p (finds k x) ≡ true → list_any p (each_from finds n xs) ≡ true
any_each p finds n [] i k x e at is = absurd (none-some x at)
any_each p finds n (y ∷ xs) zero k x e at is =
    list_any-append p (finds n y) (each_from finds (n + 1) xs)
    ∙ or_left (list_any p (finds n y)) (list_any p (each_from finds (n + 1) xs))
    (ap (λ z. list_any p (finds n z)) (same_Some y x at) ∙ ap (λ j. list_any p (finds j x)) (let same : n ≡ k = omega arith in same) ∙ is)
any_each p finds n (y ∷ xs) (suc i) k x e at is =
    list_any-append p (finds n y) (each_from finds (n + 1) xs)
    ∙ or_right (list_any p (finds n y)) (list_any p (each_from finds (n + 1) xs)) (any_each p finds (n + 1) xs i k x (omega arith) at is)

-- ---- order

abbrev AttributeBefore : Metamodel → List PatternNode → List SetItem → ℕ → ℕ → ℕ → Type 0
AttributeBefore m nodes sets n a b = SlotBefore m nodes (slot_at sets n a) (slot_at sets n b)

features_in_order : (m : Metamodel) → IsMeta m → (nodes : List PatternNode) (sets : List SetItem) (n : ℕ) (node : PatternNode) → slice_get nodes n ≡ Some node → EachPair (AttributeBefore m nodes sets n) (features_of m node.class)
features_in_order m is nodes sets n node at = EachPair-from (AttributeBefore m nodes sets n) (features_of m node.class) (λ i j a b low at_i at_j.
    let first = stands_first (features_of m node.class) i a (features_differ m is node.class) at_i in
    let second = stands_first (features_of m node.class) j b (features_differ m is node.class) at_j in
    let before : position_or_len (eqb a) (features_of m node.class) < position_or_len (eqb b) (features_of m node.class) = omega (arith, first, second) in
    inr (refl, rw at before))

-- Attributes of one class are in the order of its features.
in_class : (m : Metamodel) → IsMeta m → (nodes : List PatternNode) (reads : List SlotRead) (sets : List SetItem) (n : ℕ) (node : PatternNode) → slice_get nodes n ≡ Some node → EachPair (SlotBefore m nodes) (slots_at_node m reads sets n node)
in_class m is nodes reads sets n node at = go (is_left node.mark)
  where
    go : (b : Bool) → EachPair (SlotBefore m nodes) (if b then map (slot_at sets n) (filter (is_used reads sets n) (attributes_of m node.class)) else [])
    go true = EachPair-map (SlotBefore m nodes) (slot_at sets n) (filter (is_used reads sets n) (attributes_of m node.class))
        (EachPair-filter (AttributeBefore m nodes sets n) (is_used reads sets n) (attributes_of m node.class)
        (EachPair-filter (AttributeBefore m nodes sets n) (λ f. is_some (type_of m f)) (features_of m node.class) (features_in_order m is nodes sets n node at)))
    go false = tt

in_order_from : (m : Metamodel) → IsMeta m → (nodes : List PatternNode) (reads : List SlotRead) (sets : List SetItem) (first : ℕ) (own : List PatternNode) →
    ((i : ℕ) (node : PatternNode) → slice_get own i ≡ Some node → slice_get nodes (first + i) ≡ Some node) → EachPair (SlotBefore m nodes) (each_from (slots_at_node m reads sets) first own)
in_order_from m is nodes reads sets first [] at = tt
in_order_from m is nodes reads sets first (node ∷ own) at =
    EachPair-append (SlotBefore m nodes) (slots_at_node m reads sets first node) (each_from (slots_at_node m reads sets) (first + 1) own)
    (in_class m is nodes reads sets first node (ap (slice_get nodes) (let e : first ≡ first + 0 = omega arith in e) ∙ at 0 node refl))
    (in_order_from m is nodes reads sets (first + 1) own (λ i n here. ap (slice_get nodes) (let e : first + 1 + i ≡ first + suc i = omega arith in e) ∙ at (suc i) n here))
    (all_at m (λ (s : PatternSlot). All (SlotBefore m nodes s) (each_from (slots_at_node m reads sets) (first + 1) own)) reads sets first node (λ left a t.
    All-each_from (SlotBefore m nodes (slot_at sets first a)) (slots_at_node m reads sets) (first + 1) own (λ i n here.
    all_at m (SlotBefore m nodes (slot_at sets first a)) reads sets (first + 1 + i) n (λ left_too b u. inl (let low : first < first + 1 + i = omega arith in low)))))

-- ---- all of it

keep_left : (k : Mark) → is_keep k ≡ true → is_left k ≡ true
keep_left mark.Keep e = refl
keep_left mark.Drop e = refl
keep_left mark.Make e = cc

-- What a slot of a known kind is of.
record Known (m : Metamodel) (nodes : List PatternNode) (n a : ℕ) : Type 0 where
  node : PatternNode
  at : slice_get nodes n ≡ Some node
  left : is_left node.mark ≡ true
  there : has (attributes_of m node.class) a ≡ true

known : (m : Metamodel) (nodes : List PatternNode) (n a : ℕ) → is_some (slot_kind m nodes n a) ≡ true → Known m nodes n a
known m nodes n a e = go (slice_get nodes n) refl e
  where
    may : (node : PatternNode) (b : Bool) → slice_get nodes n ≡ Some node → (is_left node.mark && has (attributes_of m node.class) a) ≡ b → is_some (if b then option_map kind_of_type (type_of m a) else None) ≡ true → Known m nodes n a
    may node true at is e = let parts = and_parts (is_left node.mark) (has (attributes_of m node.class) a) is in record { node = node; at = at; left = parts.0; there = parts.1 }
    may node false at is e = absurd (false≢true e)

    go : (o : Option PatternNode) → slice_get nodes n ≡ o → is_some (option_and_then (λ (node : PatternNode). if is_left node.mark && has (attributes_of m node.class) a then option_map kind_of_type (type_of m a) else None) o) ≡ true → Known m nodes n a
    go None at e = absurd (false≢true e)
    go (Some node) at e = may node (is_left node.mark && has (attributes_of m node.class) a) at refl e

-- A node of a number that isn't below is one of the own ones.
own_at : (before own : List PatternNode) (n : ℕ) (node : PatternNode) → length before ≤ n → slice_get (before ++ own) n ≡ Some node → (i : ℕ) × (n ≡ length before + i) × (slice_get own i ≡ Some node)
own_at before own n node low at =
    let e : n ≡ length before + (n - length before) = omega arith in
    (n - length before, e, sym (slice_get-rest before own (n - length before) n e) ∙ at)

-- The reads that make slots of these nodes are those of which the rule's form speaks.
abbrev pub SameReads : List SlotRead → List SlotRead → ℕ → ℕ → Type 0
SameReads reads those low high = (n a : ℕ) → low ≤ n → n < high → is_read_at reads n a ≡ is_read_at those n a

placed : (before own : List PatternNode) (i : ℕ) (node : PatternNode) → slice_get own i ≡ Some node → slice_get (before ++ own) (length before + i) ≡ Some node
placed before own i node here = slice_get-rest before own i (length before + i) refl ∙ here

-- What holds of each slot that is read or set, at a left node, holds of all.
of_each : (m : Metamodel) (P : PatternSlot → Type 0) (before own : List PatternNode) (reads : List SlotRead) (sets : List SetItem) →
    ((i : ℕ) (node : PatternNode) → slice_get own i ≡ Some node → is_left node.mark ≡ true → (a : ℕ) → (is_read_at reads (length before + i) a || is_set_at sets (length before + i) a) ≡ true → P (slot_at sets (length before + i) a)) →
    All P (each_from (slots_at_node m reads sets) (length before) own)
of_each m P before own reads sets h = All-each_from P (slots_at_node m reads sets) (length before) own (λ i node here. all_at m P reads sets (length before + i) node (h i node here))

-- A slot that is read or set at one of these nodes is there.
found : (m : Metamodel) (before own : List PatternNode) (reads : List SlotRead) (sets : List SetItem) (n a : ℕ) (node : PatternNode) → length before ≤ n → slice_get (before ++ own) n ≡ Some node → is_left node.mark ≡ true → has (attributes_of m node.class) a ≡ true →
    (is_read_at reads n a || is_set_at sets n a) ≡ true → has_slot (each_from (slots_at_node m reads sets) (length before) own) n (Attribute a) ≡ true
found m before own reads sets n a node low at left there t =
    let here = own_at before own n node low at in
    any_each (λ (slot : PatternSlot). eqb slot.node n && is_kind slot.kind (Attribute a)) (slots_at_node m reads sets) (length before) own here.0 n node here.1 here.2 (slot_there m reads sets n a node left there t)

in_own : (before own : List PatternNode) (n : ℕ) (node : PatternNode) → length before ≤ n → slice_get (before ++ own) n ≡ Some node → n < length before + length own
in_own before own n node low at =
    let here = own_at before own n node low at in
    let within = slice_get_within own here.0 node here.2 in
    omega (arith, here.1)

all_read_there : (m : Metamodel) (before own : List PatternNode) (reads those : List SlotRead) (sets : List SetItem) → SameReads reads those (length before) (length before + length own) →
    All (λ read. is_some (slot_kind m (before ++ own) read.node read.attribute) ≡ true) those →
    All (λ read. length before ≤ read.node → has_slot (each_from (slots_at_node m reads sets) (length before) own) read.node (Attribute read.attribute) ≡ true) those
all_read_there m before own reads those sets same all_known = All-from (λ (read : SlotRead). length before ≤ read.node → has_slot (each_from (slots_at_node m reads sets) (length before) own) read.node (Attribute read.attribute) ≡ true) those each_there
  where
    each_there : (k : ℕ) (read : SlotRead) → slice_get those k ≡ Some read → length before ≤ read.node → has_slot (each_from (slots_at_node m reads sets) (length before) own) read.node (Attribute read.attribute) ≡ true
    each_there k read here low =
        let is = known m (before ++ own) read.node read.attribute (All-at (λ (read : SlotRead). is_some (slot_kind m (before ++ own) read.node read.attribute) ≡ true) those k read all_known here) in
        let itself = and_from (eqb read.node read.node) (eqb read.attribute read.attribute) (eq-eqb read.node read.node refl) (eq-eqb read.attribute read.attribute refl) in
        let read_here = any_at (λ (r : SlotRead). eqb r.node read.node && eqb r.attribute read.attribute) those k read here itself in
        found m before own reads sets read.node read.attribute is.node low is.at is.left is.there
        (or_left (is_read_at reads read.node read.attribute) (is_set_at sets read.node read.attribute) (same read.node read.attribute low (in_own before own read.node is.node low is.at) ∙ read_here))

all_set_there : (m : Metamodel) (scope : Scope) (before own : List PatternNode) (reads : List SlotRead) (sets : List SetItem) →
    All (λ item. (length before ≤ item.node) × SetFits m scope (before ++ own) item) sets →
    All (λ item. node_is is_keep (before ++ own) item.node ≡ true → has_slot (each_from (slots_at_node m reads sets) (length before) own) item.node (Attribute item.attribute) ≡ true) sets
all_set_there m scope before own reads sets all_fit = All-from (λ (item : SetItem). node_is is_keep (before ++ own) item.node ≡ true → has_slot (each_from (slots_at_node m reads sets) (length before) own) item.node (Attribute item.attribute) ≡ true) sets each_there
  where
    each_there : (k : ℕ) (item : SetItem) → slice_get sets k ≡ Some item → node_is is_keep (before ++ own) item.node ≡ true → has_slot (each_from (slots_at_node m reads sets) (length before) own) item.node (Attribute item.attribute) ≡ true
    each_there k item here keeps = go (slice_get (before ++ own) item.node) refl fit.1.0 keeps
      where
        fit : (length before ≤ item.node) × SetFits m scope (before ++ own) item
        fit = All-at (λ (item : SetItem). (length before ≤ item.node) × SetFits m scope (before ++ own) item) sets k item all_fit here

        set_here : is_set_at sets item.node item.attribute ≡ true
        set_here = any_at (λ (s : SetItem). eqb s.node item.node && eqb s.attribute item.attribute) sets k item here
            (and_from (eqb item.node item.node) (eqb item.attribute item.attribute) (eq-eqb item.node item.node refl) (eq-eqb item.attribute item.attribute refl))

        go : (o : Option PatternNode) → slice_get (before ++ own) item.node ≡ o → IsSomeAnd o (λ node. (not (is_drop node.mark) ≡ true) × (has (attributes_of m node.class) item.attribute ≡ true)) → unwrap_or (option_map (λ (node : PatternNode). is_keep node.mark) o) false ≡ true →
            has_slot (each_from (slots_at_node m reads sets) (length before) own) item.node (Attribute item.attribute) ≡ true
        go None at is keep = absurd is
        go (Some node) at is keep = found m before own reads sets item.node item.attribute node fit.0 at (keep_left node.mark keep) is.1
            (or_right (is_read_at reads item.node item.attribute) (is_set_at sets item.node item.attribute) set_here)

-- Among few nodes each place is a number.
plain : (m : Metamodel) (reads : List SlotRead) (sets : List SetItem) (first : ℕ) (own : List PatternNode) → first + length own ≤ 65536 → slots_from m reads sets first own ≡ each_from (slots_at_node m reads sets) first own
plain m reads sets first [] few = refl
plain m reads sets first (node ∷ own) few =
    ap₂ (λ (here later : List PatternSlot). here ++ later)
    (ap (λ (o : Option ℕ). option_map_or (λ n. slots_at_node m reads sets n node) o []) (number_there first (omega arith)))
    (plain m reads sets (first + 1) own (omega arith))

-- What is read or set, as slots of nodes.
among_read : (reads : List SlotRead) (slot : PatternSlot) → is_among (slots_read reads) slot ≡ is_read reads slot
among_read [] slot = refl
among_read (read ∷ reads) slot = ap (λ b. (eqb read.node slot.node && is_kind (Attribute read.attribute) slot.kind) || b) (among_read reads slot)

among_set : (sets : List SetItem) (slot : PatternSlot) → is_among (slots_set sets) slot ≡ is_set sets slot
among_set [] slot = refl
among_set (item ∷ sets) slot = ap (λ b. (eqb item.node slot.node && is_kind (Attribute item.attribute) slot.kind) || b) (among_set sets slot)

-- The slots are in order, and of the block's own left nodes.
pub slots_in_form : (m : Metamodel) → IsMeta m → (before own : List PatternNode) (reads : List SlotRead) (sets : List SetItem) → length before + length own ≤ 65536 →
    EachPair (SlotBefore m (before ++ own)) (slots_from m reads sets (length before) own) × All (λ slot. (length before ≤ slot.node) × (node_is is_left (before ++ own) slot.node ≡ true)) (slots_from m reads sets (length before) own)
slots_in_form m is before own reads sets few = subst (λ (slots : List PatternSlot). EachPair (SlotBefore m (before ++ own)) slots × All (λ slot. (length before ≤ slot.node) × (node_is is_left (before ++ own) slot.node ≡ true)) slots) (sym (plain m reads sets (length before) own few)) (
  in_order_from m is (before ++ own) reads sets (length before) own (placed before own),
  of_each m (λ (slot : PatternSlot). (length before ≤ slot.node) × (node_is is_left (before ++ own) slot.node ≡ true)) before own reads sets
      (λ i node here left a t. (let low : length before ≤ length before + i = omega arith in low, rw (placed before own i node here) left)),
)

pub are_slots : (m : Metamodel) → IsMeta m → (scope : Scope) (before own : List PatternNode) (reads those : List SlotRead) (sets : List SetItem) → length before + length own ≤ 65536 → SameReads reads those (length before) (length before + length own) →
    All (λ read. is_some (slot_kind m (before ++ own) read.node read.attribute) ≡ true) those → All (λ item. (length before ≤ item.node) × SetFits m scope (before ++ own) item) sets →
    AreSlots (before ++ own) (length before) (slots_read those) (slots_set sets) (slots_from m reads sets (length before) own)
are_slots m is scope before own reads those sets few same all_known all_fit = subst (AreSlots (before ++ own) (length before) (slots_read those) (slots_set sets)) (sym (plain m reads sets (length before) own few)) (record {
  needed = of_each m Needed before own reads sets
      (λ i node here left a t.
      let below = slice_get_within own i node here in
      let slot = slot_at sets (length before + i) a in (
        ap (λ b. b || is_among (slots_set sets) slot) (among_read those slot) ∙ ap (λ b. is_read those slot || b) (among_set sets slot)
            ∙ ap (λ b. b || is_set_at sets (length before + i) a) (sym (same (length before + i) a (omega arith) (omega arith))) ∙ t,
        sym (among_set sets slot),
      ));
  all_read = All-map (λ s. length before ≤ s.node → has_slot slots s.node s.kind ≡ true) slot_of_read those (all_read_there m before own reads those sets same all_known);
  all_written = All-map (λ s. node_is is_keep (before ++ own) s.node ≡ true → has_slot slots s.node s.kind ≡ true) slot_of_set sets (all_set_there m scope before own reads sets all_fit);
})
  where
    Needed : PatternSlot → Type 0
    Needed slot = ((is_among (slots_read those) slot || is_among (slots_set sets) slot) ≡ true) × (slot.written ≡ is_among (slots_set sets) slot)

    slots : List PatternSlot
    slots = each_from (slots_at_node m reads sets) (length before) own
