-- Slots that are set, with one more.
use Rattle.std.proofs.Common.{ℕ, ◌≡◌, ◌++◌, ◌∷◌, [], ◌&&◌, ◌||◌, List, Bool, true, false, cond, OnOk, Option, Some, Result, Ok, Err, refl, sym, ap, ◌∙◌, Bor}
use Rattle.std.proofs.lemmas.Bool.{false≢true}
use Rattle.std.proofs.lemmas.List.Folds.{list_any-append}
use Rattle.std.proofs.lemmas.Map.Text.{hash_map_updates_str}
use Rattle.std.proofs.lemmas.Slice.Eq.{bytes_eq-Decides}
use Rattle.std.specs.Cmp.Lexicographic.{nat_list_eq_equiv}
use Rattle.std.specs.List.{list_any}
use Rattle.std.specs.Option.{option_map_or}
use Rattle.std.specs.Str.{bytes_eq}
use Rattle.indexmap.specs.IndexMap.{IndexMap, UpdatesBy, get_by}
use Rattle.hs_expr.specs.Lists.{same_text}
use Rattle.hs_faults.specs.StatementFaults.{Slot, is_set_before}
use Rattle.hs_faults.specs.Written.{HasSlots, attributes_in}

-- What an update of one key leaves for each name.
or_none : {A : Type 0} (b : Bool) (w old : Option (List A)) → option_map_or (λ (x : List A). x) (cond b w old) [] ≡ cond b (option_map_or (λ (x : List A). x) w []) (option_map_or (λ (x : List A). x) old [])
or_none true w old = refl
or_none false w old = refl

pub updated : {S : Type 0} (node : List ℕ) (old new : IndexMap (Bor (List ℕ)) (List (Bor (List ℕ))) S) (w : Option (List (Bor (List ℕ)))) →
    UpdatesBy (λ x y. bytes_eq x.now y.now) (λ k. bytes_eq node k.now) old new w →
    (name : List ℕ) → attributes_in new name ≡ cond (same_text node name) (option_map_or (λ attributes. attributes) w []) (attributes_in old name)
updated node old new w updates name =
    ap (λ (found : Option (List (Bor (List ℕ)))). option_map_or (λ (x : List (Bor (List ℕ))). x) found []) (hash_map_updates_str node old new w updates name)
    ∙ or_none (same_text node name) w (get_by (λ k. bytes_eq name k.now) old)

twice_cond : {A : Type 0} (b : Bool) (x y z : A) → cond b x (cond b y z) ≡ cond b x z
twice_cond true x y z = refl
twice_cond false x y z = refl

-- An attribute more, where the node's attributes were taken out and are put back with it.
pub put_back : {S : Type 0} (node : List ℕ) (old mid new : IndexMap (Bor (List ℕ)) (List (Bor (List ℕ))) S) (attributes : List (Bor (List ℕ))) →
    ((name : List ℕ) → attributes_in mid name ≡ cond (same_text node name) [] (attributes_in old name)) →
    UpdatesBy (λ x y. bytes_eq x.now y.now) (λ k. bytes_eq node k.now) mid new (Some attributes) →
    (name : List ℕ) → attributes_in new name ≡ cond (same_text node name) attributes (attributes_in old name)
put_back node old mid new attributes left updates name =
    updated node mid new (Some attributes) updates name
    ∙ ap (cond (same_text node name) attributes) (left name)
    ∙ twice_cond (same_text node name) attributes [] (attributes_in old name)

or_false : (a : Bool) → (a || false) ≡ a
or_false true = refl
or_false false = refl

more_here : (here there : Bool) (before : Bool) (old there_old : List (Bor (List ℕ))) (at : Bor (List ℕ)) (attribute : List ℕ) →
    here ≡ there → (here ≡ true → list_any (λ other. same_text attribute other.now) there_old ≡ before) → list_any (λ other. same_text attribute other.now) old ≡ before →
    list_any (λ other. same_text attribute other.now) (cond here (there_old ++ at ∷ []) old) ≡ (before || (there && same_text attribute at.now || false))
more_here true true before old there_old at attribute e here none =
    list_any-append (λ (other : Bor (List ℕ)). same_text attribute other.now) there_old (at ∷ []) ∙ ap (λ b. b || (same_text attribute at.now || false)) (here refl)
more_here true false before old there_old at attribute e here none = absurd (false≢true (sym e))
more_here false true before old there_old at attribute e here none = absurd (false≢true e)
more_here false false before old there_old at attribute e here none = none ∙ sym (or_false before)

-- With one more attribute of a node the map has one more slot.
pub slot_more : {S : Type 0} (node : List ℕ) (at : Bor (List ℕ)) (old new : IndexMap (Bor (List ℕ)) (List (Bor (List ℕ))) S) (slots : List Slot) →
    HasSlots old slots → ((name : List ℕ) → attributes_in new name ≡ cond (same_text node name) (attributes_in old node ++ at ∷ []) (attributes_in old name)) →
    HasSlots new (slots ++ record { node = node; attribute = at.now } ∷ [])
slot_more node at old new slots has more = λ name attribute.
    ap (list_any (λ (other : Bor (List ℕ)). same_text attribute other.now)) (more name)
    ∙ more_here (same_text node name) (same_text name node) (is_set_before slots name attribute) (attributes_in old name) (attributes_in old node) at attribute
    (nat_list_eq_equiv.symm node name)
    (λ e. ap (λ n. list_any (λ (other : Bor (List ℕ)). same_text attribute other.now) (attributes_in old n)) ((bytes_eq-Decides node name).0 e) ∙ has name attribute)
    (has name attribute)
    ∙ sym (list_any-append (λ (slot : Slot). same_text name slot.node && same_text attribute slot.attribute) slots (record { node = node; attribute = at.now } ∷ []))

pub on_ok : {A E P Q : Type 0} (r : Result A E) → (P → Q) → OnOk r P → OnOk r Q
on_ok (Ok x) f h = f h
on_ok (Err e) f h = tt
