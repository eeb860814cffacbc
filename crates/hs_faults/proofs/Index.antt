-- Maps of items by their names, with one more item.
use Rattle.std.proofs.Common.{ℕ, ◌+◌, ◌<◌, ◌≡◌, ◌++◌, ◌∷◌, [], List, Bool, true, false, cond, not, is_some, Option, Some, None, length, take, get_or, refl, sym, ap, subst, ◌∙◌, Bor}
use Rattle.std.proofs.lemmas.Bool.{false≢true}
use Rattle.std.proofs.lemmas.List.{take_more}
use Rattle.std.proofs.lemmas.List.Folds.{find-append}
use Rattle.std.proofs.lemmas.Map.Text.{hash_map_updates_str}
use Rattle.std.proofs.lemmas.Slice.Eq.{bytes_eq-Decides}
use Rattle.std.specs.Cmp.Lexicographic.{nat_list_eq_equiv}
use Rattle.std.specs.Option.{option_copied, option_or}
use Rattle.std.specs.Str.{bytes_eq}
use Rattle.indexmap.specs.IndexMap.{IndexMap, UpdatesBy, get_by}
use Rattle.hs_expr.specs.declared.Name.{Name}
use Rattle.hs_expr.specs.Lists.{same_text}
use Rattle.hs_faults.specs.Named.{Knows, first_named}

some-copied : {T : Type 0} (found : Option (Bor T)) → is_some (option_copied found) ≡ is_some found
some-copied None = refl
some-copied (Some x) = refl

-- What the map has for a name is there exactly where an item has it.
pub known_there : {T S : Type 0} (name_of : T → Name) (items : List T) (known : IndexMap (Bor (List ℕ)) (Bor T) S) (name : List ℕ) (found : Option (Bor T)) →
    Knows name_of known items → found ≡ get_by (λ k. bytes_eq name k.now) known → is_some found ≡ is_some (first_named name_of items name)
known_there name_of items known name found knows e = ap is_some e ∙ sym (some-copied (get_by (λ k. bytes_eq name k.now) known)) ∙ ap is_some (knows name)

one_more : {T : Type 0} (here there : Bool) (before : Option T) (item : T) (at : Bor T) (old : Option (Bor T)) →
    here ≡ there → (here ≡ true → before ≡ None) → at.now ≡ item → option_copied old ≡ before →
    option_copied (cond here (Some at) old) ≡ option_or before (cond there (Some item) None)
one_more true true before item at old e none is copied = ap Some is ∙ sym (ap (λ b. option_or b (Some item)) (none refl))
one_more true false before item at old e none is copied = absurd (false≢true (sym e))
one_more false true before item at old e none is copied = absurd (false≢true e)
one_more false false None item at old e none is copied = copied
one_more false false (Some x) item at old e none is copied = copied

absent : {T : Type 0} (found : Option T) → is_some found ≡ false → found ≡ None
absent None e = refl
absent (Some x) e = absurd (false≢true (sym e))

-- With a new name the map knows one more item.
pub known_more : {T S : Type 0} (name_of : T → Name) (items : List T) (item : T) (at : Bor T) (known next : IndexMap (Bor (List ℕ)) (Bor T) S) →
    Knows name_of known items → at.now ≡ item → is_some (first_named name_of items (name_of item).text) ≡ false →
    UpdatesBy (λ x y. bytes_eq x.now y.now) (λ k. bytes_eq (name_of item).text k.now) known next (Some at) →
    Knows name_of next (items ++ item ∷ [])
known_more name_of items item at known next knows is new updates = λ name.
    ap option_copied (hash_map_updates_str (name_of item).text known next (Some at) updates name)
    ∙ one_more (same_text (name_of item).text name) (same_text name (name_of item).text) (first_named name_of items name) item at (get_by (λ k. bytes_eq name k.now) known)
    (nat_list_eq_equiv.symm (name_of item).text name)
    (λ e. absent (first_named name_of items name) (ap (λ t. is_some (first_named name_of items t)) (sym ((bytes_eq-Decides (name_of item).text name).0 e)) ∙ new))
    is (knows name)
    ∙ sym (find-append (λ other. same_text name (name_of other).text) items (item ∷ []))

-- What was there, apart from what wasn't.
pub new_is : (old new there : Bool) → old ≡ not new → old ≡ there → new ≡ not there
new_is old true there e f = ap not (sym e ∙ f)
new_is old false there e f = ap not (sym e ∙ f)

pub not_there : (new there : Bool) → new ≡ not there → new ≡ true → there ≡ false
not_there new true e f = sym f ∙ e
not_there new false e f = refl

found_there : {T : Type 0} (here there : Bool) (front back : Option T) → (here ≡ true → is_some front ≡ true) → there ≡ here → back ≡ cond there back None → option_or front back ≡ front
found_there true there (Some x) back h e none = refl
found_there true there None back h e none = absurd (false≢true (h refl))
found_there false true front back h e none = absurd (false≢true (sym e))
found_there false false (Some x) back h e none = refl
found_there false false None back h e none = none

-- An item whose name is there changes nothing.
pub known_again : {T S : Type 0} (name_of : T → Name) (items : List T) (item : T) (known : IndexMap (Bor (List ℕ)) (Bor T) S) →
    Knows name_of known items → is_some (first_named name_of items (name_of item).text) ≡ true → Knows name_of known (items ++ item ∷ [])
known_again name_of items item known knows there = λ name.
    knows name
    ∙ sym (found_there (same_text name (name_of item).text) (same_text name (name_of item).text) (first_named name_of items name) (cond (same_text name (name_of item).text) (Some item) None)
    (λ e. ap (λ t. is_some (first_named name_of items t)) ((bytes_eq-Decides name (name_of item).text).0 e) ∙ there)
    refl (only_then (same_text name (name_of item).text) item))
    ∙ sym (find-append (λ other. same_text name (name_of other).text) items (item ∷ []))
  where
    only_then : {T : Type 0} (b : Bool) (item : T) → cond b (Some item) None ≡ cond b (cond b (Some item) None) None
    only_then true item = refl
    only_then false item = refl

-- What is known after an item is known of the items up to it.
pub known_next : {T S : Type 0} (name_of : T → Name) (items : List T) (i : ℕ) (item : T) (known : IndexMap (Bor (List ℕ)) (Bor T) S) →
    i < length items → get_or items i item ≡ item → Knows name_of known (take i items ++ item ∷ []) → Knows name_of known (take (i + 1) items)
known_next name_of items i item known h is knows =
    subst (Knows name_of known) (sym (take_more items i item h ∙ ap (λ y. take i items ++ y ∷ []) is)) knows
