-- Entries where they are: joined lists, those of one request, and what a lawful journal says of each.
use Rattle.std.proofs.Common.{◌≡◌, List, [], ◌∷◌, ◌++◌, length, take, Bool, true, false, Option, Some, slice_get, refl, sym, ap, ◌∙◌, subst}
use Rattle.std.specs.Prelude.{IfSome}
use Rattle.std.specs.List.{All}
use Rattle.std.proofs.lemmas.List.{append-nil, append_assoc}
use Rattle.std.proofs.lemmas.List.Sums.{fold-append}
use Rattle.std.proofs.lemmas.List.Elements.{All-nil, All-cons, All-head, All-tail}
use Rattle.hs_types.specs.declared.entry.Entry.{Entry}
use Rattle.hs_types.specs.declared.graph.Graph.{Graph}
use Rattle.hs_types.specs.Rules.{Rules}
use Rattle.hs_types.specs.Journal.{IsLawful, IsLawfulEntry, after_entry, after_journal}
use Rattle.hs_session.specs.Standing.{Standing, entry_place, standing_after}
use Rattle.hs_session.specs.Requests.{Asked, is_of}
use Rattle.hs_session.specs.Replies.{entries_of}

-- The entries of two lists, one after the other.
pub standing-append : (rules : Rules) (before : List Entry) (g : Graph) (xs ys : List Entry) →
    standing_after rules before g (xs ++ ys) ≡ standing_after rules before g xs ++ standing_after rules (before ++ xs) (after_journal rules g xs) ys
standing-append rules before g [] ys = ap (λ b. standing_after rules b g ys) (sym (append-nil before))
standing-append rules before g (x ∷ xs) ys = ap (λ l. record { before = before; graph = g; entry = x } ∷ l)
    (standing-append rules (before ++ x ∷ []) (after_entry rules g x) xs ys
    ∙ ap (λ b. standing_after rules (before ++ x ∷ []) (after_entry rules g x) xs ++ standing_after rules b (after_journal rules (after_entry rules g x) xs) ys) (append_assoc before (x ∷ []) xs))

pub nothing-placed : (rules : Rules) (before : List Entry) (g : Graph) (xs : List Entry) → standing_after rules before g xs ≡ [] → xs ≡ []
nothing-placed rules before g [] e = refl
nothing-placed rules before g (x ∷ xs) e = absurd (cc)

-- Those of a request, where all are of it or none is.
pub all_theirs : (rules : Rules) (a : Asked) (before : List Entry) (g : Graph) (xs : List Entry) → All (λ e. is_of a e ≡ true) xs → entries_of a (standing_after rules before g xs) ≡ standing_after rules before g xs
all_theirs rules a before g [] all = refl
all_theirs rules a before g (x ∷ xs) all = rw (All-head (λ e. is_of a e ≡ true) x xs all, all_theirs rules a (before ++ x ∷ []) (after_entry rules g x) xs (All-tail (λ e. is_of a e ≡ true) x xs all)) refl

pub none_theirs : (rules : Rules) (a : Asked) (before : List Entry) (g : Graph) (xs : List Entry) → All (λ e. is_of a e ≡ false) xs → entries_of a (standing_after rules before g xs) ≡ []
none_theirs rules a before g [] all = refl
none_theirs rules a before g (x ∷ xs) all = rw (All-head (λ e. is_of a e ≡ false) x xs all, none_theirs rules a (before ++ x ∷ []) (after_entry rules g x) xs (All-tail (λ e. is_of a e ≡ false) x xs all)) refl

pub entries-append : (a : Asked) (xs ys : List Standing) → entries_of a (xs ++ ys) ≡ entries_of a xs ++ entries_of a ys
entries-append a [] ys = refl
entries-append a (x ∷ xs) ys = go (is_of a x.entry) refl (entries-append a xs ys)
  where
    go : (b : Bool) → is_of a x.entry ≡ b → entries_of a (xs ++ ys) ≡ entries_of a xs ++ entries_of a ys → entries_of a ((x ∷ xs) ++ ys) ≡ entries_of a (x ∷ xs) ++ entries_of a ys
    go true e more = rw e (ap (λ l. x ∷ l) more)
    go false e more = rw e more

pub front_theirs : (rules : Rules) (a : Asked) (before : List Entry) (g : Graph) (xs ys : List Entry) → All (λ e. is_of a e ≡ true) xs → All (λ e. is_of a e ≡ false) ys →
    entries_of a (standing_after rules before g (xs ++ ys)) ≡ standing_after rules before g xs
front_theirs rules a before g xs ys all none =
    ap (entries_of a) (standing-append rules before g xs ys) ∙ entries-append a (standing_after rules before g xs) (standing_after rules (before ++ xs) (after_journal rules g xs) ys)
    ∙ ap (λ l. l ++ entries_of a (standing_after rules (before ++ xs) (after_journal rules g xs) ys)) (all_theirs rules a before g xs all)
    ∙ ap (λ l. standing_after rules before g xs ++ l) (none_theirs rules a (before ++ xs) (after_journal rules g xs) ys none) ∙ append-nil (standing_after rules before g xs)

pub rest_theirs : (rules : Rules) (a : Asked) (before : List Entry) (g : Graph) (xs ys : List Entry) → All (λ e. is_of a e ≡ false) xs →
    entries_of a (standing_after rules before g (xs ++ ys)) ≡ entries_of a (standing_after rules (before ++ xs) (after_journal rules g xs) ys)
rest_theirs rules a before g xs ys none =
    ap (entries_of a) (standing-append rules before g xs ys) ∙ entries-append a (standing_after rules before g xs) (standing_after rules (before ++ xs) (after_journal rules g xs) ys)
    ∙ ap (λ l. l ++ entries_of a (standing_after rules (before ++ xs) (after_journal rules g xs) ys)) (none_theirs rules a before g xs none)

-- Each entry of a lawful journal is lawful where it is.
abbrev pub IsLawfulAt : Rules → Standing → Type 0
IsLawfulAt rules s = IsLawfulEntry rules s.before s.graph (entry_place s) s.entry

next_at : {A : Type 0} (xs : List A) (x : A) (ys : List A) → slice_get (xs ++ x ∷ ys) (length xs) ≡ Some x
next_at [] x ys = refl
next_at (z ∷ xs) x ys = next_at xs x ys

taken_before : {A : Type 0} (xs ys : List A) → take (length xs) (xs ++ ys) ≡ xs
taken_before [] [] = refl
taken_before [] (y ∷ ys) = refl
taken_before (x ∷ xs) ys = ap (λ l. x ∷ l) (taken_before xs ys)

pub lawful_along : (rules : Rules) (opening : Graph) (before : List Entry) (g : Graph) (entries : List Entry) → after_journal rules opening before ≡ g → IsLawful rules opening (before ++ entries) →
    All (IsLawfulAt rules) (standing_after rules before g entries)
lawful_along rules opening before g [] same lawful = All-nil (IsLawfulAt rules)
lawful_along rules opening before g (e ∷ es) same lawful = All-cons (IsLawfulAt rules) (record { before = before; graph = g; entry = e }) (standing_after rules (before ++ e ∷ []) (after_entry rules g e) es)
    (subst (λ (x : Graph). IsLawfulEntry rules before x (length before) e) same here)
    (lawful_along rules opening (before ++ e ∷ []) (after_entry rules g e) es (fold-append (after_entry rules) opening before (e ∷ []) ∙ ap (λ x. after_entry rules x e) same) (subst (IsLawful rules opening) (sym (append_assoc before (e ∷ []) es)) lawful))
  where
    at : IfSome (slice_get (before ++ e ∷ es) (length before)) (IsLawfulEntry rules (take (length before) (before ++ e ∷ es)) (after_journal rules opening (take (length before) (before ++ e ∷ es))) (length before))
    at = lawful (length before)

    there : IfSome (slice_get (before ++ e ∷ es) (length before)) (IsLawfulEntry rules before (after_journal rules opening before) (length before))
    there = subst (λ (l : List Entry). IfSome (slice_get (before ++ e ∷ es) (length before)) (IsLawfulEntry rules l (after_journal rules opening l) (length before))) (taken_before before (e ∷ es)) at

    here : IsLawfulEntry rules before (after_journal rules opening before) (length before) e
    here = subst (λ (o : Option Entry). IfSome o (IsLawfulEntry rules before (after_journal rules opening before) (length before))) (next_at before e es) there
