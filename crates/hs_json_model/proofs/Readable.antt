-- Values whose compact text is read back: with integers of 64 bits, and members in the order of their keys.
use Rattle.std.proofs.Common.{ℕ, zero, suc, ◌≤◌, ◌≡◌, List, [], ◌∷◌, append-nil, Option, Some, option_and_then, option_map, Ordering, Less, Equal, Greater, nat_cmp, refl, ap, sym, ◌∙◌, subst, arith}
use Rattle.std.proofs.lemmas.Cmp.{nat_list_cmp_total}
use Rattle.std.proofs.lemmas.Int.{clamps}
use Rattle.std.proofs.lemmas.List.Elements.{All-head, All-tail}
use Rattle.std.specs.Cmp.Lexicographic.{slice_cmp}
use Rattle.std.specs.List.{All}
use Rattle.std.specs.Ordering.{match_ordering, ordering_reverse}
use Rattle.json.specs.Json as json
use Rattle.json.specs.Lex.{tokens}
use Rattle.json.specs.Print.{IsNumber}
use Rattle.json.specs.Token.{Token}
use Rattle.json.specs.Tree as tree
use Rattle.json.proofs.Printed.Tokens.{tokens-print}
use Rattle.json.proofs.Printed.Trees.{ArePrintable-json_tokens, value-json_tokens}
use Rattle.serde_json.specs.Data.{Num, Data, null, boolean, number, string, array, object, Items, no_items, item, Members, no_members, member, put}
use Rattle.serde_json.specs.Read.{max_depth, number_of, of_items, of_json, of_members, read}
use Rattle.serde_json.specs.View.{items_of}
use Rattle.serde_json.specs.Written.{compact_text, items_outline, members_outline, number_text, outline}
use Rattle.serde_json.proofs.Texts.{print-outline}
use Rattle.hs_json_model.specs.Written.{Member, with_members}

-- The number's text is read as the number.
pub record IsReadableNumber (n : Num) : Type 0 where
  pub is_read : number_of (number_text n) ≡ Some n
  pub is_number : IsNumber (number_text n)

abbrev pub AllItems : (Data → Type 0) → Items → Type 0
AllItems P no_items = Unit {0}
AllItems P (item d ds) = P d × AllItems P ds

abbrev pub AllMembers : (Data → Type 0) → Members → Type 0
AllMembers P no_members = Unit {0}
AllMembers P (member k d ms) = P d × AllMembers P ms

-- The key comes before each of these.
abbrev pub Before : List ℕ → Members → Type 0
Before k no_members = Unit {0}
Before k (member l e ms) = (slice_cmp nat_cmp k l ≡ Less) × Before k ms

-- The keys rise.
abbrev pub Rises : Members → Type 0
Rises no_members = Unit {0}
Rises (member k d ms) = Before k ms × Rises ms

-- The value can be read back, and has at most n levels.
abbrev pub IsReadable : ℕ → Data → Type 0
IsReadable n null = Unit {0}
IsReadable n (boolean b) = Unit {0}
IsReadable n (number x) = IsReadableNumber x
IsReadable n (string s) = Unit {0}
IsReadable zero (array ds) = ⊥
IsReadable (suc n) (array ds) = AllItems (IsReadable n) ds
IsReadable zero (object ms) = ⊥
IsReadable (suc n) (object ms) = AllMembers (IsReadable n) ms × Rises ms

-- ---- members that are put

before_put : (j k : List ℕ) (d : Data) (ms : Members) → slice_cmp nat_cmp j k ≡ Less → Before j ms → Before j (put k d ms)
before_put j k d no_members h b = (h, tt)
before_put j k d (member l e ms) h b = go (slice_cmp nat_cmp k l) (before_put j k d ms h b.1)
  where
    go : (o : Ordering) → Before j (put k d ms) → Before j (match_ordering o (member k d (member l e ms)) (member l d ms) (member l e (put k d ms)))
    go Less later = (h, b)
    go Equal later = b
    go Greater later = (b.0, later)

before_all : (j k : List ℕ) (ms : Members) → slice_cmp nat_cmp j k ≡ Less → Before k ms → Before j ms
before_all j k no_members h b = tt
before_all j k (member l e ms) h b = (nat_list_cmp_total.trans j k l h b.0, before_all j k ms h b.1)

rises_put : (k : List ℕ) (d : Data) (ms : Members) → Rises ms → Rises (put k d ms)
rises_put k d no_members r = (tt, tt)
rises_put k d (member l e ms) r = go (slice_cmp nat_cmp k l) refl (rises_put k d ms r.1)
  where
    go : (o : Ordering) → slice_cmp nat_cmp k l ≡ o → Rises (put k d ms) → Rises (match_ordering o (member k d (member l e ms)) (member l d ms) (member l e (put k d ms)))
    go Less is later = ((is, before_all k l ms is r.0), r)
    go Equal is later = r
    go Greater is later = (before_put l k d ms (nat_list_cmp_total.antisymm l k ∙ ap ordering_reverse is) r.0, later)

pub rises_with : (ms : Members) (xs : List Member) → Rises ms → Rises (with_members ms xs)
rises_with ms [] r = r
rises_with ms (x ∷ xs) r = rises_with (put x.0 x.1 ms) xs (rises_put x.0 x.1 ms r)

all_put : (P : Data → Type 0) (k : List ℕ) (d : Data) (ms : Members) → P d → AllMembers P ms → AllMembers P (put k d ms)
all_put P k d no_members p all = (p, tt)
all_put P k d (member l e ms) p all = go (slice_cmp nat_cmp k l) (all_put P k d ms p all.1)
  where
    go : (o : Ordering) → AllMembers P (put k d ms) → AllMembers P (match_ordering o (member k d (member l e ms)) (member l d ms) (member l e (put k d ms)))
    go Less later = (p, all)
    go Equal later = (p, all.1)
    go Greater later = (all.0, later)

pub all_with : (P : Data → Type 0) (ms : Members) (xs : List Member) → AllMembers P ms → All (λ (x : Member). P x.1) xs → AllMembers P (with_members ms xs)
all_with P ms [] all more = all
all_with P ms (x ∷ xs) all more =
    all_with P (put x.0 x.1 ms) xs (all_put P x.0 x.1 ms (All-head (λ (x : Member). P x.1) x xs more) all) (All-tail (λ (x : Member). P x.1) x xs more)

-- An object whose members are put one after another.
pub readable_object : (n : ℕ) (xs : List Member) → All (λ (x : Member). IsReadable n x.1) xs → IsReadable (suc n) (object (with_members no_members xs))
readable_object n xs all = (all_with (IsReadable n) no_members xs tt all, rises_with no_members xs tt)

pub readable_items : (P : Data → Type 0) (ds : List Data) → All P ds → AllItems P (items_of ds)
readable_items P [] all = tt
readable_items P (d ∷ ds) all = (All-head P d ds all, readable_items P ds (All-tail P d ds all))

-- ---- members in the order of their keys are read one after another

abbrev join : Members → Members → Members
join no_members ms = ms
join (member k d found) ms = member k d (join found ms)

join_none : (ms : Members) → join ms no_members ≡ ms
join_none no_members = refl
join_none (member k d ms) = ap (member k d) (join_none ms)

join_one : (found : Members) (k : List ℕ) (d : Data) (ms : Members) → join (join found (member k d no_members)) ms ≡ join found (member k d ms)
join_one no_members k d ms = refl
join_one (member l e found) k d ms = ap (member l e) (join_one found k d ms)

before_middle : (l k : List ℕ) (d : Data) (found ms : Members) → Before l (join found (member k d ms)) → slice_cmp nat_cmp l k ≡ Less
before_middle l k d no_members ms b = b.0
before_middle l k d (member j e found) ms b = before_middle l k d found ms b.1

put_at_end : (found : Members) (k : List ℕ) (d : Data) (ms : Members) → Rises (join found (member k d ms)) → put k d found ≡ join found (member k d no_members)
put_at_end no_members k d ms r = refl
put_at_end (member l e found) k d ms r =
    let above : slice_cmp nat_cmp k l ≡ Greater = nat_list_cmp_total.antisymm k l ∙ ap ordering_reverse (before_middle l k d found ms r.0) in
    rw above (ap (member l e) (put_at_end found k d ms r.1))

members_read : (P : Data → Type 0) → ((d : Data) → P d → of_json (outline d) ≡ Some d) → (ms found : Members) → AllMembers P ms → Rises (join found ms) → of_members (members_outline ms) found ≡ Some (join found ms)
members_read P reads no_members found all r = ap Some (sym (join_none found))
members_read P reads (member k d ms) found all r =
    ap (option_and_then (λ e. of_members (members_outline ms) (put k e found))) (reads d all.0)
    ∙ ap (of_members (members_outline ms)) (put_at_end found k d ms r)
    ∙ members_read P reads ms (join found (member k d no_members)) all.1 (subst Rises (sym (join_one found k d ms)) r)
    ∙ ap Some (join_one found k d ms)

items_read : (P : Data → Type 0) → ((d : Data) → P d → of_json (outline d) ≡ Some d) → (ds : Items) → AllItems P ds → of_items (items_outline ds) ≡ Some ds
items_read P reads no_items all = refl
items_read P reads (item d ds) all =
    ap (option_and_then (λ e. option_map (item e) (of_items (items_outline ds)))) (reads d all.0)
    ∙ ap (option_map (item d)) (items_read P reads ds all.1)

outline_read : (n : ℕ) (d : Data) → IsReadable n d → of_json (outline d) ≡ Some d
outline_read n null h = refl
outline_read n (boolean b) h = refl
outline_read n (number x) h = ap (option_map number) h.is_read
outline_read n (string s) h = refl
outline_read zero (array ds) h = absurd h
outline_read (suc n) (array ds) h = ap (option_map array) (items_read (IsReadable n) (outline_read n) ds h)
outline_read zero (object ms) h = absurd h
outline_read (suc n) (object ms) h = ap (option_map object) (members_read (IsReadable n) (outline_read n) ms no_members h.0 h.1)

-- ---- what else is asked of a value that is read back

numbers_items : (P : Data → Type 0) → ((d : Data) → P d → tree.HasNumbers (outline d)) → (ds : Items) → AllItems P ds → tree.ItemsHaveNumbers (items_outline ds)
numbers_items P has no_items all = tt
numbers_items P has (item d ds) all = (has d all.0, numbers_items P has ds all.1)

numbers_members : (P : Data → Type 0) → ((d : Data) → P d → tree.HasNumbers (outline d)) → (ms : Members) → AllMembers P ms → tree.MembersHaveNumbers (members_outline ms)
numbers_members P has no_members all = tt
numbers_members P has (member k d ms) all = (has d all.0, numbers_members P has ms all.1)

outline_numbers : (n : ℕ) (d : Data) → IsReadable n d → tree.HasNumbers (outline d)
outline_numbers n null h = tt
outline_numbers n (boolean b) h = tt
outline_numbers n (number x) h = h.is_number
outline_numbers n (string s) h = tt
outline_numbers zero (array ds) h = absurd h
outline_numbers (suc n) (array ds) h = numbers_items (IsReadable n) (outline_numbers n) ds h
outline_numbers zero (object ms) h = absurd h
outline_numbers (suc n) (object ms) h = numbers_members (IsReadable n) (outline_numbers n) ms h.0

depth_items : (P : Data → Type 0) (n : ℕ) → ((d : Data) → P d → tree.depth (outline d) ≤ n) → (ds : Items) → AllItems P ds → tree.items_depth (items_outline ds) ≤ n
depth_items P n low no_items all = omega arith
depth_items P n low (item d ds) all = let here = low d all.0 in let later = depth_items P n low ds all.1 in omega (arith, clamps, here, later)

depth_members : (P : Data → Type 0) (n : ℕ) → ((d : Data) → P d → tree.depth (outline d) ≤ n) → (ms : Members) → AllMembers P ms → tree.members_depth (members_outline ms) ≤ n
depth_members P n low no_members all = omega arith
depth_members P n low (member k d ms) all = let here = low d all.0 in let later = depth_members P n low ms all.1 in omega (arith, clamps, here, later)

outline_depth : (n : ℕ) (d : Data) → IsReadable n d → tree.depth (outline d) ≤ n
outline_depth n null h = omega arith
outline_depth n (boolean b) h = omega arith
outline_depth n (number x) h = omega arith
outline_depth n (string s) h = omega arith
outline_depth zero (array ds) h = absurd h
outline_depth (suc n) (array ds) h = let low = depth_items (IsReadable n) n (outline_depth n) ds h in omega (arith, low)
outline_depth zero (object ms) h = absurd h
outline_depth (suc n) (object ms) h = let low = depth_members (IsReadable n) n (outline_depth n) ms h.0 in omega (arith, low)

abbrev whole : Option (json.Json × List Token) → Option Data
whole o = option_and_then of_json (option_and_then (λ p. json.if_last p.0 p.1) o)

-- The compact text of such a value is read as the value.
pub text_read : (n : ℕ) (d : Data) → n ≤ max_depth → IsReadable n d → read (compact_text d) ≡ Some d
text_read n d le h =
    let ts = tree.json_tokens (outline d) in
    let low = outline_depth n d h in
    let same : tokens (compact_text d) ≡ ts = ap tokens (sym (print-outline d)) ∙ tokens-print ts (ArePrintable-json_tokens (outline d) (outline_numbers n d h)) in
    ap (λ us. whole (json.value max_depth us)) (same ∙ sym (append-nil ts)) ∙ ap whole (value-json_tokens (outline d) max_depth [] (omega (arith, low, le))) ∙ outline_read n d h
