-- Entries that are put into a map by key, as members that are put into an object.
use Rattle.std.proofs.Common.{ℕ, ◌+◌, ◌<◌, ◌≡◌, ◌∙◌, ◌||◌, List, [], ◌∷◌, Bool, true, false, Bor, Ordering, Less, Equal, Greater, cond, nat_cmp, map, drop, length, get_or, eqb, refl, ap, sym}
use Rattle.std.proofs.lemmas.List.{drop_more}
use Rattle.std.specs.BTreeMap.{insert_entry}
use Rattle.std.specs.Cmp.Lexicographic.{slice_cmp}
use Rattle.std.specs.List.{filter, list_any}
use Rattle.std.specs.Ordering.{match_ordering}
use Rattle.serde_json.specs.Data.{Data, Members, put, string}
use Rattle.hs_types.specs.declared.graph.Edge.{Edge}
use Rattle.hs_json_model.specs.ByName.{entry_members}
use Rattle.hs_json_model.specs.Written.{Member, list_data, reference_member, targets_of, with_members}

either_way : {X : Type 0} (data_of : X → Data) (o : Ordering) (a b c : List (Bor (List ℕ) × X)) →
    entry_members data_of (match_ordering o a b c) ≡ match_ordering o (entry_members data_of a) (entry_members data_of b) (entry_members data_of c)
either_way data_of Less a b c = refl
either_way data_of Equal a b c = refl
either_way data_of Greater a b c = refl

pub entry_put : {X : Type 0} (data_of : X → Data) (entries : List (Bor (List ℕ) × X)) (key : Bor (List ℕ)) (x : X) →
    entry_members data_of (insert_entry (λ a b. slice_cmp nat_cmp a.now b.now) entries key x) ≡ put key.now (data_of x) (entry_members data_of entries)
entry_put data_of [] key x = refl
entry_put data_of (e ∷ entries) key x = either_way data_of (slice_cmp nat_cmp key.now e.0.now) _ _ _ ∙ rw (entry_put data_of entries key x)

-- One item more is put, and one fewer is left.
pub entry_more : {X A : Type 0} (data_of : X → Data) (member_of : A → Member) (old new : List (Bor (List ℕ) × X)) (key : Bor (List ℕ)) (x : X) (xs : List A) (i : ℕ) (d : A) (whole : Members) →
    i < length xs → new ≡ insert_entry (λ a b. slice_cmp nat_cmp a.now b.now) old key x → (key.now, data_of x) ≡ member_of (get_or xs i d) →
    with_members (entry_members data_of old) (map member_of (drop i xs)) ≡ whole → with_members (entry_members data_of new) (map member_of (drop (i + 1) xs)) ≡ whole
entry_more data_of member_of old new key x xs i d whole h pushed same all =
    let rest = map member_of (drop (i + 1) xs) in
    let left : with_members (entry_members data_of old) (map member_of (drop i xs)) ≡ with_members (entry_members data_of old) (member_of (get_or xs i d) ∷ rest) =
    ap (λ ys. with_members (entry_members data_of old) (map member_of ys)) (drop_more xs i d h) in
    ap (λ es. with_members (entry_members data_of es) rest) pushed
    ∙ ap (λ ms. with_members ms rest) (entry_put data_of old key x)
    ∙ ap (λ (m : Member). with_members (put m.0 m.1 (entry_members data_of old)) rest) same
    ∙ sym left ∙ all

-- ---- references that have an edge, and those that have none

abbrev Stays : List ℕ → (ℕ → List ℕ) → List Edge → Type 0
Stays name names edges =
    reference_member name (map (λ (e : Edge). names e.target) edges) ≡ (name, list_data string (map (λ (e : Edge). names e.target) edges)) ∷ []

stays_or : (name : List ℕ) (names : ℕ → List ℕ) (here later : Bool) (e : Edge) (rest : List Edge) → (later ≡ true → Stays name names rest) →
    (here || later) ≡ true → Stays name names (cond here (e ∷ rest) rest)
stays_or name names true later e rest more any = refl
stays_or name names false later e rest more any = more any

pub stays : (name : List ℕ) (names : ℕ → List ℕ) (edges : List Edge) (f : ℕ) → list_any (λ e. eqb e.reference f) edges ≡ true →
    reference_member name (targets_of names edges f) ≡ (name, list_data string (targets_of names edges f)) ∷ []
stays name names [] f any = cc
stays name names (e ∷ edges) f any = stays_or name names (eqb e.reference f) (list_any (λ e. eqb e.reference f) edges) e (filter (λ e. eqb e.reference f) edges) (stays name names edges f) any

none_or : (here later : Bool) (e : Edge) (rest : List Edge) → (later ≡ false → rest ≡ []) → (here || later) ≡ false → cond here (e ∷ rest) rest ≡ []
none_or true later e rest more any = cc
none_or false later e rest more any = more any

none_stay : (edges : List Edge) (f : ℕ) → list_any (λ e. eqb e.reference f) edges ≡ false → filter (λ e. eqb e.reference f) edges ≡ []
none_stay [] f any = refl
none_stay (e ∷ edges) f any = none_or (eqb e.reference f) (list_any (λ e. eqb e.reference f) edges) e (filter (λ e. eqb e.reference f) edges) (none_stay edges f) any

pub left_out : (name : List ℕ) (names : ℕ → List ℕ) (edges : List Edge) (f : ℕ) → list_any (λ e. eqb e.reference f) edges ≡ false →
    reference_member name (targets_of names edges f) ≡ []
left_out name names edges f any = ap (λ (es : List Edge). reference_member name (map (λ (e : Edge). names e.target) es)) (none_stay edges f any)
