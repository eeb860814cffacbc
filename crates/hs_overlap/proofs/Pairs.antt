-- Lists of pairs: those of which a fact holds, and all pairs of two shapes.
use Rattle.std.proofs.Common.{ℕ, suc, zero, ◌<◌, ◌≡◌, ◌⊎◌, List, [], ◌∷◌, ◌++◌, length, subst, inl, inr, arith, Contains}
use Rattle.std.proofs.lemmas.Bool.{cases_eq}
use Rattle.std.proofs.lemmas.List.Elements.{Contains-push, Contains-push_cases, Contains-append_left, Contains-append_right, Contains-append_cases}
use Rattle.hs_types.specs.declared.rule.Shape.{Shape}
use Rattle.hs_overlap.proofs.Decided.{Decided}
use Rattle.hs_overlap.specs.declared.pair.Pair.{Pair}
use Rattle.hs_overlap.specs.declared.pair.Pair.TheVariants.{Node, Edge, Slot}

pub Contains-cons_cases : {A : Type 0} (x y : A) (xs : List A) → Contains (x ∷ xs) y → (x ≡ y) ⊎ Contains xs y
Contains-cons_cases x y xs c = elim (Contains-append_cases (x ∷ []) xs y c) [
  | inl h ↦ elim (Contains-push_cases [] x y h) [ inl none ↦ let l : none.0 < 0 = none.1 in absurd (omega arith) | inr e ↦ inl e ]
  | inr h ↦ inr h
]

pub Contains-here : {A : Type 0} (x : A) (xs : List A) → Contains (x ∷ xs) x
Contains-here x xs = Contains-append_left (x ∷ []) xs x (Contains-push [] x)

pub Contains-later : {A : Type 0} (x y : A) (xs : List A) → Contains xs y → Contains (x ∷ xs) y
Contains-later x y xs c = Contains-append_right (x ∷ []) xs y c

-- The pairs of a list of which the fact holds.
abbrev pub keep : {P : Type 0} → Decided P → Pair → List Pair
keep (inl h) q = q ∷ []
keep (inr no_) q = []

abbrev pub those : (P : Pair → Type 0) → ((q : Pair) → Decided (P q)) → List Pair → List Pair
those P decide [] = []
those P decide (q ∷ qs) = keep (decide q) q ++ those P decide qs

keep_held : (P : Pair → Type 0) (q : Pair) (h : Decided (P q)) (rest : List Pair) → P q → Contains (keep h q ++ rest) q
keep_held P q (inl h) rest p = Contains-here q rest
keep_held P q (inr away) rest p = absurd (away p)

keep_are : (P : Pair → Type 0) (q x : Pair) (h : Decided (P q)) (rest : List Pair) → Contains (keep h q ++ rest) x → P x ⊎ Contains rest x
keep_are P q x (inl h) rest c = elim (Contains-cons_cases q x rest c) [ inl e ↦ inl (rw e at h) | inr later ↦ inr later ]
keep_are P q x (inr away) rest c = inr c

pub those_held : (P : Pair → Type 0) (decide : (q : Pair) → Decided (P q)) (qs : List Pair) (x : Pair) → Contains qs x → P x → Contains (those P decide qs) x
those_held P decide [] x c p = let l : c.0 < 0 = c.1 in absurd (omega arith)
those_held P decide (q ∷ qs) x c p = elim (Contains-cons_cases q x qs c) [
  | inl e ↦ same q x e (decide q) p
  | inr later ↦ Contains-append_right (keep (decide q) q) (those P decide qs) x (those_held P decide qs x later p)
]
  where
    same : (q x : Pair) → q ≡ x → (h : Decided (P q)) → P x → Contains (keep h q ++ those P decide qs) x
    same q x e (inl h) p = subst (λ z. Contains (q ∷ those P decide qs) z) e (Contains-here q (those P decide qs))
    same q x e (inr away) p = absurd (away (rw e p))

pub those_are : (P : Pair → Type 0) (decide : (q : Pair) → Decided (P q)) (qs : List Pair) (x : Pair) → Contains (those P decide qs) x → P x
those_are P decide [] x c = let l : c.0 < 0 = c.1 in absurd (omega arith)
those_are P decide (q ∷ qs) x c = elim (keep_are P q x (decide q) (those P decide qs) c) [ inl h ↦ h | inr later ↦ those_are P decide qs x later ]

numbers_by : {P : Type 0} (i j k l : ℕ) → Decided (i ≡ k) → Decided (j ≡ l) → ((i ≡ k) → (j ≡ l) → P) → (P → (i ≡ k) × (j ≡ l)) → Decided P
numbers_by i j k l (inl e) (inl f) there back = inl (there e f)
numbers_by i j k l (inr ne) f there back = inr (λ p. ne (back p).0)
numbers_by i j k l (inl e) (inr ne) there back = inr (λ p. ne (back p).1)

pub pairs_decided : (a b : Pair) → Decided (a ≡ b)
pairs_decided (Node i j) (Node k l) = numbers_by i j k l (cases_eq i k) (cases_eq j l) (λ e f. cc) (λ e. (cc, cc))
pairs_decided (Edge i j) (Edge k l) = numbers_by i j k l (cases_eq i k) (cases_eq j l) (λ e f. cc) (λ e. (cc, cc))
pairs_decided (Slot i j) (Slot k l) = numbers_by i j k l (cases_eq i k) (cases_eq j l) (λ e f. cc) (λ e. (cc, cc))
pairs_decided (Node i j) (Edge k l) = inr (λ e. cc)
pairs_decided (Node i j) (Slot k l) = inr (λ e. cc)
pairs_decided (Edge i j) (Node k l) = inr (λ e. cc)
pairs_decided (Edge i j) (Slot k l) = inr (λ e. cc)
pairs_decided (Slot i j) (Node k l) = inr (λ e. cc)
pairs_decided (Slot i j) (Edge k l) = inr (λ e. cc)

pub held_decided : (qs : List Pair) (x : Pair) → Decided (Contains qs x)
held_decided [] x = inr (λ c. let l : c.0 < 0 = c.1 in absurd (omega arith))
held_decided (q ∷ qs) x = elim (pairs_decided q x) [
  | inl e ↦ inl (rw e (Contains-here x qs))
  | inr ne ↦ elim (held_decided qs x) [ inl h ↦ inl (Contains-later q x qs h) | inr away ↦ inr (λ c. elim (Contains-cons_cases q x qs c) [ inl e ↦ ne e | inr later ↦ away later ]) ]
]

-- All pairs of two shapes.
abbrev pub row : (ℕ → ℕ → Pair) → ℕ → ℕ → List Pair
row make i zero = []
row make i (suc m) = row make i m ++ make i m ∷ []

abbrev pub grid : (ℕ → ℕ → Pair) → ℕ → ℕ → List Pair
grid make zero m = []
grid make (suc n) m = grid make n m ++ row make n m

row_has : (make : ℕ → ℕ → Pair) (i j m : ℕ) → j < m → Contains (row make i m) (make i j)
row_has make i j zero l = absurd (omega arith)
row_has make i j (suc m) l = elim (cases_eq j m) [ inl e ↦ rw e (Contains-push (row make i m) (make i m)) | inr ne ↦ Contains-append_left (row make i m) (make i m ∷ []) (make i j) (row_has make i j m (omega arith)) ]

grid_has : (make : ℕ → ℕ → Pair) (i j n m : ℕ) → i < n → j < m → Contains (grid make n m) (make i j)
grid_has make i j zero m l k = absurd (omega arith)
grid_has make i j (suc n) m l k = elim (cases_eq i n) [
  | inl e ↦ rw e (Contains-append_right (grid make n m) (row make n m) (make n j) (row_has make n j m k))
  | inr ne ↦ Contains-append_left (grid make n m) (row make n m) (make i j) (grid_has make i j n m (omega arith) k)
]

abbrev pub all_pairs : Shape → Shape → List Pair
all_pairs r p = grid (λ i j. Node i j) (length r.nodes) (length p.nodes) ++ (grid (λ i j. Edge i j) (length r.edges) (length p.edges) ++ grid (λ i j. Slot i j) (length r.slots) (length p.slots))

pub node_in : (r p : Shape) (i j : ℕ) → i < length r.nodes → j < length p.nodes → Contains (all_pairs r p) (Node i j)
node_in r p i j l m = Contains-append_left (grid (λ i j. Node i j) (length r.nodes) (length p.nodes)) _ (Node i j) (grid_has (λ i j. Node i j) i j (length r.nodes) (length p.nodes) l m)

pub edge_in : (r p : Shape) (i j : ℕ) → i < length r.edges → j < length p.edges → Contains (all_pairs r p) (Edge i j)
edge_in r p i j l m = Contains-append_right (grid (λ i j. Node i j) (length r.nodes) (length p.nodes)) _ (Edge i j)
    (Contains-append_left (grid (λ i j. Edge i j) (length r.edges) (length p.edges)) (grid (λ i j. Slot i j) (length r.slots) (length p.slots)) (Edge i j) (grid_has (λ i j. Edge i j) i j (length r.edges) (length p.edges) l m))

pub slot_in : (r p : Shape) (i j : ℕ) → i < length r.slots → j < length p.slots → Contains (all_pairs r p) (Slot i j)
slot_in r p i j l m = Contains-append_right (grid (λ i j. Node i j) (length r.nodes) (length p.nodes)) _ (Slot i j)
    (Contains-append_right (grid (λ i j. Edge i j) (length r.edges) (length p.edges)) (grid (λ i j. Slot i j) (length r.slots) (length p.slots)) (Slot i j) (grid_has (λ i j. Slot i j) i j (length r.slots) (length p.slots) l m))
