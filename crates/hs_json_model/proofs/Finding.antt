-- What is found among some of a list's numbers.
use Rattle.std.proofs.Common.{ℕ, ◌≡◌, List, [], ◌∷◌, Bool, true, false, cond, map, Option, Some, refl, ap, sym, ◌∙◌}
use Rattle.std.proofs.lemmas.List.Elements.{All-nil, All-cons, All-head, All-tail}
use Rattle.std.specs.List.{All, filter}
use Rattle.hs_expr.specs.Lists.{Differ}

apart_used : {A : Type 0} (h : ℕ → Option A) (key : ℕ → A) (q : ℕ → Bool) (n : ℕ) (ns : List ℕ) → ((k : ℕ) → q k ≡ true → h k ≡ Some (key k)) → q n ≡ true →
    All (λ o. h n ≡ o → ⊥) (map h ns) → All (λ l. key n ≡ l → ⊥) (map key (filter q ns))
apart_used h key q n [] known t all = All-nil (λ l. key n ≡ l → ⊥)
apart_used {A} h key q n (k ∷ ns) known t all = go (q k) refl (apart_used h key q n ns known t (All-tail (λ (o : Option A). h n ≡ o → ⊥) (h k) (map h ns) all))
  where
    go : (b : Bool) → q k ≡ b → All (λ (l : A). key n ≡ l → ⊥) (map key (filter q ns)) → All (λ (l : A). key n ≡ l → ⊥) (map key (cond b (k ∷ filter q ns) (filter q ns)))
    go true e rest =
        All-cons (λ (l : A). key n ≡ l → ⊥) (key k) (map key (filter q ns))
        (λ s. All-head (λ (o : Option A). h n ≡ o → ⊥) (h k) (map h ns) all (known n t ∙ ap Some s ∙ sym (known k e))) rest
    go false e rest = rest

-- Where each number that passes has a key, and keys differ, the keys of those that pass differ.
pub differ_used : {A : Type 0} (h : ℕ → Option A) (key : ℕ → A) (q : ℕ → Bool) (ns : List ℕ) → ((k : ℕ) → q k ≡ true → h k ≡ Some (key k)) → Differ (map h ns) → Differ (map key (filter q ns))
differ_used h key q [] known d = tt
differ_used {A} h key q (n ∷ ns) known d = go (q n) refl (differ_used h key q ns known d.1)
  where
    go : (b : Bool) → q n ≡ b → Differ (map key (filter q ns)) → Differ (map key (cond b (n ∷ filter q ns) (filter q ns)))
    go true e rest = (apart_used h key q n ns known e d.0, rest)
    go false e rest = rest
