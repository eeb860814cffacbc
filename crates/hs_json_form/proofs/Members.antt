-- Lists and objects of JSON, as values are seen.
use Rattle.std.proofs.Common.{◌≡◌, ◌||◌, ◌++◌, ℕ, List, [], ◌∷◌, Bool, true, false, map, find, Some, Ok, Err, cond, string_bytes, String, Global, refl, ap, sym, append_assoc}
use Rattle.std.specs.List.{list_any}
use Rattle.std.specs.Option.{option_map}
use Rattle.serde_json.specs.View.{members_view, items_view, view}
use Rattle.serde_json.specs.declared.value.Value.{Value}
use Rattle.serde_json.specs.Data.{Data}
use Rattle.hs_expr.specs.Steps.{◌>>=◌}
use Rattle.hs_json_form.specs.declared.path.Step.TheVariants.{Key}
use Rattle.hs_json_form.specs.Form.{Read, each_member, entries, items, at_step}

pub items_of_views : (vs : List Value) → items (items_view vs) ≡ map view vs
items_of_views [] = refl
items_of_views (v ∷ vs) = ap (λ ds. view v ∷ ds) (items_of_views vs)

pub any_map : {A B : Type 0} (p : B → Bool) (f : A → B) (xs : List A) → list_any p (map f xs) ≡ list_any (λ x. p (f x)) xs
any_map p f [] = refl
any_map p f (x ∷ xs) = ap (λ b. p (f x) || b) (any_map p f xs)

-- The first key that passes a test, among what the members are seen as and among the map's own keys.
pub unknown_in : (p : List ℕ → Bool) (es : List (String Global × Value)) →
    find p (map (λ entry. entry.0) (entries (members_view es))) ≡ option_map string_bytes (find (λ key. p (string_bytes key)) (map (λ e. e.0) es))
unknown_in p [] = refl
unknown_in p (e ∷ es) =
    elim (p (string_bytes e.0)) as (λ b. cond b (Some (string_bytes e.0)) (find p (map (λ entry. entry.0) (entries (members_view es)))) ≡ option_map string_bytes (cond b (Some e.0) (find (λ key. p (string_bytes key)) (map (λ x. x.0) es)))) [
      | true ↦ refl
      | false ↦ unknown_in p es
    ]

-- What is read so far, and then the rest.
abbrev pub with_front : {X : Type 0} → List X → Read (List X) → Read (List X)
with_front front read = read >>= λ xs. Ok (front ++ xs)

pub with_front-cons : {X : Type 0} (front : List X) (x : X) (r : Read (List X)) → with_front front (r >>= λ xs. Ok (x ∷ xs)) ≡ with_front (front ++ x ∷ []) r
with_front-cons front x (Ok xs) = ap Ok (sym (append_assoc front (x ∷ []) xs))
with_front-cons front x (Err path) = refl

pub member-next : {X : Type 0} (read : List ℕ → Data → Read X) (front : List X) (k : List ℕ) (d : Data) (es : List (List ℕ × Data)) (x : X) → at_step (Key k) (read k d) ≡ Ok x →
    with_front front (each_member read ((k, d) ∷ es)) ≡ with_front (front ++ x ∷ []) (each_member read es)
member-next read front k d es x e = rw e (with_front-cons front x (each_member read es))
