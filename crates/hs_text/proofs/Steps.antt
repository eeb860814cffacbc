use Rattle.std.proofs.Common.{ℕ, ◌+◌, ◌<◌, ◌≤◌, ◌≡◌, ◌⊎◌, inl, inr, Bool, true, false, ◌||◌, ◌&&◌, List, [], ◌∷◌, ◌++◌, Option, Some, None, is_some, nat_lt, cond, refl, ap, sym, subst, ◌∙◌, arith}
use Rattle.std.proofs.lemmas.Bool.{or_cases, and_parts}
use Rattle.std.proofs.lemmas.Bool.Decides.{nat_tests}
use Rattle.hs_tokens.specs.declared.token.Kind.{Kind}
use Rattle.hs_tokens.specs.declared.token.Token.{Token}
use Rattle.hs_tokens.specs.Kinds.{same}
use Rattle.hs_text.specs.declared.grammar.Term.{Term}
use Rattle.hs_text.specs.declared.grammar.Part.{Part}
use Rattle.hs_text.specs.declared.grammar.Production.{Production}
use Rattle.hs_text.specs.declared.grammar.Action.{Action}
use Rattle.hs_text.specs.declared.grammar.Symbol.{Symbol}
use Rattle.hs_text.specs.declared.grammar.Symbol.TheVariants.{Skip, Keep, Sub, Act}
use Rattle.hs_text.specs.declared.builder.Builder.{Builder}
use Rattle.hs_text.specs.Terms.{matches}
use Rattle.hs_text.specs.Building.{with_token, builder_after}
use Rattle.hs_text.specs.Machine.{Derives, done, skip, keep, act, by, part_of, right_side, choice_of, empty_of, choice_or, production_of, begins, follows, Fine}
use Rattle.hs_text.proofs.Tables.{implies, empties, begins-chosen, empties-chosen, apart, level, lower, choice-part, choice-lower, level-bounds, empty-part, is_short, empty-short, begins_then, kept, keeps}

-- WHAT A TEXT BEGINS WITH

Begins : List Symbol → List Token → Type 0
Begins ss [] = Unit {0}
Begins ss (t ∷ ts) = begins ss t.kind ≡ true

or-false : (a : Bool) → a ≡ (a || false)
or-false true = refl
or-false false = refl

-- symbols begin as their front does, or as the rest where the front may be nothing
begins-append : (xs ss : List Symbol) (k : Kind) → begins (xs ++ ss) k ≡ (begins xs k || (empties xs && begins ss k))
begins-append [] ss k = refl
begins-append (Skip j ∷ xs) ss k = or-false (same j k)
begins-append (Keep w ∷ xs) ss k = or-false (matches w k)
begins-append (Act a ∷ xs) ss k = begins-append xs ss k
begins-append (Sub n ∷ xs) ss k = rw (begins-append xs ss k) (regroup (is_some (choice_of n k)) (is_some (empty_of n)) (begins xs k) (empties xs) (begins ss k)) where
  regroup : (c e b x s : Bool) → (c || (e && (b || (x && s)))) ≡ ((c || (e && b)) || ((e && x) && s))
  regroup true e b x s = refl
  regroup false false b x s = refl
  regroup false true true x s = refl
  regroup false true false x s = refl

-- a production that begins with a token is the one that is chosen, or it may be nothing and what follows begins so
choose : (p : Production) (ss : List Symbol) (k : Kind) → begins (right_side p ++ ss) k ≡ true → (choice_of (part_of p) k ≡ Some p) ⊎ ((empty_of (part_of p) ≡ Some p) × (begins ss k ≡ true))
choose p ss k h = elim (or_cases (begins (right_side p) k) (empties (right_side p) && begins ss k) (sym (begins-append (right_side p) ss k) ∙ h)) [
  | inl a ↦ inl (begins-chosen p k a)
  | inr b ↦ inr (empties-chosen p ((and_parts (empties (right_side p)) (begins ss k) b).0), (and_parts (empties (right_side p)) (begins ss k) b).1)
]

is-some : (o : Option Production) (p : Production) → o ≡ Some p → is_some o ≡ true
is-some None p e = cc
is-some (Some q) p e = refl

production-begins : (p : Production) (ss : List Symbol) (k : Kind) → begins (right_side p ++ ss) k ≡ true → begins (Sub (part_of p) ∷ ss) k ≡ true
production-begins p ss k h = elim (choose p ss k h) [
  | inl a ↦ rw (is-some (choice_of (part_of p) k) p a) refl
  | inr b ↦ rw (is-some (empty_of (part_of p)) p b.0, b.1) (or-true (is_some (choice_of (part_of p) k)))
] where
  or-true : (a : Bool) → (a || true) ≡ true
  or-true true = refl
  or-true false = refl

begins-by : (p : Production) (n : Part) (ss : List Symbol) (ts : List Token) → part_of p ≡ n → Begins (right_side p ++ ss) ts → Begins (Sub n ∷ ss) ts
unfolding Begins
begins-by p n ss [] e h = tt
begins-by p n ss (t ∷ ts) e h = subst (λ m. begins (Sub m ∷ ss) t.kind ≡ true) e (production-begins p ss t.kind h)

begins-act : (a : Action) (ss : List Symbol) (ts : List Token) → Begins ss ts → Begins (Act a ∷ ss) ts
unfolding Begins
begins-act a ss [] h = tt
begins-act a ss (t ∷ ts) h = h

begins-all : {source : List ℕ} {ss : List Symbol} {ts : List Token} {b f : Builder} → Derives source ss ts b f → Begins ss ts
unfolding Begins
begins-all done = tt
begins-all (skip e d) = e
begins-all (keep e d) = e
begins-all (act {a} {ss} {ts} d) = begins-act a ss ts (begins-all d)
begins-all (by {n} {ss} {ts} p e d) = begins-by p n ss ts e (begins-all d)

begins-true : {source : List ℕ} {ss : List Symbol} {t : Token} {ts : List Token} {b f : Builder} → Derives source ss (t ∷ ts) b f → begins ss t.kind ≡ true
unfolding Begins
begins-true d = begins-all d

-- STEPS AT A TOKEN

pub skip-step : {source : List ℕ} {k : Kind} {t : Token} {ss : List Symbol} {u : List Token} {b f : Builder} → Derives source (Skip k ∷ ss) (t ∷ u) b f → (same k t.kind ≡ true) × Derives source ss u b f
skip-step (skip e d) = (e, d)

pub keep-step : {source : List ℕ} {w : Term} {t : Token} {ss : List Symbol} {u : List Token} {b f : Builder} → Derives source (Keep w ∷ ss) (t ∷ u) b f → (matches w t.kind ≡ true) × Derives source ss u (with_token t b) f
keep-step (keep e d) = (e, d)

pub act-step : {source : List ℕ} {a : Action} {ss : List Symbol} {ts : List Token} {b f : Builder} → Derives source (Act a ∷ ss) ts b f → Derives source ss ts (builder_after source a b) f
act-step (act d) = d

by-step : {source : List ℕ} {n : Part} {ss : List Symbol} {ts : List Token} {b f : Builder} → Derives source (Sub n ∷ ss) ts b f → (p : Production) × (part_of p ≡ n) × Derives source (right_side p ++ ss) ts b f
by-step (by p e d) = (p, e, d)

-- the production that a part goes by is one of the part
production-part : (n : Part) (k : Kind) (p : Production) → production_of n k ≡ Some p → part_of p ≡ n
production-part n k p e = step (choice_of n k) refl (empty_of n) refl e where
  step : (c : Option Production) → choice_of n k ≡ c → (o : Option Production) → empty_of n ≡ o → choice_or c o ≡ Some p → part_of p ≡ n
  step (Some q) c o d e = choice-part n k p (c ∙ e)
  step None c o d e = empty-part n p (d ∙ e)

some-same : (o : Option Production) (p q : Production) → o ≡ Some p → o ≡ Some q → p ≡ q
some-same o p q e f = cc

pub sub-step : {source : List ℕ} (n : Part) (t : Token) (p : Production) (ss : List Symbol) (u : List Token) (b f : Builder) → Fine (Sub n ∷ ss) → production_of n t.kind ≡ Some p → Derives source (Sub n ∷ ss) (t ∷ u) b f → Derives source (right_side p ++ ss) (t ∷ u) b f
sub-step {source} n t p ss u b f fine e d =
    let s : (q : Production) × (part_of q ≡ n) × Derives source (right_side q ++ ss) (t ∷ u) b f = by-step d in
    let q : Production = s.0 in
    elim (choose q ss t.kind (begins-true s.2)) [
      | inl a ↦
          let c : choice_of n t.kind ≡ Some q = subst (λ m. choice_of m t.kind ≡ Some q) s.1 a in
          let g : production_of n t.kind ≡ Some q = ap (λ o. choice_or o (empty_of n)) c in
          let h : q ≡ p = some-same (production_of n t.kind) q p g e in
          subst (λ r. Derives source (right_side r ++ ss) (t ∷ u) b f) h s.2
      | inr a ↦
          let o : empty_of n ≡ Some q = subst (λ m. empty_of m ≡ Some q) s.1 a.0 in
          let c : choice_of n t.kind ≡ None = apart n t.kind q o (fine.0 t.kind a.1) in
          let g : production_of n t.kind ≡ Some q = ap (λ x. choice_or x (empty_of n)) c ∙ o in
          let h : q ≡ p = some-same (production_of n t.kind) q p g e in
          subst (λ r. Derives source (right_side r ++ ss) (t ∷ u) b f) h s.2
    ]

pub sub-back : {source : List ℕ} (n : Part) (t : Token) (p : Production) (ss : List Symbol) (u : List Token) (b f : Builder) → production_of n t.kind ≡ Some p → Derives source (right_side p ++ ss) (t ∷ u) b f → Derives source (Sub n ∷ ss) (t ∷ u) b f
sub-back n t p ss u b f e d = by p (production-part n t.kind p e) d

pub sub-none : {source : List ℕ} (n : Part) (t : Token) (ss : List Symbol) (u : List Token) (b f : Builder) → production_of n t.kind ≡ None → Derives source (Sub n ∷ ss) (t ∷ u) b f → ⊥
sub-none {source} n t ss u b f e d =
    let s : (q : Production) × (part_of q ≡ n) × Derives source (right_side q ++ ss) (t ∷ u) b f = by-step d in
    let q : Production = s.0 in
    elim (choose q ss t.kind (begins-true s.2)) [
      | inl a ↦
          let c : choice_of n t.kind ≡ Some q = subst (λ m. choice_of m t.kind ≡ Some q) s.1 a in
          none-some (production_of n t.kind) q e (ap (λ o. choice_or o (empty_of n)) c)
      | inr a ↦
          let o : empty_of n ≡ Some q = subst (λ m. empty_of m ≡ Some q) s.1 a.0 in
          none-else (choice_of n t.kind) (empty_of n) q o e
    ]
  where
    none-some : (o : Option Production) (q : Production) → o ≡ None → o ≡ Some q → ⊥
    none-some o q e f = cc

    none-else : (c o : Option Production) (q : Production) → o ≡ Some q → choice_or c o ≡ None → ⊥
    none-else (Some r) o q f e = cc
    none-else None o q f e = cc

-- WHAT STAYS FINE

begins-more : (xs ss : List Symbol) (k : Kind) (b : Bool) → (begins ss k ≡ true → b ≡ true) → begins (xs ++ ss) k ≡ true → begins_then xs k b ≡ true
begins-more [] ss k b h e = h e
begins-more (Skip j ∷ xs) ss k b h e = e
begins-more (Keep w ∷ xs) ss k b h e = e
begins-more (Act a ∷ xs) ss k b h e = begins-more xs ss k b h e
begins-more (Sub n ∷ xs) ss k b h e = more (is_some (choice_of n k)) (is_some (empty_of n)) (begins (xs ++ ss) k) (begins_then xs k b) (begins-more xs ss k b h) e where
  more : (c o x y : Bool) → (x ≡ true → y ≡ true) → (c || (o && x)) ≡ true → (c || (o && y)) ≡ true
  more true o x y h e = refl
  more false true x y h e = h e
  more false false x y h e = e

fine-append : (xs ss : List Symbol) (n : Part) → ((k : Kind) → kept xs k (follows n k) ≡ true) → ((k : Kind) → begins ss k ≡ true → follows n k ≡ true) → Fine ss → Fine (xs ++ ss)
fine-append [] ss n h f fine = fine
fine-append (Skip j ∷ xs) ss n h f fine = fine-append xs ss n h f fine
fine-append (Keep w ∷ xs) ss n h f fine = fine-append xs ss n h f fine
fine-append (Act a ∷ xs) ss n h f fine = fine-append xs ss n h f fine
fine-append (Sub m ∷ xs) ss n h f fine = (
  (λ k e. implied-by (begins_then xs k (follows n k)) (follows m k) (kept xs k (follows n k)) (h k) (begins-more xs ss k (follows n k) (f k) e)),
  fine-append xs ss n (λ k. rest (begins_then xs k (follows n k)) (follows m k) (kept xs k (follows n k)) (h k)) f fine,
)
  where
    implied-by : (a b c : Bool) → (implies a b && c) ≡ true → a ≡ true → b ≡ true
    implied-by true b c h e = (and_parts b c h).0
    implied-by false b c h e = cc

    rest : (a b c : Bool) → (implies a b && c) ≡ true → c ≡ true
    rest a b c h = (and_parts (implies a b) c h).1

pub fine-step : (n : Part) (k : Kind) (p : Production) (ss : List Symbol) → production_of n k ≡ Some p → Fine (Sub n ∷ ss) → Fine (right_side p ++ ss)
fine-step n k p ss e fine =
    let o : part_of p ≡ n = production-part n k p e in
    fine-append (right_side p) ss (part_of p) (keeps p) (λ j h. subst (λ m. follows m j ≡ true) (sym o) (fine.0 j h)) fine.1

-- THE MEASURE

unfoldable pub size : List Symbol → ℕ
size [] = 0
size (Skip k ∷ ss) = size ss
size (Keep w ∷ ss) = size ss
size (Act a ∷ ss) = 1 + size ss
size (Sub n ∷ ss) = 2 + size ss

-- how long a token is looked at: down to it where a production begins with it, else as long as the stack is
unfoldable pub measure : Kind → List Symbol → ℕ
measure k [] = 0
measure k (Skip j ∷ ss) = 0
measure k (Keep w ∷ ss) = 0
measure k (Act a ∷ ss) = 9 + size ss
measure k (Sub n ∷ ss) = cond (is_some (choice_of n k)) (level n) (10 + size ss)

measure-size : (k : Kind) (ss : List Symbol) → measure k ss ≤ 8 + size ss
unfolding measure size
measure-size k [] = omega arith
measure-size k (Skip j ∷ ss) = omega arith
measure-size k (Keep w ∷ ss) = omega arith
measure-size k (Act a ∷ ss) = omega arith
measure-size k (Sub n ∷ ss) = bound (is_some (choice_of n k)) where
  bound : (t : Bool) → cond t (level n) (10 + size ss) ≤ 8 + (2 + size ss)
  bound true = omega (arith, (level-bounds n).1)
  bound false = omega arith

pub measure-act : (k : Kind) (a : Action) (ss : List Symbol) → measure k ss < measure k (Act a ∷ ss)
unfolding measure
measure-act k a ss = omega (arith, measure-size k ss)

measure-short : (k : Kind) (xs ss : List Symbol) → is_short xs ≡ true → measure k (xs ++ ss) < 10 + size ss
unfolding measure size
measure-short k [] ss h = omega (arith, measure-size k ss)
measure-short k (Act a ∷ []) ss h = omega (arith, measure-size k ss)
measure-short k (Act a ∷ x ∷ xs) ss h = cc
measure-short k (Skip j ∷ xs) ss h = cc
measure-short k (Keep w ∷ xs) ss h = cc
measure-short k (Sub m ∷ xs) ss h = cc

measure-lower : (k : Kind) (n : Part) (xs ss : List Symbol) → lower xs n k ≡ true → measure k (xs ++ ss) < level n
unfolding measure
measure-lower k n [] ss h = cc
measure-lower k n (Act a ∷ xs) ss h = cc
measure-lower k n (Skip j ∷ xs) ss h = (level-bounds n).0
measure-lower k n (Keep w ∷ xs) ss h = (level-bounds n).0
measure-lower k n (Sub m ∷ xs) ss h =
    let some : is_some (choice_of m k) ≡ true = (and_parts (is_some (choice_of m k)) (nat_lt (level m) (level n)) h).0 in
    let less : nat_lt (level m) (level n) ≡ true = (and_parts (is_some (choice_of m k)) (nat_lt (level m) (level n)) h).1 in
    rw some (below (level m) (level n) less)
  where
    below : (a b : ℕ) → nat_lt a b ≡ true → a < b
    below a b h = grind (arith, nat_tests)

pub measure-step : (n : Part) (k : Kind) (p : Production) (ss : List Symbol) → production_of n k ≡ Some p → measure k (right_side p ++ ss) < measure k (Sub n ∷ ss)
unfolding measure
measure-step n k p ss e = step (choice_of n k) refl (empty_of n) refl e where
  step : (c : Option Production) → choice_of n k ≡ c → (o : Option Production) → empty_of n ≡ o → choice_or c o ≡ Some p → measure k (right_side p ++ ss) < cond (is_some c) (level n) (10 + size ss)
  step (Some q) c o d e = measure-lower k n (right_side p) ss (choice-lower n k p (c ∙ e))
  step None c o d e = measure-short k (right_side p) ss (empty-short n p (d ∙ e))

-- STEPS AT THE END

empties-front : (xs ss : List Symbol) → empties (xs ++ ss) ≡ true → empties xs ≡ true
empties-front [] ss h = refl
empties-front (Skip j ∷ xs) ss h = h
empties-front (Keep w ∷ xs) ss h = h
empties-front (Act a ∷ xs) ss h = empties-front xs ss h
empties-front (Sub n ∷ xs) ss h = both (is_some (empty_of n)) (empties (xs ++ ss)) (empties xs) h (empties-front xs ss) where
  both : (a b c : Bool) → (a && b) ≡ true → (b ≡ true → c ≡ true) → (a && c) ≡ true
  both true b c h f = f h
  both false b c h f = h

empties-rest : (xs ss : List Symbol) → empties (xs ++ ss) ≡ true → empties ss ≡ true
empties-rest [] ss h = h
empties-rest (Skip j ∷ xs) ss h = cc
empties-rest (Keep w ∷ xs) ss h = cc
empties-rest (Act a ∷ xs) ss h = empties-rest xs ss h
empties-rest (Sub n ∷ xs) ss h = empties-rest xs ss ((and_parts (is_some (empty_of n)) (empties (xs ++ ss)) h).1)

Emptied : List Symbol → List Token → Type 0
Emptied ss [] = empties ss ≡ true
Emptied ss (t ∷ ts) = Unit {0}

emptied-by : (p : Production) (n : Part) (ss : List Symbol) (ts : List Token) → part_of p ≡ n → Emptied (right_side p ++ ss) ts → Emptied (Sub n ∷ ss) ts
unfolding Emptied
emptied-by p n ss (t ∷ ts) e h = tt
emptied-by p n ss [] e h =
    let o : empty_of n ≡ Some p = subst (λ m. empty_of m ≡ Some p) e (empties-chosen p (empties-front (right_side p) ss h)) in
    rw (is-some (empty_of n) p o) (empties-rest (right_side p) ss h)

emptied-act : (a : Action) (ss : List Symbol) (ts : List Token) → Emptied ss ts → Emptied (Act a ∷ ss) ts
unfolding Emptied
emptied-act a ss [] h = h
emptied-act a ss (t ∷ ts) h = tt

emptied-all : {source : List ℕ} {ss : List Symbol} {ts : List Token} {b f : Builder} → Derives source ss ts b f → Emptied ss ts
unfolding Emptied
emptied-all done = refl
emptied-all (skip e d) = tt
emptied-all (keep e d) = tt
emptied-all (act {a} {ss} {ts} d) = emptied-act a ss ts (emptied-all d)
emptied-all (by {n} {ss} {ts} p e d) = emptied-by p n ss ts e (emptied-all d)

emptied-true : {source : List ℕ} {ss : List Symbol} {b f : Builder} → Derives source ss [] b f → empties ss ≡ true
unfolding Emptied
emptied-true d = emptied-all d

pub end-step : {source : List ℕ} (n : Part) (p : Production) (ss : List Symbol) (b f : Builder) → empty_of n ≡ Some p → Derives source (Sub n ∷ ss) [] b f → Derives source (right_side p ++ ss) [] b f
end-step {source} n p ss b f e d =
    let s : (q : Production) × (part_of q ≡ n) × Derives source (right_side q ++ ss) [] b f = by-step d in
    let q : Production = s.0 in
    let o : empty_of n ≡ Some q = subst (λ m. empty_of m ≡ Some q) s.1 (empties-chosen q (empties-front (right_side q) ss (emptied-true s.2))) in
    subst (λ r. Derives source (right_side r ++ ss) [] b f) (some-same (empty_of n) q p o e) s.2

pub end-back : {source : List ℕ} (n : Part) (p : Production) (ss : List Symbol) (b f : Builder) → empty_of n ≡ Some p → Derives source (right_side p ++ ss) [] b f → Derives source (Sub n ∷ ss) [] b f
end-back n p ss b f e d = by p (empty-part n p e) d

pub end-none : {source : List ℕ} (n : Part) (ss : List Symbol) (b f : Builder) → empty_of n ≡ None → Derives source (Sub n ∷ ss) [] b f → ⊥
end-none {source} n ss b f e d =
    let s : (q : Production) × (part_of q ≡ n) × Derives source (right_side q ++ ss) [] b f = by-step d in
    let q : Production = s.0 in
    let o : empty_of n ≡ Some q = subst (λ m. empty_of m ≡ Some q) s.1 (empties-chosen q (empties-front (right_side q) ss (emptied-true s.2))) in
    cc

pub end-skip : {source : List ℕ} {k : Kind} {ss : List Symbol} {b f : Builder} → Derives source (Skip k ∷ ss) [] b f → ⊥
end-skip d = elim d [ ]

pub end-keep : {source : List ℕ} {w : Term} {ss : List Symbol} {b f : Builder} → Derives source (Keep w ∷ ss) [] b f → ⊥
end-keep d = elim d [ ]

pub end-done : {source : List ℕ} {b f : Builder} → Derives source [] [] b f → f ≡ b
end-done done = refl

pub end-token : {source : List ℕ} {t : Token} {u : List Token} {b f : Builder} → Derives source [] (t ∷ u) b f → ⊥
end-token d = elim d [ ]

-- the size is the measure at the end
pub end-measure-act : (a : Action) (ss : List Symbol) → size ss < size (Act a ∷ ss)
unfolding size
end-measure-act a ss = omega arith

end-short : (xs ss : List Symbol) → is_short xs ≡ true → size (xs ++ ss) < 2 + size ss
unfolding size
end-short [] ss h = omega arith
end-short (Act a ∷ []) ss h = omega arith
end-short (Act a ∷ x ∷ xs) ss h = cc
end-short (Skip j ∷ xs) ss h = cc
end-short (Keep w ∷ xs) ss h = cc
end-short (Sub m ∷ xs) ss h = cc

pub end-measure-step : (n : Part) (p : Production) (ss : List Symbol) → empty_of n ≡ Some p → size (right_side p ++ ss) < size (Sub n ∷ ss)
unfolding size
end-measure-step n p ss e = end-short (right_side p) ss (empty-short n p e)
