use Rattle.std.proofs.Common.{ℕ, ◌+◌, ◌<◌, ◌≤◌, ◌≡◌, List, [], ◌∷◌, ◌++◌, length, take, ◌-◌, ◌↔◌, arith, ap, sym, ◌∙◌, append_assoc, length-append, inl, inr, Option, None, Some}
use Rattle.std.proofs.lemmas.List.{append-nil, take_at}
use Rattle.std.proofs.lemmas.Bool.{cases_lt}
use borrow.Author.Count.{below_more}
use Rattle.hs_expr.specs.Lexicographic.{IsBefore}
use Rattle.hs_search.specs.Choice.{IsNone, IsChoice, IsDeadEnd, EachFits}
use Rattle.hs_search.specs.Search.{IsAbove, floor, GoesOn, GoesOnBest}

pub EachFits-push : (Fits : List ℕ → ℕ → Type 0) (front xs : List ℕ) (x : ℕ) → EachFits Fits front xs → Fits (front ++ xs) x → EachFits Fits front (xs ++ x ∷ [])
EachFits-push Fits front [] x h f = (rw append-nil at f, tt)
EachFits-push Fits front (y ∷ xs) x h f = (h.0, EachFits-push Fits (front ++ y ∷ []) xs x h.1 (rw append_assoc f))

-- a list above the bound begins with no number below the floor
pub IsAbove-floor : (bound : Option (List ℕ)) (y : ℕ) (rest : List ℕ) → y < floor bound → IsAbove bound (y ∷ rest) → ⊥
IsAbove-floor None y rest lt a = omega arith
IsAbove-floor (Some []) y rest lt a = omega arith
IsAbove-floor (Some (x ∷ xs)) y rest lt a = elim a [ inl less ↦ omega arith | inr p ↦ let same : x ≡ y = p.0 in omega arith ]

-- Passed: no choice above the bound continues with a number below x.
abbrev pub Passed : (size : ℕ) (Good : List ℕ → Type 0) (bound : Option (List ℕ)) (front : List ℕ) (x : ℕ) → Type 0
Passed size Good bound front x = (y : ℕ) → y < x → (rest : List ℕ) → GoesOn size Good bound front (y ∷ rest) → ⊥

pub Passed-floor : (size : ℕ) (Good : List ℕ → Type 0) (bound : Option (List ℕ)) (front : List ℕ) → Passed size Good bound front (floor bound)
Passed-floor size Good bound front = λ y lt rest g. IsAbove-floor bound y rest lt g.above

pub Passed-skip : (size : ℕ) (Good : List ℕ → Type 0) (bound : Option (List ℕ)) (front : List ℕ) (from x : ℕ) → Passed size Good bound front from →
    ((y : ℕ) → from ≤ y → y < x → IsDeadEnd size Good (front ++ y ∷ [])) → Passed size Good bound front x
Passed-skip size Good bound front from x passed skip = λ y lt rest g.
    elim (cases_lt y from) [ inl early ↦ passed y early rest g | inr late ↦ skip y late lt rest (rw append_assoc g.choice) ]

pub Passed-next : (size : ℕ) (Good : List ℕ → Type 0) (bound behind : Option (List ℕ)) (front : List ℕ) (x : ℕ) → Passed size Good bound front x →
    ((rest : List ℕ) → IsAbove bound (x ∷ rest) ↔ IsAbove behind rest) → IsNone (GoesOn size Good behind (front ++ x ∷ [])) → Passed size Good bound front (x + 1)
Passed-next size Good bound behind front x passed same none =
    below_more (λ y. (rest : List ℕ) → GoesOn size Good bound front (y ∷ rest) → ⊥) x passed
    (λ rest g. none rest (record { choice = rw append_assoc g.choice; above = (same rest).0 g.above }))

-- where all numbers are passed, no choice begins so
pub Passed-all : (size : ℕ) (Good : List ℕ → Type 0) (bound : Option (List ℕ)) (front : List ℕ) (from : ℕ) → Passed size Good bound front from →
    ((y : ℕ) → from ≤ y → IsDeadEnd size Good (front ++ y ∷ [])) → (length front ≡ size → ⊥) → IsNone (GoesOn size Good bound front)
Passed-all size Good bound front from passed none short [] g = short (rw append-nil at g.choice.whole)
Passed-all size Good bound front from passed none short (y ∷ rest) g =
    elim (cases_lt y from) [ inl early ↦ passed y early rest g | inr late ↦ none y late rest (rw append_assoc g.choice) ]

-- the best that continues with x is the best, where all numbers below x are passed
pub best-first : (size : ℕ) (Good : List ℕ → Type 0) (bound behind : Option (List ℕ)) (front : List ℕ) (x : ℕ) (all : List ℕ) → Passed size Good bound front x →
    ((rest : List ℕ) → IsAbove bound (x ∷ rest) ↔ IsAbove behind rest) → GoesOnBest size Good behind (front ++ x ∷ []) all → (length front ≡ size → ⊥) →
    GoesOnBest size Good bound front all
best-first size Good bound behind front x all passed same b short =
    record {
      rest = x ∷ b.rest;
      joined = rw append_assoc at b.joined;
      best = record { wanted = record { choice = rw append_assoc at b.best.wanted.choice; above = (same b.rest).1 b.best.wanted.above }; least = none_below };
    }
  where
    none_below : (others : List ℕ) → GoesOn size Good bound front others → IsBefore others (x ∷ b.rest) → ⊥
    none_below [] g below = short (rw append-nil at g.choice.whole)
    none_below (y ∷ ys) g below =
        elim below [
          | inl lt ↦ passed y lt ys g
          | inr p ↦
              let e : y ≡ x = p.0 in
              b.best.least ys (record { choice = rw append_assoc (rw e at g.choice); above = (same ys).0 (rw e at g.above) }) p.1
        ]

-- what was pushed is popped
pub popped : (front pushed now rest : List ℕ) (x : ℕ) → now ≡ pushed → pushed ≡ front ++ x ∷ [] → rest ≡ take (length now - 1) now → rest ≡ front
popped front pushed now rest x same push taken =
    let e : now ≡ front ++ x ∷ [] = same ∙ push in
    let short : length front ≡ length now - 1 = omega (arith, ap length e, length-append front (x ∷ [])) in
    taken ∙ rw e (take_at front (x ∷ []) (length (front ++ x ∷ []) - 1) (rw e at short))

-- with an empty front and no bound, each choice continues the front
pub none-at-all : (size : ℕ) (Good : List ℕ → Type 0) (front : List ℕ) → front ≡ [] → IsNone (GoesOn size Good None front) → IsNone (IsChoice size Good)
none-at-all size Good front empty none = λ xs choice. none xs (record { choice = rw empty choice; above = tt })
