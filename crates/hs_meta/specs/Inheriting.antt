-- How far features are found.
use Rattle.std.specs.Prelude.{ℕ, ◌≡◌, ◌<◌, List, [], length, Bool, nat_lt, eqb, ◌&&◌, ◌||◌, ◌++◌, not, get_or, if◌then◌else◌}
use Rattle.std.specs.List.{filter}
use Rattle.hs_expr.specs.Lists.{each_once, has}
use Rattle.hs_meta.specs.Meaning.{features_within}

-- These numbers, and after them each further one once.
abbrev pub with_further : List ℕ → List ℕ → List ℕ
with_further numbers further = numbers ++ filter (λ n. not (has numbers n)) (each_once further)

-- Class k comes before class c, which is of this rank.
abbrev pub comes_before : List ℕ → ℕ → ℕ → ℕ → Bool
comes_before ranks rank c k =
    nat_lt (get_or ranks k 0) rank || (eqb (get_or ranks k 0) rank && nat_lt k c)

-- Each class that comes before class c, which is of this rank, has all its features, and each other
-- one has its own.
pub record AreFoundBefore (supers own : List (List ℕ)) (ranks : List ℕ) (rank c : ℕ)
    (made : List (List ℕ)) : Type 0 where
  pub each_class : (k : ℕ) → k < length supers → get_or made k [] ≡ (if comes_before ranks rank c k
      then features_within supers own (length supers) k else get_or own k [])
