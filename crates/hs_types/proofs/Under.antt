-- Conformance, and the table of the classes that are below each class.
use Rattle.std.proofs.Common.{ℕ, zero, suc, ◌<◌, ◌≡◌, ◌⊎◌, inl, inr, ◌↔◌, List, [], ◌∷◌, true, false, map, length, IsSomeAnd, Option, Some, None, get_or, slice_get, refl, subst}
use Rattle.std.specs.List.{All}
use Rattle.hs_types.specs.declared.meta.Class.{Class}
use Rattle.hs_types.specs.declared.meta.Metamodel.{Metamodel}
use Rattle.hs_expr.specs.Lists.{has}
use Rattle.hs_types.specs.Metamodel.{Conforms, IsMeta, itself, above, supers_of}
use Rattle.hs_expr.proofs.Items.{All-at}
use Rattle.hs_expr.proofs.Lists.{All-has}
use Rattle.hs_types.specs.Reachability.{HasEdge, Reaches, direct, by_way_of, reach_rows}
use Rattle.std.proofs.lemmas.List.{length-map}
use Rattle.hs_types.proofs.Paths.{row_at, says_reaches}

-- A class and its supertypes are at one place.
to_extends : (classes : List Class) (c d : ℕ) → IsSomeAnd (slice_get classes c) (λ class. has class.supers d ≡ true) → HasEdge (map (λ class. class.supers) classes) c d
to_extends [] c d is = absurd is
to_extends (class ∷ classes) zero d is = is
to_extends (class ∷ classes) (suc c) d is = to_extends classes c d is

from_extends : (classes : List Class) (c d : ℕ) → HasEdge (map (λ class. class.supers) classes) c d → IsSomeAnd (slice_get classes c) (λ class. has class.supers d ≡ true)
from_extends [] c d is = absurd is
from_extends (class ∷ classes) zero d is = is
from_extends (class ∷ classes) (suc c) d is = from_extends classes c d is

from_conforms : (m : Metamodel) (c d : ℕ) → Conforms m c d → (c ≡ d) ⊎ Reaches (supers_of m) c d
from_conforms m c _ (itself _) = inl refl
from_conforms m c e (above _ d _ step rest) = inr (go (from_conforms m d e rest))
  where
    go : (d ≡ e) ⊎ Reaches (supers_of m) d e → Reaches (supers_of m) c e
    go (inl same) = direct c e (subst (λ n. HasEdge (supers_of m) c n) same (to_extends m.classes c d step))
    go (inr below) = by_way_of c d e (to_extends m.classes c d step) below

from_below : (m : Metamodel) (c d : ℕ) → Reaches (supers_of m) c d → Conforms m c d
from_below m c d (direct _ _ step) = above c d d (from_extends m.classes c d step) (itself d)
from_below m c e (by_way_of _ d _ step rest) = above c d e (from_extends m.classes c d step) (from_below m d e rest)

-- A class conforms to itself and to those that it is below.
pub conforms_by : (m : Metamodel) (c d : ℕ) → Conforms m c d ↔ ((c ≡ d) ⊎ Reaches (supers_of m) c d)
conforms_by m c d = (from_conforms m c d, back)
  where
    back : (c ≡ d) ⊎ Reaches (supers_of m) c d → Conforms m c d
    back (inl same) = subst (λ n. Conforms m c n) same (itself c)
    back (inr below) = from_below m c d below

-- A class that another is below is one of the classes.
pub below_stands : (m : Metamodel) (c d : ℕ) → IsMeta m → Reaches (supers_of m) c d → d < length m.classes
below_stands m c d is (direct _ _ step) = go (slice_get m.classes c) refl (from_extends m.classes c d step)
  where
    go : (found : Option Class) → slice_get m.classes c ≡ found → IsSomeAnd found (λ class. has class.supers d ≡ true) → d < length m.classes
    go None e h = absurd h
    go (Some class) e h = All-has (λ k. k < length m.classes) class.supers d (All-at (λ class. All (λ k. k < length m.classes) class.supers) m.classes c class is.supers_stand e) h
below_stands m c e is (by_way_of _ d _ step rest) = below_stands m d e is rest

-- What the table says, for classes that it has a row for.
pub row_says : (m : Metamodel) (c d : ℕ) → d < length m.classes → (get_or (get_or (reach_rows (supers_of m)) d []) c false ≡ true) ↔ Reaches (supers_of m) c d
row_says m c d h =
    let few : d < length (supers_of m) = rw (length-map m.classes (λ class. class.supers)) h in
    rw (row_at (supers_of m) c d few) (says_reaches (supers_of m) c d)
