-- Conformance as a test, and as a relation.
use Rattle.std.proofs.Common.{ℕ, ◌≡◌, ◌↔◌, ◌⊎◌, inl, inr, Bool, true, false, not, eqb, Option, Some, None, IsSomeAnd, refl}
use Rattle.std.proofs.lemmas.Bool.{eqb-true, eq-eqb, false≢true, not-true, or_cases, or_left, or_right}
use Rattle.std.specs.Option.{option_map_or}
use Rattle.hs_expr.proofs.Booleans.{same_test}
use Rattle.hs_types.specs.declared.meta.Class.{Class}
use Rattle.hs_types.specs.declared.meta.Metamodel.{Metamodel}
use Rattle.hs_types.specs.Metamodel.{Conforms, conforms, supers_of}
use Rattle.hs_types.specs.Reachability.{Reaches, reaches}
use Rattle.hs_types.proofs.Paths.{says_reaches}
use Rattle.hs_types.proofs.Under.{conforms_by}

pub conforms_from : (m : Metamodel) (c d : ℕ) → Conforms m c d → conforms (supers_of m) c d ≡ true
conforms_from m c d is = go ((conforms_by m c d).0 is)
  where
    go : (c ≡ d) ⊎ Reaches (supers_of m) c d → conforms (supers_of m) c d ≡ true
    go (inl same) = or_left (eqb c d) (reaches (supers_of m) c d) (eq-eqb c d same)
    go (inr below) = or_right (eqb c d) (reaches (supers_of m) c d) ((says_reaches (supers_of m) c d).1 below)

pub conforms_to : (m : Metamodel) (c d : ℕ) → conforms (supers_of m) c d ≡ true → Conforms m c d
conforms_to m c d e = (conforms_by m c d).1 (go (or_cases (eqb c d) (reaches (supers_of m) c d) e))
  where
    go : (eqb c d ≡ true) ⊎ (reaches (supers_of m) c d ≡ true) → (c ≡ d) ⊎ Reaches (supers_of m) c d
    go (inl same) = inl (eqb-true c d same)
    go (inr below) = inr ((says_reaches (supers_of m) c d).0 below)

-- A test that says the relation is the counted one.
pub conforms_test : (m : Metamodel) (c d : ℕ) (b : Bool) → (b ≡ true) ↔ Conforms m c d → b ≡ conforms (supers_of m) c d
conforms_test m c d b h = same_test b (conforms (supers_of m) c d) (λ e. conforms_from m c d (h.0 e)) (λ e. h.1 (conforms_to m c d e))

-- A class that is there, and not abstract, by a test.
pub concrete_from : (found : Option Class) → IsSomeAnd found (λ class. class.is_abstract ≡ false) → option_map_or (λ class. not class.is_abstract) found false ≡ true
concrete_from None is = absurd is
concrete_from (Some class) is = rw is refl

pub concrete_to : (found : Option Class) → option_map_or (λ class. not class.is_abstract) found false ≡ true → IsSomeAnd found (λ class. class.is_abstract ≡ false)
concrete_to None e = absurd (false≢true e)
concrete_to (Some class) e = not-true class.is_abstract e
