-- Classes to which a concrete class conforms.
use Rattle.std.proofs.Common.{ℕ, zero, suc, ◌<◌, ◌≡◌, ◌↔◌, ◌&&◌, Bool, true, false, List, [], ◌∷◌, length, IsSomeAnd, slice_get, arith}
use Rattle.std.proofs.lemmas.Bool.{and_from, and_parts}
use Rattle.std.specs.List.{range_with_len}
use Rattle.hs_expr.proofs.Booleans.{same_test}
use Rattle.hs_expr.proofs.Items.{any_in_range, one_passing}
use Rattle.hs_types.specs.declared.meta.Class.{Class}
use Rattle.hs_types.specs.declared.meta.Metamodel.{Metamodel}
use Rattle.hs_types.specs.Metamodel.{HaveCommon, class_at, conforms, supers_of}
use Rattle.hs_types.proofs.Conforming.{concrete_from, concrete_to, conforms_from, conforms_to}
use Rattle.hs_faults.specs.Names.{has_concrete, is_concrete}

stands : (classes : List Class) (d : ℕ) → IsSomeAnd (slice_get classes d) (λ class. class.is_abstract ≡ false) → d < length classes
stands [] d h = absurd h
stands (class ∷ classes) zero h = omega arith
stands (class ∷ classes) (suc d) h = let rest = stands classes d h in omega arith

-- A test that says that a concrete class conforms to this one is the definition's.
pub concrete_test : (m : Metamodel) (c : ℕ) (b : Bool) → (b ≡ true) ↔ HaveCommon m c c → b ≡ has_concrete m c
concrete_test m c b says = same_test b (has_concrete m c) there back
  where
    there : b ≡ true → has_concrete m c ≡ true
    there e = let have = says.0 e in
        any_in_range (λ d. is_concrete m d && conforms (supers_of m) d c) (length m.classes) have.0 (stands m.classes have.0 have.1) (and_from (is_concrete m have.0) (conforms (supers_of m) have.0 c) (concrete_from (class_at m have.0) have.1) (conforms_from m have.0 c have.2))

    back : has_concrete m c ≡ true → b ≡ true
    back e =
        let found = one_passing (λ d. is_concrete m d && conforms (supers_of m) d c) (range_with_len 0 (length m.classes)) e in
        let parts = and_parts (is_concrete m found.0) (conforms (supers_of m) found.0 c) found.2 in
        says.1 (found.0, concrete_to (class_at m found.0) parts.0, conforms_to m found.0 c parts.1, conforms_to m found.0 c parts.1)
