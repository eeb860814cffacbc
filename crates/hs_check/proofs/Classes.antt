-- Classes by tests: of which there are objects.
use Rattle.std.proofs.Common.{ℕ, ◌≡◌, ◌&&◌, true, length}
use Rattle.std.proofs.lemmas.Bool.{and_parts}
use Rattle.std.specs.List.{range_with_len}
use Rattle.hs_expr.proofs.Items.{one_passing}
use Rattle.hs_types.specs.declared.meta.Metamodel.{Metamodel}
use Rattle.hs_types.specs.Metamodel.{HaveCommon, IsConcrete, class_at, conforms, supers_of}
use Rattle.hs_types.proofs.Conforming.{concrete_to, conforms_to}
use Rattle.hs_faults.specs.Names.{has_concrete, is_concrete}

pub concrete : (m : Metamodel) (c : ℕ) → is_concrete m c ≡ true → IsConcrete m c
concrete m c e = concrete_to (class_at m c) e

-- Some concrete class conforms to the class, where the test says so.
pub have_common : (m : Metamodel) (c : ℕ) → has_concrete m c ≡ true → HaveCommon m c c
have_common m c e =
    let found = one_passing (λ d. is_concrete m d && conforms (supers_of m) d c) (range_with_len 0 (length m.classes)) e in
    let parts = and_parts (is_concrete m found.0) (conforms (supers_of m) found.0 c) found.2 in
    (found.0, concrete m found.0 parts.0, conforms_to m found.0 c parts.1, conforms_to m found.0 c parts.1)
