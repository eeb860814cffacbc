use Rattle.std.proofs.Common.{◌≡◌, ◌++◌, drop, [], if◌then◌else◌}
use Rattle.hs_expr.specs.Verdict.{each_from}
use Rattle.hs_meta.specs.Faults as spec
use Rattle.hs_types.specs.Metamodel.{conforms}
use Rattle.hs_meta.specs.WrittenSupers.{written_supers}
use Rattle.hs_meta.proofs.inherited.feature_names.Given as goal

abbrev pub invariant-loop-d : goal.invariant-loop-d
invariant-loop-d l = l.names ++ each_from (λ d class. if conforms (written_supers l.classes) l.c d then spec.own_names class else []) l.d (drop l.d l.classes) ≡ spec.feature_names l.classes l.c
