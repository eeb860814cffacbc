use Rattle.std.proofs.Common.{◌<◌, ℕ}
use Rattle.hs_types.specs.Metamodel.{Conforms, IsConcrete}
use Rattle.hs_types.proofs.conformance.Meta.have_common.Given as goal

abbrev pub invariant-loop-c : goal.invariant-loop-c
invariant-loop-c l = (k : ℕ) → k < l.c → IsConcrete l.self k × Conforms l.self k l.one × Conforms l.self k l.other → ⊥
