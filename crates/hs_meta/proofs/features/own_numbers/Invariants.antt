use Rattle.std.proofs.Common.{◌≡◌, ◌+◌, ◌++◌, drop}
use Rattle.std.specs.List.{sum_by}
use Rattle.hs_meta.specs.Meaning as meaning
use Rattle.hs_meta.proofs.features.own_numbers.Given as goal

abbrev pub invariant-loop-class : goal.invariant-loop-class
invariant-loop-class l = record {
  whole : l.own ++ meaning.own_numbers_from l.first (drop l.class-index l.classes) ≡ meaning.own_numbers l.classes;
  left : l.first + sum_by meaning.own_count (drop l.class-index l.classes) ≡ sum_by meaning.own_count l.classes;
}
