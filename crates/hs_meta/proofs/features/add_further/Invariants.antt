use Rattle.std.proofs.Common.{◌≡◌, ◌++◌, ℕ, List, drop}
use Rattle.hs_meta.specs.Inheriting.{with_further}
use Rattle.hs_meta.proofs.features.add_further.Given as goal

abbrev pub invariant-loop-number : goal.invariant-loop-number
invariant-loop-number l = (rest : List ℕ) → with_further l.numbers (drop l.number-index l.more ++ rest) ≡ with_further l.fn.numbers (l.more ++ rest)
