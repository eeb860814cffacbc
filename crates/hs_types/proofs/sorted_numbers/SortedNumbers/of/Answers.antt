use Rattle.std.proofs.Common.{eqb, sym}
use Rattle.std.proofs.lemmas.List.Sorted.{IsNonDecreasingBy-from_sort, list_any-IsPermutation}
use Rattle.hs_types.proofs.sorted_numbers.SortedNumbers.of.Goals as goal

pub invariant_of-result : goal.invariant_of-result
invariant_of-result c = λ i j l k. IsNonDecreasingBy-from_sort (λ x. x) c.sort_unstable.new.self.items c.sort_unstable.ensures.sorted i j 0 l k

pub returns : goal.returns
returns c = λ n. sym (list_any-IsPermutation (eqb n) c.args.numbers.items c.sort_unstable.new.self.items c.sort_unstable.ensures.permutation)
