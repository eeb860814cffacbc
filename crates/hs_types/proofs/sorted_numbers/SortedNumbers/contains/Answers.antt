use Rattle.std.proofs.Common.{◌∙◌, ap, subst, List, ℕ}
use Rattle.std.specs.List.Sorted.{IsBinarySearchResult}
use Rattle.std.specs.Ordering.{nat_cmp}
use Rattle.hs_expr.specs.Lists.{has}
use Rattle.hs_types.proofs.Sorted.{among}
use Rattle.hs_types.proofs.sorted_numbers.SortedNumbers.contains.Goals as goal

pub returns : goal.returns
returns c =
    let found = subst (λ (ns : List ℕ). IsBinarySearchResult (λ y. nat_cmp y c.args.number) ns c.binary_search.result) c.deref.ensures.value c.binary_search.ensures.position in
    c.is_ok.ensures.value ∙ (among c.self.inside.rising.items c.args.number c.binary_search.result c.self.invariant found ∙ ap (λ (ns : List ℕ). has ns c.args.number) c.self.view_is)
