use Rattle.std.proofs.Common.{◌≡◌, drop, get_or, []}
use Rattle.std.specs.List.{flat_map}
use Rattle.hs_expr.specs.Lists.{each_once}
use Rattle.hs_meta.specs.Inheriting.{with_further}
use Rattle.hs_meta.proofs.features.inherited.Given as goal

abbrev pub invariant-loop-s : goal.invariant-loop-s
invariant-loop-s l = with_further l.features (flat_map (λ s. get_or l.made s []) (drop l.s-index l.supers)) ≡ each_once (flat_map (λ s. get_or l.made s []) l.supers)
