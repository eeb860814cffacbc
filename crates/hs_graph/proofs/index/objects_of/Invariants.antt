use Rattle.std.proofs.Common.{◌≡◌, ℕ, take, eqb}
use Rattle.std.specs.List.{find}
use Rattle.std.specs.Option.{option_map}
use Rattle.hs_graph.specs.Index.{indexed_object}
use Rattle.hs_graph.proofs.index.objects_of.Given as goal

-- of each number the first object so far
abbrev pub invariant-loop-object : goal.invariant-loop-object
invariant-loop-object l = (n : ℕ) → option_map (λ o. o.now) (indexed_object l.objects n) ≡ find (λ o. eqb o.number n) (take l.object-index l.object-items)
