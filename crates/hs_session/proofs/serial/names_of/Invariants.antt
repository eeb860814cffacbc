use Rattle.std.proofs.Common.{◌≡◌, ◌++◌, drop}
use Rattle.std.specs.List.{filter_map}
use Rattle.hs_types.specs.TypedGraph.{name_at}
use Rattle.hs_session.proofs.serial.names_of.Given as goal

-- the names so far, and those that are left, are all
abbrev pub invariant-loop-number : goal.invariant-loop-number
invariant-loop-number l = l.names ++ filter_map (name_at l.graph.graph) (drop l.number-index l.numbers) ≡ filter_map (name_at l.graph.graph) l.numbers
