use Rattle.std.proofs.Common.{◌≡◌, ◌++◌, ℕ, List, drop, map}
use Rattle.hs_graph.specs.Links as spec
use Rattle.hs_graph.specs.Lookups.{number_named, place_of}
use Rattle.hs_graph.proofs.edges.add_targets.Given as goal

abbrev pub invariant-loop-target : goal.invariant-loop-target
invariant-loop-target l = (names : List (List ℕ)) → ((name : List ℕ) → number_named l.numbers name ≡ place_of names name) →
    l.links ++ map (spec.link_of names l.source l.reference) (drop l.target-index l.targets) ≡ l.fn.links ++ map (spec.link_of names l.source l.reference) l.targets
