use Rattle.std.proofs.Common.{◌≡◌, ◌++◌, ℕ, List, drop, map}
use Rattle.std.specs.List.{flat_map}
use Rattle.hs_graph.specs.Links as spec
use Rattle.hs_graph.specs.Lookups.{number_named, place_of}
use Rattle.hs_graph.proofs.edges.add_links.Given as goal

abbrev pub invariant-loop-feature : goal.invariant-loop-feature
invariant-loop-feature l = (names : List (List ℕ)) → ((name : List ℕ) → number_named l.numbers name ≡ place_of names name) →
    l.links ++ flat_map (λ f. map (spec.link_of names l.source f) (spec.targets_at l.meta l.refs f)) (drop l.feature-index l.feature-items) ≡ l.fn.links ++ spec.links_of l.meta names l.source l.class l.refs
