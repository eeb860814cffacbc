use Rattle.std.proofs.Common.{◌≡◌, ◌≤◌, ◌++◌, drop, length}
use Rattle.hs_graph.specs.Links as spec
use Rattle.hs_graph.specs.Lookups.{object_names}
use Rattle.hs_graph.proofs.edges.all_links.Given as goal

abbrev pub invariant-loop-i : goal.invariant-loop-i
invariant-loop-i l = record {
  few : length l.links ≤ 400000;
  whole : l.links ++ spec.links_of_objects l.meta (object_names l.objects) l.i (drop l.i l.objects) ≡ spec.all_links l.meta l.objects;
}
