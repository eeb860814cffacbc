use Rattle.std.proofs.Common.{[], refl}
use Rattle.hs_types.specs.Limits.{IsSmallMeta}
use Rattle.hs_types.specs.Metamodel.{IsMeta}
use Rattle.hs_json_model.specs.Sound.{IsSound}
use Rattle.hs_json_model.proofs.Sound.{graph_sound, meta_sound}
use Rattle.hs_json_model.proofs.laws.models_are_sound.Goals as goal

pub returns-clause-whole : goal.returns-clause-whole
returns-clause-whole c = meta_sound IsMeta c.metamodels_are_denoted.ensures.whole

pub returns-clause-small : goal.returns-clause-small
returns-clause-small c = meta_sound IsSmallMeta c.metamodels_are_denoted.ensures.small

pub returns-clause-empty : goal.returns-clause-empty
returns-clause-empty c = λ m is small. record {
  is_meta = is;
  is_small = small;
  is_opening = c.graphs_are_opening.ensures.opening m [] is refl;
  few_objects = c.graphs_are_small.ensures.objects m [] refl;
  few_edges = c.graphs_are_small.ensures.edges m [] refl;
  low_names = c.graphs_are_small.ensures.names m [] refl;
}

pub returns-clause-graph : goal.returns-clause-graph
returns-clause-graph c = λ m d g is small e.
    graph_sound (IsSound m) m (λ objects none. record {
      is_meta = is;
      is_small = small;
      is_opening = c.graphs_are_opening.ensures.opening m objects is none;
      few_objects = c.graphs_are_small.ensures.objects m objects none;
      few_edges = c.graphs_are_small.ensures.edges m objects none;
      low_names = c.graphs_are_small.ensures.names m objects none;
    }) d g e
