use Rattle.std.proofs.Common.{◌∙◌, ap, eqb}
use Rattle.std.specs.List.{filter}
use Rattle.hs_graph.specs.Problems as spec
use Rattle.hs_graph.proofs.Inside.{filter-turned}
use Rattle.hs_graph.proofs.containment.containing_of.Goals as goal

pub returns : goal.returns
returns c = λ n.
    c.in_ok-index.ensures n ∙ ap (filter (λ e. eqb e.target n)) c.in_ok-edges.ensures
    ∙ filter-turned (λ e. eqb e.target n) (λ e. spec.is_containment c.args.meta.now e.reference) c.args.graph.now.graph.edges
