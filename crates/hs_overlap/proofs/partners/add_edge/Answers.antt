use Rattle.std.proofs.Common.{◌∙◌, sym, arith}
use Rattle.hs_overlap.proofs.Fills.{puts_new}
use Rattle.hs_overlap.proofs.partners.add_edge.Goals as goal

pub returns-then-x-lt16-clause-some : goal.returns-then-x-lt16-clause-some
returns-then-x-lt16-clause-some c = (puts_new c.args.partners.now.edges c.with_edge.result.edges c.args.x c.args.y (sym c.partner.ensures ∙ c.in-None.is) (let l = c.if-x-lt16.true in omega (arith, l, c.with_edge.ensures.long)) c.with_edge.ensures.edges, c.with_edge.ensures.nodes)
