use Rattle.std.proofs.Common.{◌∙◌, sym, arith}
use Rattle.hs_overlap.proofs.Fills.{puts_new}
use Rattle.hs_overlap.proofs.partners.add_node.Goals as goal

pub returns-then-i-lt12-clause-some : goal.returns-then-i-lt12-clause-some
returns-then-i-lt12-clause-some c = (puts_new c.args.partners.now.nodes c.with_node.result.nodes c.args.i c.args.j (sym c.partner.ensures ∙ c.in-None.is) (let l = c.if-i-lt12.true in omega (arith, l, c.with_node.ensures.long)) c.with_node.ensures.nodes, c.with_node.ensures.edges)
