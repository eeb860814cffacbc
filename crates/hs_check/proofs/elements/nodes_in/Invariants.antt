use Rattle.std.proofs.Common.{◌≡◌, ◌++◌, drop}
use Rattle.hs_check.specs.Elements.{nodes_in}
use Rattle.hs_check.proofs.elements.nodes_in.Given as goal

abbrev pub invariant-loop-node : goal.invariant-loop-node
invariant-loop-node l = l.nodes ++ nodes_in l.meta (drop l.node-index l.declared) l.part ≡ nodes_in l.meta l.declared l.part
