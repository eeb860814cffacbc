use Rattle.std.proofs.Common.{◌≡◌, drop}
use Rattle.hs_types.specs.Copies.{copies_from}
use Rattle.hs_types.specs.PlainMatch.{kernel_of}
use Rattle.hs_apply.specs.Blocks.{with_copies}
use Rattle.hs_apply.proofs.planning.add_all_copies.Given as goal

-- the multi-rules that are left give what all give
abbrev pub invariant-loop-index : goal.invariant-loop-index
invariant-loop-index g l = with_copies (g.H.Host.metamodel l.host) (g.H.Host.graph l.host) l.rule l.args (kernel_of l.found) (record { plan = l.plan; count = l.count }) (copies_from (drop l.index l.rule.multis) (drop l.index l.found.copies)) ≡ with_copies (g.H.Host.metamodel l.host) (g.H.Host.graph l.host) l.rule l.args (kernel_of l.found) (record { plan = l.fn.plan; count = 0 }) (copies_from l.rule.multis l.found.copies)
