use Rattle.std.proofs.Common.{◌≡◌, drop, map}
use Rattle.hs_types.specs.PlainMatch.{kernel_of}
use Rattle.hs_apply.specs.Blocks.{with_copies}
use Rattle.hs_apply.proofs.planning.add_copies.Given as goal

-- the copies that are left give what all copies give
abbrev pub invariant-loop-found : goal.invariant-loop-found
invariant-loop-found g l = with_copies (g.H.Host.metamodel l.host) (g.H.Host.graph l.host) l.rule l.args (kernel_of l.kernel) (record { plan = l.plan; count = l.made }) (map (λ found. record { multi = l.multi; found = found }) (drop l.found-index l.copies)) ≡ with_copies (g.H.Host.metamodel l.host) (g.H.Host.graph l.host) l.rule l.args (kernel_of l.kernel) (record { plan = l.fn.plan; count = l.fn.count }) (map (λ found. record { multi = l.multi; found = found }) l.copies)
