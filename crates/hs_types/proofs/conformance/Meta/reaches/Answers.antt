use Rattle.std.proofs.Common.{◌≡◌, ◌↔◌, true, arith, rules}
use Rattle.hs_types.specs.Metamodel.{supers_of}
use Rattle.hs_types.specs.Reachability.{Reaches}
use Rattle.hs_types.proofs.Forms.{meta_of_form}
use Rattle.hs_types.proofs.Under.{below_stands, row_says}
use Rattle.hs_types.proofs.conformance.Meta.reaches.Goals as goal

pub returns-then-above-len : goal.returns-then-above-len
returns-then-above-len c =
    let m = c.self.inside.plain in
    let told : (c.is_in_row.result ≡ true) ↔ Reaches (supers_of m) c.args.class c.args.above =
    rw (c.is_in_row.ensures, c.as_slice.ensures, c.self.invariant.1) (row_says m c.args.class c.args.above (omega (arith, c.if-above-len.true, c.len.ensures))) in
    rw (← c.self.view_is) told

pub returns-else-above-len : goal.returns-else-above-len
returns-else-above-len c =
    let m = c.self.inside.plain in
    let none : Reaches (supers_of m) c.args.class c.args.above → ⊥ =
    (λ is. let low = below_stands m c.args.class c.args.above (meta_of_form m c.self.invariant.0).0 is in omega (arith, c.if-above-len.false, c.len.ensures, low)) in
    let so = rw c.self.view_is at none in
    search rules
