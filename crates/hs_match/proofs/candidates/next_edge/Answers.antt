use Rattle.std.proofs.Common.{List, subst, ◌≡◌, ◌≤◌, ◌<◌, ◌++◌, slice_get, Some, arith, refl}
use Rattle.std.specs.Prelude.{slice_index_or}
use Rattle.std.proofs.lemmas.Option.{slice_get-get_or}
use Rattle.hs_types.specs.declared.graph.Edge.{Edge}
use Rattle.hs_match.specs.Candidates.{MayJoin}
use Rattle.hs_match.proofs.Scans.{skip_one, least_here, none_left, edge_here, edge_stands}
use Rattle.hs_match.proofs.candidates.next_edge.Goals as goal
use Rattle.hs_match.proofs.candidates.next_edge.Goals.{else-from-via-then-from+else-may_join, else-from-via-else-from}

pub returns-then-may_join : goal.returns-then-may_join
returns-then-may_join c =
    let edge : Edge = slice_index_or c.edges-edges.result.now c.loop-i.i (record { number = 0; source = 0; reference = 0; target = 0 }) in
    let at : slice_get c.edges-edges.result.now c.loop-i.i ≡ Some edge = slice_get-get_or c.edges-edges.result.now c.loop-i.i _ c.loop-i-test.true in
    let there : slice_get c.args.graph.now.graph.edges c.loop-i.i ≡ Some edge = subst (λ (xs : List Edge). slice_get xs c.loop-i.i ≡ Some edge) c.edges-edges.ensures at in
    let late : c.args.from ≤ edge.number = rw c.from.ensures at c.if-from.true in
    least_here (λ (edge : Edge). edge.number) (MayJoin c.args.joining.source c.args.joining.reference c.args.joining.target (c.args.base.now ++ c.args.taken.now)) _ _ _ c.loop-i.i edge c.requires
    c.loop-i.invariant there late
    (edge_here _ _ _ _ _ c.loop-i.i edge c.requires there (c.if-may_join.ensures.0 refl))
    (edge_stands _ _ _ _ _)

pub loop-i-preserved : goal.loop-i-preserved
loop-i-preserved c =
    let edge : Edge = slice_index_or c.edges-edges.result.now c.loop-i.i (record { number = 0; source = 0; reference = 0; target = 0 }) in
    let at : slice_get c.edges-edges.result.now c.loop-i.i ≡ Some edge = slice_get-get_or c.edges-edges.result.now c.loop-i.i _ c.loop-i-test.true in
    let there : slice_get c.args.graph.now.graph.edges c.loop-i.i ≡ Some edge = subst (λ (xs : List Edge). slice_get xs c.loop-i.i ≡ Some edge) c.edges-edges.ensures at in
    skip_one (λ (edge : Edge). edge.number) (MayJoin c.args.joining.source c.args.joining.reference c.args.joining.target (c.args.base.now ++ c.args.taken.now)) c.args.graph.now.graph.edges c.args.from c.loop-i.i edge
    c.loop-i.invariant there
    (λ late passes. elim c.else-from.branch [
      | else-from-via-then-from+else-may_join w ↦ let t = w.if-may_join.ensures.1 passes in cc
      | else-from-via-else-from w ↦ let early : c.from.result < c.args.from = w.if-from.false in let same : c.from.result ≡ edge.number = c.from.ensures in omega arith
    ])

pub returns : goal.returns
returns c =
    none_left (λ (edge : Edge). edge.number) (MayJoin c.args.joining.source c.args.joining.reference c.args.joining.target (c.args.base.now ++ c.args.taken.now)) _ _ _ c.loop-i.i c.loop-i.invariant
    (rw c.edges-edges.ensures at c.loop-i-test.false) (edge_stands _ _ _ _ _)
