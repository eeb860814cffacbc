use Rattle.std.proofs.Common.{◌≡◌, ◌++◌, ◌∙◌, [], set, get_or, ap, sym, arith}
use Rattle.std.proofs.lemmas.List.{get_or_read}
use Rattle.std.specs.List.{flat_map}
use Rattle.hs_expr.specs.Lists.{each_once}
use Rattle.hs_meta.proofs.Ranked.{found_passed, found_put}
use Rattle.hs_meta.proofs.features.add_inherited.Goals as goal
use Rattle.hs_meta.proofs.features.add_inherited.Goals.{then-own_rank-rank+in_ok-put_inherited_first, else-own_rank-rank}

pub loop-c-preserved : goal.loop-c-preserved
loop-c-preserved c = λ own found.
    let before = c.loop-c.invariant own found in
    elim c.if-own_rank-rank.branch [
      | then-own_rank-rank+in_ok-put_inherited_first w ↦
          let these : get_or c.args.supers.now c.loop-c.c [] ≡ w.as_slice.result.now = sym (w.as_slice.ensures ∙ get_or_read c.args.supers.now c.loop-c.c w.index-supers-c.result (omega arith) w.index-supers-c.is []) in
          let put = w.in_ok-put_inherited_first.ensures ∙ ap (λ ss. set c.loop-c.made c.loop-c.c (each_once (flat_map (λ s. get_or c.loop-c.made s []) ss) ++ get_or c.loop-c.made c.loop-c.c [])) (sym these) in
          rw w.made-is (found_put c.args.supers.now own c.args.ranks.now c.args.rank c.loop-c.c c.loop-c.made w.put_inherited_first.new.made (omega arith) c.requires.ranks c.requires.ranked c.requires.low (omega arith) w.if-own_rank-rank.true put before)
      | else-own_rank-rank w ↦ rw w.made-is (found_passed c.args.supers.now own c.args.ranks.now c.args.rank c.loop-c.c c.loop-c.made w.if-own_rank-rank.false before)
    ]
