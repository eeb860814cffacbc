use Rattle.std.proofs.Common.{◌≤◌, ◌∙◌, List, ℕ, ap, sym, subst, length}
use Rattle.std.specs.List.{All}
use Rattle.hs_meta.specs.declared.checking.Supers.{Supers}
use Rattle.hs_meta.specs.Ranks.{AreRanked, ranks}
use Rattle.hs_meta.specs.WrittenSupers.{written_supers}
use Rattle.hs_meta.proofs.Order.{rank_low, ranked}
use Rattle.hs_meta.proofs.Soundness.{own_few, sound}
use Rattle.hs_meta.proofs.Standing.{no_cycle, own_long, ranks_long, stand_within}
use Rattle.hs_meta.proofs.metamodel.features_of_each.Goals as goal

pub own_numbers-requires : goal.own_numbers-requires
own_numbers-requires c = own_few c.args.classes.now (sound c.args.classes.now c.requires.free)

pub with_inherited-requires-clause-own : goal.with_inherited-requires-clause-own
with_inherited-requires-clause-own c =
    let direct = c.as_slice-2.ensures ∙ ap (λ (s : Supers). s.direct) c.requires.supers in
    ap length c.in_ok-own.ensures ∙ own_long c.args.classes.now ∙ sym (ap length direct)

pub with_inherited-requires-clause-ranks : goal.with_inherited-requires-clause-ranks
with_inherited-requires-clause-ranks c =
    let direct = c.as_slice-2.ensures ∙ ap (λ (s : Supers). s.direct) c.requires.supers in
    let found = c.as_slice-3.ensures ∙ c.in_ok-ranks.ensures ∙ ap ranks (c.as_slice.ensures ∙ ap (λ (s : Supers). s.rows) c.requires.supers) in
    ap length found ∙ ranks_long (written_supers c.args.classes.now) ∙ sym (ap length direct)

pub with_inherited-requires-clause-low : goal.with_inherited-requires-clause-low
with_inherited-requires-clause-low c =
    let direct = c.as_slice-2.ensures ∙ ap (λ (s : Supers). s.direct) c.requires.supers in
    let found = c.as_slice-3.ensures ∙ c.in_ok-ranks.ensures ∙ ap ranks (c.as_slice.ensures ∙ ap (λ (s : Supers). s.rows) c.requires.supers) in
    subst (λ (supers : List (List ℕ)). All (λ rank. rank ≤ length supers) c.as_slice-3.result.now) (sym direct)
    (subst (λ (rs : List ℕ). All (λ rank. rank ≤ length (written_supers c.args.classes.now)) rs) (sym found) (rank_low (written_supers c.args.classes.now)))

pub with_inherited-requires-clause-ranked : goal.with_inherited-requires-clause-ranked
with_inherited-requires-clause-ranked c =
    let classes = c.args.classes.now in
    let direct = c.as_slice-2.ensures ∙ ap (λ (s : Supers). s.direct) c.requires.supers in
    let found = c.as_slice-3.ensures ∙ c.in_ok-ranks.ensures ∙ ap ranks (c.as_slice.ensures ∙ ap (λ (s : Supers). s.rows) c.requires.supers) in
    subst (λ (supers : List (List ℕ)). AreRanked supers c.as_slice-3.result.now) (sym direct)
    (subst (λ (rs : List ℕ). AreRanked (written_supers classes) rs) (sym found) (ranked (written_supers classes) (stand_within classes) (no_cycle classes (sound classes c.requires.free))))
