-- The plan of a rule at a match is that of its blocks.
use Rattle.std.proofs.Common.{ℕ, ◌+◌, ◌≡◌, zero, suc, List, [], ◌∷◌, ◌++◌, Some, false, map, drop, nat_lt, slice_get, refl, arith, ap, sym, subst, ◌∙◌, append-nil}
use Rattle.std.proofs.lemmas.Bool.{le-ltb}
use Rattle.std.proofs.lemmas.List.{append_assoc}
use Rattle.std.proofs.lemmas.List.Sums.{fold-append}
use Rattle.std.specs.List.{flat_map}
use Rattle.std.specs.Option.{unwrap_or}
use Rattle.hs_types.specs.declared.graph.Graph.{Graph}
use Rattle.hs_types.specs.declared.matching.Extension.{Extension}
use Rattle.hs_types.specs.declared.matching.Match.{Match}
use Rattle.hs_types.specs.declared.meta.Metamodel.{Metamodel}
use Rattle.hs_types.specs.declared.plan.End.{End}
use Rattle.hs_types.specs.declared.plan.End.TheVariants.{Old, New}
use Rattle.hs_types.specs.declared.request.Args.{Args}
use Rattle.hs_types.specs.declared.rule.Multi.{Multi}
use Rattle.hs_types.specs.declared.rule.Rule.{Rule}
use Rattle.hs_types.specs.Copies.{Copy, copies_from, copies_of}
use Rattle.hs_types.specs.Dangling.{dropped_nodes, dropped_edges}
use Rattle.hs_types.specs.Plan.{Plan, copy_edges, copy_objects, copy_writes, edges_for, end_after, end_of, no_plan, plan_of}
use Rattle.hs_types.specs.PlainMatch.{kernel_of}
use Rattle.hs_apply.proofs.Dropped.{drop-nil}
use Rattle.hs_apply.specs.Blocks.{Block, Draft, block_end, kernel_block, with_block, with_copies, with_copy}

below_none : (n : ℕ) → nat_lt n 0 ≡ false
below_none n = le-ltb n 0 (omega arith)

after_none : (end : End) → end_after 0 end ≡ end
after_none (Old n) = refl
after_none (New i) = ap New (let e : i + 0 ≡ i = omega arith in e)

-- Each node of a kernel has the object that it has without a base.
kernel_end : (rule : Rule) (f : Match) (n : ℕ) → block_end (kernel_block rule f) 0 n ≡ end_of rule.shape.nodes f.nodes n
kernel_end rule f n = rw (below_none n) (after_none (end_of rule.shape.nodes f.nodes n))

-- What copies add to a plan.
copies_add : (m : Metamodel) (g : Graph) (rule : Rule) (args : Args) (f : Extension) (copies : List Copy) (plan : Plan) (count : ℕ) → (with_copies m g rule args f (record { plan = plan; count = count }) copies).plan ≡ record {
  drop_objects = plan.drop_objects ++ flat_map (λ copy. dropped_nodes copy.multi.shape copy.found) copies;
  drop_edges = plan.drop_edges ++ flat_map (λ copy. dropped_edges copy.multi.shape copy.found) copies;
  writes = plan.writes ++ flat_map (copy_writes g rule args f) copies;
  make_objects = plan.make_objects ++ flat_map (copy_objects m g rule args f) copies;
  make_edges = plan.make_edges ++ copy_edges rule f count copies;
}
copies_add m g rule args f [] plan count = λ i. record {
  drop_objects = sym (append-nil plan.drop_objects) i;
  drop_edges = sym (append-nil plan.drop_edges) i;
  writes = sym (append-nil plan.writes) i;
  make_objects = sym (append-nil plan.make_objects) i;
  make_edges = sym (append-nil plan.make_edges) i;
}
copies_add m g rule args f (copy ∷ copies) plan count =
    let after = with_copy m g rule args f (record { plan = plan; count = count }) copy in
    copies_add m g rule args f copies after.plan after.count ∙ (λ i. record {
      drop_objects = append_assoc plan.drop_objects (dropped_nodes copy.multi.shape copy.found) (flat_map (λ copy. dropped_nodes copy.multi.shape copy.found) copies) i;
      drop_edges = append_assoc plan.drop_edges (dropped_edges copy.multi.shape copy.found) (flat_map (λ copy. dropped_edges copy.multi.shape copy.found) copies) i;
      writes = append_assoc plan.writes (copy_writes g rule args f copy) (flat_map (copy_writes g rule args f) copies) i;
      make_objects = append_assoc plan.make_objects (copy_objects m g rule args f copy) (flat_map (copy_objects m g rule args f) copies) i;
      make_edges = append_assoc plan.make_edges (edges_for (λ n. block_end (record { base = rule.shape.nodes; base_images = f.nodes; shape = copy.multi.shape; sets = copy.multi.sets; found = copy.found }) count n) copy.multi.shape.edges) (copy_edges rule f after.count copies) i;
    })

plan_by_blocks : (m : Metamodel) (g : Graph) (rule : Rule) (args : Args) (f : Match) → (with_copies m g rule args (kernel_of f) (record { plan = with_block m g rule args (kernel_block rule f) 0 no_plan; count = 0 }) (copies_of rule f)).plan ≡ plan_of m g rule args f
plan_by_blocks m g rule args f = copies_add m g rule args (kernel_of f) (copies_of rule f) (with_block m g rule args (kernel_block rule f) 0 no_plan) 0 ∙ (λ i. record {
  drop_objects = (plan_of m g rule args f).drop_objects;
  drop_edges = (plan_of m g rule args f).drop_edges;
  writes = (plan_of m g rule args f).writes;
  make_objects = (plan_of m g rule args f).make_objects;
  make_edges = edges_for (λ n. kernel_end rule f n i) rule.shape.edges ++ copy_edges rule (kernel_of f) 0 (copies_of rule f);
})

pub planned : (m : Metamodel) (g : Graph) (rule : Rule) (args : Args) (f : Match) (start first whole : Plan) (block : Block) →
    start ≡ no_plan → block ≡ kernel_block rule f → first ≡ with_block m g rule args block 0 start →
    whole ≡ (with_copies m g rule args (kernel_of f) (record { plan = first; count = 0 }) (copies_of rule f)).plan →
    whole ≡ plan_of m g rule args f
planned m g rule args f start first whole block empty kernel added copied =
    let begun : first ≡ with_block m g rule args (kernel_block rule f) 0 no_plan =
    added ∙ ap (λ (b : Block). with_block m g rule args b 0 start) kernel ∙ ap (with_block m g rule args (kernel_block rule f) 0) empty in
    copied ∙ ap (λ (p : Plan). (with_copies m g rule args (kernel_of f) (record { plan = p; count = 0 }) (copies_of rule f)).plan) begun ∙ plan_by_blocks m g rule args f

-- The copies of one multi-rule come before those of later ones.
from_none : (multis : List Multi) → copies_from multis [] ≡ []
from_none [] = refl
from_none (multi ∷ multis) = refl

after_one : (multis : List Multi) (lists : List (List Extension)) (i : ℕ) (multi : Multi) → slice_get multis i ≡ Some multi → copies_from (drop i multis) (drop i lists) ≡ map (λ x. record { multi = multi; found = x }) (unwrap_or (slice_get lists i) []) ++ copies_from (drop (suc i) multis) (drop (suc i) lists)
after_one [] lists i multi at = absurd (cc at)
after_one (first ∷ multis) [] i multi at = rw (drop-nil {A = List Extension} i) (from_none (drop i (first ∷ multis)) ∙ sym (from_none (drop i multis)))
after_one (first ∷ multis) (found ∷ lists) zero multi at =
    let e : first ≡ multi = cc at in
    subst (λ (one : Multi). copies_from (first ∷ multis) (found ∷ lists) ≡ map (λ x. record { multi = one; found = x }) found ++ copies_from multis lists) e refl
after_one (first ∷ multis) (found ∷ lists) (suc i) multi at = after_one multis lists i multi at

pub copies_step : (m : Metamodel) (g : Graph) (rule : Rule) (args : Args) (f : Extension) (lists : List (List Extension)) (i : ℕ) (multi : Multi) (copies : List Extension) (before after all : Draft) →
    slice_get rule.multis i ≡ Some multi → copies ≡ unwrap_or (slice_get lists i) [] →
    after ≡ with_copies m g rule args f before (map (λ x. record { multi = multi; found = x }) copies) →
    with_copies m g rule args f before (copies_from (drop i rule.multis) (drop i lists)) ≡ all →
    with_copies m g rule args f after (copies_from (drop (i + 1) rule.multis) (drop (i + 1) lists)) ≡ all
copies_step m g rule args f lists i multi copies before after all at here added done =
    subst (λ (k : ℕ). with_copies m g rule args f after (copies_from (drop k rule.multis) (drop k lists)) ≡ all) (let e : suc i ≡ i + 1 = omega arith in e)
    (ap (λ (d : Draft). with_copies m g rule args f d (copies_from (drop (suc i) rule.multis) (drop (suc i) lists))) (added ∙ ap (λ (xs : List Extension). with_copies m g rule args f before (map (λ x. record { multi = multi; found = x }) xs)) here)
    ∙ sym (fold-append (with_copy m g rule args f) before (map (λ x. record { multi = multi; found = x }) (unwrap_or (slice_get lists i) [])) (copies_from (drop (suc i) rule.multis) (drop (suc i) lists)))
    ∙ ap (with_copies m g rule args f before) (sym (after_one rule.multis lists i multi at))
    ∙ done)
