-- What a rule without faults has: few of everything, and nodes that its parts find by name.
use Rattle.std.proofs.Common.{ℕ, zero, suc, ◌+◌, ◌≤◌, ◌≡◌, List, [], ◌∷◌, Bool, true, false, cond, if◌then◌else◌, nat_le, length, take, slice_get, Option, Some, refl, ap, ap₂, sym, ◌∙◌, subst, add-zero, zero-add, arith, length-append}
use Rattle.std.proofs.lemmas.Bool.{and_parts, leb-true}
use Rattle.std.proofs.lemmas.List.{length-map}
use Rattle.std.proofs.lemmas.Option.{none-some, same_Some}
use Rattle.std.specs.List.{filter, list_all}
use Rattle.hs_expr.specs.Verdict.{each_from}
use Rattle.std.specs.Option.{unwrap_or}
use Rattle.hs_text.specs.declared.syntax.Rule.{Rule}
use Rattle.hs_types.specs.declared.meta.Metamodel.{Metamodel}
use Rattle.hs_faults.specs.declared.nodes.DeclaredNode.{DeclaredNode}
use Rattle.hs_faults.specs.declared.nodes.BlockId.{BlockId}
use Rattle.hs_faults.specs.declared.nodes.BlockId.TheVariants as home
use Rattle.hs_faults.specs.Depths.{is_flat}
use Rattle.hs_faults.specs.Sizes.{blocks, has_few, has_few_alike, is_edge_of, is_multi, is_pattern, sizes_fit}
use Rattle.hs_faults.specs.Nodes.{declared_nodes, written_nodes}
use Rattle.hs_faults.specs.Numbers.{count_in, data_params, number_of_node, number_at, numbered_nodes, with_number}
use Rattle.hs_faults.specs.ParamNodes.{is_kernel}
use Rattle.hs_faults.specs.Statements.{Statement, statements}
use Rattle.hs_faults.specs.StatementFaults.{same_block}
use Rattle.hs_check.specs.Elements.{node_meant, nodes_in}
use Rattle.hs_check.proofs.Visibility.{AllClassed, AreNumbered, Opens, opens_block, opens_kernel}
use Rattle.hs_check.proofs.NoFaults.{Clean}

-- A rule is of these sizes.
pub record IsFew (rule : Rule) : Type 0 where
  pub params : length rule.params ≤ 16
  pub patterns : length (filter is_pattern (blocks rule.items)) ≤ 8
  pub multis : length (filter is_multi (blocks rule.items)) ≤ 4
  pub kernel : has_few (declared_nodes rule.items) (statements rule.items) home.Kernel ≡ true
  pub each_block : list_all (has_few (declared_nodes rule.items) (statements rule.items)) (blocks rule.items) ≡ true
  pub alike : list_all (has_few_alike (statements rule.items)) (statements rule.items) ≡ true

pub is_few : (m : Metamodel) (rule : Rule) → Clean m rule → IsFew rule
is_few m rule clean =
    let all = and_parts (sizes_fit rule.params (blocks rule.items) (declared_nodes rule.items) (statements rule.items)) (list_all (is_flat m (data_params rule.params) (declared_nodes rule.items)) (statements rule.items)) clean.limits in
    let a = and_parts (nat_le (length rule.params) 16) _ all.0 in
    let b = and_parts (nat_le (length (filter is_pattern (blocks rule.items))) 8) _ a.1 in
    let c = and_parts (nat_le (length (filter is_multi (blocks rule.items))) 4) _ b.1 in
    let d = and_parts (has_few (declared_nodes rule.items) (statements rule.items) home.Kernel) _ c.1 in
    let e = and_parts (list_all (has_few (declared_nodes rule.items) (statements rule.items)) (blocks rule.items)) (list_all (has_few_alike (statements rule.items)) (statements rule.items)) d.1 in
    record {
      params = leb-true (length rule.params) 16 a.0;
      patterns = leb-true (length (filter is_pattern (blocks rule.items))) 8 b.0;
      multis = leb-true (length (filter is_multi (blocks rule.items))) 4 c.0;
      kernel = d.0;
      each_block = e.0;
      alike = e.1;
    }

-- A part has few nodes and edges.
pub record IsFewIn (ds : List DeclaredNode) (said : List Statement) (part : BlockId) : Type 0 where
  pub nodes : length (filter (λ (node : DeclaredNode). same_block part node.block) ds) ≤ 12
  pub edges : length (filter (is_edge_of part) said) ≤ 16

pub few_in : (ds : List DeclaredNode) (said : List Statement) (part : BlockId) → has_few ds said part ≡ true → IsFewIn ds said part
few_in ds said part e =
    let parts = and_parts (nat_le (length (filter (λ (node : DeclaredNode). same_block part node.block) ds)) 12) (nat_le (length (filter (is_edge_of part) said)) 16) e in
    record { nodes = leb-true _ 12 parts.0; edges = leb-true _ 16 parts.1 }

pub few_nodes : (m : Metamodel) (ds : List DeclaredNode) (said : List Statement) (part : BlockId) → has_few ds said part ≡ true → length (nodes_in m ds part) ≤ 12
few_nodes m ds said part e = subst (λ n. n ≤ 12) (sym (length-map (filter (λ (node : DeclaredNode). same_block part node.block) ds) (node_meant m))) (few_in ds said part e).nodes

all_classed : (m : Metamodel) (rule : Rule) → Clean m rule → AllClassed m (declared_nodes rule.items)
all_classed m rule clean k d at =
    let known = clean.nodes_known k d at in
    known.named ∙ ap (λ (n : ℕ). Some n) (sym (ap (λ (o : Option ℕ). unwrap_or o 0) known.named))

-- ---- numbers

abbrev numbered_from : (ℕ → DeclaredNode → ℕ) → ℕ → List DeclaredNode → List DeclaredNode
numbered_from g n ds = each_from (λ i node. with_number (g i node) node ∷ []) n ds

counts_kept : (g : ℕ → DeclaredNode → ℕ) (block : BlockId) (n : ℕ) (ds : List DeclaredNode) → count_in (numbered_from g n ds) block ≡ count_in ds block
counts_kept g block n [] = refl
counts_kept g block n (d ∷ ds) = go (same_block block d.block) (counts_kept g block (n + 1) ds)
  where
    test : DeclaredNode → Bool
    test node = same_block block node.block

    go : (b : Bool) → length (filter test (numbered_from g (n + 1) ds)) ≡ length (filter test ds) →
        length (cond b (with_number (g n d) d ∷ filter test (numbered_from g (n + 1) ds)) (filter test (numbered_from g (n + 1) ds))) ≡ length (cond b (d ∷ filter test ds) (filter test ds))
    go true e = ap suc e
    go false e = e

counts_before : (g : ℕ → DeclaredNode → ℕ) (block : BlockId) (n : ℕ) (ds : List DeclaredNode) (k : ℕ) → count_in (take k (numbered_from g n ds)) block ≡ count_in (take k ds) block
counts_before g block n [] k = refl
counts_before g block n (d ∷ ds) zero = refl
counts_before g block n (d ∷ ds) (suc k) = go (same_block block d.block) (counts_before g block (n + 1) ds k)
  where
    test : DeclaredNode → Bool
    test node = same_block block node.block

    go : (b : Bool) → length (filter test (take k (numbered_from g (n + 1) ds))) ≡ length (filter test (take k ds)) →
        length (cond b (with_number (g n d) d ∷ filter test (take k (numbered_from g (n + 1) ds))) (filter test (take k (numbered_from g (n + 1) ds)))) ≡ length (cond b (d ∷ filter test (take k ds)) (filter test (take k ds)))
    go true e = ap suc e
    go false e = e

at_number : (g : ℕ → DeclaredNode → ℕ) (n : ℕ) (ds : List DeclaredNode) (k : ℕ) (d : DeclaredNode) → slice_get (numbered_from g n ds) k ≡ Some d → (node : DeclaredNode) × (with_number (g (n + k) node) node ≡ d)
at_number g n [] k d at = absurd (none-some d at)
at_number g n (node ∷ ds) zero d at = (node, ap (λ i. with_number (g i node) node) (add-zero n) ∙ same_Some (with_number (g n node) node) d at)
at_number g n (node ∷ ds) (suc k) d at =
    let rest = at_number g (n + 1) ds k d at in
    (rest.0, ap (λ i. with_number (g i rest.0) rest.0) (let e : n + suc k ≡ n + 1 + k = omega arith in e) ∙ rest.1)

are_numbered : (ds : List DeclaredNode) → AreNumbered (numbered_nodes ds)
are_numbered ds k d at =
    let g : ℕ → DeclaredNode → ℕ = λ i node. number_of_node ds (take i ds) node in
    let is = at_number g 0 ds k d at in
    ap (λ (x : DeclaredNode). x.number) (sym is.1) ∙ ap (λ i. g i is.0) (zero-add k)
    ∙ ap₂ (λ (a b : ℕ). number_at ((if is_kernel is.0.block then 0 else a) + b)) (sym (counts_kept g home.Kernel 0 ds)) (sym (counts_before g is.0.block 0 ds k))
    ∙ ap (λ (x : DeclaredNode). number_of_node (numbered_nodes ds) (take k (numbered_nodes ds)) x) is.1

pub kernel_opens : (m : Metamodel) (rule : Rule) → Clean m rule → Opens m (declared_nodes rule.items) home.Kernel []
kernel_opens m rule clean =
    let few = few_nodes m (declared_nodes rule.items) (statements rule.items) home.Kernel (is_few m rule clean).kernel in
    opens_kernel m (declared_nodes rule.items) (all_classed m rule clean) (are_numbered (written_nodes rule.items)) (omega arith)

-- So many nodes may a block name.
pub few_open : (m : Metamodel) (rule : Rule) → Clean m rule → (part : BlockId) → has_few (declared_nodes rule.items) (statements rule.items) part ≡ true → length (nodes_in m (declared_nodes rule.items) home.Kernel) + length (nodes_in m (declared_nodes rule.items) part) ≤ 65536
few_open m rule clean part few_here =
    let kernel = few_nodes m (declared_nodes rule.items) (statements rule.items) home.Kernel (is_few m rule clean).kernel in
    let own = few_nodes m (declared_nodes rule.items) (statements rule.items) part few_here in
    omega arith

pub block_opens : (m : Metamodel) (rule : Rule) → Clean m rule → (part : BlockId) → is_kernel part ≡ false → has_few (declared_nodes rule.items) (statements rule.items) part ≡ true → Opens m (declared_nodes rule.items) part (nodes_in m (declared_nodes rule.items) home.Kernel)
block_opens m rule clean part block few_here =
    let few = few_open m rule clean part few_here in
    opens_block m (declared_nodes rule.items) (all_classed m rule clean) (are_numbered (written_nodes rule.items)) part block
    (subst (λ n. n ≤ 65536) (sym (length-append (nodes_in m (declared_nodes rule.items) home.Kernel) (nodes_in m (declared_nodes rule.items) part))) few)
