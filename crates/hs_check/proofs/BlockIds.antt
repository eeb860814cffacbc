-- The blocks of a rule: they differ, and what is in a forbid or require block is preserved.
use Rattle.std.proofs.Common.{ℕ, suc, ◌+◌, ◌≡◌, inl, inr, ◌&&◌, ◌++◌, List, [], ◌∷◌, Bool, true, false, length, slice_get, Some, refl, ap, sym, ◌∙◌, arith, take}
use Rattle.std.proofs.lemmas.Bool.{and_parts, cases_eq, false≢true, ne_eqb}
use Rattle.std.proofs.lemmas.List.Elements.{All-append, All-cons, All-nil, All-weaker}
use Rattle.std.proofs.lemmas.Option.{same_Some}
use Rattle.std.specs.List.{All, filter, list_all}
use Rattle.hs_expr.specs.Verdict.{each, each_from}
use Rattle.hs_text.specs.declared.syntax.Element.{Element}
use Rattle.hs_text.specs.declared.syntax.Element.TheVariants as element
use Rattle.hs_text.specs.declared.syntax.Item.{Item}
use Rattle.hs_text.specs.declared.syntax.Item.TheVariants as item
use Rattle.hs_text.specs.declared.syntax.Mark.{Mark}
use Rattle.hs_text.specs.declared.syntax.Mark.TheVariants.{Preserve}
use Rattle.hs_text.specs.declared.syntax.Simple.{Simple}
use Rattle.hs_text.specs.declared.syntax.Simple.TheVariants as simple
use Rattle.hs_expr.specs.Lists.{EachPair}
use Rattle.hs_faults.specs.declared.nodes.DeclaredNode.{DeclaredNode}
use Rattle.hs_faults.specs.declared.nodes.BlockId.{BlockId}
use Rattle.hs_faults.specs.declared.nodes.BlockId.TheVariants.{Kernel, Pattern, Multi}
use Rattle.hs_faults.specs.Sizes.{block_of, is_multi, is_pattern}
use Rattle.hs_faults.specs.Nodes.{declared_nodes, node_of_element, node_of_simple, nodes_of_item, written_nodes}
use Rattle.hs_faults.specs.Numbers.{number_of_node, with_number}
use Rattle.hs_faults.specs.Statements.{Statement, Edge, Set, Where, statement_of_element, statement_of_simple, statements, statements_of_item}
use Rattle.hs_faults.specs.StatementFaults.{same_block}
use Rattle.hs_check.specs.Rules.{forbid_at, multi_at, require_at}
use Rattle.hs_check.proofs.Filters.{All-flat_map}
use Rattle.hs_expr.proofs.Items.{All-at, All-each_from, All-from}
use Rattle.hs_expr.proofs.Lists.{EachPair-append}

-- ---- they differ

-- The block is the one of the item at this place.
abbrev pub IsAt : ℕ → BlockId → Type 0
IsAt n Kernel = ⊥
IsAt n (Pattern i) = n ≡ i
IsAt n (Multi i) = n ≡ i

-- They are not the same.
abbrev pub Unlike : BlockId → BlockId → Type 0
Unlike g h = same_block g h ≡ false

unlike_at : (i j : ℕ) (g h : BlockId) → IsAt i g → IsAt j h → (i ≡ j → ⊥) → Unlike g h
unlike_at i j Kernel h a b apart = absurd a
unlike_at i j (Pattern k) Kernel a b apart = absurd b
unlike_at i j (Pattern k) (Pattern l) a b apart = ne_eqb k l (λ e. apart (a ∙ e ∙ sym b))
unlike_at i j (Pattern k) (Multi l) a b apart = refl
unlike_at i j (Multi k) Kernel a b apart = absurd b
unlike_at i j (Multi k) (Pattern l) a b apart = refl
unlike_at i j (Multi k) (Multi l) a b apart = ne_eqb k l (λ e. apart (a ∙ e ∙ sym b))

abbrev Numbered : (ℕ → Item → List BlockId) → Type 0
Numbered f = (i : ℕ) (x : Item) → All (IsAt i) (f i x)

abbrev ApartHere : (ℕ → Item → List BlockId) → (ℕ → Item → List BlockId) → Type 0
ApartHere f g = (i : ℕ) (x : Item) → All (λ a. All (Unlike a) (g i x)) (f i x)

apart_each : (f g : ℕ → Item → List BlockId) → Numbered f → Numbered g → ApartHere f g → (n : ℕ) (items : List Item) → All (λ a. All (Unlike a) (each_from g n items)) (each_from f n items)
apart_each f g at_f at_g apart n items =
    All-each_from (λ (a : BlockId). All (Unlike a) (each_from g n items)) f n items (λ i x here.
    All-from (λ (a : BlockId). All (Unlike a) (each_from g n items)) (f (n + i) x) (λ k a at_a.
    All-each_from (Unlike a) g n items (λ j y there.
    All-from (Unlike a) (g (n + j) y) (λ l b at_b.
    elim (cases_eq i j) [
      | inl same ↦
          let item_same : x ≡ y = same_Some x y (sym here ∙ ap (slice_get items) same ∙ there) in
          let b_here : slice_get (g (n + i) x) l ≡ Some b = ap (λ k. slice_get (g (n + k) x) l) same ∙ ap (λ z. slice_get (g (n + j) z) l) item_same ∙ at_b in
          All-at (Unlike a) (g (n + i) x) l b (All-at (λ (a : BlockId). All (Unlike a) (g (n + i) x)) (f (n + i) x) k a (apart (n + i) x) at_a) b_here
      | inr differ ↦ unlike_at (n + i) (n + j) a b (All-at (IsAt (n + i)) (f (n + i) x) k a (at_f (n + i) x) at_a) (All-at (IsAt (n + j)) (g (n + j) y) l b (at_g (n + j) y) at_b) (λ e. differ (let d : i ≡ j = omega arith in d))
    ]))))

apart_each_one : (f : ℕ → Item → List BlockId) → Numbered f → ((i : ℕ) (x : Item) → EachPair Unlike (f i x)) → (n : ℕ) (items : List Item) → EachPair Unlike (each_from f n items)
apart_each_one f at_f one n [] = tt
apart_each_one f at_f one n (x ∷ items) = EachPair-append Unlike (f n x) (each_from f (n + 1) items) (one n x) (apart_each_one f at_f one (n + 1) items)
    (All-from (λ (a : BlockId). All (Unlike a) (each_from f (n + 1) items)) (f n x) (λ k a at_a.
    All-each_from (Unlike a) f (n + 1) items (λ j y there.
    All-from (Unlike a) (f (n + 1 + j) y) (λ l b at_b.
    unlike_at n (n + 1 + j) a b (All-at (IsAt n) (f n x) k a (at_f n x) at_a) (All-at (IsAt (n + 1 + j)) (f (n + 1 + j) y) l b (at_f (n + 1 + j) y) at_b) (λ e. absurd (omega arith))))))

forbids_at : Numbered forbid_at
forbids_at i (item.Simple s) = All-nil (IsAt i)
forbids_at i (item.Forbid es) = All-cons (IsAt i) (Pattern i) [] refl (All-nil (IsAt i))
forbids_at i (item.Require es) = All-nil (IsAt i)
forbids_at i (item.Multi ss) = All-nil (IsAt i)

requires_at : Numbered require_at
requires_at i (item.Simple s) = All-nil (IsAt i)
requires_at i (item.Forbid es) = All-nil (IsAt i)
requires_at i (item.Require es) = All-cons (IsAt i) (Pattern i) [] refl (All-nil (IsAt i))
requires_at i (item.Multi ss) = All-nil (IsAt i)

multis_at : Numbered multi_at
multis_at i (item.Simple s) = All-nil (IsAt i)
multis_at i (item.Forbid es) = All-nil (IsAt i)
multis_at i (item.Require es) = All-nil (IsAt i)
multis_at i (item.Multi ss) = All-cons (IsAt i) (Multi i) [] refl (All-nil (IsAt i))

forbids_requires : ApartHere forbid_at require_at
forbids_requires i (item.Simple s) = All-nil (λ (a : BlockId). All (Unlike a) [])
forbids_requires i (item.Forbid es) = All-cons (λ (a : BlockId). All (Unlike a) []) (Pattern i) [] (All-nil (Unlike (Pattern i))) (All-nil (λ (a : BlockId). All (Unlike a) []))
forbids_requires i (item.Require es) = All-nil (λ (a : BlockId). All (Unlike a) (Pattern i ∷ []))
forbids_requires i (item.Multi ss) = All-nil (λ (a : BlockId). All (Unlike a) [])

forbids_multis : ApartHere forbid_at multi_at
forbids_multis i (item.Simple s) = All-nil (λ (a : BlockId). All (Unlike a) [])
forbids_multis i (item.Forbid es) = All-cons (λ (a : BlockId). All (Unlike a) []) (Pattern i) [] (All-nil (Unlike (Pattern i))) (All-nil (λ (a : BlockId). All (Unlike a) []))
forbids_multis i (item.Require es) = All-nil (λ (a : BlockId). All (Unlike a) [])
forbids_multis i (item.Multi ss) = All-nil (λ (a : BlockId). All (Unlike a) (Multi i ∷ []))

requires_multis : ApartHere require_at multi_at
requires_multis i (item.Simple s) = All-nil (λ (a : BlockId). All (Unlike a) [])
requires_multis i (item.Forbid es) = All-nil (λ (a : BlockId). All (Unlike a) [])
requires_multis i (item.Require es) = All-cons (λ (a : BlockId). All (Unlike a) []) (Pattern i) [] (All-nil (Unlike (Pattern i))) (All-nil (λ (a : BlockId). All (Unlike a) []))
requires_multis i (item.Multi ss) = All-nil (λ (a : BlockId). All (Unlike a) (Multi i ∷ []))

one_forbid : (i : ℕ) (x : Item) → EachPair Unlike (forbid_at i x)
one_forbid i (item.Simple s) = tt
one_forbid i (item.Forbid es) = (All-nil (Unlike (Pattern i)), tt)
one_forbid i (item.Require es) = tt
one_forbid i (item.Multi ss) = tt

one_require : (i : ℕ) (x : Item) → EachPair Unlike (require_at i x)
one_require i (item.Simple s) = tt
one_require i (item.Forbid es) = tt
one_require i (item.Require es) = (All-nil (Unlike (Pattern i)), tt)
one_require i (item.Multi ss) = tt

one_multi : (i : ℕ) (x : Item) → EachPair Unlike (multi_at i x)
one_multi i (item.Simple s) = tt
one_multi i (item.Forbid es) = tt
one_multi i (item.Require es) = tt
one_multi i (item.Multi ss) = (All-nil (Unlike (Multi i)), tt)

not_kernel : (i : ℕ) (h : BlockId) → IsAt i h → Unlike Kernel h
not_kernel i Kernel a = absurd a
not_kernel i (Pattern j) a = refl
not_kernel i (Multi j) a = refl

kernel_apart : (f : ℕ → Item → List BlockId) → Numbered f → (n : ℕ) (items : List Item) → All (Unlike Kernel) (each_from f n items)
kernel_apart f at_f n items = All-each_from (Unlike Kernel) f n items (λ i x here. All-weaker (IsAt (n + i)) (Unlike Kernel) (not_kernel (n + i)) (f (n + i) x) (at_f (n + i) x))

-- The kernel, and then the blocks of each sort.
abbrev pub all_homes : List Item → List BlockId
all_homes items = Kernel ∷ ((each forbid_at items ++ each require_at items) ++ each multi_at items)

pub homes_unlike : (items : List Item) → EachPair Unlike (all_homes items)
homes_unlike items =
    let forbids = each forbid_at items in
    let requires = each require_at items in
    let multis = each multi_at items in (
      All-append (Unlike Kernel) (forbids ++ requires) multis (All-append (Unlike Kernel) forbids requires (kernel_apart forbid_at forbids_at 0 items) (kernel_apart require_at requires_at 0 items)) (kernel_apart multi_at multis_at 0 items),
      EachPair-append Unlike (forbids ++ requires) multis
          (EachPair-append Unlike forbids requires (apart_each_one forbid_at forbids_at one_forbid 0 items) (apart_each_one require_at requires_at one_require 0 items) (apart_each forbid_at require_at forbids_at requires_at forbids_requires 0 items))
          (apart_each_one multi_at multis_at one_multi 0 items)
          (All-append (λ (a : BlockId). All (Unlike a) multis) forbids requires (apart_each forbid_at multi_at forbids_at multis_at forbids_multis 0 items) (apart_each require_at multi_at requires_at multis_at requires_multis 0 items)),
    )

-- ---- of one sort

pub list_all-both : (q : BlockId → Bool) (xs ys : List BlockId) → list_all q (xs ++ ys) ≡ (list_all q xs && list_all q ys)
list_all-both q [] ys = refl
list_all-both q (x ∷ xs) ys = ap (λ b. q x && b) (list_all-both q xs ys) ∙ grouped (q x) (list_all q xs) (list_all q ys)
  where
    grouped : (a b c : Bool) → (a && (b && c)) ≡ ((a && b) && c)
    grouped true b c = refl
    grouped false b c = refl

-- What all blocks pass, those of each sort pass.
pub each_passes : (q : BlockId → Bool) (f : ℕ → Item → List BlockId) → ((i : ℕ) (x : Item) → list_all q (block_of i x) ≡ true → All (λ h. q h ≡ true) (f i x)) → (n : ℕ) (items : List Item) → list_all q (each_from block_of n items) ≡ true → All (λ h. q h ≡ true) (each_from f n items)
each_passes q f h n [] e = All-nil (λ (h : BlockId). q h ≡ true)
each_passes q f h n (x ∷ items) e =
    let parts = and_parts (list_all q (block_of n x)) (list_all q (each_from block_of (n + 1) items)) (sym (list_all-both q (block_of n x) (each_from block_of (n + 1) items)) ∙ e) in
    All-append (λ (h : BlockId). q h ≡ true) (f n x) (each_from f (n + 1) items) (h n x parts.0) (each_passes q f h (n + 1) items parts.1)

one_passes : (q : BlockId → Bool) (h : BlockId) → list_all q (h ∷ []) ≡ true → All (λ h. q h ≡ true) (h ∷ [])
one_passes q h e = All-cons (λ (h : BlockId). q h ≡ true) h [] (and_parts (q h) true e).0 (All-nil (λ (h : BlockId). q h ≡ true))

pub forbid_passes : (q : BlockId → Bool) (i : ℕ) (x : Item) → list_all q (block_of i x) ≡ true → All (λ h. q h ≡ true) (forbid_at i x)
forbid_passes q i (item.Simple s) e = All-nil (λ (h : BlockId). q h ≡ true)
forbid_passes q i (item.Forbid es) e = one_passes q (Pattern i) e
forbid_passes q i (item.Require es) e = All-nil (λ (h : BlockId). q h ≡ true)
forbid_passes q i (item.Multi ss) e = All-nil (λ (h : BlockId). q h ≡ true)

pub require_passes : (q : BlockId → Bool) (i : ℕ) (x : Item) → list_all q (block_of i x) ≡ true → All (λ h. q h ≡ true) (require_at i x)
require_passes q i (item.Simple s) e = All-nil (λ (h : BlockId). q h ≡ true)
require_passes q i (item.Forbid es) e = All-nil (λ (h : BlockId). q h ≡ true)
require_passes q i (item.Require es) e = one_passes q (Pattern i) e
require_passes q i (item.Multi ss) e = All-nil (λ (h : BlockId). q h ≡ true)

pub multi_passes : (q : BlockId → Bool) (i : ℕ) (x : Item) → list_all q (block_of i x) ≡ true → All (λ h. q h ≡ true) (multi_at i x)
multi_passes q i (item.Simple s) e = All-nil (λ (h : BlockId). q h ≡ true)
multi_passes q i (item.Forbid es) e = All-nil (λ (h : BlockId). q h ≡ true)
multi_passes q i (item.Require es) e = All-nil (λ (h : BlockId). q h ≡ true)
multi_passes q i (item.Multi ss) e = one_passes q (Multi i) e

-- Forbid and require blocks are patterns, multi blocks are multi-rules.
pub are_patterns_forbid : (items : List Item) → All (λ h. is_pattern h ≡ true) (each forbid_at items)
are_patterns_forbid items = All-each_from (λ (h : BlockId). is_pattern h ≡ true) forbid_at 0 items (λ i x here. go (0 + i) x)
  where
    go : (i : ℕ) (x : Item) → All (λ (h : BlockId). is_pattern h ≡ true) (forbid_at i x)
    go i (item.Simple s) = All-nil (λ (h : BlockId). is_pattern h ≡ true)
    go i (item.Forbid es) = All-cons (λ (h : BlockId). is_pattern h ≡ true) (Pattern i) [] refl (All-nil (λ (h : BlockId). is_pattern h ≡ true))
    go i (item.Require es) = All-nil (λ (h : BlockId). is_pattern h ≡ true)
    go i (item.Multi ss) = All-nil (λ (h : BlockId). is_pattern h ≡ true)

pub are_patterns_require : (items : List Item) → All (λ h. is_pattern h ≡ true) (each require_at items)
are_patterns_require items = All-each_from (λ (h : BlockId). is_pattern h ≡ true) require_at 0 items (λ i x here. go (0 + i) x)
  where
    go : (i : ℕ) (x : Item) → All (λ (h : BlockId). is_pattern h ≡ true) (require_at i x)
    go i (item.Simple s) = All-nil (λ (h : BlockId). is_pattern h ≡ true)
    go i (item.Forbid es) = All-nil (λ (h : BlockId). is_pattern h ≡ true)
    go i (item.Require es) = All-cons (λ (h : BlockId). is_pattern h ≡ true) (Pattern i) [] refl (All-nil (λ (h : BlockId). is_pattern h ≡ true))
    go i (item.Multi ss) = All-nil (λ (h : BlockId). is_pattern h ≡ true)

pub are_multis : (items : List Item) → All (λ h. is_multi h ≡ true) (each multi_at items)
are_multis items = All-each_from (λ (h : BlockId). is_multi h ≡ true) multi_at 0 items (λ i x here. go (0 + i) x)
  where
    go : (i : ℕ) (x : Item) → All (λ (h : BlockId). is_multi h ≡ true) (multi_at i x)
    go i (item.Simple s) = All-nil (λ (h : BlockId). is_multi h ≡ true)
    go i (item.Forbid es) = All-nil (λ (h : BlockId). is_multi h ≡ true)
    go i (item.Require es) = All-nil (λ (h : BlockId). is_multi h ≡ true)
    go i (item.Multi ss) = All-cons (λ (h : BlockId). is_multi h ≡ true) (Multi i) [] refl (All-nil (λ (h : BlockId). is_multi h ≡ true))

-- How many there are of each sort.
pub patterns_counted : (n : ℕ) (items : List Item) → length (each_from forbid_at n items) + length (each_from require_at n items) ≡ length (filter is_pattern (each_from block_of n items))
patterns_counted n [] = omega arith
patterns_counted n (item.Simple s ∷ items) = patterns_counted (n + 1) items
patterns_counted n (item.Forbid es ∷ items) = let rest = patterns_counted (n + 1) items in omega arith
patterns_counted n (item.Require es ∷ items) = let rest = patterns_counted (n + 1) items in omega arith
patterns_counted n (item.Multi ss ∷ items) = patterns_counted (n + 1) items

pub multis_counted : (n : ℕ) (items : List Item) → length (each_from multi_at n items) ≡ length (filter is_multi (each_from block_of n items))
multis_counted n [] = refl
multis_counted n (item.Simple s ∷ items) = multis_counted (n + 1) items
multis_counted n (item.Forbid es ∷ items) = multis_counted (n + 1) items
multis_counted n (item.Require es ∷ items) = multis_counted (n + 1) items
multis_counted n (item.Multi ss ∷ items) = ap suc (multis_counted (n + 1) items)

-- ---- what is in a pattern is preserved

-- The node is preserved, where it is one of a forbid or require block.
abbrev pub KeepsNode : DeclaredNode → Type 0
KeepsNode d = is_pattern d.block ≡ true → d.mark ≡ Preserve

element_keeps : (home : BlockId) (mark : Mark) → (is_pattern home ≡ true → mark ≡ Preserve) → (e : Element) → All KeepsNode (node_of_element home mark e)
element_keeps home mark h (element.Node name class) = All-cons KeepsNode (record { name = name; class = class; mark = mark; block = home; number = 0 }) [] h (All-nil KeepsNode)
element_keeps home mark h (element.Edge source target reference) = All-nil KeepsNode

simple_keeps : (home : BlockId) → is_pattern home ≡ false → (s : Simple) → All KeepsNode (node_of_simple home s)
simple_keeps home e (simple.Marked mark element) = element_keeps home mark (λ is. absurd (false≢true (sym e ∙ is))) element
simple_keeps home e (simple.Set node attribute value) = All-nil KeepsNode
simple_keeps home e (simple.Where word test) = All-nil KeepsNode

written_keep : (items : List Item) → All KeepsNode (written_nodes items)
written_keep items = All-each_from KeepsNode nodes_of_item 0 items (λ i x here. go (0 + i) x)
  where
    go : (i : ℕ) (x : Item) → All KeepsNode (nodes_of_item i x)
    go i (item.Simple s) = simple_keeps Kernel refl s
    go i (item.Forbid es) = All-flat_map KeepsNode (node_of_element (Pattern i) Preserve) es (element_keeps (Pattern i) Preserve (λ e. refl))
    go i (item.Require es) = All-flat_map KeepsNode (node_of_element (Pattern i) Preserve) es (element_keeps (Pattern i) Preserve (λ e. refl))
    go i (item.Multi ss) = All-flat_map KeepsNode (node_of_simple (Multi i)) ss (simple_keeps (Multi i) refl)

pub nodes_keep : (items : List Item) → All KeepsNode (declared_nodes items)
nodes_keep items =
    let nodes = written_nodes items in
    All-each_from KeepsNode (λ i node. with_number (number_of_node nodes (take i nodes) node) node ∷ []) 0 nodes (λ i node at.
    All-cons KeepsNode (with_number (number_of_node nodes (take (0 + i) nodes) node) node) [] (All-at KeepsNode nodes i node (written_keep items) at) (All-nil KeepsNode))

-- The edge is preserved, where it is one of a forbid or require block.
abbrev pub KeepsEdge : Statement → Type 0
KeepsEdge (Edge home mark source target reference) = is_pattern home ≡ true → mark ≡ Preserve
KeepsEdge (Set home node attribute value) = Unit {0}
KeepsEdge (Where home word test) = Unit {0}

element_keeps_edge : (home : BlockId) (mark : Mark) → (is_pattern home ≡ true → mark ≡ Preserve) → (e : Element) → All KeepsEdge (statement_of_element home mark e)
element_keeps_edge home mark h (element.Node name class) = All-nil KeepsEdge
element_keeps_edge home mark h (element.Edge source target reference) = All-cons KeepsEdge (Edge home mark source target reference) [] h (All-nil KeepsEdge)

simple_keeps_edge : (home : BlockId) → is_pattern home ≡ false → (s : Simple) → All KeepsEdge (statement_of_simple home s)
simple_keeps_edge home e (simple.Marked mark element) = element_keeps_edge home mark (λ is. absurd (false≢true (sym e ∙ is))) element
simple_keeps_edge home e (simple.Set node attribute value) = All-cons KeepsEdge (Set home node attribute value) [] tt (All-nil KeepsEdge)
simple_keeps_edge home e (simple.Where word test) = All-cons KeepsEdge (Where home word test) [] tt (All-nil KeepsEdge)

pub edges_keep : (items : List Item) → All KeepsEdge (statements items)
edges_keep items = All-each_from KeepsEdge statements_of_item 0 items (λ i x here. go (0 + i) x)
  where
    go : (i : ℕ) (x : Item) → All KeepsEdge (statements_of_item i x)
    go i (item.Simple s) = simple_keeps_edge Kernel refl s
    go i (item.Forbid es) = All-flat_map KeepsEdge (statement_of_element (Pattern i) Preserve) es (element_keeps_edge (Pattern i) Preserve (λ e. refl))
    go i (item.Require es) = All-flat_map KeepsEdge (statement_of_element (Pattern i) Preserve) es (element_keeps_edge (Pattern i) Preserve (λ e. refl))
    go i (item.Multi ss) = All-flat_map KeepsEdge (statement_of_simple (Multi i)) ss (simple_keeps_edge (Multi i) refl)
