-- The nodes that a part of a rule may name, by their numbers there.
use Rattle.std.proofs.Common.{ℕ, zero, suc, map, take, ◌+◌, ◌∷◌, if◌then◌else◌, zero-add, ◌<◌, ◌≤◌, ◌≡◌, ◌++◌, List, [], Bool, true, false, cond, nat_lt, length, slice_get, Option, Some, None, refl, ap, sym, ◌∙◌, inl, inr, arith, length-append}
use Rattle.std.proofs.lemmas.Bool.{eqb-true, cond-true, false≢true, lt-ltb, or_cases}
use Rattle.std.proofs.lemmas.List.Folds.{find_at}
use Rattle.std.proofs.lemmas.List.{length-map}
use Rattle.std.proofs.lemmas.Option.{none-some, same_Some, slice_get_within}
use Rattle.std.specs.List.{filter, filter_map, find, position, position_or_len}
use Rattle.std.specs.Option.{option_and_then}
use Rattle.hs_types.specs.declared.meta.Metamodel.{Metamodel}
use Rattle.hs_types.specs.declared.rule.PatternNode.{PatternNode}
use Rattle.hs_expr.specs.Lists.{same_text}
use Rattle.hs_faults.specs.declared.nodes.DeclaredNode.{DeclaredNode}
use Rattle.hs_faults.specs.declared.nodes.BlockId.{BlockId}
use Rattle.hs_faults.specs.declared.nodes.BlockId.TheVariants as home
use Rattle.hs_faults.specs.Names.{class_number, node_named, as_number}
use Rattle.hs_faults.specs.Numbers.{count_in, first_number, number_of_node, number_at}
use Rattle.hs_faults.specs.ParamNodes.{is_kernel}
use Rattle.hs_faults.specs.StatementFaults.{node_class, visible_node, same_block}
use Rattle.hs_check.specs.Elements.{node_meant, nodes_in}
use Rattle.hs_check.specs.Parameters.{class_meant}
use Rattle.hs_check.proofs.Uniqueness.{opened}
use Rattle.hs_check.proofs.Filters.{filtered, find-filter_map, find_here, passes, slice_get-rest, where_passes}
use Rattle.hs_expr.proofs.Lists.{slice_get-first}

-- The test that a node of a pattern has this name.
abbrev pub called : List ℕ → PatternNode → Bool
called name node = same_text name node.name

abbrev pub node_in : Metamodel → BlockId → DeclaredNode → Option PatternNode
node_in m part = where_passes (λ (node : DeclaredNode). same_block part node.block) (node_meant m)

pub nodes_in-picked : (m : Metamodel) (ds : List DeclaredNode) (part : BlockId) → nodes_in m ds part ≡ filter_map (node_in m part) ds
nodes_in-picked m ds part = filtered (λ (node : DeclaredNode). same_block part node.block) (node_meant m) ds

-- What a node of this part is made of.
pub node_made : (m : Metamodel) (part : BlockId) (d : DeclaredNode) (p : PatternNode) → node_in m part d ≡ Some p → (same_block part d.block ≡ true) × (node_meant m d ≡ p)
node_made m part d p e = passes (λ (node : DeclaredNode). same_block part node.block) (node_meant m) d p e

called_same : (m : Metamodel) (part : BlockId) (name : List ℕ) (d : DeclaredNode) (p : PatternNode) → node_in m part d ≡ Some p → called name p ≡ same_text name d.name.text
called_same m part name d p e = ap (called name) (sym (node_made m part d p e).1)

passing : {A : Type 0} (b : Bool) (x : A) → b ≡ true → cond b (Some x) None ≡ Some x
passing true x e = refl
passing false x e = absurd (false≢true e)

-- A node is found in its own part.
pub found_in : (m : Metamodel) (ds : List DeclaredNode) (part : BlockId) (name : List ℕ) (d : DeclaredNode) → node_named ds name ≡ Some d → same_block part d.block ≡ true → find (called name) (nodes_in m ds part) ≡ Some (node_meant m d)
found_in m ds part name d found here =
    ap (find (called name)) (nodes_in-picked m ds part)
    ∙ find-filter_map (λ (node : DeclaredNode). same_text name node.name.text) (called name) (node_in m part) ds d (node_meant m d) (called_same m part name) found
    (passing (same_block part d.block) (node_meant m d) here)

-- ---- numbers

pub position_there : {A : Type 0} (p : A → Bool) (xs : List A) → position_or_len p xs < length xs → position p xs ≡ Some (position_or_len p xs)
position_there p xs low = cond-true (nat_lt (position_or_len p xs) (length xs)) (Some (position_or_len p xs)) None (lt-ltb (position_or_len p xs) (length xs) low)

pub number_there : (n : ℕ) → n < 65536 → as_number n ≡ Some n
number_there n low = cond-true (nat_lt n 65536) (Some n) None (lt-ltb n 65536 low)

-- What a name finds among few is at the number of the name.
pub place_there : {A : Type 0} (p : A → Bool) (xs : List A) (x : A) → length xs ≤ 65536 → find p xs ≡ Some x → (option_and_then as_number (position p xs) ≡ Some (position_or_len p xs)) × (slice_get xs (position_or_len p xs) ≡ Some x)
place_there p xs x few found =
    let at = sym (find_at p xs) ∙ found in
    let low = slice_get_within xs (position_or_len p xs) x at in
    (ap (option_and_then as_number) (position_there p xs low) ∙ number_there (position_or_len p xs) (omega arith), at)

-- Each node has a class that is there.
abbrev pub AllClassed : Metamodel → List DeclaredNode → Type 0
AllClassed m ds = (k : ℕ) (d : DeclaredNode) → slice_get ds k ≡ Some d → class_number m d.class.text ≡ Some (class_meant m d.class.text)

-- The node that a name finds, by its number among these.
pub record Spot (m : Metamodel) (ds : List DeclaredNode) (nodes : List PatternNode) (name : List ℕ) (d : DeclaredNode) : Type 0 where
  pub named : node_named ds name ≡ Some d
  pub at : slice_get nodes d.number ≡ Some (node_meant m d)
  pub class : node_class m d ≡ Some (class_meant m d.class.text)

-- Each node that this part may name is at its number among its nodes, which follow these; its own
-- are not among these.
pub record Opens (m : Metamodel) (ds : List DeclaredNode) (part : BlockId) (before : List PatternNode) : Type 0 where
  pub found : (name : List ℕ) (d : DeclaredNode) → visible_node ds part name ≡ Some d → Spot m ds (before ++ nodes_in m ds part) name d
  pub own : (name : List ℕ) (d : DeclaredNode) → visible_node ds part name ≡ Some d → same_block part d.block ≡ true → length before ≤ d.number

pub kernel_home : (h : BlockId) → same_block home.Kernel h ≡ is_kernel h
kernel_home home.Kernel = refl
kernel_home (home.Pattern i) = refl
kernel_home (home.Multi i) = refl

-- The node's number is that of its place among the nodes of its part, which come after the
-- kernel's.
abbrev pub AreNumbered : List DeclaredNode → Type 0
AreNumbered ds = (k : ℕ) (d : DeclaredNode) → slice_get ds k ≡ Some d → d.number ≡ number_of_node ds (take k ds) d

-- What is made of an item is where as many are counted before it.
pub counted_at : {A B : Type 0} (p : A → Bool) (f : A → B) (xs : List A) (k : ℕ) (x : A) → slice_get xs k ≡ Some x → p x ≡ true → slice_get (map f (filter p xs)) (length (filter p (take k xs))) ≡ Some (f x)
counted_at p f [] k x at e = absurd (none-some x at)
counted_at {A} {B} p f (y ∷ xs) zero x at e = go (p y) (ap p (same_Some y x at) ∙ e)
  where
    go : (b : Bool) → b ≡ true → slice_get (map f (cond b (y ∷ filter p xs) (filter p xs))) 0 ≡ Some (f x)
    go true is = ap (λ z. Some (f z)) (same_Some y x at)
    go false is = absurd (false≢true is)
counted_at {A} {B} p f (y ∷ xs) (suc k) x at e = go (p y) (counted_at p f xs k x at e)
  where
    go : (b : Bool) → slice_get (map f (filter p xs)) (length (filter p (take k xs))) ≡ Some (f x) →
        slice_get (map f (cond b (y ∷ filter p xs) (filter p xs))) (length (cond b (y ∷ filter p (take k xs)) (filter p (take k xs)))) ≡ Some (f x)
    go true rest = rest
    go false rest = rest

-- The number of a node's place is the place, where there are few nodes.
place_is : {A : Type 0} (nodes : List A) (x : A) (place number : ℕ) → length nodes ≤ 65536 → slice_get nodes place ≡ Some x → number ≡ number_at place → number ≡ place
place_is nodes x place number few at is =
    let low = slice_get_within nodes place x at in
    omega arith

kernel_is : (h : BlockId) → is_kernel h ≡ true → h ≡ home.Kernel
kernel_is home.Kernel e = refl
kernel_is (home.Pattern i) e = absurd (false≢true e)
kernel_is (home.Multi i) e = absurd (false≢true e)

pub homes_same : (g h : BlockId) → same_block g h ≡ true → g ≡ h
homes_same home.Kernel home.Kernel e = refl
homes_same home.Kernel (home.Pattern j) e = cc
homes_same home.Kernel (home.Multi j) e = cc
homes_same (home.Pattern i) home.Kernel e = cc
homes_same (home.Pattern i) (home.Pattern j) e = ap home.Pattern (eqb-true i j e)
homes_same (home.Pattern i) (home.Multi j) e = cc
homes_same (home.Multi i) home.Kernel e = cc
homes_same (home.Multi i) (home.Pattern j) e = cc
homes_same (home.Multi i) (home.Multi j) e = ap home.Multi (eqb-true i j e)

-- A node of the kernel is there at its number.
kernel_at : (m : Metamodel) (ds : List DeclaredNode) → AreNumbered ds → length (nodes_in m ds home.Kernel) ≤ 65536 → (k : ℕ) (d : DeclaredNode) → slice_get ds k ≡ Some d → is_kernel d.block ≡ true → slice_get (nodes_in m ds home.Kernel) d.number ≡ Some (node_meant m d)
kernel_at m ds numbered few k d at kernel =
    let nodes = nodes_in m ds home.Kernel in
    let place : ℕ = count_in (take k ds) home.Kernel in
    let there = counted_at (λ (node : DeclaredNode). same_block home.Kernel node.block) (node_meant m) ds k d at (kernel_home d.block ∙ kernel) in
    let number : d.number ≡ number_at place = numbered k d at ∙ ap (λ (h : BlockId). number_at (first_number ds h + count_in (take k ds) h)) (kernel_is d.block kernel) ∙ ap number_at (zero-add place) in
    ap (slice_get nodes) (place_is nodes (node_meant m d) place d.number few there number) ∙ there

-- A node of a block is at its number after the kernel's.
block_at : (m : Metamodel) (ds : List DeclaredNode) → AreNumbered ds → (part : BlockId) → is_kernel part ≡ false → length (nodes_in m ds home.Kernel ++ nodes_in m ds part) ≤ 65536 → (k : ℕ) (d : DeclaredNode) → slice_get ds k ≡ Some d → same_block part d.block ≡ true →
    (slice_get (nodes_in m ds home.Kernel ++ nodes_in m ds part) d.number ≡ Some (node_meant m d)) × (length (nodes_in m ds home.Kernel) ≤ d.number)
block_at m ds numbered part block few k d at own =
    let kernel = nodes_in m ds home.Kernel in
    let nodes = kernel ++ nodes_in m ds part in
    let place : ℕ = count_in (take k ds) part in
    let many : length kernel ≡ count_in ds home.Kernel = length-map (filter (λ (node : DeclaredNode). same_block home.Kernel node.block) ds) (node_meant m) in
    let there = slice_get-rest kernel (nodes_in m ds part) place (length kernel + place) refl ∙ counted_at (λ (node : DeclaredNode). same_block part node.block) (node_meant m) ds k d at own in
    let number : d.number ≡ number_at (length kernel + place) = numbered k d at ∙ ap (λ (h : BlockId). number_at (first_number ds h + count_in (take k ds) h)) (sym (homes_same part d.block own))
    ∙ ap (λ (b : Bool). number_at ((if b then 0 else count_in ds home.Kernel) + place)) block ∙ ap (λ n. number_at (n + place)) (sym many) in
    let same = place_is nodes (node_meant m d) (length kernel + place) d.number few there number in
    (ap (slice_get nodes) same ∙ there, omega arith)

pub opens_kernel : (m : Metamodel) (ds : List DeclaredNode) → AllClassed m ds → AreNumbered ds → length (nodes_in m ds home.Kernel) ≤ 65536 → Opens m ds home.Kernel []
opens_kernel m ds all numbered few = record { found = there; own = λ name d e here. omega arith }
  where
    there : (name : List ℕ) (d : DeclaredNode) → visible_node ds home.Kernel name ≡ Some d → Spot m ds (nodes_in m ds home.Kernel) name d
    there name d e =
        let is = opened ds home.Kernel name d e in
        let here = find_here (λ (node : DeclaredNode). same_text name node.name.text) ds d is.0 in
        let kernel : is_kernel d.block ≡ true = elim (or_cases (is_kernel d.block) (same_block home.Kernel d.block) is.1) [ inl kernel ↦ kernel | inr same ↦ sym (kernel_home d.block) ∙ same ] in
        record { named = is.0; at = kernel_at m ds numbered few here.0 d here.1 kernel; class = all here.0 d here.1 }

pub opens_block : (m : Metamodel) (ds : List DeclaredNode) → AllClassed m ds → AreNumbered ds → (part : BlockId) → is_kernel part ≡ false → length (nodes_in m ds home.Kernel ++ nodes_in m ds part) ≤ 65536 → Opens m ds part (nodes_in m ds home.Kernel)
opens_block m ds all numbered part block few = record { found = there; own = behind }
  where
    place_of : (name : List ℕ) (d : DeclaredNode) → visible_node ds part name ≡ Some d → (k : ℕ) × (slice_get ds k ≡ Some d)
    place_of name d e = let here = find_here (λ (node : DeclaredNode). same_text name node.name.text) ds d (opened ds part name d e).0 in (here.0, here.1)

    behind : (name : List ℕ) (d : DeclaredNode) → visible_node ds part name ≡ Some d → same_block part d.block ≡ true → length (nodes_in m ds home.Kernel) ≤ d.number
    behind name d e own = let here = place_of name d e in (block_at m ds numbered part block few here.0 d here.1 own).1

    there : (name : List ℕ) (d : DeclaredNode) → visible_node ds part name ≡ Some d → Spot m ds (nodes_in m ds home.Kernel ++ nodes_in m ds part) name d
    there name d e =
        let is = opened ds part name d e in
        let here = place_of name d e in
        record {
          named = is.0;
          class = all here.0 d here.1;
          at = elim (or_cases (is_kernel d.block) (same_block part d.block) is.1) [
            | inl in_kernel ↦
                let first = kernel_at m ds numbered (let long = length-append (nodes_in m ds home.Kernel) (nodes_in m ds part) in omega arith) here.0 d here.1 in_kernel in
                slice_get-first (nodes_in m ds home.Kernel) (nodes_in m ds part) d.number (slice_get_within (nodes_in m ds home.Kernel) d.number (node_meant m d) first) ∙ first
            | inr of_part ↦ (block_at m ds numbered part block few here.0 d here.1 of_part).0
          ];
        }

-- What a name finds has the name.
pub spot_called : (m : Metamodel) (ds : List DeclaredNode) (nodes : List PatternNode) (name : List ℕ) (d : DeclaredNode) → Spot m ds nodes name d → same_text name d.name.text ≡ true
spot_called m ds nodes name d s = (find_here (λ (node : DeclaredNode). same_text name node.name.text) ds d s.named).2
