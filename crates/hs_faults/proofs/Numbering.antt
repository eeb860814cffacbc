-- Nodes that are counted part by part, and numbered.
use Rattle.std.proofs.Common.{ℕ, ◌+◌, ◌<◌, ◌≡◌, drop, take, get_or, ◌++◌, ◌∷◌, [], List, Bool, true, false, cond, length, min, Option, Some, refl, sym, ap, subst, ◌∙◌, inl, inr, arith}
use Rattle.std.proofs.lemmas.Bool.{cases_Bool, eqb-true, false≢true}
use Rattle.std.proofs.lemmas.List.{append_assoc, drop_more, take_more}
use Rattle.hs_expr.specs.Verdict.{each_from}
use Rattle.std.specs.List.{filter}
use Rattle.std.specs.Option.{unwrap_or}
use Rattle.indexmap.specs.IndexMap.{IndexMap, get, get_by}
use Rattle.hs_faults.specs.contracts.nodes.BlockIdPartialEq.TheImpl.{eq-value}
use Rattle.hs_faults.specs.declared.nodes.BlockId.{BlockId}
use Rattle.hs_faults.specs.declared.nodes.BlockId.TheVariants.{Kernel, Pattern, Multi}
use Rattle.hs_faults.specs.declared.nodes.DeclaredNode.{DeclaredNode}
use Rattle.hs_faults.specs.Numbers.{HasCounts, count_in, number_at}
use Rattle.hs_faults.specs.StatementFaults.{same_block}

eq_is : (a b : BlockId) → eq-value.it a b ≡ same_block a b
eq_is Kernel Kernel = refl
eq_is Kernel (Pattern j) = refl
eq_is Kernel (Multi j) = refl
eq_is (Pattern i) Kernel = refl
eq_is (Pattern i) (Pattern j) = refl
eq_is (Pattern i) (Multi j) = refl
eq_is (Multi i) Kernel = refl
eq_is (Multi i) (Pattern j) = refl
eq_is (Multi i) (Multi j) = refl

-- What holds of a part of a rule holds of the same part.
same_part : (P : BlockId → Type 0) (a b : BlockId) → same_block a b ≡ true → P a → P b
same_part P Kernel Kernel e x = x
same_part P (Pattern i) (Pattern j) e x = subst (λ k. P (Pattern k)) (eqb-true i j e) x
same_part P (Multi i) (Multi j) e x = subst (λ k. P (Multi k)) (eqb-true i j e) x
same_part P Kernel (Pattern j) e x = absurd (false≢true e)
same_part P Kernel (Multi j) e x = absurd (false≢true e)
same_part P (Pattern i) Kernel e x = absurd (false≢true e)
same_part P (Pattern i) (Multi j) e x = absurd (false≢true e)
same_part P (Multi i) Kernel e x = absurd (false≢true e)
same_part P (Multi i) (Pattern j) e x = absurd (false≢true e)

looked_up : {S : Type 0} (counts : IndexMap BlockId ℕ S) (block : BlockId) → get_by (same_block block) counts ≡ get eq-value.it counts block
looked_up counts block = ap (λ (test : BlockId → Bool). get_by test counts) (λ i other. sym (eq_is block other) i)

-- The count that the map has.
pub count_there : {S : Type 0} (counts : IndexMap BlockId ℕ S) (nodes : List DeclaredNode) (block : BlockId) → HasCounts counts nodes →
    unwrap_or (get eq-value.it counts block) 0 ≡ number_at (count_in nodes block)
count_there counts nodes block has = sym (ap (λ (o : Option ℕ). unwrap_or o 0) (looked_up counts block)) ∙ has block

count_one_more : (nodes : List DeclaredNode) (node : DeclaredNode) (block : BlockId) → count_in (nodes ++ node ∷ []) block ≡ count_in nodes block + cond (same_block block node.block) 1 0
count_one_more [] node block = go (same_block block node.block)
  where
    go : (b : Bool) → length (cond b (node ∷ []) []) ≡ 0 + cond b 1 0
    go true = refl
    go false = refl
count_one_more (other ∷ nodes) node block = go (same_block block other.block) (count_one_more nodes node block)
  where
    test : DeclaredNode → Bool
    test other = same_block block other.block

    go : (b : Bool) → length (filter test (nodes ++ node ∷ [])) ≡ length (filter test nodes) + cond (same_block block node.block) 1 0 →
        length (cond b (other ∷ filter test (nodes ++ node ∷ [])) (filter test (nodes ++ node ∷ []))) ≡ length (cond b (other ∷ filter test nodes) (filter test nodes)) + cond (same_block block node.block) 1 0
    go true e = omega arith
    go false e = e

-- With one more node its part has one more.
pub counts_more : {S : Type 0} (old new : IndexMap BlockId ℕ S) (nodes : List DeclaredNode) (node : DeclaredNode) (count : ℕ) →
    HasCounts old nodes → count ≡ number_at (count_in nodes node.block) →
    ((q : BlockId) → get eq-value.it new q ≡ cond (eq-value.it node.block q) (Some (min (count + 1) 65535)) (get eq-value.it old q)) →
    HasCounts new (nodes ++ node ∷ [])
counts_more old new nodes node count has is updates = λ block.
    ap (λ (o : Option ℕ). unwrap_or o 0) (looked_up new block ∙ updates block)
    ∙ ap (λ b. unwrap_or (cond b (Some (min (count + 1) 65535)) (get eq-value.it old block)) 0) (eq_is node.block block)
    ∙ elim (cases_Bool (same_block block node.block)) [
      | inl yes_it ↦ here block (same_part (λ b. block ≡ b) block node.block yes_it refl) yes_it
      | inr not_it ↦
          ap (λ b. unwrap_or (cond b (Some (min (count + 1) 65535)) (get eq-value.it old block)) 0) (other_way block not_it)
          ∙ count_there old nodes block has
          ∙ ap number_at (sym (count_one_more nodes node block ∙ ap (λ b. count_in nodes block + cond b 1 0) not_it ∙ (let e : count_in nodes block + 0 ≡ count_in nodes block = omega arith in e)))
    ]
  where
    other_way : (block : BlockId) → same_block block node.block ≡ false → same_block node.block block ≡ false
    other_way block e = elim (cases_Bool (same_block node.block block)) [
      | inl yes_it ↦
          let at : node.block ≡ block = same_part (λ b. node.block ≡ b) node.block block yes_it refl in
          absurd (false≢true (sym e ∙ subst (λ (b : BlockId). same_block b node.block ≡ true) at (subst (λ (b : BlockId). same_block node.block b ≡ true) (sym at) yes_it)))
      | inr not_it ↦ not_it
    ]

    both : (k c : ℕ) → c ≡ min k 65535 → min (c + 1) 65535 ≡ min (k + 1) 65535
    both k c e = omega arith

    here : (block : BlockId) → block ≡ node.block → same_block block node.block ≡ true → unwrap_or (cond (same_block node.block block) (Some (min (count + 1) 65535)) (get eq-value.it old block)) 0 ≡ number_at (count_in (nodes ++ node ∷ []) block)
    here block at yes_it =
        let itself : same_block node.block block ≡ true = subst (λ (b : BlockId). same_block b block ≡ true) at (subst (λ (b : BlockId). same_block block b ≡ true) (sym at) yes_it) in
        ap (λ b. unwrap_or (cond b (Some (min (count + 1) 65535)) (get eq-value.it old block)) 0) itself
        ∙ both (count_in nodes block) count (is ∙ ap (λ (b : BlockId). number_at (count_in nodes b)) (sym at))
        ∙ ap number_at (sym (count_one_more nodes node block ∙ ap (λ b. count_in nodes block + cond b 1 0) yes_it))

-- ---- numbers, node by node

same_head : {A : Type 0} (x y : A) (xs ys : List A) → x ∷ xs ≡ y ∷ ys → (x ≡ y) × (xs ≡ ys)
same_head x y xs ys e = (cc, cc)

-- The next of the nodes that are left.
pub next_node : (nodes items rest : List DeclaredNode) (n : ℕ) (node : DeclaredNode) → items ≡ drop n nodes → items ≡ node ∷ rest → n < length nodes →
    (take (n + 1) nodes ≡ take n nodes ++ node ∷ []) × (rest ≡ drop (n + 1) nodes)
next_node nodes items rest n node at split low =
    let is = same_head node (get_or nodes n node) rest (drop (n + 1) nodes) (sym split ∙ at ∙ drop_more nodes n node low) in
    (take_more nodes n node low ∙ ap (λ y. take n nodes ++ y ∷ []) (sym is.0), is.1)

-- What is made of one more node is after what was made.
pub made_more : (finds : ℕ → DeclaredNode → List DeclaredNode) (made whole new items rest : List DeclaredNode) (node : DeclaredNode) (n m : ℕ) → items ≡ node ∷ rest → m ≡ n + 1 →
    made ++ each_from finds n items ≡ whole → new ≡ made ++ finds n node → new ++ each_from finds m rest ≡ whole
made_more finds made whole new items rest node n m split next so_far put =
    ap (λ ys. ys ++ each_from finds m rest) put ∙ ap (λ k. made ++ finds n node ++ each_from finds k rest) next ∙ append_assoc made (finds n node) (each_from finds (n + 1) rest)
    ∙ sym (ap (λ ys. made ++ each_from finds n ys) split) ∙ so_far
