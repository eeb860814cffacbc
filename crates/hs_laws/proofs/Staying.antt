-- What a valid match keeps is not dropped by any part of it.
use Rattle.std.proofs.Common.{ℕ, ◌-◌, ◌≤◌, ◌≡◌, List, [], ◌∷◌, ◌++◌, length, true, false, Some, slice_get, sym, ◌∙◌, subst}
use Rattle.std.specs.List.{All, flat_map}
use Rattle.std.proofs.lemmas.List.Elements.{All-nil, All-cons, All-weaker}
use Rattle.hs_types.specs.declared.graph.Graph.{Graph}
use Rattle.hs_types.specs.declared.matching.Extension.{Extension}
use Rattle.hs_types.specs.declared.matching.Match.{Match}
use Rattle.hs_types.specs.declared.meta.Metamodel.{Metamodel}
use Rattle.hs_types.specs.declared.request.Args.{Args}
use Rattle.hs_types.specs.declared.rule.PatternNode.{PatternNode}
use Rattle.hs_types.specs.declared.rule.Rule.{Rule}
use Rattle.hs_types.specs.Conditions.{AreFit}
use Rattle.hs_types.specs.Copies.{Copy, CopyFits, IsCopy, SparesCopy, copies_of, copy_env, all_dropped_nodes}
use Rattle.hs_types.specs.Dangling.{dropped_nodes}
use Rattle.hs_expr.specs.Lists.{has, EachPair}
use Rattle.hs_types.specs.Pattern.{is_drop, is_left, left_nodes}
use Rattle.hs_types.specs.PlainMatch.{Extends, image, kernel_of}
use Rattle.hs_types.specs.RuleForm.{IsMulti, IsRule}
use Rattle.hs_types.specs.ValidMatch.{IsValid}
use Rattle.hs_laws.proofs.Images.{FitsNode, IsLeft-from, image-among, image-behind, image-stays}
use Rattle.hs_expr.proofs.Lists.{All-both, Apart-other_way, Differ-across, Differ-across_back, EachPair-rest, beside-has, has-flat_map_none, has-neither, has_not, slice_get-last}
use Rattle.hs_laws.proofs.Spared.{copies_each}

-- What is known of each copy of a valid match.
pub record CopyIs (m : Metamodel) (g : Graph) (rule : Rule) (args : Args) (f : Extension) (copy : Copy) : Type 0 where
  pub multi : IsMulti m rule copy.multi
  pub extends : IsCopy m g rule args f copy.multi copy.found
  pub sets_fit : AreFit m (copy_env g rule args f copy) copy.multi.sets

pub copies_are : (m : Metamodel) (g : Graph) (rule : Rule) (args : Args) (f : Match) → IsRule m rule → IsValid m g rule args f → All (CopyIs m g rule args (kernel_of f)) (copies_of rule f)
copies_are m g rule args f w v = All-weaker (λ copy. (IsMulti m rule copy.multi × IsCopy m g rule args (kernel_of f) copy.multi copy.found) × CopyFits m g rule args (kernel_of f) copy) (CopyIs m g rule args (kernel_of f)) (λ copy i. record { multi = i.0.0; extends = i.0.1; sets_fit = i.1 }) (copies_of rule f) (All-both (λ copy. IsMulti m rule copy.multi × IsCopy m g rule args (kernel_of f) copy.multi copy.found) (CopyFits m g rule args (kernel_of f)) (copies_of rule f) (copies_each m g rule args (kernel_of f) (IsMulti m rule) rule.multis f.copies w.multis v.copies) v.copies_fit)

abbrev dropped_by : Copy → List ℕ
dropped_by copy = dropped_nodes copy.multi.shape copy.found

dropped-had : (copy : Copy) (n : ℕ) → has (dropped_by copy) n ≡ true → has copy.found.nodes n ≡ true
dropped-had copy n h = beside-has (λ node. is_drop node.mark) (left_nodes copy.multi.shape.nodes) copy.found.nodes n h

-- No copy drops what the kernel has.
pub copies_spare_kernel : (m : Metamodel) (g : Graph) (rule : Rule) (args : Args) (f : Match) → IsRule m rule → IsValid m g rule args f → (n : ℕ) → has f.nodes n ≡ true → has (flat_map dropped_by (copies_of rule f)) n ≡ false
copies_spare_kernel m g rule args f w v n h = has-flat_map_none dropped_by (copies_of rule f) n (All-weaker (CopyIs m g rule args (kernel_of f)) (λ copy. has (dropped_by copy) n ≡ false) (λ copy i. has_not (dropped_by copy) copy.found.nodes n (dropped-had copy) (Differ-across f.nodes copy.found.nodes n i.extends.0.nodes_differ h)) (copies_of rule f) (copies_are m g rule args f w v))

-- The image of a kept node of the kernel stays.
pub kernel_stays : (m : Metamodel) (g : Graph) (rule : Rule) (args : Args) (f : Match) → IsRule m rule → IsValid m g rule args f → (n : ℕ) (x : PatternNode) → slice_get rule.shape.nodes n ≡ Some x → is_left x.mark ≡ true → is_drop x.mark ≡ false → has (all_dropped_nodes rule f) (image rule.shape.nodes f.nodes n) ≡ false
kernel_stays m g rule args f w v n x e left kept =
    let o : ℕ = image rule.shape.nodes f.nodes n in
    has-neither o (dropped_nodes rule.shape (kernel_of f)) (flat_map dropped_by (copies_of rule f))
    (image-stays (FitsNode m g) rule.shape.nodes f.nodes n x v.plain.nodes_fit v.plain.nodes_differ e left kept)
    (copies_spare_kernel m g rule args f w v o (image-among (FitsNode m g) rule.shape.nodes f.nodes n v.plain.nodes_fit (IsLeft-from rule.shape.nodes n x e left)))

-- What one copy has and doesn't drop is dropped by no copy.
abbrev SparedBy : List Copy → Copy → Type 0
SparedBy copies copy = (n : ℕ) → has copy.found.nodes n ≡ true → has (dropped_by copy) n ≡ false → has (flat_map dropped_by copies) n ≡ false

copies_spare : (rule : Rule) (f : Extension) (copies : List Copy) → EachPair (λ c d. SparesCopy rule f c d × SparesCopy rule f d c) copies → All (SparedBy copies) copies
copies_spare rule f [] p = All-nil (SparedBy [])
copies_spare rule f (c ∷ cs) p = All-cons (SparedBy (c ∷ cs)) c cs
    (λ n h k. has-neither n (dropped_by c) (flat_map dropped_by cs) k (has-flat_map_none dropped_by cs n (All-weaker (λ d. SparesCopy rule f c d × SparesCopy rule f d c) (λ d. has (dropped_by d) n ≡ false) (λ d i. Apart-other_way (dropped_by d) c.found.nodes n i.1.objects h) cs p.0)))
    (All-weaker (λ d. (SparesCopy rule f c d × SparesCopy rule f d c) × SparedBy cs d) (SparedBy (c ∷ cs)) (λ d i n h k. has-neither n (dropped_by c) (flat_map dropped_by cs) (Apart-other_way (dropped_by c) d.found.nodes n i.0.0.objects h) (i.1 n h k)) cs (All-both (λ d. SparesCopy rule f c d × SparesCopy rule f d c) (SparedBy cs) cs p.0 (copies_spare rule f cs p.1)))

-- The image of a kept node of a copy stays.
abbrev pub CopyStays : Rule → Match → Copy → Type 0
CopyStays rule f copy = (n : ℕ) (x : PatternNode) → length rule.shape.nodes ≤ n → slice_get (rule.shape.nodes ++ copy.multi.shape.nodes) n ≡ Some x → is_left x.mark ≡ true → is_drop x.mark ≡ false → has (all_dropped_nodes rule f) (image (rule.shape.nodes ++ copy.multi.shape.nodes) (f.nodes ++ copy.found.nodes) n) ≡ false

pub copies_stay : (m : Metamodel) (g : Graph) (rule : Rule) (args : Args) (f : Match) → IsRule m rule → IsValid m g rule args f → All (CopyStays rule f) (copies_of rule f)
copies_stay m g rule args f w v = All-weaker (λ copy. CopyIs m g rule args (kernel_of f) copy × SparedBy (copies_of rule f) copy) (CopyStays rule f) each (copies_of rule f) (All-both (CopyIs m g rule args (kernel_of f)) (SparedBy (copies_of rule f)) (copies_of rule f) (copies_are m g rule args f w v) (copies_spare rule (kernel_of f) (copies_of rule f) v.none_touch))
  where
    each : (copy : Copy) → CopyIs m g rule args (kernel_of f) copy × SparedBy (copies_of rule f) copy → CopyStays rule f copy
    each copy i n x l e left kept =
        let own : List PatternNode = copy.multi.shape.nodes in
        let k : ℕ = n - length rule.shape.nodes in
        let o : ℕ = image own copy.found.nodes k in
        let at : slice_get own k ≡ Some x = sym (slice_get-last rule.shape.nodes own n l) ∙ e in
        let same : image (rule.shape.nodes ++ own) (f.nodes ++ copy.found.nodes) n ≡ o = image-behind (FitsNode m g) rule.shape.nodes own f.nodes copy.found.nodes n v.plain.nodes_fit l in
        let ext : Extends m g rule.shape (kernel_of f) copy.multi.shape copy.found = i.0.extends.0 in
        let among : has copy.found.nodes o ≡ true = image-among (FitsNode m g) own copy.found.nodes k ext.nodes_fit (IsLeft-from own k x at left) in
        let stays : has (dropped_by copy) o ≡ false = image-stays (FitsNode m g) own copy.found.nodes k x ext.nodes_fit (EachPair-rest (λ x y. x ≡ y → ⊥) f.nodes copy.found.nodes ext.nodes_differ) at left kept in
        let kernel : has (dropped_nodes rule.shape (kernel_of f)) o ≡ false = has_not (dropped_nodes rule.shape (kernel_of f)) f.nodes o (λ j h. beside-has (λ node. is_drop node.mark) (left_nodes rule.shape.nodes) f.nodes j h) (Differ-across_back f.nodes copy.found.nodes o ext.nodes_differ among) in
        subst (λ (j : ℕ). has (all_dropped_nodes rule f) j ≡ false) (sym same) (has-neither o (dropped_nodes rule.shape (kernel_of f)) (flat_map dropped_by (copies_of rule f)) kernel (i.1 o among stays))
