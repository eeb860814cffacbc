use Rattle.std.proofs.Common.{ℕ, zero, suc, ◌+◌, ◌<◌, ◌≤◌, ◌≡◌, List, [], ◌∷◌, ◌++◌, length, take, drop, map, slice_get, Option, Some, None, false, refl, arith, sym, ◌∙◌}
use Rattle.std.specs.Prelude.{IfSome, IfNone}
use Rattle.std.specs.List.{AllZip}
use Rattle.std.specs.Option.{is_some}
use Rattle.std.proofs.lemmas.List.{take-append-drop}
use Rattle.std.proofs.lemmas.List.Elements.{All-nil, All-filter}
use Rattle.std.proofs.lemmas.Slice.Zip.{AllZip-long}
use Rattle.arrayvec.specs.ArrayVec.{ArrayVec}
use Rattle.hs_search.specs.Choice.{IsChoice, IsLeastList, IsNone}
use Rattle.hs_expr.proofs.Lists.{beside_none}
use Rattle.hs_types.proofs.Orders.{IsEarlier-appended}
use Rattle.hs_types.specs.declared.graph.Graph.{Graph}
use Rattle.hs_types.specs.declared.matching.Extension.{Extension}
use Rattle.hs_types.specs.declared.matching.Match.{Match}
use Rattle.hs_types.specs.declared.meta.Metamodel.{Metamodel}
use Rattle.hs_types.specs.declared.rule.PatternNode.{PatternNode}
use Rattle.hs_types.specs.declared.rule.Rule.{Rule}
use Rattle.hs_types.specs.declared.rule.Shape.{Shape}
use Rattle.hs_types.specs.Arguments.{Follows}
use Rattle.hs_types.specs.Dangling.{dropped_nodes}
use Rattle.hs_expr.specs.Lists.{Rise}
use Rattle.hs_expr.specs.Lexicographic.{IsBefore}
use Rattle.hs_types.specs.MatchOrder.{IsEarlier}
use Rattle.hs_types.specs.Pattern.{is_left, is_drop, left_nodes, left_edges}
use Rattle.hs_types.specs.PlainMatch.{IsPlain, kernel_of}
use Rattle.hs_types.specs.ValidMatch.{IsValid, NoneIsValid, IsFirst}
use Rattle.hs_types.specs.Copies.{all_dropped_nodes}
use Rattle.hs_types.specs.ValidMatch as valid
use Rattle.hs_match.specs.Candidates.{Ascend}
use Rattle.hs_match.specs.Extending.{AreImages, Sought, split}
use Rattle.hs_match.proofs.Images.{extension_choice}
use Rattle.hs_types.specs.Arguments.{no_args}
use Rattle.hs_types.specs.Additions.{OnlyAdds}
use Rattle.hs_match.specs.Kernel.{kernel_search}

Rise-above : {A : Type 0} (number : A → ℕ) (xs : List A) (low high i : ℕ) (a : A) → Rise low (map number xs) high → slice_get xs i ≡ Some a → low ≤ number a
Rise-above number [] low high i a r at = cc
Rise-above number (x ∷ xs) low high zero a r at = let e : x ≡ a = cc in let le : low ≤ number x = r.0 in rw e at le
Rise-above number (x ∷ xs) low high (suc i) a r at = let rest = Rise-above number xs (number x + 1) high i a r.1 at in let le : low ≤ number x = r.0 in omega (arith, rest, le)

Ascend-cons : {A : Type 0} (number : A → ℕ) (x : A) (xs : List A) → ((j : ℕ) (b : A) → slice_get xs j ≡ Some b → number x + 1 ≤ number b) → Ascend number xs → Ascend number (x ∷ xs)
Ascend-cons {A} number x xs least up = go
  where
    go : (i j : ℕ) (a b : A) → slice_get (x ∷ xs) i ≡ Some a → slice_get (x ∷ xs) j ≡ Some b → i < j → number a < number b
    go zero zero a b p q lt = absurd (omega arith)
    go (suc i) zero a b p q lt = absurd (omega arith)
    go zero (suc j) a b p q lt = let e : x ≡ a = cc in let above = least j b q in rw (← e) (omega (arith, above))
    go (suc i) (suc j) a b p q lt = up i j a b p q (omega arith)

-- numbers that rise differ from place to place
pub Rise-Ascend : {A : Type 0} (number : A → ℕ) (xs : List A) (low high : ℕ) → Rise low (map number xs) high → Ascend number xs
Rise-Ascend number [] low high r = λ i j a b p q lt. cc
Rise-Ascend {A} number (x ∷ xs) low high r = Ascend-cons number x xs (λ j b. Rise-above number xs (number x + 1) high j b r.1) (Rise-Ascend number xs (number x + 1) high r.1)

follow_none : (g : Graph) (ps : List PatternNode) (ns : List ℕ) → length ns ≡ length ps → AllZip (Follows g no_args) ps ns
follow_none g [] [] e = tt
follow_none g [] (n ∷ ns) e = absurd (omega arith)
follow_none g (p ∷ ps) [] e = absurd (omega arith)
follow_none g (p ∷ ps) (n ∷ ns) e = (tt, follow_none g ps ns (omega arith))

-- the kernel's images are a plain match
pub plain_of : (m : Metamodel) (g : Graph) (shape : Shape) (all : List ℕ) → AreImages (kernel_search m g shape) all → IsPlain m g shape (split (kernel_search m g shape) all)
plain_of m g shape all i = record { nodes_fit = i.nodes_fit; edges_fit = i.edges_fit; nodes_differ = i.nodes_differ; edges_differ = i.edges_differ }

-- a plain match is a choice
pub choice_of : (m : Metamodel) (g : Graph) (shape : Shape) (x : Extension) → IsPlain m g shape x → IsChoice (length (left_nodes shape.nodes) + length (left_edges shape.edges)) (AreImages (kernel_search m g shape)) (x.nodes ++ x.edges)
choice_of m g shape x p = extension_choice (kernel_search m g shape) x (record { nodes_fit = p.nodes_fit; edges_fit = p.edges_fit; nodes_differ = p.nodes_differ; edges_differ = p.edges_differ })

-- where a rule only adds, each plain match is valid
pub valid_plain : (m : Metamodel) (g : Graph) (rule : Rule) (f : Match) → OnlyAdds rule → IsPlain m g rule.shape (kernel_of f) → f.copies ≡ [] → IsValid m g rule no_args f
valid_plain m g rule f adds plain none =
    let kept : dropped_nodes rule.shape (kernel_of f) ≡ [] =
    beside_none (λ (node : PatternNode). is_drop node.mark) (left_nodes rule.shape.nodes) f.nodes (All-filter (λ (node : PatternNode). is_left node.mark) (λ (node : PatternNode). is_drop node.mark ≡ false) rule.shape.nodes adds.keeps_nodes) in
    let no_drops : all_dropped_nodes rule f ≡ [] = rw (kept, adds.is_unconditional.multis) refl in
    record {
      plain = plain;
      follows = follow_none g (left_nodes rule.shape.nodes) f.nodes (AllZip-long _ (left_nodes rule.shape.nodes) f.nodes plain.nodes_fit);
      none_dangle = rw no_drops (λ k d lt touched. cc);
      wheres = rw adds.is_unconditional.wheres (All-nil _);
      sets_fit = rw adds.is_unconditional.sets (All-nil _);
      forbids = rw adds.is_unconditional.forbids (All-nil _);
      needs = rw adds.is_unconditional.needs (All-nil _);
      copies = rw (adds.is_unconditional.multis, none) tt;
      copies_fit = rw adds.is_unconditional.multis (All-nil _);
      none_touch = rw (adds.is_unconditional.multis) tt;
    }

-- the least choice is the least valid match
pub least_valid : (m : Metamodel) (g : Graph) (rule : Rule) (all : List ℕ) (f : Match) → OnlyAdds rule →
    f ≡ record { nodes = take (length (left_nodes rule.shape.nodes)) all; edges = drop (length (left_nodes rule.shape.nodes)) all; copies = [] } →
    IsLeastList (IsChoice (length (left_nodes rule.shape.nodes) + length (left_edges rule.shape.edges)) (AreImages (kernel_search m g rule.shape))) all → valid.IsLeast m g rule no_args f
least_valid m g rule all f adds same l = rw same (record { valid = valid_plain m g rule _ adds plain refl; least = none_below })
  where
    found : Match
    found = record { nodes = take (length (left_nodes rule.shape.nodes)) all; edges = drop (length (left_nodes rule.shape.nodes)) all; copies = [] }

    plain : IsPlain m g rule.shape (kernel_of found)
    plain = plain_of m g rule.shape all l.wanted.good

    none_below : (h : Match) → IsValid m g rule no_args h → IsEarlier (kernel_of h) (kernel_of found) → ⊥
    none_below h v earlier =
        let wh : length h.nodes ≡ length (left_nodes rule.shape.nodes) = AllZip-long _ (left_nodes rule.shape.nodes) h.nodes v.plain.nodes_fit in
        let wf : length found.nodes ≡ length (left_nodes rule.shape.nodes) = AllZip-long _ (left_nodes rule.shape.nodes) found.nodes plain.nodes_fit in
        let below : IsBefore (h.nodes ++ h.edges) (found.nodes ++ found.edges) = IsEarlier-appended (kernel_of h) (kernel_of found) (wh ∙ sym wf) earlier in
        l.least (h.nodes ++ h.edges) (choice_of m g rule.shape (kernel_of h) v.plain) (rw (take-append-drop (length (left_nodes rule.shape.nodes)) all) at below)

pub none_valid : (m : Metamodel) (g : Graph) (rule : Rule) → IsNone (IsChoice (length (left_nodes rule.shape.nodes) + length (left_edges rule.shape.edges)) (AreImages (kernel_search m g rule.shape))) → NoneIsValid m g rule no_args
none_valid m g rule none = λ f v. none (f.nodes ++ f.edges) (choice_of m g rule.shape (kernel_of f) v.plain)

-- the same search under other names
pub least_as : (n k : ℕ) (s t : Sought) (o : Option (ArrayVec ℕ)) → n ≡ k → s ≡ t → IfSome o (λ found. IsLeastList (IsChoice n (AreImages s)) found.items) → IfSome o (λ found. IsLeastList (IsChoice k (AreImages t)) found.items)
least_as n k s t o size same l = rw (← size, ← same) l

pub none_as : (n k : ℕ) (s t : Sought) (o : Option (ArrayVec ℕ)) → n ≡ k → s ≡ t → IfNone o (IsNone (IsChoice n (AreImages s))) → IfNone o (IsNone (IsChoice k (AreImages t)))
none_as n k s t o size same l = rw (← size, ← same) l

-- The images that were found, or not, are the answer to the search.
pub answer_of : (m : Metamodel) (g : Graph) (rule : Rule) (o : Option (ArrayVec ℕ)) → OnlyAdds rule →
    IfSome o (λ found. IsLeastList (IsChoice (length (left_nodes rule.shape.nodes) + length (left_edges rule.shape.edges)) (AreImages (kernel_search m g rule.shape))) found.items) →
    IfNone o (IsNone (IsChoice (length (left_nodes rule.shape.nodes) + length (left_edges rule.shape.edges)) (AreImages (kernel_search m g rule.shape)))) →
    (answer : Option Match) × IsFirst m g rule no_args answer × (is_some o ≡ is_some answer)
answer_of m g rule None adds least none = (None, none_valid m g rule none, refl)
answer_of m g rule (Some found) adds least none =
    (Some (record { nodes = take (length (left_nodes rule.shape.nodes)) found.items; edges = drop (length (left_nodes rule.shape.nodes)) found.items; copies = [] }), least_valid m g rule found.items _ adds refl least, refl)
