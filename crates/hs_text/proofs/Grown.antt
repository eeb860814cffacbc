use Rattle.std.proofs.Common.{◌≡◌, List, [], ◌∷◌, ◌++◌, Option, Some, None, refl, ap, sym, subst, ◌∙◌, append_assoc}
use Rattle.std.specs.Bool.{⊤}
use Rattle.std.specs.Option.{option_and_then}
use Rattle.std.proofs.lemmas.List.{append-nil}
use Rattle.std.proofs.lemmas.Option.{same_Some}
use Rattle.hs_expr.specs.declared.Piece.{Piece}
use Rattle.hs_expr.specs.declared.Piece.TheVariants as piece
use Rattle.hs_expr.specs.Trees.{Tree, Leaf, Not, Minus, Binary, trees_after_piece, trees_after, only_tree, tree_of, postfix}

-- TREES AND THEIR PIECES

abbrev pub IsLeaf : Piece → Type 0
IsLeaf (piece.Not span) = ⊥
IsLeaf (piece.Minus span) = ⊥
IsLeaf (piece.Binary sign span) = ⊥
IsLeaf _ = ⊤

-- no leaf of the tree is an operator
abbrev pub IsProper : Tree → Type 0
IsProper (Leaf p) = IsLeaf p
IsProper (Not span a) = IsProper a
IsProper (Minus span a) = IsProper a
IsProper (Binary sign span a b) = IsProper a × IsProper b

abbrev AreProper : List Tree → Type 0
AreProper [] = ⊤
AreProper (a ∷ trees) = IsProper a × AreProper trees

-- the pieces of trees, the last tree first
abbrev pieces : List Tree → List Piece
pieces [] = []
pieces (a ∷ trees) = pieces trees ++ postfix a

abbrev Holds : List Tree → List Piece → List Tree → Type 0
Holds trees ps more = AreProper more × (pieces more ≡ pieces trees ++ ps)

one-more : (p : Piece) (trees more : List Tree) → AreProper trees → trees_after_piece p trees ≡ Some more → Holds trees (p ∷ []) more
one-more (piece.Int value span) trees more h e = subst (Holds trees (piece.Int value span ∷ [])) (same_Some (Leaf (piece.Int value span) ∷ trees) more e) ((tt, h), refl)
one-more (piece.Text value span) trees more h e = subst (Holds trees (piece.Text value span ∷ [])) (same_Some (Leaf (piece.Text value span) ∷ trees) more e) ((tt, h), refl)
one-more (piece.Bool value span) trees more h e = subst (Holds trees (piece.Bool value span ∷ [])) (same_Some (Leaf (piece.Bool value span) ∷ trees) more e) ((tt, h), refl)
one-more (piece.Name name) trees more h e = subst (Holds trees (piece.Name name ∷ [])) (same_Some (Leaf (piece.Name name) ∷ trees) more e) ((tt, h), refl)
one-more (piece.Slot node attribute) trees more h e = subst (Holds trees (piece.Slot node attribute ∷ [])) (same_Some (Leaf (piece.Slot node attribute) ∷ trees) more e) ((tt, h), refl)
one-more (piece.Not span) [] more h e = cc
one-more (piece.Not span) (a ∷ trees) more h e = subst (Holds (a ∷ trees) (piece.Not span ∷ [])) (same_Some (Not span a ∷ trees) more e) (h, sym (append_assoc (pieces trees) (postfix a) (piece.Not span ∷ [])))
one-more (piece.Minus span) [] more h e = cc
one-more (piece.Minus span) (a ∷ trees) more h e = subst (Holds (a ∷ trees) (piece.Minus span ∷ [])) (same_Some (Minus span a ∷ trees) more e) (h, sym (append_assoc (pieces trees) (postfix a) (piece.Minus span ∷ [])))
one-more (piece.Binary sign span) [] more h e = cc
one-more (piece.Binary sign span) (a ∷ []) more h e = cc
one-more (piece.Binary sign span) (b ∷ a ∷ trees) more h e =
    subst (Holds (b ∷ a ∷ trees) (piece.Binary sign span ∷ [])) (same_Some (Binary sign span a b ∷ trees) more e)
    (((h.1.0, h.0), h.1.1), sym (append_assoc (pieces trees ++ postfix a) (postfix b) (piece.Binary sign span ∷ []) ∙ append_assoc (pieces trees) (postfix a) (postfix b ++ piece.Binary sign span ∷ [])))

holds-all : (ps : List Piece) (trees more : List Tree) → AreProper trees → trees_after trees ps ≡ Some more → Holds trees ps more
holds-all [] trees more h e = subst (Holds trees []) (same_Some trees more e) (h, sym (append-nil (pieces trees)))
holds-all (p ∷ ps) trees more h e = step (trees_after_piece p trees) refl e (λ next. holds-all ps next more) where
  step : (o : Option (List Tree)) → trees_after_piece p trees ≡ o → option_and_then (λ next. trees_after next ps) o ≡ Some more → ((next : List Tree) → AreProper next → trees_after next ps ≡ Some more → Holds next ps more) → Holds trees (p ∷ ps) more
  step None w e rest = cc
  step (Some next) w e rest =
      let a = one-more p trees next h w in
      let b = rest next a.0 e in
      (b.0, b.1 ∙ ap (λ x. x ++ ps) a.1 ∙ append_assoc (pieces trees) (p ∷ []) ps)

-- the tree of pieces has these pieces
pub tree-holds : (ps : List Piece) (a : Tree) → tree_of ps ≡ Some a → IsProper a × (postfix a ≡ ps)
tree-holds ps a e = step (trees_after [] ps) refl e where
  step : (o : Option (List Tree)) → trees_after [] ps ≡ o → option_and_then only_tree o ≡ Some a → IsProper a × (postfix a ≡ ps)
  step None w e = cc
  step (Some []) w e = cc
  step (Some (b ∷ c ∷ trees)) w e = cc
  step (Some (b ∷ [])) w e =
      let h = holds-all ps [] (b ∷ []) tt w in
      let same : b ≡ a = cc in
      subst (λ x. IsProper x × (postfix x ≡ ps)) same (h.0.0, h.1)

-- and the pieces of a tree have that tree
pub trees_after-postfix : (a : Tree) (trees : List Tree) (ps : List Piece) → IsProper a → trees_after trees (postfix a ++ ps) ≡ trees_after (a ∷ trees) ps
trees_after-postfix (Leaf (piece.Int value span)) trees ps h = refl
trees_after-postfix (Leaf (piece.Text value span)) trees ps h = refl
trees_after-postfix (Leaf (piece.Bool value span)) trees ps h = refl
trees_after-postfix (Leaf (piece.Name name)) trees ps h = refl
trees_after-postfix (Leaf (piece.Slot node attribute)) trees ps h = refl
trees_after-postfix (Leaf (piece.Not span)) trees ps h = absurd h
trees_after-postfix (Leaf (piece.Minus span)) trees ps h = absurd h
trees_after-postfix (Leaf (piece.Binary sign span)) trees ps h = absurd h
trees_after-postfix (Not span a) trees ps h = ap (trees_after trees) (append_assoc (postfix a) (piece.Not span ∷ []) ps) ∙ trees_after-postfix a trees (piece.Not span ∷ ps) h
trees_after-postfix (Minus span a) trees ps h = ap (trees_after trees) (append_assoc (postfix a) (piece.Minus span ∷ []) ps) ∙ trees_after-postfix a trees (piece.Minus span ∷ ps) h
trees_after-postfix (Binary sign span a b) trees ps h =
    ap (trees_after trees) (append_assoc (postfix a) (postfix b ++ piece.Binary sign span ∷ []) ps ∙ ap (λ x. postfix a ++ x) (append_assoc (postfix b) (piece.Binary sign span ∷ []) ps))
    ∙ trees_after-postfix a trees (postfix b ++ (piece.Binary sign span ∷ ps)) h.0
    ∙ trees_after-postfix b (a ∷ trees) (piece.Binary sign span ∷ ps) h.1
