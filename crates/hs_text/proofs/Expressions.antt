use Rattle.std.proofs.Common.{ℕ, ◌≡◌, List, [], ◌∷◌, ◌++◌, true, Some, is_some, refl, ap, sym, subst, ◌∙◌, append_assoc}
use Rattle.std.specs.Option.{option_and_then}
use Rattle.std.proofs.lemmas.List.{append-nil}
use Rattle.hs_expr.specs.declared.Span.{Span}
use Rattle.hs_expr.specs.declared.Piece.{Piece}
use Rattle.hs_expr.specs.declared.Piece.TheVariants as piece
use Rattle.hs_expr.specs.Trees.{Tree, Leaf, Not, Minus, Binary, trees_after, only_tree, tree_of}
use Rattle.hs_tokens.specs.declared.token.Kind.{Kind}
use Rattle.hs_tokens.specs.declared.token.Kind.TheVariants as kind
use Rattle.hs_tokens.specs.declared.token.Token.{Token}
use Rattle.hs_text.specs.Words.{name_of, sign_of, literal_by, literal_of}
use Rattle.hs_text.specs.Grammar.{Level, Expr, Or, Conj, And, Neg, Cmp, Comparison, Sum, Addition, Prod, Product, Fact, Expression, expr, no_or, or, conj, no_and, and, not, neg, cmp, no_comparison, comparison, sum, no_addition, addition, prod, no_product, product, literal, name, slot, parens, minus}
use Rattle.hs_text.specs.WellFormed.{piece_spans, tree_spans}
use Rattle.hs_text.proofs.Spelt.{AreAmong, none_left, passed, taken, among-both}

-- THE PIECES OF AN EXPRESSION ARE ONE TREE, ITS SPANS AMONG THOSE OF ITS TOKENS

-- a tree is left alone on those that were there; an end of a chain takes the tree before it
abbrev Stands : List Token → List Piece → Type 0
Stands ts ps = (a : Tree) × ((trees : List Tree) (qs : List Piece) → trees_after trees (ps ++ qs) ≡ trees_after (a ∷ trees) qs) × AreAmong (tree_spans a) ts

abbrev Goes : List Token → List Piece → Type 0
Goes ts ps = (a : Tree) → (c : Tree) × ((trees : List Tree) (qs : List Piece) → trees_after (a ∷ trees) (ps ++ qs) ≡ trees_after (c ∷ trees) qs) × (ss : List Span) × (tree_spans c ≡ tree_spans a ++ ss) × AreAmong ss ts

abbrev Grows : Level → List Token → List Piece → Type 0
Grows Expr = Stands
Grows Or = Goes
Grows Conj = Stands
Grows And = Goes
Grows Neg = Stands
Grows Cmp = Stands
Grows Comparison = Goes
Grows Sum = Stands
Grows Addition = Goes
Grows Prod = Stands
Grows Product = Goes
Grows Fact = Stands

chain : {ts us : List Token} (ps qs : List Piece) → Stands ts ps → Goes us qs → Stands (ts ++ us) (ps ++ qs)
chain {ts} {us} ps qs s g =
    let t = g s.0 in
    (t.0, (λ trees rs. ap (trees_after trees) (append_assoc ps qs rs) ∙ s.1 trees (qs ++ rs) ∙ t.1 trees rs), subst (λ x. AreAmong x (ts ++ us)) (sym t.3) (among-both s.2 t.4))

ends : Goes [] []
ends a = (a, (λ trees qs. refl), [], sym (append-nil (tree_spans a)), none_left)

goes-on : (t : Token) {ts us : List Token} (ps qs : List Piece) → Stands ts ps → Goes us qs → Goes (t ∷ (ts ++ us)) (ps ++ (piece.Binary (sign_of t.kind) t.span ∷ qs))
goes-on t {ts} {us} ps qs s g a =
    let p = piece.Binary (sign_of t.kind) t.span in
    let c = g (Binary (sign_of t.kind) t.span a s.0) in (
      c.0,
      (λ trees rs. ap (trees_after (a ∷ trees)) (append_assoc ps (p ∷ qs) rs) ∙ s.1 (a ∷ trees) (p ∷ (qs ++ rs)) ∙ c.1 trees rs),
      t.span ∷ (tree_spans s.0 ++ c.2),
      c.3 ∙ append_assoc (tree_spans a) (t.span ∷ tree_spans s.0) c.2,
      taken t (among-both s.2 c.4),
    )

goes-once : (t : Token) {ts : List Token} (ps : List Piece) → Stands ts ps → Goes (t ∷ ts) (ps ++ (piece.Binary (sign_of t.kind) t.span ∷ []))
goes-once t {ts} ps s a =
    let p = piece.Binary (sign_of t.kind) t.span in (
      Binary (sign_of t.kind) t.span a s.0,
      (λ trees rs. ap (trees_after (a ∷ trees)) (append_assoc ps (p ∷ []) rs) ∙ s.1 (a ∷ trees) (p ∷ rs)),
      t.span ∷ tree_spans s.0,
      refl,
      taken t s.2,
    )

stands-not : (t : Token) {ts : List Token} (ps : List Piece) → Stands ts ps → Stands (t ∷ ts) (ps ++ (piece.Not t.span ∷ []))
stands-not t {ts} ps s = (Not t.span s.0, (λ trees rs. ap (trees_after trees) (append_assoc ps (piece.Not t.span ∷ []) rs) ∙ s.1 trees (piece.Not t.span ∷ rs)), taken t s.2)

stands-minus : (t : Token) {ts : List Token} (ps : List Piece) → Stands ts ps → Stands (t ∷ ts) (ps ++ (piece.Minus t.span ∷ []))
stands-minus t {ts} ps s = (Minus t.span s.0, (λ trees rs. ap (trees_after trees) (append_assoc ps (piece.Minus t.span ∷ []) rs) ∙ s.1 trees (piece.Minus t.span ∷ rs)), taken t s.2)

-- the tokens between two
pub between : (o c : Token) {ss : List Span} {ts : List Token} → AreAmong ss ts → AreAmong ss (o ∷ (ts ++ c ∷ []))
between o c {ss} {ts} a = passed o (subst (λ x. AreAmong x (ts ++ c ∷ [])) (append-nil ss) (among-both a (passed c none_left)))

pub ended : (c : Token) {ss : List Span} {ts : List Token} → AreAmong ss ts → AreAmong ss (ts ++ c ∷ [])
ended c {ss} {ts} a = subst (λ x. AreAmong x (ts ++ c ∷ [])) (append-nil ss) (among-both a (passed c none_left))

one-leaf : (k : Kind) (source : List ℕ) (t : Token) (trees : List Tree) (qs : List Piece) → trees_after trees (literal_by k source t ∷ qs) ≡ trees_after (Leaf (literal_by k source t) ∷ trees) qs
one-leaf kind.Int source t trees qs = refl
one-leaf kind.Text source t trees qs = refl
one-leaf _ source t trees qs = refl

leaf-spans : (k : Kind) (source : List ℕ) (t : Token) → piece_spans (literal_by k source t) ≡ t.span ∷ []
leaf-spans kind.Int source t = refl
leaf-spans kind.Text source t = refl
leaf-spans _ source t = refl

grows : {source : List ℕ} {l : Level} {ts : List Token} {ps : List Piece} → Expression source l ts ps → Grows l ts ps
grows (expr {a = a} {b = b} e f) = chain a b (grows e) (grows f)
grows no_or = ends
grows (or t {a = a} {b = b} i e f) = goes-on t a b (grows e) (grows f)
grows (conj {a = a} {b = b} e f) = chain a b (grows e) (grows f)
grows no_and = ends
grows (and t {a = a} {b = b} i e f) = goes-on t a b (grows e) (grows f)
grows (not t {a = a} i e) = stands-not t a (grows e)
grows (neg e) = grows e
grows (cmp {a = a} {b = b} e f) = chain a b (grows e) (grows f)
grows no_comparison = ends
grows (comparison t {a = a} i e) = goes-once t a (grows e)
grows (sum {a = a} {b = b} e f) = chain a b (grows e) (grows f)
grows no_addition = ends
grows (addition t {a = a} {b = b} i e f) = goes-on t a b (grows e) (grows f)
grows (prod {a = a} {b = b} e f) = chain a b (grows e) (grows f)
grows no_product = ends
grows (product t {a = a} {b = b} i e f) = goes-on t a b (grows e) (grows f)
grows {source} (literal t i) = (Leaf (literal_of source t), one-leaf t.kind source t, subst (λ s. AreAmong s (t ∷ [])) (sym (leaf-spans t.kind source t)) (taken t none_left))
grows {source} (name n i) = (Leaf (piece.Name (name_of source n)), (λ trees qs. refl), taken n none_left)
grows {source} (slot n d w i j k) = (Leaf (piece.Slot (name_of source n) (name_of source w)), (λ trees qs. refl), taken n (passed d (taken w none_left)))
grows (parens o c i e j) = let x = grows e in (x.0, x.1, between o c x.2)
grows (minus t {a = a} i e) = stands-minus t a (grows e)

pub expression-tree : {source : List ℕ} {ts : List Token} {ps : List Piece} → Expression source Expr ts ps → (a : Tree) × (tree_of ps ≡ Some a) × AreAmong (tree_spans a) ts
expression-tree {ps = ps} e = let x = grows e in (x.0, ap (option_and_then only_tree) (ap (trees_after []) (sym (append-nil ps)) ∙ x.1 [] []), x.2)

pub expression-one : {source : List ℕ} {ts : List Token} {ps : List Piece} → Expression source Expr ts ps → is_some (tree_of ps) ≡ true
expression-one e = ap is_some (expression-tree e).1
