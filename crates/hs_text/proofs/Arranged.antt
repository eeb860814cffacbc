use Rattle.std.proofs.Common.{ℕ, ◌+◌, ◌-◌, ◌<◌, ◌≤◌, ◌≡◌, ◌⊎◌, inl, inr, List, [], ◌∷◌, ◌++◌, length, take, get_or, Bool, true, false, Option, Some, None, unwrap_or, codes, refl, ap, sym, subst, ◌∙◌, append_assoc, arith}
use Rattle.std.specs.List.{concat}
use Rattle.std.proofs.lemmas.List.{append-nil, take_more, same_from_push}
use Rattle.hs_expr.specs.declared.Piece.{Piece}
use Rattle.hs_expr.specs.declared.Piece.TheVariants as piece
use Rattle.hs_text.specs.declared.arranging.Task.{Task}
use Rattle.hs_text.specs.declared.arranging.Task.TheVariants.{Text, Expr}
use Rattle.hs_expr.specs.declared.NameExpr.{NameExpr}
use Rattle.hs_expr.specs.Trees.{Tree, Leaf, Not, Minus, Binary, postfix}
use Rattle.hs_expr.specs.NameExprs.{expr_tree}
use Rattle.hs_expr.proofs.OneTree.{tree-found}
use Rattle.hs_text.specs.Canonical.{piece_text, operand, tree_text, expr_text}
use Rattle.hs_text.specs.Arranging.{next_expr, below_expr, before_expr, tasks_after, texts_after}
use Rattle.hs_text.proofs.Grown.{IsLeaf, IsProper, tree-holds}

-- an expression, in parentheses if it has to be and an operator makes it
abbrev pub bracketed : Bool → Tree → List ℕ
bracketed true a = operand a (tree_text a)
bracketed false a = tree_text a

-- the tasks are those of a text, which is made of these pieces
pub data Owed : List Task → List Piece → List ℕ → Type 0 where
  all_done : Owed [] [] []
  a_text : (text before : List ℕ) {tasks : List Task} {ps : List Piece} → Owed tasks ps before → Owed (Text text ∷ tasks) ps (before ++ text)
  an_expr : (parens : Bool) (a : Tree) {tasks : List Task} {ps : List Piece} {before : List ℕ} → IsProper a → Owed tasks ps before → Owed (Expr parens ∷ tasks) (ps ++ postfix a) (before ++ bracketed parens a)

-- what is left of the pieces is what the tasks are to write, before the texts
abbrev pub IsArranged : List Piece → List Task → List (List ℕ) → List ℕ → Type 0
IsArranged left tasks texts whole = (before : List ℕ) × Owed tasks left before × (before ++ concat texts ≡ whole)

pub arranged-first : (e : NameExpr) (pieces : List Piece) (tasks : List Task) (texts : List (List ℕ)) → pieces ≡ e.pieces → tasks ≡ Expr false ∷ [] → texts ≡ [] → IsArranged pieces tasks texts (expr_text e)
arranged-first e pieces tasks texts same f g =
    let a = expr_tree e in
    let t = tree-holds e.pieces a (tree-found e) in
    subst (λ x. IsArranged x tasks texts (tree_text a)) (t.1 ∙ sym same) (subst (λ x. IsArranged (postfix a) x texts (tree_text a)) (sym f) (subst (λ x. IsArranged (postfix a) (Expr false ∷ []) x (tree_text a)) (sym g)
    (tree_text a, an_expr false a t.0 all_done, append-nil (tree_text a))))

-- the next expression, with what comes before it
record Next (tasks : List Task) (ps : List Piece) (texts : List (List ℕ)) (whole : List ℕ) : Type 0 where
  parens : Bool
  tree : Tree
  front : List Piece
  before : List ℕ
  next : next_expr tasks ≡ Some parens
  pieces : ps ≡ front ++ postfix tree
  proper : IsProper tree
  owed : Owed (below_expr tasks) front before
  same : (before ++ bracketed parens tree) ++ concat (before_expr tasks texts) ≡ whole

record Last (tasks : List Task) (ps : List Piece) (texts : List (List ℕ)) (whole : List ℕ) : Type 0 where
  next : next_expr tasks ≡ None
  pieces : ps ≡ []
  same : concat (before_expr tasks texts) ≡ whole

settled : {tasks : List Task} {ps : List Piece} {before : List ℕ} → Owed tasks ps before → (texts : List (List ℕ)) (whole : List ℕ) → before ++ concat texts ≡ whole → Next tasks ps texts whole ⊎ Last tasks ps texts whole
settled all_done texts whole e = inr (record { next = refl; pieces = refl; same = e })
settled (a_text text before {tasks} {ps} o) texts whole e = step (settled o (text ∷ texts) whole (sym (append_assoc before text (concat texts)) ∙ e)) where
  step : Next tasks ps (text ∷ texts) whole ⊎ Last tasks ps (text ∷ texts) whole → Next (Text text ∷ tasks) ps texts whole ⊎ Last (Text text ∷ tasks) ps texts whole
  step (inl n) = inl (record { parens = n.parens; tree = n.tree; front = n.front; before = n.before; next = n.next; pieces = n.pieces; proper = n.proper; owed = n.owed; same = n.same })
  step (inr n) = inr (record { next = n.next; pieces = n.pieces; same = n.same })
settled (an_expr parens a {tasks} {ps} {before} h o) texts whole e = inl (record { parens = parens; tree = a; front = ps; before = before; next = refl; pieces = refl; proper = h; owed = o; same = e })

wrapped : (b o n x c t : List ℕ) → (((b ++ o) ++ n) ++ x) ++ (c ++ t) ≡ (b ++ (o ++ ((n ++ x) ++ c))) ++ t
wrapped b o n x c t = simp append_assoc

bare : (b n x t : List ℕ) → ((b ++ n) ++ x) ++ t ≡ (b ++ (n ++ x)) ++ t
bare b n x t = simp append_assoc

leaf-tasks : (p : Piece) (parens : Bool) (tasks : List Task) (texts : List (List ℕ)) → IsLeaf p → (tasks_after p parens tasks ≡ tasks) × (texts_after p parens texts ≡ piece_text p ∷ texts) × (bracketed parens (Leaf p) ≡ piece_text p)
leaf-tasks (piece.Int value span) true tasks texts h = (refl, refl, refl)
leaf-tasks (piece.Int value span) false tasks texts h = (refl, refl, refl)
leaf-tasks (piece.Text value span) true tasks texts h = (refl, refl, refl)
leaf-tasks (piece.Text value span) false tasks texts h = (refl, refl, refl)
leaf-tasks (piece.Bool value span) true tasks texts h = (refl, refl, refl)
leaf-tasks (piece.Bool value span) false tasks texts h = (refl, refl, refl)
leaf-tasks (piece.Name name) true tasks texts h = (refl, refl, refl)
leaf-tasks (piece.Name name) false tasks texts h = (refl, refl, refl)
leaf-tasks (piece.Slot node attribute) true tasks texts h = (refl, refl, refl)
leaf-tasks (piece.Slot node attribute) false tasks texts h = (refl, refl, refl)
leaf-tasks (piece.Not span) parens tasks texts h = absurd h
leaf-tasks (piece.Minus span) parens tasks texts h = absurd h
leaf-tasks (piece.Binary sign span) parens tasks texts h = absurd h

-- the last piece of the expression is taken
module _ (tasks : List Task) (texts : List (List ℕ)) (front : List Piece) (before : List ℕ) (owed : Owed tasks front before) where
  take-last : (a : Tree) (parens : Bool) → IsProper a → (p : Piece) × (init : List Piece) × (front ++ postfix a ≡ init ++ p ∷ []) × IsArranged init (tasks_after p parens tasks) (texts_after p parens texts) ((before ++ bracketed parens a) ++ concat texts)
  take-last (Leaf q) parens h =
      let l = leaf-tasks q parens tasks texts h in (
        q,
        front,
        refl,
        (
          before,
          subst (λ x. Owed x front before) (sym l.0) owed,
          ap (λ x. before ++ concat x) l.1 ∙ sym (append_assoc before (piece_text q) (concat texts)) ∙ ap (λ x. (before ++ x) ++ concat texts) (sym l.2),
        ),
      )
  take-last (Not span a) true h = (
    piece.Not span,
    front ++ postfix a,
    sym (append_assoc front (postfix a) (piece.Not span ∷ [])),
    (
      _,
      an_expr true a h (a_text (codes "not ") (before ++ codes "(") (a_text (codes "(") before owed)),
      wrapped before (codes "(") (codes "not ") (operand a (tree_text a)) (codes ")") (concat texts),
    ),
  )
  take-last (Not span a) false h = (
    piece.Not span,
    front ++ postfix a,
    sym (append_assoc front (postfix a) (piece.Not span ∷ [])),
    (
      _,
      an_expr true a h (a_text (codes "not ") before owed),
      bare before (codes "not ") (operand a (tree_text a)) (concat texts),
    ),
  )
  take-last (Minus span a) true h = (
    piece.Minus span,
    front ++ postfix a,
    sym (append_assoc front (postfix a) (piece.Minus span ∷ [])),
    (
      _,
      an_expr true a h (a_text (codes "-") (before ++ codes "(") (a_text (codes "(") before owed)),
      wrapped before (codes "(") (codes "-") (operand a (tree_text a)) (codes ")") (concat texts),
    ),
  )
  take-last (Minus span a) false h = (
    piece.Minus span,
    front ++ postfix a,
    sym (append_assoc front (postfix a) (piece.Minus span ∷ [])),
    (
      _,
      an_expr true a h (a_text (codes "-") before owed),
      bare before (codes "-") (operand a (tree_text a)) (concat texts),
    ),
  )
  take-last (Binary sign span a b) true h =
      let p = piece.Binary sign span in (
        p,
        (front ++ postfix a) ++ postfix b,
        sym (append_assoc (front ++ postfix a) (postfix b) (p ∷ []) ∙ append_assoc front (postfix a) (postfix b ++ p ∷ [])),
        (
          _,
          an_expr true b h.1 (a_text (piece_text p) ((before ++ codes "(") ++ operand a (tree_text a)) (an_expr true a h.0 (a_text (codes "(") before owed))),
          simp append_assoc,
        ),
      )
  take-last (Binary sign span a b) false h =
      let p = piece.Binary sign span in (
        p,
        (front ++ postfix a) ++ postfix b,
        sym (append_assoc (front ++ postfix a) (postfix b) (p ∷ []) ∙ append_assoc front (postfix a) (postfix b ++ p ∷ [])),
        (
          ((before ++ operand a (tree_text a)) ++ piece_text p) ++ operand b (tree_text b),
          an_expr true b h.1 (a_text (piece_text p) (before ++ operand a (tree_text a)) (an_expr true a h.0 owed)),
          simp append_assoc,
        ),
      )

nothing-left : (init : List Piece) (p : Piece) → init ++ p ∷ [] ≡ [] → ⊥
nothing-left [] p e = cc
nothing-left (q ∷ init) p e = cc

-- one piece more, from the end
pub arranged-next : (pieces : List Piece) (i j : ℕ) (d : Piece) (tasks below after : List Task) (texts before written : List (List ℕ)) (parens : Bool) (o : Option Bool) (whole : List ℕ) → j + 1 ≡ length pieces - i → i < length pieces
    → IsArranged (take (length pieces - i) pieces) tasks texts whole
    → o ≡ next_expr tasks → below ≡ below_expr tasks → before ≡ before_expr tasks texts → parens ≡ unwrap_or o false
    → after ≡ tasks_after (get_or pieces j d) parens below → written ≡ texts_after (get_or pieces j d) parens before → IsArranged (take j pieces) after written whole
arranged-next pieces i j d tasks below after texts before written parens o whole n within a e f g h k l = step (settled a.1 texts whole a.2) where
  left : take (length pieces - i) pieces ≡ take j pieces ++ get_or pieces j d ∷ []
  left = ap (λ x. take x pieces) (sym n) ∙ take_more pieces j d (omega arith)

  step : Next tasks (take (length pieces - i) pieces) texts whole ⊎ Last tasks (take (length pieces - i) pieces) texts whole → IsArranged (take j pieces) after written whole
  step (inr z) = absurd (nothing-left (take j pieces) (get_or pieces j d) (sym left ∙ z.pieces))
  step (inl z) =
      let t = take-last (below_expr tasks) (before_expr tasks texts) z.front z.before z.owed z.tree z.parens z.proper in
      let same = same_from_push t.1 (take j pieces) t.0 (get_or pieces j d) (sym t.2 ∙ sym z.pieces ∙ left) in
      let shut : parens ≡ z.parens = h ∙ ap (λ x. unwrap_or x false) (e ∙ z.next) in
      let after-is : after ≡ tasks_after t.0 z.parens (below_expr tasks) = k ∙ ap (λ x. tasks_after x parens below) (sym same.1) ∙ ap (λ x. tasks_after t.0 x below) shut ∙ ap (tasks_after t.0 z.parens) f in
      let written-is : written ≡ texts_after t.0 z.parens (before_expr tasks texts) = l ∙ ap (λ x. texts_after x parens before) (sym same.1) ∙ ap (λ x. texts_after t.0 x before) shut ∙ ap (texts_after t.0 z.parens) g in
      subst (λ x. IsArranged (take j pieces) x written whole) (sym after-is) (subst (λ x. IsArranged (take j pieces) (tasks_after t.0 z.parens (below_expr tasks)) x whole) (sym written-is)
      (subst (λ x. IsArranged x (tasks_after t.0 z.parens (below_expr tasks)) (texts_after t.0 z.parens (before_expr tasks texts)) whole) same.0
      (subst (λ x. IsArranged t.1 (tasks_after t.0 z.parens (below_expr tasks)) (texts_after t.0 z.parens (before_expr tasks texts)) x) z.same t.3)))

postfix-some : (front : List Piece) (a : Tree) → front ++ postfix a ≡ [] → ⊥
postfix-some (p ∷ front) a e = cc
postfix-some [] (Leaf p) e = cc
postfix-some [] (Not span a) e = nothing-left (postfix a) (piece.Not span) e
postfix-some [] (Minus span a) e = nothing-left (postfix a) (piece.Minus span) e
postfix-some [] (Binary sign span a b) e = nothing-left (postfix a ++ postfix b) (piece.Binary sign span) (append_assoc (postfix a) (postfix b) (piece.Binary sign span ∷ []) ∙ e)

pub arranged-last : (pieces : List Piece) (i : ℕ) (tasks : List Task) (texts written : List (List ℕ)) (whole : List ℕ) → length pieces ≤ i → IsArranged (take (length pieces - i) pieces) tasks texts whole → written ≡ before_expr tasks texts → concat written ≡ whole
arranged-last pieces i tasks texts written whole n a e = step (settled a.1 texts whole a.2) where
  zero-left : length pieces - i ≡ 0
  zero-left = omega arith

  none-left : take (length pieces - i) pieces ≡ []
  none-left = ap (λ x. take x pieces) zero-left

  step : Next tasks (take (length pieces - i) pieces) texts whole ⊎ Last tasks (take (length pieces - i) pieces) texts whole → concat written ≡ whole
  step (inl z) = absurd (postfix-some z.front z.tree (sym z.pieces ∙ none-left))
  step (inr z) = ap concat e ∙ z.same
