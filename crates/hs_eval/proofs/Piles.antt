-- Checking piece by piece gives what is kept of the answer of `check_tree` on the tree.
use Rattle.std.proofs.Common.{ℕ, ◌≡◌, List, [], ◌∷◌, Bool, true, false, Option, Some, None, is_some, Result, Ok, Err, refl, sym, ap, subst, ◌∙◌, MatchOption}
use Rattle.std.proofs.lemmas.Option.{same_Some}
use Rattle.std.specs.Option.{option_and_then}
use Rattle.hs_expr.specs.declared.Expr.{Expr}
use Rattle.hs_expr.specs.declared.Expr.TheVariants as expr
use Rattle.hs_expr.specs.declared.Failure.{Failure}
use Rattle.hs_expr.specs.declared.Failure.TheVariants as failure
use Rattle.hs_expr.specs.declared.Kind.{Kind}
use Rattle.hs_expr.specs.declared.Kind.TheVariants as kind
use Rattle.hs_expr.specs.declared.Name.{Name}
use Rattle.hs_expr.specs.declared.Piece.{Piece}
use Rattle.hs_expr.specs.declared.Piece.TheVariants as piece
use Rattle.hs_expr.specs.declared.Sign.{Sign}
use Rattle.hs_expr.specs.declared.Span.{Span}
use Rattle.hs_expr.specs.declared.Value.TheVariants as value
use Rattle.hs_expr.specs.Evaluation.{binary_kind, not_kind, minus_kind, nesting}
use Rattle.hs_expr.specs.Steps.{◌>>=◌, demand, needed, Fails}
use Rattle.hs_expr.specs.Trees.{Tree, Leaf, Not, Minus, Binary, trees_after_piece, trees_after, only_tree, tree_of}
use Rattle.hs_eval.specs.declared.fault.ExprFault.{ExprFault}
use Rattle.hs_eval.specs.declared.fault.Wrong.TheVariants.{NotRead, UnknownAttribute}
use Rattle.hs_eval.specs.declared.operand.Operand.{Operand}
use Rattle.hs_eval.specs.Checking.{Names, Outcome, check_tree, junction, leaf, negation, opposition, param_read, slot_read, wrong_at}
use Rattle.hs_eval.specs.Results.{checked_of, ok_map}
use Rattle.hs_eval.specs.Stacks.{Pile, leaf_operand, operand_of, binary_operand, not_operand, push, minus_operand, checked_operand, stack_after_all, stack_after, shallow_of}
use Rattle.hs_expr.proofs.Evaluations.{nesting-Literal, nesting-Param, nesting-Slot}
use Rattle.hs_eval.proofs.Depths.{held-Binary, held-Minus, held-Not, released-held}

-- OPERATORS

holding : (k : Kind) (e : Expr) (s : _) → shallow_of (nesting e) e ≡ s → ok_map {F = ExprFault} operand_of (Ok (e, k)) ≡ Ok (record { kind = k; shallow = s })
holding k e s h = ap (λ s. Ok (record { kind = k; shallow = s })) h

negation-held : (span : Span) (x : Expr × Kind) → ok_map operand_of (negation span x) ≡ not_operand span (operand_of x)
negation-held span x = go (not_kind x.1) refl where
  go : (o : Option Kind) → not_kind x.1 ≡ o → ok_map operand_of (negation span x) ≡ not_operand span (operand_of x)
  go None h = rw h refl
  go (Some k) h = rw h (holding k (expr.Not x.0) _ (held-Not x.0))

opposition-held : (span : Span) (x : Expr × Kind) → ok_map operand_of (opposition span x) ≡ minus_operand span (operand_of x)
opposition-held span x = go (minus_kind x.1) refl where
  go : (o : Option Kind) → minus_kind x.1 ≡ o → ok_map operand_of (opposition span x) ≡ minus_operand span (operand_of x)
  go None h = rw h refl
  go (Some k) h = rw h (holding k (expr.Minus x.0) _ (held-Minus x.0))

junction-held : (sign : Sign) (span : Span) (x y : Expr × Kind) → ok_map operand_of (junction sign span x y) ≡ binary_operand sign span (operand_of x) (operand_of y)
junction-held sign span x y = go (binary_kind sign x.1 y.1) refl where
  go : (o : Option Kind) → binary_kind sign x.1 y.1 ≡ o → ok_map operand_of (junction sign span x y) ≡ binary_operand sign span (operand_of x) (operand_of y)
  go None h = rw h refl
  go (Some k) h = rw h (holding k (expr.Binary sign x.0 y.0) _ (held-Binary sign x.0 y.0))

-- LEAVES

abbrev HeldBare : Outcome → Type 0
HeldBare c = ok_map leaf_operand c ≡ ok_map operand_of c

bare-held : (k : Kind) (e : Expr) → nesting e ≡ 0 → HeldBare (Ok (e, k))
bare-held k e h = ap (λ s. Ok (record { kind = k; shallow = s })) (sym (ap (λ n. shallow_of n e) h))

needed-bare : {X : Type 0} (o : Option X) (fault : ExprFault) (next : X → Outcome) → ((x : X) → HeldBare (next x)) → HeldBare (needed o fault >>= next)
needed-bare None fault next h = refl
needed-bare (Some x) fault next h = h x

param-bare : (names : Names) (name : Name) → HeldBare (param_read names name)
param-bare names name = needed-bare (names.param name.text) _ _ (λ p. bare-held p.1 (expr.Param p.0) (nesting-Param p.0))

abbrev read_as : Expr × Kind → Outcome
read_as x = Ok x

slot-bare : (names : Names) (owner name : Name) → HeldBare (slot_read names owner name)
slot-bare names owner name = needed-bare (names.node owner.text) _ _ here where
  read : ℕ → Outcome
  read n = needed (names.attribute owner.text name.text) (wrong_at name.span UnknownAttribute) >>= (λ (a : ℕ × Kind). read_as (expr.Slot (record { node = n; attribute = a.0 }), a.1))

  here : (n : ℕ × Bool) → HeldBare (demand n.1 (wrong_at owner.span NotRead) >>= (λ (u : Unit {0}). read n.0))
  here (n, true) = needed-bare (names.attribute owner.text name.text) _ _ (λ a. bare-held a.1 (expr.Slot (record { node = n; attribute = a.0 })) (nesting-Slot _))
  here (n, false) = refl

leaf-bare : (names : Names) (p : Piece) → HeldBare (leaf names p)
leaf-bare names (piece.Int n span) = bare-held kind.Int (expr.Literal (value.Int n)) (nesting-Literal _)
leaf-bare names (piece.Text t span) = bare-held kind.Text (expr.Literal (value.Text t)) (nesting-Literal _)
leaf-bare names (piece.Bool b span) = bare-held kind.Bool (expr.Literal (value.Bool b)) (nesting-Literal _)
leaf-bare names (piece.Name name) = param-bare names name
leaf-bare names (piece.Slot owner name) = slot-bare names owner name
leaf-bare names (piece.Not span) = refl
leaf-bare names (piece.Minus span) = refl
leaf-bare names (piece.Binary sign span) = refl

-- PILES

abbrev judged : Names → Tree → Result Operand ExprFault
judged names tree = ok_map operand_of (check_tree names tree)

-- what is held of the trees, the last one first
abbrev pub pile : Names → List Tree → Pile
pile names [] = Ok []
pile names (t ∷ ts) = pile names ts >>= λ done. push done (judged names t)

leaf-step : (names : Names) (p : Piece) (q : Pile) →
    (q >>= λ done. push done (ok_map operand_of (leaf names p))) ≡ (q >>= λ done. push done (ok_map leaf_operand (leaf names p)))
leaf-step names p q = ap (λ c. q >>= λ done. push done c) (sym (leaf-bare names p))

not-step : (names : Names) (span : Span) (q : Pile) (c : Outcome) →
    (q >>= λ done. push done (ok_map operand_of (c >>= negation span))) ≡ ((q >>= λ done. push done (ok_map operand_of c)) >>= stack_after names (piece.Not span))
not-step names span (Err f) c = refl
not-step names span (Ok done) (Err f) = refl
not-step names span (Ok done) (Ok x) = ap (push done) (negation-held span x)

minus-step : (names : Names) (span : Span) (q : Pile) (c : Outcome) →
    (q >>= λ done. push done (ok_map operand_of (c >>= opposition span))) ≡ ((q >>= λ done. push done (ok_map operand_of c)) >>= stack_after names (piece.Minus span))
minus-step names span (Err f) c = refl
minus-step names span (Ok done) (Err f) = refl
minus-step names span (Ok done) (Ok x) = ap (push done) (opposition-held span x)

binary-step : (names : Names) (sign : Sign) (span : Span) (q : Pile) (c d : Outcome) →
    (q >>= λ done. push done (ok_map operand_of (c >>= λ left. d >>= junction sign span left)))
    ≡ (((q >>= λ done. push done (ok_map operand_of c)) >>= λ done. push done (ok_map operand_of d)) >>= stack_after names (piece.Binary sign span))
binary-step names sign span (Err f) c d = refl
binary-step names sign span (Ok done) (Err f) d = refl
binary-step names sign span (Ok done) (Ok x) (Err f) = refl
binary-step names sign span (Ok done) (Ok x) (Ok y) = ap (push done) (junction-held sign span x y)

abbrev Piled : Names → Piece → List Tree → List Tree → Type 0
Piled names p trees more = pile names more ≡ (pile names trees >>= stack_after names p)

trees_after_piece-pile : (names : Names) (p : Piece) (trees more : List Tree) → trees_after_piece p trees ≡ Some more → Piled names p trees more
trees_after_piece-pile names (piece.Int value span) trees more e =
    subst (Piled names (piece.Int value span) trees) (same_Some (Leaf (piece.Int value span) ∷ trees) more e) (leaf-step names (piece.Int value span) (pile names trees))
trees_after_piece-pile names (piece.Text value span) trees more e =
    subst (Piled names (piece.Text value span) trees) (same_Some (Leaf (piece.Text value span) ∷ trees) more e) (leaf-step names (piece.Text value span) (pile names trees))
trees_after_piece-pile names (piece.Bool value span) trees more e =
    subst (Piled names (piece.Bool value span) trees) (same_Some (Leaf (piece.Bool value span) ∷ trees) more e) (leaf-step names (piece.Bool value span) (pile names trees))
trees_after_piece-pile names (piece.Name name) trees more e =
    subst (Piled names (piece.Name name) trees) (same_Some (Leaf (piece.Name name) ∷ trees) more e) (leaf-step names (piece.Name name) (pile names trees))
trees_after_piece-pile names (piece.Slot node attribute) trees more e =
    subst (Piled names (piece.Slot node attribute) trees) (same_Some (Leaf (piece.Slot node attribute) ∷ trees) more e) (leaf-step names (piece.Slot node attribute) (pile names trees))
trees_after_piece-pile names (piece.Not span) [] more e = cc
trees_after_piece-pile names (piece.Not span) (a ∷ trees) more e =
    subst (Piled names (piece.Not span) (a ∷ trees)) (same_Some (Not span a ∷ trees) more e) (not-step names span (pile names trees) (check_tree names a))
trees_after_piece-pile names (piece.Minus span) [] more e = cc
trees_after_piece-pile names (piece.Minus span) (a ∷ trees) more e =
    subst (Piled names (piece.Minus span) (a ∷ trees)) (same_Some (Minus span a ∷ trees) more e) (minus-step names span (pile names trees) (check_tree names a))
trees_after_piece-pile names (piece.Binary sign span) [] more e = cc
trees_after_piece-pile names (piece.Binary sign span) (a ∷ []) more e = cc
trees_after_piece-pile names (piece.Binary sign span) (b ∷ a ∷ trees) more e =
    subst (Piled names (piece.Binary sign span) (b ∷ a ∷ trees)) (same_Some (Binary sign span a b ∷ trees) more e)
    (binary-step names sign span (pile names trees) (check_tree names a) (check_tree names b))

then-ok : (names : Names) (q : Pile) → q ≡ (q >>= stack_after_all names [])
then-ok names (Ok done) = refl
then-ok names (Err f) = refl

then-then : (q : Pile) (f g : List Operand → Pile) → ((q >>= f) >>= g) ≡ (q >>= λ done. f done >>= g)
then-then (Ok done) f g = refl
then-then (Err fault) f g = refl

trees_after-pile : (names : Names) (ps : List Piece) (trees more : List Tree) → trees_after trees ps ≡ Some more → pile names more ≡ (pile names trees >>= stack_after_all names ps)
trees_after-pile names [] trees more e = subst (λ ts. pile names ts ≡ (pile names trees >>= stack_after_all names [])) (same_Some trees more e) (then-ok names (pile names trees))
trees_after-pile names (p ∷ ps) trees more e = go (trees_after_piece p trees) refl e (λ next. trees_after-pile names ps next more) where
  go : (o : Option (List Tree)) → trees_after_piece p trees ≡ o → option_and_then (λ next. trees_after next ps) o ≡ Some more →
      ((next : List Tree) → trees_after next ps ≡ Some more → pile names more ≡ (pile names next >>= stack_after_all names ps)) →
      pile names more ≡ (pile names trees >>= stack_after_all names (p ∷ ps))
  go None w e rest = cc
  go (Some next) w e rest =
      rest next e ∙ ap (λ q. q >>= stack_after_all names ps) (trees_after_piece-pile names p trees next w) ∙ then-then (pile names trees) (stack_after names p) (stack_after_all names ps)

only_tree-pile : (names : Names) (trees : List Tree) (tree : Tree) → only_tree trees ≡ Some tree → pile names trees ≡ push [] (judged names tree)
only_tree-pile names [] tree e = cc
only_tree-pile names (a ∷ []) tree e = ap (λ t. push [] (judged names t)) (same a tree e) where
  same : (a b : Tree) → Some a ≡ Some b → a ≡ b
  same a b e = cc
only_tree-pile names (a ∷ b ∷ trees) tree e = cc

-- the checks of all pieces give what the tree is checked to be
pub run-tree : (names : Names) (ps : List Piece) (tree : Tree) → tree_of ps ≡ Some tree → stack_after_all names ps [] ≡ push [] (judged names tree)
run-tree names ps tree e = go (trees_after [] ps) refl e where
  go : (o : Option (List Tree)) → trees_after [] ps ≡ o → option_and_then only_tree o ≡ Some tree → stack_after_all names ps [] ≡ push [] (judged names tree)
  go None w e = cc
  go (Some trees) w e = sym (trees_after-pile names ps [] trees w) ∙ only_tree-pile names trees tree e

pub same-pieces : (names : Names) (ps qs : List Piece) → ps ≡ qs → stack_after_all names ps [] ≡ stack_after_all names qs []
same-pieces names ps qs e = ap (λ xs. stack_after_all names xs []) e

-- why there is nothing at the pieces, is why there is nothing for the expression
pub failure-reported : (names : Names) (ps qs : List Piece) (tree : Tree) (why : Failure ExprFault) → ps ≡ qs → tree_of ps ≡ Some tree →
    Fails why (stack_after_all names qs []) → Fails why (ok_map checked_of (check_tree names tree))
failure-reported names ps qs tree failure.NoMemory same is h = tt
failure-reported names ps qs tree (failure.Fault f) same is h = go (check_tree names tree) (run-tree names ps tree is) where
  go : (c : Outcome) → stack_after_all names ps [] ≡ push [] (ok_map operand_of c) → ok_map checked_of c ≡ Err f
  go (Ok x) e = let reported = same-pieces names ps qs same ∙ h in cc
  go (Err g) e = let reported = same-pieces names ps qs same ∙ h in cc

-- what is kept of what lies on top at the end is what is kept of what the expression is checked to be
end-result : (names : Names) (ps : List Piece) (tree : Tree) (a : Operand) (rest : List Operand) → tree_of ps ≡ Some tree →
    stack_after_all names ps [] ≡ Ok (a ∷ rest) → ok_map checked_of (check_tree names tree) ≡ Ok (checked_operand a)
end-result names ps tree a rest is e = go (check_tree names tree) (run-tree names ps tree is) where
  go : (c : Outcome) → stack_after_all names ps [] ≡ push [] (ok_map operand_of c) → ok_map checked_of c ≡ Ok (checked_operand a)
  go (Ok y) h = let same : operand_of y ≡ a = cc in ap Ok (sym (released-held y) ∙ ap checked_operand same)
  go (Err g) h = cc

-- an operand is left at the end
end-some : (names : Names) (ps : List Piece) (tree : Tree) → tree_of ps ≡ Some tree → stack_after_all names ps [] ≡ Ok [] → ⊥
end-some names ps tree is e = go (check_tree names tree) (run-tree names ps tree is) where
  go : (c : Outcome) → stack_after_all names ps [] ≡ push [] (ok_map operand_of c) → ⊥
  go (Ok y) h = cc
  go (Err g) h = cc

-- what the code knows of the operand that it takes from the stack at the end
abbrev Top : Option Operand → List Operand → List Operand → Type 0
Top o stack rest = MatchOption o ((stack ≡ []) × (rest ≡ [])) (λ a. stack ≡ a ∷ rest)

pub top-some : (names : Names) (ps qs : List Piece) (tree : Tree) (stack rest : List Operand) (o : Option Operand) → ps ≡ qs → tree_of ps ≡ Some tree →
    stack_after_all names qs [] ≡ Ok stack → Top o stack rest → is_some o ≡ true
top-some names ps qs tree stack rest None same is e h = absurd (end-some names ps tree is (same-pieces names ps qs same ∙ e ∙ ap Ok h.0))
top-some names ps qs tree stack rest (Some a) same is e h = refl

pub top-result : (names : Names) (ps qs : List Piece) (tree : Tree) (stack rest : List Operand) (o : Option Operand) (a : Operand) → ps ≡ qs → tree_of ps ≡ Some tree →
    stack_after_all names qs [] ≡ Ok stack → Top o stack rest → o ≡ Some a → ok_map checked_of (check_tree names tree) ≡ Ok (checked_operand a)
top-result names ps qs tree stack rest None a same is e h w = cc
top-result names ps qs tree stack rest (Some b) a same is e h w = step (same-operand b a w) where
  same-operand : (x y : Operand) → Some x ≡ Some y → x ≡ y
  same-operand x y k = cc

  step : b ≡ a → ok_map checked_of (check_tree names tree) ≡ Ok (checked_operand a)
  step k = end-result names ps tree b rest is (same-pieces names ps qs same ∙ e ∙ ap Ok h) ∙ ap (λ x. Ok (checked_operand x)) k
