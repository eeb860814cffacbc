use Rattle.std.proofs.Common.{ℕ, ◌≡◌, List, [], ◌∷◌, ◌++◌, map, Option, Some, None, codes, refl, ap, sym, ◌∙◌}
use Rattle.std.specs.List.{flat_map}
use Rattle.std.specs.Option.{option_and_then}
use Rattle.hs_expr.specs.declared.Piece.{Piece}
use Rattle.hs_expr.specs.declared.Piece.TheVariants as piece
use Rattle.hs_expr.specs.declared.NameExpr.{NameExpr}
use Rattle.hs_text.specs.declared.syntax.Param.{Param}
use Rattle.hs_text.specs.declared.syntax.Element.{Element}
use Rattle.hs_text.specs.declared.syntax.Element.TheVariants as element
use Rattle.hs_text.specs.declared.syntax.Simple.{Simple}
use Rattle.hs_text.specs.declared.syntax.Simple.TheVariants as simple
use Rattle.hs_text.specs.declared.syntax.Item.{Item}
use Rattle.hs_text.specs.declared.syntax.Item.TheVariants as item
use Rattle.hs_text.specs.declared.syntax.Atom.{Atom}
use Rattle.hs_text.specs.declared.syntax.Atom.TheVariants as atom
use Rattle.hs_text.specs.declared.syntax.Bind.{Bind}
use Rattle.hs_text.specs.declared.syntax.Bind.TheVariants as bind
use Rattle.hs_text.specs.declared.syntax.Call.{Call}
use Rattle.hs_text.specs.declared.syntax.Count.TheVariants as count
use Rattle.hs_text.specs.declared.syntax.Body.{Body}
use Rattle.hs_text.specs.declared.syntax.Body.TheVariants as body
use Rattle.hs_text.specs.declared.syntax.Definition.{Definition}
use Rattle.hs_text.specs.declared.syntax.Definition.TheVariants as definition
use Rattle.hs_expr.specs.Trees.{Tree, Leaf, Not, Minus, Binary, trees_after_piece, trees_after, only_tree, tree_of}
use Rattle.hs_expr.specs.NameExprs.{expr_tree}
use Rattle.hs_expr.proofs.OneTree.{tree-found}
use Rattle.hs_text.specs.Canonical.{piece_text, operand, tree_text, expr_text, commas, param_text, params_text, mark_text, element_text, element_line, simple_text, simple_line, line, block, one_level, two_levels, item_text, atom_text, bind_text, call_text, call_line, body_kind, else_line, body_lines, definition_text, canonical_text}
use Rattle.hs_text.specs.Unplaced.{nowhere, unplaced_piece, unplaced_expr, unplaced_param, unplaced_element, unplaced_simple, unplaced_item, unplaced_atom, unplaced_bind, unplaced_call, unplaced_else, unplaced_body, unplaced_definition, unplaced}

-- PLACES ARE NOT WRITTEN

abbrev bare_tree : Tree → Tree
bare_tree (Leaf p) = Leaf (unplaced_piece p)
bare_tree (Not span a) = Not nowhere (bare_tree a)
bare_tree (Minus span a) = Minus nowhere (bare_tree a)
bare_tree (Binary sign span a b) = Binary sign nowhere (bare_tree a) (bare_tree b)

abbrev bare_trees : Option (List Tree) → Option (List Tree)
bare_trees None = None
bare_trees (Some trees) = Some (map bare_tree trees)

abbrev bare_one : Option Tree → Option Tree
bare_one None = None
bare_one (Some a) = Some (bare_tree a)

trees_after_piece-bare : (p : Piece) (trees : List Tree) → trees_after_piece (unplaced_piece p) (map bare_tree trees) ≡ bare_trees (trees_after_piece p trees)
trees_after_piece-bare (piece.Int value span) trees = refl
trees_after_piece-bare (piece.Text value span) trees = refl
trees_after_piece-bare (piece.Bool value span) trees = refl
trees_after_piece-bare (piece.Name name) trees = refl
trees_after_piece-bare (piece.Slot node attribute) trees = refl
trees_after_piece-bare (piece.Not span) [] = refl
trees_after_piece-bare (piece.Not span) (a ∷ trees) = refl
trees_after_piece-bare (piece.Minus span) [] = refl
trees_after_piece-bare (piece.Minus span) (a ∷ trees) = refl
trees_after_piece-bare (piece.Binary sign span) [] = refl
trees_after_piece-bare (piece.Binary sign span) (a ∷ []) = refl
trees_after_piece-bare (piece.Binary sign span) (b ∷ a ∷ trees) = refl

trees_after-bare : (ps : List Piece) (trees : List Tree) → trees_after (map bare_tree trees) (map unplaced_piece ps) ≡ bare_trees (trees_after trees ps)
trees_after-bare [] trees = refl
trees_after-bare (p ∷ ps) trees = ap (option_and_then (λ more. trees_after more (map unplaced_piece ps))) (trees_after_piece-bare p trees) ∙ step (trees_after_piece p trees) (λ more. trees_after-bare ps more) where
  step : (o : Option (List Tree)) → ((more : List Tree) → trees_after (map bare_tree more) (map unplaced_piece ps) ≡ bare_trees (trees_after more ps)) → option_and_then (λ more. trees_after more (map unplaced_piece ps)) (bare_trees o) ≡ bare_trees (option_and_then (λ more. trees_after more ps) o)
  step None f = refl
  step (Some more) f = f more

only_tree-bare : (o : Option (List Tree)) → option_and_then only_tree (bare_trees o) ≡ bare_one (option_and_then only_tree o)
only_tree-bare None = refl
only_tree-bare (Some []) = refl
only_tree-bare (Some (a ∷ [])) = refl
only_tree-bare (Some (a ∷ b ∷ trees)) = refl

operand-bare : (a : Tree) (text : List ℕ) → operand (bare_tree a) text ≡ operand a text
operand-bare (Leaf p) text = refl
operand-bare (Not span a) text = refl
operand-bare (Minus span a) text = refl
operand-bare (Binary sign span a b) text = refl

piece-bare : (p : Piece) → piece_text (unplaced_piece p) ≡ piece_text p
piece-bare (piece.Int value span) = refl
piece-bare (piece.Text value span) = refl
piece-bare (piece.Bool value span) = refl
piece-bare (piece.Name name) = refl
piece-bare (piece.Slot node attribute) = refl
piece-bare (piece.Not span) = refl
piece-bare (piece.Minus span) = refl
piece-bare (piece.Binary sign span) = refl

tree-bare : (a : Tree) → tree_text (bare_tree a) ≡ tree_text a
tree-bare (Leaf p) = piece-bare p
tree-bare (Not span a) = ap (λ z. piece_text (piece.Not span) ++ z) (operand-bare a (tree_text (bare_tree a)) ∙ ap (operand a) (tree-bare a))
tree-bare (Minus span a) = ap (λ z. piece_text (piece.Minus span) ++ z) (operand-bare a (tree_text (bare_tree a)) ∙ ap (operand a) (tree-bare a))
tree-bare (Binary sign span a b) =
    ap (λ z. (z ++ piece_text (piece.Binary sign span)) ++ operand (bare_tree b) (tree_text (bare_tree b))) (operand-bare a (tree_text (bare_tree a)) ∙ ap (operand a) (tree-bare a))
    ∙ ap (λ z. (operand a (tree_text a) ++ piece_text (piece.Binary sign span)) ++ z) (operand-bare b (tree_text (bare_tree b)) ∙ ap (operand b) (tree-bare b))

pieces-bare : (ps : List Piece) → tree_of (map unplaced_piece ps) ≡ bare_one (tree_of ps)
pieces-bare ps = ap (option_and_then only_tree) (trees_after-bare ps []) ∙ only_tree-bare (trees_after [] ps)

some-tree : (a b : Tree) → Some a ≡ Some b → a ≡ b
some-tree a b e = cc

expr-bare : (e : NameExpr) → expr_text (unplaced_expr e) ≡ expr_text e
expr-bare e =
    let same : Some (expr_tree (unplaced_expr e)) ≡ Some (bare_tree (expr_tree e)) = sym (tree-found (unplaced_expr e)) ∙ pieces-bare e.pieces ∙ ap bare_one (tree-found e) in
    ap tree_text (some-tree (expr_tree (unplaced_expr e)) (bare_tree (expr_tree e)) same) ∙ tree-bare (expr_tree e)

flat-bare : {X : Type 0} (f : X → List ℕ) (g : X → X) → ((x : X) → f (g x) ≡ f x) → (xs : List X) → flat_map f (map g xs) ≡ flat_map f xs
flat-bare f g h [] = refl
flat-bare f g h (x ∷ xs) = ap (λ z. z ++ flat_map f (map g xs)) (h x) ∙ ap (λ z. f x ++ z) (flat-bare f g h xs)

map-bare : {X : Type 0} (f : X → List ℕ) (g : X → X) → ((x : X) → f (g x) ≡ f x) → (xs : List X) → map f (map g xs) ≡ map f xs
map-bare f g h [] = refl
map-bare f g h (x ∷ xs) = ap (λ z. z ∷ map f (map g xs)) (h x) ∙ ap (λ z. f x ∷ z) (map-bare f g h xs)

element-bare : (e : Element) → element_text (unplaced_element e) ≡ element_text e
element-bare (element.Node name class) = refl
element-bare (element.Edge source target reference) = refl

simple-bare : (s : Simple) → simple_text (unplaced_simple s) ≡ simple_text s
simple-bare (simple.Marked mark e) = ap (λ z. (mark_text mark ++ codes " ") ++ z) (element-bare e)
simple-bare (simple.Set node attribute value) = ap (λ z. ((((codes "set " ++ node.text) ++ codes ".") ++ attribute.text) ++ codes " = ") ++ z) (expr-bare value)
simple-bare (simple.Where word test) = ap (λ z. codes "where " ++ z) (expr-bare test)

element-lines : (es : List Element) → flat_map element_line (map unplaced_element es) ≡ flat_map element_line es
element-lines = flat-bare element_line unplaced_element (λ e. ap (line two_levels) (element-bare e))

item-bare : (i : Item) → item_text (unplaced_item i) ≡ item_text i
item-bare (item.Simple s) = ap (line one_level) (simple-bare s)
item-bare (item.Forbid es) = ap (block one_level (codes "forbid")) (element-lines es)
item-bare (item.Require es) = ap (block one_level (codes "require")) (element-lines es)
item-bare (item.Multi ss) = ap (block one_level (codes "multi")) (flat-bare simple_line unplaced_simple (λ s. ap (line two_levels) (simple-bare s)) ss)

atom-bare : (a : Atom) → atom_text (unplaced_atom a) ≡ atom_text a
atom-bare (atom.Int minus value span) = refl
atom-bare (atom.Text value span) = refl
atom-bare (atom.Bool value span) = refl
atom-bare (atom.Name name) = refl

bind-bare : (b : Bind) → bind_text (unplaced_bind b) ≡ bind_text b
bind-bare (bind.Give parameter value) = ap (λ z. (parameter.text ++ codes " = ") ++ z) (atom-bare value)
bind-bare (bind.Take parameter variable) = refl

call-bare : (c : Call) → call_text (unplaced_call c) ≡ call_text c
call-bare c = ap (λ z. ((c.callee.text ++ codes "(") ++ commas z) ++ codes ")") (map-bare bind_text unplaced_bind bind-bare c.binds)

line-bare : (front : List ℕ) (c : Call) → call_line front (unplaced_call c) ≡ call_line front c
line-bare front c = ap (λ z. line one_level (front ++ z)) (call-bare c)

calls-bare : (cs : List Call) → flat_map (call_line []) (map unplaced_call cs) ≡ flat_map (call_line []) cs
calls-bare = flat-bare (call_line []) unplaced_call (line-bare [])

else-bare : (e : Option Call) → else_line (unplaced_else e) ≡ else_line e
else-bare None = refl
else-bare (Some c) = line-bare (codes "else ") c

kind-bare : (b : Body) → body_kind (unplaced_body b) ≡ body_kind b
kind-bare (body.Sequential calls) = refl
kind-bare (body.Independent calls) = refl
kind-bare (body.Priority calls) = refl
kind-bare (body.Conditional test chosen otherwise) = refl
kind-bare (body.Loop call) = refl
kind-bare (body.Iterated (count.Int value span) call) = refl
kind-bare (body.Iterated (count.Param name) call) = refl

lines-bare : (b : Body) → body_lines (unplaced_body b) ≡ body_lines b
lines-bare (body.Sequential calls) = calls-bare calls
lines-bare (body.Independent calls) = calls-bare calls
lines-bare (body.Priority calls) = calls-bare calls
lines-bare (body.Conditional test chosen otherwise) =
    ap (λ z. (z ++ call_line (codes "then ") (unplaced_call chosen)) ++ else_line (unplaced_else otherwise)) (line-bare (codes "if ") test)
    ∙ ap (λ z. (call_line (codes "if ") test ++ z) ++ else_line (unplaced_else otherwise)) (line-bare (codes "then ") chosen)
    ∙ ap (λ z. (call_line (codes "if ") test ++ call_line (codes "then ") chosen) ++ z) (else-bare otherwise)
lines-bare (body.Loop call) = line-bare [] call
lines-bare (body.Iterated count call) = line-bare [] call

params-bare : (ps : List Param) → params_text (map unplaced_param ps) ≡ params_text ps
params-bare ps = ap (λ z. (codes "(" ++ commas z) ++ codes ")") (map-bare param_text unplaced_param (λ p. refl) ps)

definition-bare : (d : Definition) → definition_text (unplaced_definition d) ≡ definition_text d
definition-bare (definition.Rule r) =
    ap (λ z. block [] ((codes "rule " ++ r.name.text) ++ z) (flat_map item_text (map unplaced_item r.items))) (params-bare r.params)
    ∙ ap (block [] ((codes "rule " ++ r.name.text) ++ params_text r.params)) (flat-bare item_text unplaced_item item-bare r.items)
definition-bare (definition.Unit u) =
    ap (λ z. block [] ((((codes "unit " ++ u.name.text) ++ z) ++ codes " ") ++ body_kind (unplaced_body u.body)) (body_lines (unplaced_body u.body))) (params-bare u.params)
    ∙ ap (λ z. block [] ((((codes "unit " ++ u.name.text) ++ params_text u.params) ++ codes " ") ++ z) (body_lines (unplaced_body u.body))) (kind-bare u.body)
    ∙ ap (block [] ((((codes "unit " ++ u.name.text) ++ params_text u.params) ++ codes " ") ++ body_kind u.body)) (lines-bare u.body)

pub text-bare : (ds : List Definition) → canonical_text (unplaced ds) ≡ canonical_text ds
text-bare [] = refl
text-bare (d ∷ ds) =
    ap (λ z. z ++ flat_map (λ next. codes "\n" ++ definition_text next) (map unplaced_definition ds)) (definition-bare d)
    ∙ ap (λ z. definition_text d ++ z) (flat-bare (λ next. codes "\n" ++ definition_text next) unplaced_definition (λ e. ap (λ z. codes "\n" ++ z) (definition-bare e)) ds)
