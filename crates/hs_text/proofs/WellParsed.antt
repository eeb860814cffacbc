use Rattle.std.proofs.Common.{ℕ, ◌≡◌, List, [], ◌∷◌, ◌++◌, true, Option, Some, refl, sym, subst, ◌∙◌}
use Rattle.std.specs.List.{AllByRecursion, flat_map}
use Rattle.std.specs.Str.{all_scalars}
use Rattle.hs_expr.specs.declared.Span.{Span}
use Rattle.hs_expr.specs.declared.Piece.{Piece}
use Rattle.hs_tokens.specs.declared.token.Kind.{Kind}
use Rattle.hs_tokens.specs.declared.token.Kind.TheVariants as kind
use Rattle.hs_tokens.specs.declared.token.Token.{Token}
use Rattle.hs_text.specs.declared.grammar.Term.{Term}
use Rattle.hs_text.specs.declared.grammar.Term.TheVariants as term
use Rattle.hs_text.specs.declared.syntax.Param.{Param}
use Rattle.hs_text.specs.declared.syntax.Element.{Element}
use Rattle.hs_text.specs.declared.syntax.Simple.{Simple}
use Rattle.hs_text.specs.declared.syntax.Item.{Item}
use Rattle.hs_text.specs.declared.syntax.Atom.{Atom}
use Rattle.hs_text.specs.declared.syntax.Bind.{Bind}
use Rattle.hs_text.specs.declared.syntax.Call.{Call}
use Rattle.hs_text.specs.declared.syntax.Body.{Body}
use Rattle.hs_text.specs.declared.syntax.Definition.{Definition}
use Rattle.hs_text.specs.Words.{list_body}
use Rattle.hs_text.specs.Lists.{Many, none, more, Optional, absent, present, After, after_token, Before, before, Separated, no_items, items}
use Rattle.hs_text.specs.Grammar.{Level, Expr, Expression, expr, no_or, or, conj, no_and, and, not, neg, cmp, no_comparison, comparison, sum, no_addition, addition, prod, no_product, product, literal, name, slot, parens, minus, IsParam, param, IsParams, params, IsElement, node, edge, IsSimple, mark_element, set, test, IsItem, simple_item, forbid, require, multi, IsAtom, value, negative, IsBind, give, take, IsCall, call, CallThen, IsBody, call_list, conditional, loop, iterated, IsDefinition, rule, unit, IsText}
use Rattle.hs_text.specs.Parsing.{AreTokens}
use Rattle.hs_expr.specs.declared.NameExpr.{NameExpr}
use Rattle.hs_expr.specs.Trees.{Tree}
use Rattle.hs_expr.specs.NameExprs.{expr_tree}
use Rattle.hs_expr.proofs.OneTree.{tree-found}
use Rattle.hs_text.specs.WellFormed.{IsPieceFine, IsExprFine, IsParamFine, IsElementFine, IsSimpleFine, IsItemFine, IsAtomFine, IsBindFine, IsCallFine, IsElseFine, IsBodyFine, IsDefinitionFine, tree_spans, expr_spans, param_spans, element_spans, simple_spans, item_spans, atom_spans, bind_spans, call_spans, else_spans, body_spans, definition_spans, AreWellFormed}
use Rattle.hs_text.proofs.Spelt.{IsSpelt, AreSpelt, AreLaid, PositionsMove, tokens-spelt, AreAmong, none_left, passed, taken, among-both, among-in-order}
use Rattle.hs_text.proofs.Expressions.{between, ended, expression-tree}
use Rattle.hs_text.proofs.Spellings.{word-fine, name-fine, number-fine, literal-fine, atom-fine, count-fine}

-- WHAT IS PARSED IS WELL-FORMED

-- Of two lists in order.
every-both : {X : Type 0} (P : X → Type 0) (xs ys : List X) → AllByRecursion P xs → AllByRecursion P ys → AllByRecursion P (xs ++ ys)
every-both P [] ys h k = k
every-both P (x ∷ xs) ys h k = (h.0, every-both P xs ys h.1 k)

every-split : {X : Type 0} (P : X → Type 0) (xs ys : List X) → AllByRecursion P (xs ++ ys) → AllByRecursion P xs × AllByRecursion P ys
every-split P [] ys h = (tt, h)
every-split P (x ∷ xs) ys h = let r = every-split P xs ys h.1 in ((h.0, r.0), r.1)

module _ (source : List ℕ) (scalars : all_scalars source ≡ true) where
  abbrev Every : List Token → Type 0
  Every = AreSpelt source

  split : (ts us : List Token) → Every (ts ++ us) → Every ts × Every us
  split ts us h = every-split (IsSpelt source) ts us h

  pieces-fine : {l : Level} {ts : List Token} {ps : List Piece} → Expression source l ts ps → Every ts → AllByRecursion IsPieceFine ps
  pieces-fine (expr {ts} {us} {a} {b} e f) h = let k = split ts us h in every-both IsPieceFine a b (pieces-fine e k.0) (pieces-fine f k.1)
  pieces-fine no_or h = tt
  pieces-fine (or t {ts} {us} {a} {b} i e f) h = let k = split ts us h.1 in every-both IsPieceFine a _ (pieces-fine e k.0) (tt, pieces-fine f k.1)
  pieces-fine (conj {ts} {us} {a} {b} e f) h = let k = split ts us h in every-both IsPieceFine a b (pieces-fine e k.0) (pieces-fine f k.1)
  pieces-fine no_and h = tt
  pieces-fine (and t {ts} {us} {a} {b} i e f) h = let k = split ts us h.1 in every-both IsPieceFine a _ (pieces-fine e k.0) (tt, pieces-fine f k.1)
  pieces-fine (not t {ts} {a} i e) h = every-both IsPieceFine a _ (pieces-fine e h.1) (tt, tt)
  pieces-fine (neg e) h = pieces-fine e h
  pieces-fine (cmp {ts} {us} {a} {b} e f) h = let k = split ts us h in every-both IsPieceFine a b (pieces-fine e k.0) (pieces-fine f k.1)
  pieces-fine no_comparison h = tt
  pieces-fine (comparison t {ts} {a} i e) h = every-both IsPieceFine a _ (pieces-fine e h.1) (tt, tt)
  pieces-fine (sum {ts} {us} {a} {b} e f) h = let k = split ts us h in every-both IsPieceFine a b (pieces-fine e k.0) (pieces-fine f k.1)
  pieces-fine no_addition h = tt
  pieces-fine (addition t {ts} {us} {a} {b} i e f) h = let k = split ts us h.1 in every-both IsPieceFine a _ (pieces-fine e k.0) (tt, pieces-fine f k.1)
  pieces-fine (prod {ts} {us} {a} {b} e f) h = let k = split ts us h in every-both IsPieceFine a b (pieces-fine e k.0) (pieces-fine f k.1)
  pieces-fine no_product h = tt
  pieces-fine (product t {ts} {us} {a} {b} i e f) h = let k = split ts us h.1 in every-both IsPieceFine a _ (pieces-fine e k.0) (tt, pieces-fine f k.1)
  pieces-fine (literal t i) h = (literal-fine source scalars t h.0, tt)
  pieces-fine (name n i) h = (name-fine source scalars n h.0 i, tt)
  pieces-fine (slot n d w i j k) h = ((name-fine source scalars n h.0 i, word-fine source scalars w h.1.1.0 k), tt)
  pieces-fine (parens o c {ts} i e j) h = pieces-fine e (split ts (c ∷ []) h.1).0
  pieces-fine (minus t {ts} {a} i e) h = every-both IsPieceFine a _ (pieces-fine e h.1) (tt, tt)

  -- a syntax of these tokens is fine, and its spans are among theirs
  abbrev IsGood : {X : Type 0} → (X → Type 0) → (X → List Span) → List Token → X → Type 0
  IsGood fine spans ts x = Every ts → fine x × AreAmong (spans x) ts

  good-expr : {ts : List Token} (e : NameExpr) → Expression source Expr ts e.pieces → IsGood IsExprFine expr_spans ts e
  good-expr {ts} e x h =
      let t = expression-tree x in
      let same : t.0 ≡ expr_tree e = some-tree t.0 (expr_tree e) (sym t.1 ∙ tree-found e) in
      (pieces-fine x h, subst (λ a. AreAmong (tree_spans a) ts) same t.2)
    where
      some-tree : (a b : Tree) → Some a ≡ Some b → a ≡ b
      some-tree a b e = cc

  many : {X : Type 0} {P : List Token → X → Type 0} {fine : X → Type 0} {spans : X → List Span} → ((ts : List Token) (x : X) → P ts x → IsGood fine spans ts x)
      → (ts : List Token) (xs : List X) → Many P ts xs → IsGood (AllByRecursion fine) (flat_map spans) ts xs
  many f _ _ none h = (tt, none_left)
  many f _ _ (more {ts} {us} {x} {xs} p m) h = let k = split ts us h in let a = f ts x p k.0 in let b = many f us xs m k.1 in ((a.0, b.0), among-both a.1 b.1)

  good-behind : {X : Type 0} {P : List Token → X → Type 0} {fine : X → Type 0} {spans : X → List Span} (w : Term) → ((ts : List Token) (x : X) → P ts x → IsGood fine spans ts x) → (ts : List Token) (x : X) → After w P ts x → IsGood fine spans ts x
  good-behind w f _ _ (after_token t {ts} {x} i p) h = let a = f ts x p h.1 in (a.0, passed t a.1)

  good-before : {X : Type 0} {P : List Token → X → Type 0} {fine : X → Type 0} {spans : X → List Span} (w : Term) → ((ts : List Token) (x : X) → P ts x → IsGood fine spans ts x) → (ts : List Token) (x : X) → Before P w ts x → IsGood fine spans ts x
  good-before w f _ _ (before t {ts} {x} p i) h = let k = split ts (t ∷ []) h in let a = f ts x p k.0 in (a.0, ended t a.1)

  separated : {X : Type 0} {P : List Token → X → Type 0} {fine : X → Type 0} {spans : X → List Span} (w : Term) → ((ts : List Token) (x : X) → P ts x → IsGood fine spans ts x)
      → (ts : List Token) (xs : List X) → Separated P w ts xs → IsGood (AllByRecursion fine) (flat_map spans) ts xs
  separated w f _ _ no_items h = (tt, none_left)
  separated w f _ _ (items {ts} {us} {x} {xs} p m) h = let k = split ts us h in let a = f ts x p k.0 in let b = many (good-behind w f) us xs m k.1 in ((a.0, b.0), among-both a.1 b.1)

  good-param : (ts : List Token) (p : Param) → IsParam source ts p → IsGood IsParamFine param_spans ts p
  good-param _ _ (param d n c w i j k l) h = ((name-fine source scalars n h.1.0 j, word-fine source scalars w h.1.1.1.0 l), passed d (taken n (passed c (taken w none_left))))

  good-params : (ts : List Token) (ps : List Param) → IsParams source ts ps → IsGood (AllByRecursion IsParamFine) (flat_map param_spans) ts ps
  good-params _ _ (params o c {ts} {ps} i s j) h = let k = split ts (c ∷ []) h.1 in let a = separated (term.Just kind.Comma) good-param ts ps s k.0 in (a.0, between o c a.1)

  good-element : (ts : List Token) (e : Element) → IsElement source ts e → IsGood IsElementFine element_spans ts e
  good-element _ _ (node k n c w i j l m) h = ((name-fine source scalars n h.1.0 j, word-fine source scalars w h.1.1.1.0 m), passed k (taken n (passed c (taken w none_left))))
  good-element _ _ (edge k n a m c w i j l q r s) h = ((name-fine source scalars n h.1.0 j, name-fine source scalars m h.1.1.1.0 q, word-fine source scalars w h.1.1.1.1.1.0 s), passed k (taken n (passed a (taken m (passed c (taken w none_left))))))

  good-simple : (ts : List Token) (s : Simple) → IsSimple source ts s → IsGood IsSimpleFine simple_spans ts s
  good-simple _ _ (mark_element m s {ts} {e} i p j) h = let k = split ts (s ∷ []) h.1 in let a = good-element ts e p k.0 in (a.0, between m s a.1)
  good-simple _ _ (set k n d w a s v {ts} i j l m q e r) h =
      let x = split ts (s ∷ []) h.1.1.1.1.1 in let y = good-expr v e x.0 in
      ((name-fine source scalars n h.1.0 j, word-fine source scalars w h.1.1.1.0 m, y.0), passed k (taken n (passed d (taken w (passed a (ended s y.1))))))
  good-simple _ _ (test k s v {ts} i e j) h = let x = split ts (s ∷ []) h.1 in let y = good-expr v e x.0 in (y.0, taken k (ended s y.1))

  good-item : (ts : List Token) (i : Item) → IsItem source ts i → IsGood IsItemFine item_spans ts i
  good-item _ _ (simple_item {ts} {s} p) h = good-simple ts s p h
  good-item _ _ (forbid k o c {ts} {es} i j m l) h = let x = split ts (c ∷ []) h.1.1 in let y = many (good-before (term.Just kind.Semicolon) good-element) ts es m x.0 in (y.0, passed k (between o c y.1))
  good-item _ _ (require k o c {ts} {es} i j m l) h = let x = split ts (c ∷ []) h.1.1 in let y = many (good-before (term.Just kind.Semicolon) good-element) ts es m x.0 in (y.0, passed k (between o c y.1))
  good-item _ _ (multi k o c {ts} {ss} i j m l) h = let x = split ts (c ∷ []) h.1.1 in let y = many good-simple ts ss m x.0 in (y.0, passed k (between o c y.1))

  good-atom : (ts : List Token) (a : Atom) → IsAtom source ts a → IsGood IsAtomFine atom_spans ts a
  good-atom _ _ (value t i) h = let x = atom-fine source scalars t h.0 in (x.0, subst (λ s. AreAmong s (t ∷ [])) (sym x.1) (taken t none_left))
  good-atom _ _ (negative m t i j) h = (number-fine source scalars t h.1.0, passed m (taken t none_left))

  good-bind : (ts : List Token) (b : Bind) → IsBind source ts b → IsGood IsBindFine bind_spans ts b
  good-bind _ _ (give n e {ts} {a} i j p) h = let x = good-atom ts a p h.1.1 in ((name-fine source scalars n h.0 i, x.0), taken n (passed e x.1))
  good-bind _ _ (take n g v i j k) h = ((name-fine source scalars n h.0 i, name-fine source scalars v h.1.1.0 k), taken n (passed g (taken v none_left)))

  good-call : (ts : List Token) (c : Call) → IsCall source ts c → IsGood IsCallFine call_spans ts c
  good-call _ _ (call n o c {ts} {bs} i j s k) h = let x = split ts (c ∷ []) h.1.1 in let y = separated (term.Just kind.Comma) good-bind ts bs s x.0 in ((name-fine source scalars n h.0 i, y.0), taken n (between o c y.1))

  good-then : (ts : List Token) (c : Call) → CallThen source ts c → IsGood IsCallFine call_spans ts c
  good-then = good-before (term.Just kind.Semicolon) good-call

  good-else : (ts : List Token) (o : Option Call) → Optional (After (term.Just kind.Else) (CallThen source)) ts o → IsGood IsElseFine else_spans ts o
  good-else _ _ absent h = (tt, none_left)
  good-else _ _ (present {ts} {x} p) h = good-behind (term.Just kind.Else) good-then ts x p h

  listed-cases : (k : Kind) (ts : List Token) (cs : List Call) → AllByRecursion IsCallFine cs × AreAmong (flat_map call_spans cs) ts → IsBodyFine (list_body k cs) × AreAmong (body_spans (list_body k cs)) ts
  listed-cases kind.Independent ts cs h = h
  listed-cases kind.Priority ts cs h = h
  listed-cases _ ts cs h = h

  good-body : (ts : List Token) (b : Body) → IsBody source ts b → IsGood IsBodyFine body_spans ts b
  good-body _ _ (call_list k o c {ts} {cs} i j m l) h =
      let x = split ts (c ∷ []) h.1.1 in let y = many good-then ts cs m x.0 in
      listed-cases k.kind (k ∷ o ∷ (ts ++ c ∷ [])) cs (y.0, passed k (between o c y.1))
  good-body _ _ (conditional k o i t c {ts} {us} {vs} {a} {b} {e} p q r x s y z w) h =
      let f = split ts _ h.1.1.1 in let g = split us _ f.1.1 in let j = split vs (c ∷ []) g.1 in
      let l = good-then ts a x f.0 in let m = good-then us b y g.0 in let n = good-else vs e z j.0 in
      ((l.0, m.0, n.0), passed k (passed o (passed i (among-both l.1 (passed t (among-both m.1 (ended c n.1)))))))
  good-body _ _ (loop k o c {ts} {a} i j p l) h = let x = split ts (c ∷ []) h.1.1 in let y = good-then ts a p x.0 in (y.0, passed k (between o c y.1))
  good-body _ _ (iterated k n o c {ts} {a} i j l p m) h =
      let x = split ts (c ∷ []) h.1.1.1 in let y = good-then ts a p x.0 in let z = count-fine source scalars n h.1.0 j in
      ((z.0, y.0), passed k (subst (λ s. AreAmong (s ++ call_spans a) (n ∷ o ∷ (ts ++ c ∷ []))) (sym z.1) (taken n (between o c y.1))))

  good-definition : (ts : List Token) (d : Definition) → IsDefinition source ts d → IsGood IsDefinitionFine definition_spans ts d
  good-definition _ _ (rule k n o c {ts} {us} {ps} {is} i j p l m q) h =
      let x = split ts _ h.1.1 in let y = split us (c ∷ []) x.1.1 in
      let a = good-params ts ps p x.0 in let b = many good-item us is m y.0 in
      ((name-fine source scalars n h.1.0 j, a.0, b.0), passed k (taken n (among-both a.1 (between o c b.1))))
  good-definition _ _ (unit k n {ts} {us} {ps} {b} i j p q) h =
      let x = split ts us h.1.1 in let a = good-params ts ps p x.0 in let e = good-body us b q x.1 in
      ((name-fine source scalars n h.1.0 j, a.0, e.0), passed k (taken n (among-both a.1 e.1)))

  pub well-parsed : PositionsMove → (ts : List Token) (ds : List Definition) → AreTokens source ts → IsText source ts ds → AreWellFormed ds
  well-parsed moves ts ds l t =
      let s : AreSpelt source ts × AreLaid 0 ts = tokens-spelt moves source [] refl refl l in
      let g = many good-definition ts ds t s.0 in
      (g.0, among-in-order 0 g.1 s.1)
