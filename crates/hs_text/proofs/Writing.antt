use Rattle.std.proofs.Common.{ℕ, ◌≡◌, List, [], ◌∷◌, ◌++◌, reverse, Option, refl, ap, sym, subst, ◌∙◌, append_assoc}
use Rattle.std.proofs.lemmas.List.{append-nil}
use Rattle.hs_expr.specs.declared.Piece.{Piece}
use Rattle.hs_expr.specs.declared.Piece.TheVariants as piece
use Rattle.hs_tokens.specs.declared.token.Kind.TheVariants as kind
use Rattle.hs_tokens.specs.declared.token.Token.{Token}
use Rattle.hs_text.specs.declared.grammar.Part.{Part}
use Rattle.hs_text.specs.declared.grammar.Part.TheVariants as part
use Rattle.hs_text.specs.declared.grammar.Production.TheVariants as production
use Rattle.hs_text.specs.declared.grammar.Action.TheVariants as action
use Rattle.hs_text.specs.declared.grammar.Symbol.{Symbol}
use Rattle.hs_text.specs.declared.grammar.Symbol.TheVariants.{Skip, Sub, Act}
use Rattle.hs_text.specs.declared.grammar.Term.TheVariants as term
use Rattle.hs_text.specs.declared.syntax.Param.{Param}
use Rattle.hs_text.specs.declared.syntax.Element.{Element}
use Rattle.hs_text.specs.declared.syntax.Simple.{Simple}
use Rattle.hs_text.specs.declared.syntax.Item.{Item}
use Rattle.hs_text.specs.declared.syntax.Atom.{Atom}
use Rattle.hs_text.specs.declared.syntax.Bind.{Bind}
use Rattle.hs_text.specs.declared.syntax.Call.{Call}
use Rattle.hs_text.specs.declared.syntax.Body.{Body}
use Rattle.hs_text.specs.declared.syntax.Definition.{Definition}
use Rattle.hs_text.specs.declared.builder.Builder.{Builder}
use Rattle.hs_text.specs.Terms.{Is}
use Rattle.hs_text.specs.Words.{sign_of}
use Rattle.hs_text.specs.Lists.{Many, none, more, Optional, absent, present, After, after_token, before, Separated, no_items, items}
use Rattle.hs_text.specs.Grammar.{Level, Expr, Or, Conj, And, Neg, Cmp, Comparison, Sum, Addition, Prod, Product, Fact, Expression, expr, no_or, or, conj, no_and, and, not, neg, cmp, no_comparison, comparison, sum, no_addition, addition, prod, no_product, product, literal, name, slot, parens, minus, IsParam, param, IsParams, params, IsElement, node, edge, IsSimple, mark_element, set, test, Elements, IsItem, simple_item, forbid, require, multi, IsAtom, value, negative, IsBind, give, take, IsCall, call, CallThen, IsBody, call_list, conditional, loop, iterated, IsDefinition, rule, unit, IsText}
use Rattle.hs_text.specs.Building.{with_token, with_unit, with_value, last_token, below_one}
use Rattle.hs_text.specs.Machine.{Derives, done, skip, keep, act, by}
use Rattle.hs_text.proofs.Effects.{Scratch, Fresh, else_built, rev-more, forbid-same, require-same, multi-same, set-same, where-same, rule-same, unit-same, call-same, listed-same, else-same, no-pieces, then-pieces, chain-pieces}

-- WHAT IS READ IS DERIVED

module _ (source : List ℕ) where
  at-tokens : {ss : List Symbol} {ts us : List Token} {b f : Builder} → ts ≡ us → Derives source ss us b f → Derives source ss ts b f
  at-tokens {ss} {ts} {us} {b} {f} e d = subst (λ x. Derives source ss x b f) (sym e) d

  at-builder : {ss : List Symbol} {ts : List Token} {b c f : Builder} → b ≡ c → Derives source ss ts c f → Derives source ss ts b f
  at-builder {ss} {ts} {b} {c} {f} e d = subst (λ x. Derives source ss ts x f) (sym e) d

  write-param : {us : List Token} {p : Param} → IsParam source us p → (ss : List Symbol) (vs : List Token) (b f : Builder) → Derives source ss vs (record b { params = b.params ++ p ∷ [] }) f → Derives source (Sub part.Param ∷ ss) (us ++ vs) b f
  write-param (param d n c w i j x y) ss vs b f k = by production.Param refl (keep i (keep j (skip x (keep y (act k)))))

  write-params-tail : {us : List Token} {ps : List Param} → Many (After (term.Just kind.Comma) (IsParam source)) us ps → (ss : List Symbol) (vs : List Token) (b f : Builder) → Derives source ss vs (record b { params = b.params ++ ps }) f → Derives source (Sub part.ParamsTail ∷ ss) (us ++ vs) b f
  write-params-tail none ss vs b f k = by production.ParamLast refl (at-builder (ap (λ x. record b { params = x }) (sym (append-nil b.params))) k)
  write-params-tail (more {us} {x} {xs} (after_token t {ts} i p) r) ss vs b f k =
      by production.ParamNext refl (skip i (at-tokens (append_assoc ts us vs) (write-param p (Sub part.ParamsTail ∷ ss) (us ++ vs) b f
      (write-params-tail r ss vs (record b { params = b.params ++ x ∷ [] }) f (at-builder (ap (λ z. record b { params = z }) (append_assoc b.params (x ∷ []) xs)) k)))))

  write-param-list : {us : List Token} {ps : List Param} → Separated (IsParam source) (term.Just kind.Comma) us ps → (ss : List Symbol) (vs : List Token) (b f : Builder) → Derives source ss vs (record b { params = b.params ++ ps }) f → Derives source (Sub part.ParamList ∷ ss) (us ++ vs) b f
  write-param-list no_items ss vs b f k = by production.ParamNone refl (at-builder (ap (λ x. record b { params = x }) (sym (append-nil b.params))) k)
  write-param-list (items {ts} {us} {x} {xs} p r) ss vs b f k = by production.ParamFirst refl (at-tokens (append_assoc ts us vs) (write-param p (Sub part.ParamsTail ∷ ss) (us ++ vs) b f
      (write-params-tail r ss vs (record b { params = b.params ++ x ∷ [] }) f (at-builder (ap (λ z. record b { params = z }) (append_assoc b.params (x ∷ []) xs)) k))))

  write-params : {us : List Token} {ps : List Param} → IsParams source us ps → (ss : List Symbol) (vs : List Token) (b f : Builder) → Derives source ss vs (record b { params = b.params ++ ps }) f → Derives source (Sub part.Params ∷ ss) (us ++ vs) b f
  write-params (params o c {ts} {ps} i s j) ss vs b f k = by production.Params refl (skip i (at-tokens (append_assoc ts (c ∷ []) vs) (write-param-list s (Skip kind.RightParen ∷ ss) (c ∷ vs) b f (skip j k))))

  write-element : {us : List Token} {e : Element} → IsElement source us e → (ss : List Symbol) (vs : List Token) (b f : Builder) → Derives source ss vs (record b { elements = e ∷ b.elements }) f → Derives source (Sub part.Element ∷ ss) (us ++ vs) b f
  write-element (node k n c w i j x y) ss vs b f d = by production.ElementNode refl (skip i (keep j (skip x (keep y (act d)))))
  write-element (edge k n a m c w i j x y z l) ss vs b f d = by production.ElementEdge refl (skip i (keep j (skip x (keep y (skip z (keep l (act d)))))))

  write-elements : {us : List Token} {es : List Element} → Elements source us es → (ss : List Symbol) (vs : List Token) (b f : Builder) → Derives source ss vs (record b { elements = reverse es ++ b.elements }) f → Derives source (Sub part.Elements ∷ ss) (us ++ vs) b f
  write-elements none ss vs b f k = by production.ElementEnd refl k
  write-elements (more {us} {x} {xs} (before t {ts} p i) r) ss vs b f k =
      by production.ElementMore refl (at-tokens (append_assoc (ts ++ t ∷ []) us vs ∙ append_assoc ts (t ∷ []) (us ++ vs)) (write-element p (Skip kind.Semicolon ∷ Sub part.Elements ∷ ss) (t ∷ (us ++ vs)) b f
      (skip i (write-elements r ss vs (record b { elements = x ∷ b.elements }) f (at-builder (ap (λ z. record b { elements = z }) (rev-more x xs b.elements)) k)))))

  -- where an expression of a level begins
  part-of : Level → Part
  part-of Expr = part.Expr
  part-of Or = part.OrTail
  part-of Conj = part.Conj
  part-of And = part.AndTail
  part-of Neg = part.Neg
  part-of Cmp = part.Cmp
  part-of Comparison = part.CmpTail
  part-of Sum = part.Sum
  part-of Addition = part.SumTail
  part-of Prod = part.Prod
  part-of Product = part.ProdTail
  part-of Fact = part.Fact

  write-expr : {l : Level} {us : List Token} {ps : List Piece} → Expression source l us ps → (ss : List Symbol) (vs : List Token) (b f : Builder) → Derives source ss vs (record b { pieces = b.pieces ++ ps }) f → Derives source (Sub (part-of l) ∷ ss) (us ++ vs) b f
  unfolding part-of
  write-expr (expr {ts} {us} {a = left} {b = bs} x y) ss vs b f k = by production.Expr refl (at-tokens (append_assoc ts us vs) (write-expr x (Sub part.OrTail ∷ ss) (us ++ vs) b f (write-expr y ss vs (record b { pieces = b.pieces ++ left }) f (at-builder (then-pieces b left bs) k))))
  write-expr no_or ss vs b f k = by production.OrEnd refl (at-builder (no-pieces b) k)
  write-expr (or t {ts} {us} {a = left} {b = bs} i x y) ss vs b f k = by production.OrMore refl (keep i (at-tokens (append_assoc ts us vs) (write-expr x (Act action.Binary ∷ Sub part.OrTail ∷ ss) (us ++ vs) (with_token t b) f (act (write-expr y ss vs (record b { pieces = (b.pieces ++ left) ++ piece.Binary (sign_of t.kind) t.span ∷ [] }) f (at-builder (chain-pieces b left bs (piece.Binary (sign_of t.kind) t.span)) k))))))
  write-expr (conj {ts} {us} {a = left} {b = bs} x y) ss vs b f k = by production.Conj refl (at-tokens (append_assoc ts us vs) (write-expr x (Sub part.AndTail ∷ ss) (us ++ vs) b f (write-expr y ss vs (record b { pieces = b.pieces ++ left }) f (at-builder (then-pieces b left bs) k))))
  write-expr no_and ss vs b f k = by production.AndEnd refl (at-builder (no-pieces b) k)
  write-expr (and t {ts} {us} {a = left} {b = bs} i x y) ss vs b f k = by production.AndMore refl (keep i (at-tokens (append_assoc ts us vs) (write-expr x (Act action.Binary ∷ Sub part.AndTail ∷ ss) (us ++ vs) (with_token t b) f (act (write-expr y ss vs (record b { pieces = (b.pieces ++ left) ++ piece.Binary (sign_of t.kind) t.span ∷ [] }) f (at-builder (chain-pieces b left bs (piece.Binary (sign_of t.kind) t.span)) k))))))
  write-expr (not t {ts} {a = left} i x) ss vs b f k = by production.NegNot refl (keep i (write-expr x (Act action.Not ∷ ss) vs (with_token t b) f (act (at-builder (then-pieces b left (piece.Not t.span ∷ [])) k))))
  write-expr (neg x) ss vs b f k = by production.NegCmp refl (write-expr x ss vs b f k)
  write-expr (cmp {ts} {us} {a = left} {b = bs} x y) ss vs b f k = by production.Cmp refl (at-tokens (append_assoc ts us vs) (write-expr x (Sub part.CmpTail ∷ ss) (us ++ vs) b f (write-expr y ss vs (record b { pieces = b.pieces ++ left }) f (at-builder (then-pieces b left bs) k))))
  write-expr no_comparison ss vs b f k = by production.CmpEnd refl (at-builder (no-pieces b) k)
  write-expr (comparison t {ts} {a = left} i x) ss vs b f k = by production.CmpMore refl (keep i (write-expr x (Act action.Binary ∷ ss) vs (with_token t b) f (act (at-builder (then-pieces b left (piece.Binary (sign_of t.kind) t.span ∷ [])) k))))
  write-expr (sum {ts} {us} {a = left} {b = bs} x y) ss vs b f k = by production.Sum refl (at-tokens (append_assoc ts us vs) (write-expr x (Sub part.SumTail ∷ ss) (us ++ vs) b f (write-expr y ss vs (record b { pieces = b.pieces ++ left }) f (at-builder (then-pieces b left bs) k))))
  write-expr no_addition ss vs b f k = by production.SumEnd refl (at-builder (no-pieces b) k)
  write-expr (addition t {ts} {us} {a = left} {b = bs} i x y) ss vs b f k = by production.SumMore refl (keep i (at-tokens (append_assoc ts us vs) (write-expr x (Act action.Binary ∷ Sub part.SumTail ∷ ss) (us ++ vs) (with_token t b) f (act (write-expr y ss vs (record b { pieces = (b.pieces ++ left) ++ piece.Binary (sign_of t.kind) t.span ∷ [] }) f (at-builder (chain-pieces b left bs (piece.Binary (sign_of t.kind) t.span)) k))))))
  write-expr (prod {ts} {us} {a = left} {b = bs} x y) ss vs b f k = by production.Prod refl (at-tokens (append_assoc ts us vs) (write-expr x (Sub part.ProdTail ∷ ss) (us ++ vs) b f (write-expr y ss vs (record b { pieces = b.pieces ++ left }) f (at-builder (then-pieces b left bs) k))))
  write-expr no_product ss vs b f k = by production.ProdEnd refl (at-builder (no-pieces b) k)
  write-expr (product t {ts} {us} {a = left} {b = bs} i x y) ss vs b f k = by production.ProdMore refl (keep i (at-tokens (append_assoc ts us vs) (write-expr x (Act action.Binary ∷ Sub part.ProdTail ∷ ss) (us ++ vs) (with_token t b) f (act (write-expr y ss vs (record b { pieces = (b.pieces ++ left) ++ piece.Binary (sign_of t.kind) t.span ∷ [] }) f (at-builder (chain-pieces b left bs (piece.Binary (sign_of t.kind) t.span)) k))))))
  write-expr (literal t i) ss vs b f k = by production.FactLiteral refl (keep i (act k))
  write-expr (name n i) ss vs b f k = by production.FactName refl (keep i (by production.SlotNone refl (act k)))
  write-expr (slot n d w i j x) ss vs b f k = by production.FactName refl (keep i (by production.SlotDot refl (skip j (keep x (act k)))))
  write-expr (parens o c {ts} {a = left} i x j) ss vs b f k = by production.FactParens refl (skip i (at-tokens (append_assoc ts (c ∷ []) vs) (write-expr x (Skip kind.RightParen ∷ ss) (c ∷ vs) b f (skip j k))))
  write-expr (minus t {ts} {a = left} i x) ss vs b f k = by production.FactMinus refl (keep i (write-expr x (Act action.Minus ∷ ss) vs (with_token t b) f (act (at-builder (then-pieces b left (piece.Minus t.span ∷ [])) k))))

  write-simple : {us : List Token} {s : Simple} → IsSimple source us s → (ss : List Symbol) (vs : List Token) (b f : Builder) → b.pieces ≡ [] → Derives source ss vs (record b { simples = s ∷ b.simples }) f → Derives source (Sub part.Simple ∷ ss) (us ++ vs) b f
  unfolding part-of
  write-simple (mark_element m s {ts} {e} i x j) ss vs b f h k = by production.SimpleElement refl (keep i (at-tokens (append_assoc ts (s ∷ []) vs) (write-element x (Skip kind.Semicolon ∷ Act action.Marked ∷ ss) (s ∷ vs) (with_token m b) f (skip j (act k)))))
  write-simple (set q n d w a s v {ts} i j x y z e l) ss vs b f h k = by production.SimpleSet refl (skip i (keep j (skip x (keep y (skip z (at-tokens (append_assoc ts (s ∷ []) vs) (write-expr e (Skip kind.Semicolon ∷ Act action.Set ∷ ss) (s ∷ vs) (with_token w (with_token n b)) f (skip l (act (at-builder (set-same source b n w v h) k))))))))))
  write-simple (test q s v {ts} i e j) ss vs b f h k = by production.SimpleWhere refl (keep i (at-tokens (append_assoc ts (s ∷ []) vs) (write-expr e (Skip kind.Semicolon ∷ Act action.Where ∷ ss) (s ∷ vs) (with_token q b) f (skip j (act (at-builder (where-same source b q v h) k))))))

  write-simples : {us : List Token} {xs : List Simple} → Many (IsSimple source) us xs → (ss : List Symbol) (vs : List Token) (b f : Builder) → b.pieces ≡ [] → Derives source ss vs (record b { simples = reverse xs ++ b.simples }) f → Derives source (Sub part.Simples ∷ ss) (us ++ vs) b f
  write-simples none ss vs b f h k = by production.SimpleEnd refl k
  write-simples (more {ts} {us} {x} {xs} p r) ss vs b f h k = by production.SimpleMore refl (at-tokens (append_assoc ts us vs) (write-simple p (Sub part.Simples ∷ ss) (us ++ vs) b f h
      (write-simples r ss vs (record b { simples = x ∷ b.simples }) f h (at-builder (ap (λ z. record b { simples = z }) (rev-more x xs b.simples)) k))))

  write-item : {us : List Token} {i : Item} → IsItem source us i → (ss : List Symbol) (vs : List Token) (b f : Builder) → Scratch b → Derives source ss vs (record b { items = b.items ++ i ∷ [] }) f → Derives source (Sub part.Item ∷ ss) (us ++ vs) b f
  write-item (simple_item x) ss vs b f h k = by production.ItemSimple refl (write-simple x (Act action.Plain ∷ ss) vs b f h.2 (act k))
  write-item (forbid q o c {ts} {es} i j e x) ss vs b f h k = by production.ItemForbid refl (skip i (skip j (at-tokens (append_assoc ts (c ∷ []) vs) (write-elements e (Skip kind.RightBrace ∷ Act action.Forbid ∷ ss) (c ∷ vs) b f (skip x (act (at-builder (forbid-same source b es h.0) k)))))))
  write-item (require q o c {ts} {es} i j e x) ss vs b f h k = by production.ItemRequire refl (skip i (skip j (at-tokens (append_assoc ts (c ∷ []) vs) (write-elements e (Skip kind.RightBrace ∷ Act action.Require ∷ ss) (c ∷ vs) b f (skip x (act (at-builder (require-same source b es h.0) k)))))))
  write-item (multi q o c {ts} {ss = xs} i j e x) ss vs b f h k = by production.ItemMulti refl (skip i (skip j (at-tokens (append_assoc ts (c ∷ []) vs) (write-simples e (Skip kind.RightBrace ∷ Act action.Multi ∷ ss) (c ∷ vs) b f h.2 (skip x (act (at-builder (multi-same source b xs h.1) k)))))))

  write-items : {us : List Token} {is : List Item} → Many (IsItem source) us is → (ss : List Symbol) (vs : List Token) (b f : Builder) → Scratch b → Derives source ss vs (record b { items = b.items ++ is }) f → Derives source (Sub part.Items ∷ ss) (us ++ vs) b f
  write-items none ss vs b f h k = by production.ItemEnd refl (at-builder (ap (λ x. record b { items = x }) (sym (append-nil b.items))) k)
  write-items (more {ts} {us} {x} {xs} p r) ss vs b f h k = by production.ItemMore refl (at-tokens (append_assoc ts us vs) (write-item p (Sub part.Items ∷ ss) (us ++ vs) b f h
      (write-items r ss vs (record b { items = b.items ++ x ∷ [] }) f h (at-builder (ap (λ z. record b { items = z }) (append_assoc b.items (x ∷ []) xs)) k))))

  write-atom : {us : List Token} {a : Atom} → IsAtom source us a → (ss : List Symbol) (vs : List Token) (b f : Builder) → Derives source ss vs (with_value source b (last_token b) (below_one b) a) f → Derives source (Sub part.Value ∷ ss) (us ++ vs) b f
  write-atom (value t i) ss vs b f k = by production.ValueAtom refl (keep i (act k))
  write-atom (negative m t i j) ss vs b f k = by production.ValueMinus refl (skip i (keep j (act k)))

  write-bind : {us : List Token} {x : Bind} → IsBind source us x → (ss : List Symbol) (vs : List Token) (b f : Builder) → Derives source ss vs (record b { binds = b.binds ++ x ∷ [] }) f → Derives source (Sub part.Bind ∷ ss) (us ++ vs) b f
  write-bind (give n e i j x) ss vs b f k = by production.Bind refl (keep i (by production.BoundValue refl (skip j (write-atom x ss vs (with_token n b) f k))))
  write-bind (take n g v i j x) ss vs b f k = by production.Bind refl (keep i (by production.BoundVariable refl (skip j (keep x (act k)))))

  write-binds-tail : {us : List Token} {ps : List Bind} → Many (After (term.Just kind.Comma) (IsBind source)) us ps → (ss : List Symbol) (vs : List Token) (b f : Builder) → Derives source ss vs (record b { binds = b.binds ++ ps }) f → Derives source (Sub part.BindsTail ∷ ss) (us ++ vs) b f
  write-binds-tail none ss vs b f k = by production.BindLast refl (at-builder (ap (λ x. record b { binds = x }) (sym (append-nil b.binds))) k)
  write-binds-tail (more {us} {x} {xs} (after_token t {ts} i p) r) ss vs b f k =
      by production.BindNext refl (skip i (at-tokens (append_assoc ts us vs) (write-bind p (Sub part.BindsTail ∷ ss) (us ++ vs) b f
      (write-binds-tail r ss vs (record b { binds = b.binds ++ x ∷ [] }) f (at-builder (ap (λ z. record b { binds = z }) (append_assoc b.binds (x ∷ []) xs)) k)))))

  write-bind-list : {us : List Token} {bs : List Bind} → Separated (IsBind source) (term.Just kind.Comma) us bs → (ss : List Symbol) (vs : List Token) (b f : Builder) → Derives source ss vs (record b { binds = b.binds ++ bs }) f → Derives source (Sub part.BindList ∷ ss) (us ++ vs) b f
  write-bind-list no_items ss vs b f k = by production.BindNone refl (at-builder (ap (λ x. record b { binds = x }) (sym (append-nil b.binds))) k)
  write-bind-list (items {ts} {us} {x} {xs} p r) ss vs b f k = by production.BindFirst refl (at-tokens (append_assoc ts us vs) (write-bind p (Sub part.BindsTail ∷ ss) (us ++ vs) b f
      (write-binds-tail r ss vs (record b { binds = b.binds ++ x ∷ [] }) f (at-builder (ap (λ z. record b { binds = z }) (append_assoc b.binds (x ∷ []) xs)) k))))

  write-call : {us : List Token} {c : Call} → IsCall source us c → (ss : List Symbol) (vs : List Token) (b f : Builder) → b.binds ≡ [] → Derives source ss vs (record b { calls = c ∷ b.calls }) f → Derives source (Sub part.Call ∷ ss) (us ++ vs) b f
  write-call (call n o c {ts} {bs} i j s x) ss vs b f h k = by production.Call refl (keep i (skip j (at-tokens (append_assoc ts (c ∷ []) vs)
      (write-bind-list s (Skip kind.RightParen ∷ Act action.Call ∷ ss) (c ∷ vs) (with_token n b) f (skip x (act (at-builder (call-same source b n bs h) k)))))))

  -- A call and the semicolon after it.
  write-call-then : {us : List Token} {c : Call} → CallThen source us c → (ss : List Symbol) (vs : List Token) (b f : Builder) → b.binds ≡ [] → Derives source ss vs (record b { calls = c ∷ b.calls }) f → Derives source (Sub part.Call ∷ Skip kind.Semicolon ∷ ss) (us ++ vs) b f
  write-call-then (before t {ts} p i) ss vs b f h k = at-tokens (append_assoc ts (t ∷ []) vs) (write-call p (Skip kind.Semicolon ∷ ss) (t ∷ vs) b f h (skip i k))

  write-calls : {us : List Token} {cs : List Call} → Many (CallThen source) us cs → (ss : List Symbol) (vs : List Token) (b f : Builder) → b.binds ≡ [] → Derives source ss vs (record b { calls = reverse cs ++ b.calls }) f → Derives source (Sub part.Calls ∷ ss) (us ++ vs) b f
  write-calls none ss vs b f h k = by production.CallEnd refl k
  write-calls (more {ts} {us} {x} {xs} p r) ss vs b f h k = by production.CallMore refl (at-tokens (append_assoc ts us vs) (write-call-then p (Sub part.Calls ∷ ss) (us ++ vs) b f h
      (write-calls r ss vs (record b { calls = x ∷ b.calls }) f h (at-builder (ap (λ z. record b { calls = z }) (rev-more x xs b.calls)) k))))

  write-else : {us : List Token} {e : Option Call} → Optional (After (term.Just kind.Else) (CallThen source)) us e → (c : Token) → Is (term.Just kind.RightBrace) c → (ss : List Symbol) (vs : List Token) (b f : Builder) → b.binds ≡ [] → Derives source ss vs (else_built source b e) f → Derives source (Sub part.Else ∷ ss) (us ++ (c ∷ vs)) b f
  write-else absent c i ss vs b f h k = by production.ElseNone refl (skip i (act k))
  write-else (present (after_token t j p)) c i ss vs b f h k = by production.ElseSome refl (skip j (write-call-then p (Skip kind.RightBrace ∷ Act action.IfElse ∷ ss) (c ∷ vs) b f h (skip i (act k))))

  write-body : {us : List Token} {y : Body} → IsBody source us y → (ss : List Symbol) (vs : List Token) (b f : Builder) → b.calls ≡ [] → b.binds ≡ [] → Derives source ss vs (with_unit source b y) f → Derives source (Sub part.Body ∷ ss) (us ++ vs) b f
  write-body (call_list q o c {ts} {cs} i j e x) ss vs b f g h k = by production.BodyListed refl (keep i (skip j (at-tokens (append_assoc ts (c ∷ []) vs) (write-calls e (Skip kind.RightBrace ∷ Act action.Listed ∷ ss) (c ∷ vs) (with_token q b) f h (skip x (act (at-builder (listed-same source b q cs g) k)))))))
  write-body (conditional q o i1 h1 c {ts} {us} {vs = ws} {a = a1} {b = a2} {e} i j x p y r z w) ss vs b f g h k =
      by production.BodyConditional refl (skip i (skip j (skip x (at-tokens (append_assoc ts (h1 ∷ (us ++ (ws ++ c ∷ []))) vs ∙ ap (λ v. ts ++ (h1 ∷ v)) (append_assoc us (ws ++ c ∷ []) vs ∙ ap (λ v. us ++ v) (append_assoc ws (c ∷ []) vs)))
      (write-call-then p (Skip kind.Then ∷ Sub part.Call ∷ Skip kind.Semicolon ∷ Sub part.Else ∷ ss) (h1 ∷ (us ++ (ws ++ (c ∷ vs)))) b f h (skip y
      (write-call-then r (Sub part.Else ∷ ss) (ws ++ (c ∷ vs)) (record b { calls = a1 ∷ b.calls }) f h
      (write-else z c w ss vs (record b { calls = a2 ∷ a1 ∷ b.calls }) f h (at-builder (else-same source b a1 a2 e) k)))))))))
  write-body (loop q o c {ts} {a} i j p x) ss vs b f g h k = by production.BodyLoop refl (skip i (skip j (at-tokens (append_assoc ts (c ∷ []) vs) (write-call-then p (Skip kind.RightBrace ∷ Act action.Loop ∷ ss) (c ∷ vs) b f h (skip x (act k))))))
  write-body (iterated q n o c {ts} {a} i l j p x) ss vs b f g h k = by production.BodyIterated refl (skip i (keep l (skip j (at-tokens (append_assoc ts (c ∷ []) vs) (write-call-then p (Skip kind.RightBrace ∷ Act action.Iterated ∷ ss) (c ∷ vs) (with_token n b) f h (skip x (act k)))))))

  write-definition : {us : List Token} {d : Definition} → IsDefinition source us d → (ss : List Symbol) (vs : List Token) (b f : Builder) → Fresh b → Derives source ss vs (record b { definitions = b.definitions ++ d ∷ [] }) f → Derives source (Sub part.Definition ∷ ss) (us ++ vs) b f
  write-definition (rule q n o c {ts} {us} {ps} {is} i j p x r y) ss vs b f h k =
      by production.RuleDefinition refl (skip i (keep j (at-tokens (append_assoc ts (o ∷ (us ++ c ∷ [])) vs ∙ ap (λ v. ts ++ (o ∷ v)) (append_assoc us (c ∷ []) vs))
      (write-params p (Skip kind.LeftBrace ∷ Sub part.Items ∷ Skip kind.RightBrace ∷ Act action.Rule ∷ ss) (o ∷ (us ++ (c ∷ vs))) (with_token n b) f (skip x
      (write-items r (Skip kind.RightBrace ∷ Act action.Rule ∷ ss) (c ∷ vs) (record (with_token n b) { params = b.params ++ ps }) f (h.2, h.3, h.4) (skip y (act (at-builder (rule-same source b n ps is h.0 h.1) k)))))))))
  write-definition (unit q n {ts} {us} {ps} {b = y} i j p r) ss vs b f h k =
      by production.UnitDefinition refl (skip i (keep j (at-tokens (append_assoc ts us vs) (write-params p (Sub part.Body ∷ ss) (us ++ vs) (with_token n b) f
      (write-body r ss vs (record (with_token n b) { params = b.params ++ ps }) f h.5 h.6 (at-builder (unit-same source b n ps y h.0) k))))))

  write-text : {us : List Token} {ds : List Definition} → IsText source us ds → (ss : List Symbol) (vs : List Token) (b f : Builder) → Fresh b → Derives source ss vs (record b { definitions = b.definitions ++ ds }) f → Derives source (Sub part.Text ∷ ss) (us ++ vs) b f
  write-text none ss vs b f h k = by production.TextEnd refl (at-builder (ap (λ x. record b { definitions = x }) (sym (append-nil b.definitions))) k)
  write-text (more {ts} {us} {x} {xs} p r) ss vs b f h k = by production.TextMore refl (at-tokens (append_assoc ts us vs) (write-definition p (Sub part.Text ∷ ss) (us ++ vs) b f h
      (write-text r ss vs (record b { definitions = b.definitions ++ x ∷ [] }) f h (at-builder (ap (λ z. record b { definitions = z }) (append_assoc b.definitions (x ∷ []) xs)) k))))

  -- what is a text is derived
  pub written : {ts : List Token} {ds : List Definition} (b : Builder) → Fresh b → IsText source ts ds → Derives source (Sub part.Text ∷ []) ts b (record b { definitions = b.definitions ++ ds })
  written {ts} {ds} b h t = at-tokens (sym (append-nil ts)) (write-text t [] [] b (record b { definitions = b.definitions ++ ds }) h done)
