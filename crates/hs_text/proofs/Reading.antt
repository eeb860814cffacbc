use Rattle.std.proofs.Common.{ℕ, true, ◌≡◌, inl, inr, List, [], ◌∷◌, ◌++◌, reverse, Some, None, refl, ap, sym, subst, ◌∙◌, append_assoc}
use Rattle.std.proofs.lemmas.List.{append-nil}
use Rattle.hs_expr.specs.declared.Piece.{Piece}
use Rattle.hs_expr.specs.declared.Piece.TheVariants as piece
use Rattle.hs_tokens.specs.declared.token.Kind.{Kind}
use Rattle.hs_tokens.specs.declared.token.Token.{Token}
use Rattle.hs_tokens.specs.Kinds.{same}
use Rattle.hs_text.specs.declared.grammar.Part.{Part}
use Rattle.hs_text.specs.declared.grammar.Part.TheVariants as part
use Rattle.hs_text.specs.declared.grammar.Production.{Production}
use Rattle.hs_text.specs.declared.grammar.Production.TheVariants as production
use Rattle.hs_text.specs.declared.grammar.Action.{Action}
use Rattle.hs_text.specs.declared.grammar.Action.TheVariants as action
use Rattle.hs_text.specs.declared.grammar.Symbol.{Symbol}
use Rattle.hs_text.specs.declared.grammar.Symbol.TheVariants.{Skip, Keep, Sub, Act}
use Rattle.hs_text.specs.declared.grammar.Term.{Term}
use Rattle.hs_text.specs.declared.syntax.Simple.{Simple}
use Rattle.hs_text.specs.declared.syntax.Simple.TheVariants as simple
use Rattle.hs_text.specs.declared.syntax.Item.{Item}
use Rattle.hs_text.specs.declared.syntax.Item.TheVariants as item
use Rattle.hs_text.specs.declared.syntax.Bind.TheVariants as bind
use Rattle.hs_text.specs.declared.syntax.Call.{Call}
use Rattle.hs_text.specs.declared.syntax.Body.TheVariants as body
use Rattle.hs_text.specs.declared.syntax.Definition.{Definition}
use Rattle.hs_text.specs.declared.syntax.Definition.TheVariants as definition
use Rattle.hs_text.specs.declared.builder.Builder.{Builder}
use Rattle.hs_text.specs.Terms.{matches}
use Rattle.hs_text.specs.Words.{name_of, mark_of, sign_of, list_body, count_of}
use Rattle.hs_text.specs.Lists.{Many, none, more, absent, present, after_token, before, no_items, items}
use Rattle.hs_text.specs.Grammar.{Level, Expr, Or, Conj, And, Neg, Cmp, Comparison, Sum, Addition, Prod, Product, Fact, Expression, expr, no_or, or, conj, no_and, and, not, neg, cmp, no_comparison, comparison, sum, no_addition, addition, prod, no_product, product, literal, name, slot, parens, minus, param, params, node, edge, IsSimple, mark_element, set, test, IsItem, simple_item, forbid, require, multi, value, negative, IsBind, give, take, IsCall, call, CallThen, IsBody, call_list, conditional, loop, iterated, IsDefinition, rule, unit, IsText}
use Rattle.hs_text.specs.Building.{with_token, builder_after}
use Rattle.hs_text.specs.Machine.{Derives, done, skip, keep, act, by, part_of, right_side}
use Rattle.hs_expr.proofs.OneTree.{record_of}
use Rattle.hs_text.proofs.Expressions.{expression-one}
use Rattle.hs_text.proofs.Effects.{Fresh, Writes, SlotEffect, ElseEffect, BoundEffect, Effect, rev-more, forbid-same, require-same, multi-same, set-same, where-same, rule-same, unit-same, call-same, listed-same, else-same, no-pieces, then-pieces, chain-pieces}

-- WHAT IS DERIVED IS READ

-- the tokens, split by the symbols
data Split (source : List ℕ) : List Symbol → List Token → Builder → Builder → Type 0 where
  s-nil : {b : Builder} → Split source [] [] b b
  s-skip : {k : Kind} {ss : List Symbol} {ts : List Token} {b f : Builder} (t : Token) → same k t.kind ≡ true → Split source ss ts b f → Split source (Skip k ∷ ss) (t ∷ ts) b f
  s-keep : {w : Term} {ss : List Symbol} {ts : List Token} {b f : Builder} (t : Token) → matches w t.kind ≡ true → Split source ss ts (with_token t b) f → Split source (Keep w ∷ ss) (t ∷ ts) b f
  s-act : {a : Action} {ss : List Symbol} {ts : List Token} {b f : Builder} → Split source ss ts (builder_after source a b) f → Split source (Act a ∷ ss) ts b f
  s-sub : {n : Part} {ss : List Symbol} {b f : Builder} (us vs : List Token) (m : Builder) → Effect source n us b m → Split source ss vs m f → Split source (Sub n ∷ ss) (us ++ vs) b f

module _ (source : List ℕ) where
  joined : (n : Part) (ss : List Symbol) (b f m : Builder) (us vs ts : List Token) → Effect source n us b m → Split source ss vs m f → us ++ vs ≡ ts → Split source (Sub n ∷ ss) ts b f
  joined n ss b f m us vs ts e r w = subst (λ x. Split source (Sub n ∷ ss) x b f) w (s-sub us vs m e r)

  one-same : (b : Builder) (ps : List Piece) (p : Piece) → record b { pieces = (b.pieces ++ ps) ++ p ∷ [] } ≡ record b { pieces = b.pieces ++ (ps ++ p ∷ []) }
  one-same b ps p = ap (λ x. record b { pieces = x }) (append_assoc b.pieces ps (p ∷ []))

  -- one after another
  both : (l k h : Level) (us vs : List Token) (b m f : Builder) → ((ts ys : List Token) (xs zs : List Piece) → Expression source l ts xs → Expression source k ys zs → Expression source h (ts ++ ys) (xs ++ zs))
      → Writes source l us b m → Writes source k vs m f → Writes source h (us ++ vs) b f
  both l k h us vs b m f join e g =
      let g' : Writes source k vs (record b { pieces = b.pieces ++ e.0 }) f = subst (λ x. Writes source k vs x f) e.2 g in
      (e.0 ++ g'.0, join us vs e.0 g'.0 e.1 g'.1, g'.2 ∙ then-pieces b e.0 g'.0)

  -- an operator, an operand and what follows
  binary-step : (t : Token) (b m : Builder) (ps : List Piece) → m ≡ record (with_token t b) { pieces = b.pieces ++ ps } → builder_after source action.Binary m ≡ record b { pieces = (b.pieces ++ ps) ++ piece.Binary (sign_of t.kind) t.span ∷ [] }
  binary-step t b m ps e = ap (builder_after source action.Binary) e

  chained : (l k : Level) (t : Token) (us vs : List Token) (b m f : Builder) → ((ts ys : List Token) (xs zs : List Piece) → Expression source l ts xs → Expression source k ys zs → Expression source k (t ∷ (ts ++ ys)) (xs ++ (piece.Binary (sign_of t.kind) t.span ∷ zs)))
      → Writes source l us (with_token t b) m → Writes source k vs (builder_after source action.Binary m) f → Writes source k (t ∷ (us ++ vs)) b f
  chained l k t us vs b m f join e g =
      let g' : Writes source k vs (record b { pieces = (b.pieces ++ e.0) ++ piece.Binary (sign_of t.kind) t.span ∷ [] }) f = subst (λ x. Writes source k vs x f) (binary-step t b m e.0 e.2) g in
      (e.0 ++ (piece.Binary (sign_of t.kind) t.span ∷ g'.0), join us vs e.0 g'.0 e.1 g'.1, g'.2 ∙ chain-pieces b e.0 g'.0 (piece.Binary (sign_of t.kind) t.span))

  production-split : (p : Production) (ss : List Symbol) (ts : List Token) (b f : Builder) → Split source (right_side p ++ ss) ts b f → Split source (Sub (part_of p) ∷ ss) ts b f
  production-split production.TextMore ss _ b f (s-sub us _ m e (s-sub vs ws n g r)) =
      joined part.Text ss b f n (us ++ vs) ws _ (λ fresh.
      let d : (d : Definition) × IsDefinition source us d × (m ≡ record b { definitions = b.definitions ++ d ∷ [] }) = e fresh in
      let g' : Effect source part.Text vs (record b { definitions = b.definitions ++ d.0 ∷ [] }) n = subst (λ x. Effect source part.Text vs x n) d.2 g in
      let q = g' fresh in
      (d.0 ∷ q.0, more d.1 q.1, q.2 ∙ ap (λ x. record b { definitions = x }) (append_assoc b.definitions (d.0 ∷ []) q.0))) r (append_assoc us vs ws)
  production-split production.TextEnd ss ts b f r = joined part.Text ss b f b [] ts _ (λ fresh. ([], none, ap (λ x. record b { definitions = x }) (sym (append-nil b.definitions)))) r refl
  production-split production.RuleDefinition ss _ b f (s-skip k i (s-keep n j (s-sub us _ m e (s-skip o x (s-sub vs _ l g (s-skip c y (s-act {ts} r))))))) =
      joined part.Definition ss b f (builder_after source action.Rule l) (k ∷ n ∷ (us ++ (o ∷ (vs ++ c ∷ [])))) ts _ (λ fresh.
      let g' : Effect source part.Items vs (record (with_token n b) { params = b.params ++ e.0 }) l = subst (λ z. Effect source part.Items vs z l) e.2 g in
      let q = g' (fresh.2, fresh.3, fresh.4) in (
        definition.Rule (record { name = name_of source n; params = e.0; items = q.0 }),
        rule k n o c i j e.1 x q.1 y,
        ap (builder_after source action.Rule) q.2 ∙ rule-same source b n e.0 q.0 fresh.0 fresh.1,
      )) r
      (ap (λ z. k ∷ n ∷ z) (append_assoc us (o ∷ (vs ++ c ∷ [])) ts ∙ ap (λ z. us ++ (o ∷ z)) (append_assoc vs (c ∷ []) ts)))
  production-split production.UnitDefinition ss _ b f (s-skip k i (s-keep n j (s-sub us _ m e (s-sub vs ws l g r)))) =
      joined part.Definition ss b f l (k ∷ n ∷ (us ++ vs)) ws _ (λ fresh.
      let g' : Effect source part.Body vs (record (with_token n b) { params = b.params ++ e.0 }) l = subst (λ z. Effect source part.Body vs z l) e.2 g in
      let q = g' fresh.5 fresh.6 in
      (definition.Unit (record { name = name_of source n; params = e.0; body = q.0 }), unit k n i j e.1 q.1, q.2 ∙ unit-same source b n e.0 q.0 fresh.0)) r
      (ap (λ z. k ∷ n ∷ z) (append_assoc us vs ws))
  production-split production.Params ss _ b f (s-skip o i (s-sub us _ m e (s-skip {ts} c j r))) =
      joined part.Params ss b f m (o ∷ (us ++ c ∷ [])) ts _ (e.0, params o c i e.1 j, e.2) r (ap (λ z. o ∷ z) (append_assoc us (c ∷ []) ts))
  production-split production.ParamFirst ss _ b f (s-sub us _ m e (s-sub vs ws n g r)) =
      joined part.ParamList ss b f n (us ++ vs) ws _ (
      let q : Effect source part.ParamsTail vs (record b { params = b.params ++ e.0 ∷ [] }) n = subst (λ x. Effect source part.ParamsTail vs x n) e.2 g in
      (e.0 ∷ q.0, items e.1 q.1, q.2 ∙ ap (λ x. record b { params = x }) (append_assoc b.params (e.0 ∷ []) q.0))) r (append_assoc us vs ws)
  production-split production.ParamNone ss ts b f r = joined part.ParamList ss b f b [] ts _ ([], no_items, ap (λ x. record b { params = x }) (sym (append-nil b.params))) r refl
  production-split production.ParamNext ss _ b f (s-skip c i (s-sub us _ m e (s-sub vs ws n g r))) =
      joined part.ParamsTail ss b f n (c ∷ (us ++ vs)) ws _ (
      let q : Effect source part.ParamsTail vs (record b { params = b.params ++ e.0 ∷ [] }) n = subst (λ x. Effect source part.ParamsTail vs x n) e.2 g in
      (e.0 ∷ q.0, more (after_token c i e.1) q.1, q.2 ∙ ap (λ x. record b { params = x }) (append_assoc b.params (e.0 ∷ []) q.0))) r (ap (λ z. c ∷ z) (append_assoc us vs ws))
  production-split production.ParamLast ss ts b f r = joined part.ParamsTail ss b f b [] ts _ ([], none, ap (λ x. record b { params = x }) (sym (append-nil b.params))) r refl
  production-split production.Param ss _ b f (s-keep d i (s-keep n j (s-skip c x (s-keep w y (s-act {ts} r))))) =
      joined part.Param ss b f _ (d ∷ n ∷ c ∷ w ∷ []) ts _ (_, param d n c w i j x y, refl) r refl
  production-split production.ItemMore ss _ b f (s-sub us _ m e (s-sub vs ws n g r)) =
      joined part.Items ss b f n (us ++ vs) ws _ (λ scratch.
      let d : (i : Item) × IsItem source us i × (m ≡ record b { items = b.items ++ i ∷ [] }) = e scratch in
      let g' : Effect source part.Items vs (record b { items = b.items ++ d.0 ∷ [] }) n = subst (λ x. Effect source part.Items vs x n) d.2 g in
      let q = g' scratch in
      (d.0 ∷ q.0, more d.1 q.1, q.2 ∙ ap (λ x. record b { items = x }) (append_assoc b.items (d.0 ∷ []) q.0))) r (append_assoc us vs ws)
  production-split production.ItemEnd ss ts b f r = joined part.Items ss b f b [] ts _ (λ scratch. ([], none, ap (λ x. record b { items = x }) (sym (append-nil b.items)))) r refl
  production-split production.ItemSimple ss _ b f (s-sub us vs m e (s-act r)) =
      joined part.Item ss b f (builder_after source action.Plain m) us vs _ (λ scratch.
      let d : (s : Simple) × IsSimple source us s × (m ≡ record b { simples = s ∷ b.simples }) = e scratch.2 in
      (item.Simple d.0, simple_item d.1, ap (builder_after source action.Plain) d.2)) r refl
  production-split production.ItemForbid ss _ b f (s-skip k i (s-skip o j (s-sub us _ m e (s-skip c x (s-act {ts} r))))) =
      joined part.Item ss b f (builder_after source action.Forbid m) (k ∷ o ∷ (us ++ c ∷ [])) ts _ (λ scratch.
      (item.Forbid e.0, forbid k o c i j e.1 x, ap (builder_after source action.Forbid) e.2 ∙ forbid-same source b e.0 scratch.0)) r
      (ap (λ z. k ∷ o ∷ z) (append_assoc us (c ∷ []) ts))
  production-split production.ItemRequire ss _ b f (s-skip k i (s-skip o j (s-sub us _ m e (s-skip c x (s-act {ts} r))))) =
      joined part.Item ss b f (builder_after source action.Require m) (k ∷ o ∷ (us ++ c ∷ [])) ts _ (λ scratch.
      (item.Require e.0, require k o c i j e.1 x, ap (builder_after source action.Require) e.2 ∙ require-same source b e.0 scratch.0)) r
      (ap (λ z. k ∷ o ∷ z) (append_assoc us (c ∷ []) ts))
  production-split production.ItemMulti ss _ b f (s-skip k i (s-skip o j (s-sub us _ m e (s-skip c x (s-act {ts} r))))) =
      joined part.Item ss b f (builder_after source action.Multi m) (k ∷ o ∷ (us ++ c ∷ [])) ts _ (λ scratch.
      let d : (l : List Simple) × Many (IsSimple source) us l × (m ≡ record b { simples = reverse l ++ b.simples }) = e scratch.2 in
      (item.Multi d.0, multi k o c i j d.1 x, ap (builder_after source action.Multi) d.2 ∙ multi-same source b d.0 scratch.1)) r
      (ap (λ z. k ∷ o ∷ z) (append_assoc us (c ∷ []) ts))
  production-split production.ElementMore ss _ b f (s-sub us _ m e (s-skip c i (s-sub vs ws n g r))) =
      joined part.Elements ss b f n ((us ++ c ∷ []) ++ vs) ws _ (
      let q : Effect source part.Elements vs (record b { elements = e.0 ∷ b.elements }) n = subst (λ x. Effect source part.Elements vs x n) e.2 g in
      (e.0 ∷ q.0, more (before c e.1 i) q.1, q.2 ∙ ap (λ x. record b { elements = x }) (rev-more e.0 q.0 b.elements))) r
      (append_assoc (us ++ c ∷ []) vs ws ∙ append_assoc us (c ∷ []) (vs ++ ws))
  production-split production.ElementEnd ss ts b f r = joined part.Elements ss b f b [] ts _ ([], none, refl) r refl
  production-split production.SimpleMore ss _ b f (s-sub us _ m e (s-sub vs ws n g r)) =
      joined part.Simples ss b f n (us ++ vs) ws _ (λ clean.
      let d : (s : Simple) × IsSimple source us s × (m ≡ record b { simples = s ∷ b.simples }) = e clean in
      let g' : Effect source part.Simples vs (record b { simples = d.0 ∷ b.simples }) n = subst (λ x. Effect source part.Simples vs x n) d.2 g in
      let q = g' clean in
      (d.0 ∷ q.0, more d.1 q.1, q.2 ∙ ap (λ x. record b { simples = x }) (rev-more d.0 q.0 b.simples))) r (append_assoc us vs ws)
  production-split production.SimpleEnd ss ts b f r = joined part.Simples ss b f b [] ts _ (λ clean. ([], none, refl)) r refl
  production-split production.SimpleElement ss _ b f (s-keep k i (s-sub us _ m e (s-skip c j (s-act {ts} r)))) =
      joined part.Simple ss b f (builder_after source action.Marked m) (k ∷ (us ++ c ∷ [])) ts _ (λ clean.
      (simple.Marked (mark_of k.kind) e.0, mark_element k c i e.1 j, ap (builder_after source action.Marked) e.2)) r
      (ap (λ z. k ∷ z) (append_assoc us (c ∷ []) ts))
  production-split production.SimpleSet ss _ b f (s-skip k i (s-keep n j (s-skip d x (s-keep w y (s-skip a z (s-sub us _ m e (s-skip c l (s-act {ts} r)))))))) =
      joined part.Simple ss b f (builder_after source action.Set m) (k ∷ n ∷ d ∷ w ∷ a ∷ (us ++ c ∷ [])) ts _ (λ clean.
      let v = record_of e.0 (expression-one e.1) in
      (simple.Set (name_of source n) (name_of source w) v, set k n d w a c v i j x y z e.1 l, ap (builder_after source action.Set) e.2 ∙ set-same source b n w v clean)) r
      (ap (λ q. k ∷ n ∷ d ∷ w ∷ a ∷ q) (append_assoc us (c ∷ []) ts))
  production-split production.SimpleWhere ss _ b f (s-keep k i (s-sub us _ m e (s-skip c j (s-act {ts} r)))) =
      joined part.Simple ss b f (builder_after source action.Where m) (k ∷ (us ++ c ∷ [])) ts _ (λ clean.
      let v = record_of e.0 (expression-one e.1) in
      (simple.Where k.span v, test k c v i e.1 j, ap (builder_after source action.Where) e.2 ∙ where-same source b k v clean)) r
      (ap (λ z. k ∷ z) (append_assoc us (c ∷ []) ts))
  production-split production.ElementNode ss _ b f (s-skip k i (s-keep n j (s-skip c x (s-keep w y (s-act {ts} r))))) =
      joined part.Element ss b f _ (k ∷ n ∷ c ∷ w ∷ []) ts _ (_, node k n c w i j x y, refl) r refl
  production-split production.ElementEdge ss _ b f (s-skip k i (s-keep n j (s-skip a x (s-keep m y (s-skip c z (s-keep w l (s-act {ts} r))))))) =
      joined part.Element ss b f _ (k ∷ n ∷ a ∷ m ∷ c ∷ w ∷ []) ts _ (_, edge k n a m c w i j x y z l, refl) r refl
  production-split production.Expr ss _ b f (s-sub us _ m e (s-sub vs ws n g r)) = joined part.Expr ss b f n (us ++ vs) ws _ (both Conj Or Expr us vs b m n (λ ts ys xs zs x y. expr x y) e g) r (append_assoc us vs ws)
  production-split production.OrMore ss _ b f (s-keep t i (s-sub us _ m e (s-act (s-sub vs ws n g r)))) = joined part.OrTail ss b f n (t ∷ (us ++ vs)) ws _ (chained Conj Or t us vs b m n (λ ts ys xs zs x y. or t i x y) e g) r (ap (λ z. t ∷ z) (append_assoc us vs ws))
  production-split production.OrEnd ss ts b f r = joined part.OrTail ss b f b [] ts _ ([], no_or, no-pieces b) r refl
  production-split production.Conj ss _ b f (s-sub us _ m e (s-sub vs ws n g r)) = joined part.Conj ss b f n (us ++ vs) ws _ (both Neg And Conj us vs b m n (λ ts ys xs zs x y. conj x y) e g) r (append_assoc us vs ws)
  production-split production.AndMore ss _ b f (s-keep t i (s-sub us _ m e (s-act (s-sub vs ws n g r)))) = joined part.AndTail ss b f n (t ∷ (us ++ vs)) ws _ (chained Neg And t us vs b m n (λ ts ys xs zs x y. and t i x y) e g) r (ap (λ z. t ∷ z) (append_assoc us vs ws))
  production-split production.AndEnd ss ts b f r = joined part.AndTail ss b f b [] ts _ ([], no_and, no-pieces b) r refl
  production-split production.NegNot ss _ b f (s-keep t i (s-sub us vs m e (s-act r))) = joined part.Neg ss b f (builder_after source action.Not m) (t ∷ us) vs _ (e.0 ++ piece.Not t.span ∷ [], not t i e.1, ap (builder_after source action.Not) e.2 ∙ one-same b e.0 (piece.Not t.span)) r refl
  production-split production.NegCmp ss _ b f (s-sub us vs m e r) = joined part.Neg ss b f m us vs _ (e.0, neg e.1, e.2) r refl
  production-split production.Cmp ss _ b f (s-sub us _ m e (s-sub vs ws n g r)) = joined part.Cmp ss b f n (us ++ vs) ws _ (both Sum Comparison Cmp us vs b m n (λ ts ys xs zs x y. cmp x y) e g) r (append_assoc us vs ws)
  production-split production.CmpMore ss _ b f (s-keep t i (s-sub us vs m e (s-act r))) = joined part.CmpTail ss b f (builder_after source action.Binary m) (t ∷ us) vs _ (e.0 ++ piece.Binary (sign_of t.kind) t.span ∷ [], comparison t i e.1, ap (builder_after source action.Binary) e.2 ∙ one-same b e.0 (piece.Binary (sign_of t.kind) t.span)) r refl
  production-split production.CmpEnd ss ts b f r = joined part.CmpTail ss b f b [] ts _ ([], no_comparison, no-pieces b) r refl
  production-split production.Sum ss _ b f (s-sub us _ m e (s-sub vs ws n g r)) = joined part.Sum ss b f n (us ++ vs) ws _ (both Prod Addition Sum us vs b m n (λ ts ys xs zs x y. sum x y) e g) r (append_assoc us vs ws)
  production-split production.SumMore ss _ b f (s-keep t i (s-sub us _ m e (s-act (s-sub vs ws n g r)))) = joined part.SumTail ss b f n (t ∷ (us ++ vs)) ws _ (chained Prod Addition t us vs b m n (λ ts ys xs zs x y. addition t i x y) e g) r (ap (λ z. t ∷ z) (append_assoc us vs ws))
  production-split production.SumEnd ss ts b f r = joined part.SumTail ss b f b [] ts _ ([], no_addition, no-pieces b) r refl
  production-split production.Prod ss _ b f (s-sub us _ m e (s-sub vs ws n g r)) = joined part.Prod ss b f n (us ++ vs) ws _ (both Fact Product Prod us vs b m n (λ ts ys xs zs x y. prod x y) e g) r (append_assoc us vs ws)
  production-split production.ProdMore ss _ b f (s-keep t i (s-sub us _ m e (s-act (s-sub vs ws n g r)))) = joined part.ProdTail ss b f n (t ∷ (us ++ vs)) ws _ (chained Fact Product t us vs b m n (λ ts ys xs zs x y. product t i x y) e g) r (ap (λ z. t ∷ z) (append_assoc us vs ws))
  production-split production.ProdEnd ss ts b f r = joined part.ProdTail ss b f b [] ts _ ([], no_product, no-pieces b) r refl
  production-split production.FactLiteral ss _ b f (s-keep t i (s-act {ts} r)) = joined part.Fact ss b f _ (t ∷ []) ts _ (_, literal t i, refl) r refl
  production-split production.FactName ss _ b f (s-keep n i (s-sub us vs m e r)) = fact-name e where
    fact-name : SlotEffect source us (with_token n b) m → Split source (Sub part.Fact ∷ ss) (n ∷ (us ++ vs)) b f
    fact-name (inl x) = joined part.Fact ss b f m (n ∷ us) vs _ (_, subst (λ z. Expression source Fact (n ∷ z) (piece.Name (name_of source n) ∷ [])) (sym x.0) (name n i), x.1) r refl
    fact-name (inr x) = joined part.Fact ss b f m (n ∷ us) vs _ (_, subst (λ z. Expression source Fact (n ∷ z) (piece.Slot (name_of source n) (name_of source x.1) ∷ [])) (sym x.2) (slot n x.0 x.1 i x.3 x.4), x.5) r refl
  production-split production.FactParens ss _ b f (s-skip o i (s-sub us _ m e (s-skip {ts} c j r))) = joined part.Fact ss b f m (o ∷ (us ++ c ∷ [])) ts _ (e.0, parens o c i e.1 j, e.2) r (ap (λ z. o ∷ z) (append_assoc us (c ∷ []) ts))
  production-split production.FactMinus ss _ b f (s-keep t i (s-sub us vs m e (s-act r))) = joined part.Fact ss b f (builder_after source action.Minus m) (t ∷ us) vs _ (e.0 ++ piece.Minus t.span ∷ [], minus t i e.1, ap (builder_after source action.Minus) e.2 ∙ one-same b e.0 (piece.Minus t.span)) r refl
  production-split production.SlotDot ss _ b f (s-skip d i (s-keep w j (s-act {ts} r))) = joined part.Slot ss b f _ (d ∷ w ∷ []) ts _ (inr (d, w, refl, i, j, refl)) r refl
  production-split production.SlotNone ss ts b f (s-act r) = joined part.Slot ss b f _ [] ts _ (inl (refl, refl)) r refl
  production-split production.BodyListed ss _ b f (s-keep k i (s-skip o j (s-sub us _ m e (s-skip c x (s-act {ts} r))))) =
      joined part.Body ss b f (builder_after source action.Listed m) (k ∷ o ∷ (us ++ c ∷ [])) ts _ (λ no_calls no_binds.
      let d : (cs : List Call) × Many (CallThen source) us cs × (m ≡ record (with_token k b) { calls = reverse cs ++ b.calls }) = e no_binds in
      (list_body k.kind d.0, call_list k o c i j d.1 x, ap (builder_after source action.Listed) d.2 ∙ listed-same source b k d.0 no_calls)) r
      (ap (λ z. k ∷ o ∷ z) (append_assoc us (c ∷ []) ts))
  production-split production.BodyConditional ss _ b f (s-skip k i (s-skip o j (s-skip q x (s-sub us _ m e (s-skip p y (s-skip h z (s-sub vs _ l g (s-skip s a (s-sub ws ts n d r))))))))) =
      joined part.Body ss b f n (k ∷ o ∷ q ∷ ((us ++ p ∷ []) ++ (h ∷ ((vs ++ s ∷ []) ++ ws)))) ts _ (λ no_calls no_binds.
      let e1 : (c : Call) × IsCall source us c × (m ≡ record b { calls = c ∷ b.calls }) = e no_binds in
      let g1 : Effect source part.Call vs (record b { calls = e1.0 ∷ b.calls }) l = subst (λ v. Effect source part.Call vs v l) e1.2 g in
      let g2 : (c : Call) × IsCall source vs c × (l ≡ record b { calls = c ∷ e1.0 ∷ b.calls }) = g1 no_binds in
      let d1 : Effect source part.Else ws (record b { calls = g2.0 ∷ e1.0 ∷ b.calls }) n = subst (λ v. Effect source part.Else ws v n) g2.2 d in
      let d2 : ElseEffect source ws (record b { calls = g2.0 ∷ e1.0 ∷ b.calls }) n = d1 no_binds in (
        body.Conditional e1.0 g2.0 d2.0,
        subst (λ v. IsBody source (k ∷ o ∷ q ∷ ((us ++ p ∷ []) ++ (h ∷ ((vs ++ s ∷ []) ++ v)))) (body.Conditional e1.0 g2.0 d2.0)) (sym d2.3)
            (conditional k o q h d2.2 i j x (before p e1.1 y) z (before s g2.1 a) d2.4 d2.5),
        d2.6 ∙ else-same source b e1.0 g2.0 d2.0,
      )) r
      (ap (λ v. k ∷ o ∷ q ∷ v) (append_assoc (us ++ p ∷ []) (h ∷ ((vs ++ s ∷ []) ++ ws)) ts ∙ append_assoc us (p ∷ []) (h ∷ (((vs ++ s ∷ []) ++ ws) ++ ts))
      ∙ ap (λ v. us ++ (p ∷ h ∷ v)) (append_assoc (vs ++ s ∷ []) ws ts ∙ append_assoc vs (s ∷ []) (ws ++ ts))))
  production-split production.BodyLoop ss _ b f (s-skip k i (s-skip o j (s-sub us _ m e (s-skip p y (s-skip c x (s-act {ts} r)))))) =
      joined part.Body ss b f (builder_after source action.Loop m) (k ∷ o ∷ ((us ++ p ∷ []) ++ c ∷ [])) ts _ (λ no_calls no_binds.
      let d : (a : Call) × IsCall source us a × (m ≡ record b { calls = a ∷ b.calls }) = e no_binds in
      (body.Loop d.0, loop k o c i j (before p d.1 y) x, ap (builder_after source action.Loop) d.2)) r
      (ap (λ z. k ∷ o ∷ z) (append_assoc (us ++ p ∷ []) (c ∷ []) ts ∙ append_assoc us (p ∷ []) (c ∷ ts)))
  production-split production.BodyIterated ss _ b f (s-skip k i (s-keep n l (s-skip o j (s-sub us _ m e (s-skip p y (s-skip c x (s-act {ts} r))))))) =
      joined part.Body ss b f (builder_after source action.Iterated m) (k ∷ n ∷ o ∷ ((us ++ p ∷ []) ++ c ∷ [])) ts _ (λ no_calls no_binds.
      let d : (a : Call) × IsCall source us a × (m ≡ record (with_token n b) { calls = a ∷ b.calls }) = e no_binds in
      (body.Iterated (count_of source n) d.0, iterated k n o c i l j (before p d.1 y) x, ap (builder_after source action.Iterated) d.2)) r
      (ap (λ z. k ∷ n ∷ o ∷ z) (append_assoc (us ++ p ∷ []) (c ∷ []) ts ∙ append_assoc us (p ∷ []) (c ∷ ts)))
  production-split production.ElseSome ss _ b f (s-skip k i (s-sub us _ m e (s-skip p y (s-skip c x (s-act {ts} r))))) =
      joined part.Else ss b f (builder_after source action.IfElse m) (k ∷ ((us ++ p ∷ []) ++ c ∷ [])) ts _ (λ no_binds.
      let d : (a : Call) × IsCall source us a × (m ≡ record b { calls = a ∷ b.calls }) = e no_binds in
      (Some d.0, k ∷ (us ++ p ∷ []), c, refl, present (after_token k i (before p d.1 y)), x, ap (builder_after source action.IfElse) d.2)) r
      (ap (λ z. k ∷ z) (append_assoc (us ++ p ∷ []) (c ∷ []) ts ∙ append_assoc us (p ∷ []) (c ∷ ts)))
  production-split production.ElseNone ss _ b f (s-skip c x (s-act {ts} r)) = joined part.Else ss b f (builder_after source action.If b) (c ∷ []) ts _ (λ no_binds. (None, [], c, refl, absent, x, refl)) r refl
  production-split production.CallMore ss _ b f (s-sub us _ m e (s-skip c i (s-sub vs ws n g r))) =
      joined part.Calls ss b f n ((us ++ c ∷ []) ++ vs) ws _ (λ no_binds.
      let d : (a : Call) × IsCall source us a × (m ≡ record b { calls = a ∷ b.calls }) = e no_binds in
      let g' : Effect source part.Calls vs (record b { calls = d.0 ∷ b.calls }) n = subst (λ x. Effect source part.Calls vs x n) d.2 g in
      let q = g' no_binds in
      (d.0 ∷ q.0, more (before c d.1 i) q.1, q.2 ∙ ap (λ x. record b { calls = x }) (rev-more d.0 q.0 b.calls))) r
      (append_assoc (us ++ c ∷ []) vs ws ∙ append_assoc us (c ∷ []) (vs ++ ws))
  production-split production.CallEnd ss ts b f r = joined part.Calls ss b f b [] ts _ (λ no_binds. ([], none, refl)) r refl
  production-split production.Call ss _ b f (s-keep n i (s-skip o j (s-sub us _ m e (s-skip c x (s-act {ts} r))))) =
      joined part.Call ss b f (builder_after source action.Call m) (n ∷ o ∷ (us ++ c ∷ [])) ts _ (λ no_binds.
      (record { callee = name_of source n; binds = e.0 }, call n o c i j e.1 x, ap (builder_after source action.Call) e.2 ∙ call-same source b n e.0 no_binds)) r
      (ap (λ z. n ∷ o ∷ z) (append_assoc us (c ∷ []) ts))
  production-split production.BindFirst ss _ b f (s-sub us _ m e (s-sub vs ws n g r)) =
      joined part.BindList ss b f n (us ++ vs) ws _ (
      let q : Effect source part.BindsTail vs (record b { binds = b.binds ++ e.0 ∷ [] }) n = subst (λ x. Effect source part.BindsTail vs x n) e.2 g in
      (e.0 ∷ q.0, items e.1 q.1, q.2 ∙ ap (λ x. record b { binds = x }) (append_assoc b.binds (e.0 ∷ []) q.0))) r (append_assoc us vs ws)
  production-split production.BindNone ss ts b f r = joined part.BindList ss b f b [] ts _ ([], no_items, ap (λ x. record b { binds = x }) (sym (append-nil b.binds))) r refl
  production-split production.BindNext ss _ b f (s-skip c i (s-sub us _ m e (s-sub vs ws n g r))) =
      joined part.BindsTail ss b f n (c ∷ (us ++ vs)) ws _ (
      let q : Effect source part.BindsTail vs (record b { binds = b.binds ++ e.0 ∷ [] }) n = subst (λ x. Effect source part.BindsTail vs x n) e.2 g in
      (e.0 ∷ q.0, more (after_token c i e.1) q.1, q.2 ∙ ap (λ x. record b { binds = x }) (append_assoc b.binds (e.0 ∷ []) q.0))) r (ap (λ z. c ∷ z) (append_assoc us vs ws))
  production-split production.BindLast ss ts b f r = joined part.BindsTail ss b f b [] ts _ ([], none, ap (λ x. record b { binds = x }) (sym (append-nil b.binds))) r refl
  production-split production.Bind ss _ b f (s-keep n i (s-sub us vs m e r)) = bound e where
    bound : BoundEffect source us (with_token n b) m → Split source (Sub part.Bind ∷ ss) (n ∷ (us ++ vs)) b f
    bound (inl x) = joined part.Bind ss b f m (n ∷ us) vs _ (bind.Give (name_of source n) x.4.0, subst (λ z. IsBind source (n ∷ z) (bind.Give (name_of source n) x.4.0)) (sym x.2) (give n x.0 i x.3 x.4.1), x.4.2) r refl
    bound (inr x) = joined part.Bind ss b f m (n ∷ us) vs _ (bind.Take (name_of source n) (name_of source x.1), subst (λ z. IsBind source (n ∷ z) (bind.Take (name_of source n) (name_of source x.1))) (sym x.2) (take n x.0 x.1 i x.3 x.4), x.5) r refl
  production-split production.BoundValue ss _ b f (s-skip t i (s-sub us vs m e r)) = joined part.Bound ss b f m (t ∷ us) vs _ (inl (t, us, refl, i, e)) r refl
  production-split production.BoundVariable ss _ b f (s-skip g i (s-keep v j (s-act {ts} r))) = joined part.Bound ss b f _ (g ∷ v ∷ []) ts _ (inr (g, v, refl, i, j, refl)) r refl
  production-split production.ValueAtom ss _ b f (s-keep t i (s-act {ts} r)) = joined part.Value ss b f _ (t ∷ []) ts _ (_, value t i, refl) r refl
  production-split production.ValueMinus ss _ b f (s-skip m i (s-keep t j (s-act {ts} r))) = joined part.Value ss b f _ (m ∷ t ∷ []) ts _ (_, negative m t i j, refl) r refl

  splits-by : (p : Production) (n : Part) (ss : List Symbol) (ts : List Token) (b f : Builder) → part_of p ≡ n → Split source (right_side p ++ ss) ts b f → Split source (Sub n ∷ ss) ts b f
  splits-by p n ss ts b f e s = subst (λ m. Split source (Sub m ∷ ss) ts b f) e (production-split p ss ts b f s)

  splits : {ss : List Symbol} {ts : List Token} {b f : Builder} → Derives source ss ts b f → Split source ss ts b f
  splits done = s-nil
  splits (skip {t} e d) = s-skip t e (splits d)
  splits (keep {t} e d) = s-keep t e (splits d)
  splits (act d) = s-act (splits d)
  splits (by {n} {ss} {ts} {b} {f} p e d) = splits-by p n ss ts b f e (splits d)

  -- what is derived is a text
  pub read : {ts : List Token} {b f : Builder} → Fresh b → Derives source (Sub part.Text ∷ []) ts b f → (ds : List Definition) × IsText source ts ds × (f ≡ record b { definitions = b.definitions ++ ds })
  read fresh d = whole (splits d) fresh where
    whole : {ts : List Token} {b f : Builder} → Split source (Sub part.Text ∷ []) ts b f → Fresh b → (ds : List Definition) × IsText source ts ds × (f ≡ record b { definitions = b.definitions ++ ds })
    whole (s-sub us _ m e s-nil) fresh = let q = e fresh in (q.0, rw append-nil q.1, q.2)
