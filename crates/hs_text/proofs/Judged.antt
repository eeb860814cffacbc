use Rattle.std.proofs.Common.{ℕ, zero, suc, Bool, true, false, ◌<◌, ◌≡◌, ◌⊎◌, inl, inr, List, [], ◌∷◌, ◌++◌, Option, Some, None, refl, ap, sym, subst, ◌∙◌, append_assoc, arith}
use Rattle.std.proofs.lemmas.List.{append-nil}
use Rattle.hs_tokens.specs.declared.token.Kind.{Kind}
use Rattle.hs_tokens.specs.declared.token.Token.{Token}
use Rattle.hs_tokens.specs.Kinds.{same}
use Rattle.hs_text.specs.declared.grammar.Part.{Part}
use Rattle.hs_text.specs.declared.grammar.Part.TheVariants as part
use Rattle.hs_text.specs.declared.grammar.Production.{Production}
use Rattle.hs_text.specs.declared.grammar.Action.{Action}
use Rattle.hs_text.specs.declared.grammar.Symbol.{Symbol}
use Rattle.hs_text.specs.declared.grammar.Symbol.TheVariants.{Skip, Keep, Sub, Act}
use Rattle.hs_text.specs.declared.grammar.Term.{Term}
use Rattle.hs_text.specs.declared.syntax.Definition.{Definition}
use Rattle.hs_text.specs.declared.builder.Builder.{Builder}
use Rattle.hs_text.specs.Grammar.{IsText}
use Rattle.hs_text.specs.Terms.{matches}
use Rattle.hs_text.specs.Building.{with_token, builder_after, no_builder}
use Rattle.hs_text.specs.Machine.{Derives, done, skip, keep, act, right_side, empty_of, production_of, Fine, TakesToken, RefusesToken, IsEnd, IsCutOff}
use Rattle.hs_text.specs.Parsing.{Begins, IsFirstWrong, IsUnfinished}
use Rattle.hs_text.proofs.Effects.{Fresh}
use Rattle.hs_text.proofs.Writing.{written}
use Rattle.hs_text.proofs.Steps.{skip-step, keep-step, act-step, sub-step, sub-back, sub-none, fine-step, measure, measure-act, measure-step, end-step, end-back, end-none, end-skip, end-keep, end-done, end-token, size, end-measure-act, end-measure-step}
use Rattle.hs_text.proofs.Whole.{Stands, stands-first, stands-next, stands-begins, stands-wrong, stands-unfinished, stands-text}

module _ (source : List ℕ) where
  -- at a token, a stack takes it or refuses it
  abbrev Decided : List Symbol → Builder → Token → Type 0
  Decided ss b t = ((new : List Symbol) × (c : Builder) × TakesToken source ss b t new c) ⊎ RefusesToken source ss b t

  decide-act : (a : Action) (ss : List Symbol) (b : Builder) (t : Token) → Decided ss (builder_after source a b) t → Decided (Act a ∷ ss) b t
  decide-act a ss b t (inl d) = inl (d.0, d.1, record { fine = d.2.fine; same_texts = λ u f. ((λ e. (d.2.same_texts u f).0 (act-step e)), (λ e. act ((d.2.same_texts u f).1 e))) })
  decide-act a ss b t (inr r) = inr (λ u f e. r u f (act-step e))

  decide-sub : (n : Part) (ss : List Symbol) (b : Builder) (t : Token) (p : Production) → Fine (Sub n ∷ ss) → production_of n t.kind ≡ Some p → Decided (right_side p ++ ss) b t → Decided (Sub n ∷ ss) b t
  decide-sub n ss b t p fine e (inl d) = inl (d.0, d.1, record { fine = d.2.fine; same_texts = λ u f. ((λ g. (d.2.same_texts u f).0 (sub-step n t p ss u b f fine e g)), (λ g. sub-back n t p ss u b f e ((d.2.same_texts u f).1 g))) })
  decide-sub n ss b t p fine e (inr r) = inr (λ u f g. r u f (sub-step n t p ss u b f fine e g))

  decide-skip : (k : Kind) (ss : List Symbol) (b : Builder) (t : Token) (r : Bool) → same k t.kind ≡ r → Fine ss → Decided (Skip k ∷ ss) b t
  decide-skip k ss b t true e fine = inl (ss, b, record { fine = fine; same_texts = λ u f. ((λ d. (skip-step d).1), (λ d. skip e d)) })
  decide-skip k ss b t false e fine = inr (λ u f d. let s = (skip-step d).0 in cc)

  decide-keep : (w : Term) (ss : List Symbol) (b : Builder) (t : Token) (r : Bool) → matches w t.kind ≡ r → Fine ss → Decided (Keep w ∷ ss) b t
  decide-keep w ss b t true e fine = inl (ss, with_token t b, record { fine = fine; same_texts = λ u f. ((λ d. (keep-step d).1), (λ d. keep e d)) })
  decide-keep w ss b t false e fine = inr (λ u f d. let s = (keep-step d).0 in cc)

  decide : (n : ℕ) (ss : List Symbol) (b : Builder) (t : Token) → measure t.kind ss < n → Fine ss → Decided ss b t
  decide zero ss b t h fine = absurd (omega arith)
  decide (suc n) [] b t h fine = inr (λ u f d. end-token d)
  decide (suc n) (Skip k ∷ ss) b t h fine = decide-skip k ss b t (same k t.kind) refl fine
  decide (suc n) (Keep w ∷ ss) b t h fine = decide-keep w ss b t (matches w t.kind) refl fine
  decide (suc n) (Act a ∷ ss) b t h fine = decide-act a ss b t (decide n ss (builder_after source a b) t (omega (arith, measure-act t.kind a ss)) fine)
  decide (suc n) (Sub m ∷ ss) b t h fine = go (production_of m t.kind) refl (λ p e. decide n (right_side p ++ ss) b t (omega (arith, measure-step m t.kind p ss e)) (fine-step m t.kind p ss e fine)) where
    go : (o : Option Production) → production_of m t.kind ≡ o → ((p : Production) → production_of m t.kind ≡ Some p → Decided (right_side p ++ ss) b t) → Decided (Sub m ∷ ss) b t
    go (Some p) e f = decide-sub m ss b t p fine e (f p e)
    go None e f = inr (λ u f g. sub-none m t ss u b f e g)

  -- at the end, a stack is done or cut off
  abbrev Ended : List Symbol → Builder → Type 0
  Ended ss b = ((c : Builder) × IsEnd source ss b c) ⊎ IsCutOff source ss b

  end-after-act : (a : Action) (ss : List Symbol) (b : Builder) → Ended ss (builder_after source a b) → Ended (Act a ∷ ss) b
  end-after-act a ss b (inl d) = inl (d.0, λ f. ((λ e. (d.1 f).0 (act-step e)), (λ e. act ((d.1 f).1 e))))
  end-after-act a ss b (inr r) = inr (λ f e. r f (act-step e))

  end-after-sub : (n : Part) (ss : List Symbol) (b : Builder) (p : Production) → empty_of n ≡ Some p → Ended (right_side p ++ ss) b → Ended (Sub n ∷ ss) b
  end-after-sub n ss b p e (inl d) = inl (d.0, λ f. ((λ g. (d.1 f).0 (end-step n p ss b f e g)), (λ g. end-back n p ss b f e ((d.1 f).1 g))))
  end-after-sub n ss b p e (inr r) = inr (λ f g. r f (end-step n p ss b f e g))

  decide-end : (n : ℕ) (ss : List Symbol) (b : Builder) → size ss < n → Ended ss b
  decide-end zero ss b h = absurd (omega arith)
  decide-end (suc n) [] b h = inl (b, λ f. ((λ d. end-done d), (λ e. subst (λ (x : Builder). Derives source [] [] b x) (sym e) done)))
  decide-end (suc n) (Skip k ∷ ss) b h = inr (λ f d. end-skip d)
  decide-end (suc n) (Keep w ∷ ss) b h = inr (λ f d. end-keep d)
  decide-end (suc n) (Act a ∷ ss) b h = end-after-act a ss b (decide-end n ss (builder_after source a b) (omega (arith, end-measure-act a ss)))
  decide-end (suc n) (Sub m ∷ ss) b h = go (empty_of m) refl (λ p e. decide-end n (right_side p ++ ss) b (omega (arith, end-measure-step m p ss e))) where
    go : (o : Option Production) → empty_of m ≡ o → ((p : Production) → empty_of m ≡ Some p → Ended (right_side p ++ ss) b) → Ended (Sub m ∷ ss) b
    go (Some p) e f = end-after-sub m ss b p e (f p e)
    go None e f = inr (λ f d. end-none m ss b f e d)

  -- all tokens are taken, or there is a first wrong one
  abbrev Run : List Token → Type 0
  Run ts = ((stack : List Symbol) × (b : Builder) × Stands source ts stack b) ⊎ ((t : Token) × IsFirstWrong source ts t)

  run : (front ts all : List Token) (stack : List Symbol) (b : Builder) → all ≡ front ++ ts → Stands source front stack b → Run all
  run front [] all stack b w stands = inl (stack, b, subst (λ x. Stands source x stack b) (sym (w ∙ append-nil front)) stands)
  run front (t ∷ ts) all stack b w stands = step (decide (suc (measure t.kind stack)) stack b t (omega arith) stands.fine) (λ new c taken. run (front ++ t ∷ []) ts all new c (w ∙ sym (append_assoc front (t ∷ []) ts)) (stands-next source front stack b stands t (front ++ t ∷ []) new c taken refl)) where
    step : Decided stack b t → ((new : List Symbol) (c : Builder) → TakesToken source stack b t new c → Run all) → Run all
    step (inl d) on = on d.0 d.1 d.2
    step (inr r) on = inr (t, record { front = front; rest = ts; parts = w; begins = stands-begins source front stack b stands; wrong = stands-wrong source front stack b stands t r })

  from-start : (ts : List Token) → Run ts
  from-start ts = run [] ts ts (Sub part.Text ∷ []) no_builder refl (stands-first source (Sub part.Text ∷ []) no_builder refl refl)

  -- tokens are a text, or the beginning of one, or have a first wrong one
  pub judged : (ts : List Token) → ((ds : List Definition) × IsText source ts ds) ⊎ IsUnfinished source ts ⊎ ((t : Token) × IsFirstWrong source ts t)
  judged ts = go (from-start ts) where
    go : Run ts → ((ds : List Definition) × IsText source ts ds) ⊎ IsUnfinished source ts ⊎ ((t : Token) × IsFirstWrong source ts t)
    go (inr x) = inr (inr x)
    go (inl s) = end (decide-end (suc (size s.0)) s.0 s.1 (omega arith)) where
      end : Ended s.0 s.1 → ((ds : List Definition) × IsText source ts ds) ⊎ IsUnfinished source ts ⊎ ((t : Token) × IsFirstWrong source ts t)
      end (inl c) = inl (c.0.definitions, stands-text source ts s.0 s.1 s.2 c.0 c.1)
      end (inr cut) = inr (inl (stands-unfinished source ts s.0 s.1 s.2 cut))

  text-begins : (ts front behind : List Token) (t : Token) → ts ≡ front ++ t ∷ behind → Begins source ts → Begins source (front ++ t ∷ [])
  text-begins ts front behind t w h = (behind ++ h.0, h.1, subst (λ x. IsText source x h.1) (ap (λ x. x ++ h.0) w ∙ append_assoc front (t ∷ behind) h.0 ∙ sym (append_assoc front (t ∷ []) (behind ++ h.0))) h.2)

  -- a text has no wrong token, nor has the beginning of one
  pub no-wrong : (ts : List Token) (t : Token) → Begins source ts → IsFirstWrong source ts t → ⊥
  no-wrong ts t h w = w.wrong (text-begins ts w.front w.rest t w.parts h)

  pub text-right : (ts : List Token) (ds : List Definition) → IsText source ts ds → Begins source ts
  text-right ts ds t = ([], ds, subst (λ x. IsText source x ds) (sym (append-nil ts)) t)

  nothing-made : Fresh no_builder
  nothing-made = (refl, refl, refl, refl, refl, refl, refl)

  -- tokens are a text of one syntax at most
  pub one : (ts : List Token) (ds es : List Definition) → IsText source ts ds → IsText source ts es → ds ≡ es
  one ts ds es x y = go (from-start ts) where
    go : Run ts → ds ≡ es
    go (inr w) = absurd (no-wrong ts w.0 (text-right ts ds x) w.1)
    go (inl s) = end (decide-end (suc (size s.0)) s.0 s.1 (omega arith)) where
      of : (fs : List Definition) → IsText source ts fs → Derives source s.0 [] s.1 (record no_builder { definitions = fs })
      of fs t = (s.2.same_texts [] (record no_builder { definitions = fs })).0 (subst (λ x. Derives source (Sub part.Text ∷ []) x no_builder (record no_builder { definitions = fs })) (sym (append-nil ts)) (written source no_builder nothing-made t))

      end : Ended s.0 s.1 → ds ≡ es
      end (inl c) = ap (λ (b : Builder). b.definitions) ((c.1 (record no_builder { definitions = ds })).0 (of ds x) ∙ sym ((c.1 (record no_builder { definitions = es })).0 (of es y)))
      end (inr cut) = absurd (cut (record no_builder { definitions = ds }) (of ds x))
