use Rattle.std.proofs.Common.{ℕ, Bool, true, false, ◌+◌, ◌<◌, ◌≤◌, ◌≡◌, ◌↔◌, List, [], ◌∷◌, ◌++◌, take, drop, get_or, length, refl, ap, sym, subst, ◌∙◌, append_assoc}
use Rattle.std.proofs.lemmas.List.{append-nil, take-append-drop, drop_more, take_all}
use Rattle.std.specs.Bool.{OnTrue, OnFalse}
use Rattle.hs_tokens.specs.declared.token.Token.{Token}
use Rattle.hs_text.specs.declared.grammar.Part.TheVariants as part
use Rattle.hs_text.specs.declared.grammar.Symbol.{Symbol}
use Rattle.hs_text.specs.declared.grammar.Symbol.TheVariants.{Sub}
use Rattle.hs_text.specs.declared.syntax.Definition.{Definition}
use Rattle.hs_text.specs.declared.builder.Builder.{Builder}
use Rattle.hs_text.specs.Grammar.{IsText}
use Rattle.hs_text.specs.Building.{no_builder}
use Rattle.hs_text.specs.Machine.{Derives, Fine, TakesToken, RefusesToken, IsEnd, IsCutOff}
use Rattle.hs_tokens.specs.declared.token.Position.{Position}
use Rattle.hs_tokens.specs.declared.fault.FaultKind.{FaultKind}
use Rattle.hs_tokens.specs.declared.fault.FaultKind.TheVariants as fault
use Rattle.hs_tokens.specs.declared.fault.TextFault.{TextFault}
use Rattle.hs_tokens.specs.Tokens.{text_start, after}
use Rattle.hs_tokens.specs.Lexing.{Ending, Whole, TooLarge, Strange, EndsSo, IsTokenFault}
use Rattle.hs_text.specs.Parsing.{AreTokens, Begins, IsFirstWrong, IsUnfinished, IsGrammarFault, IsGrammarFaultBy, IsTextFault, IsTextFaultBy}
use Rattle.hs_text.proofs.Effects.{Fresh}
use Rattle.hs_text.proofs.Reading.{read}
use Rattle.hs_text.proofs.Writing.{written}
use Rattle.hs_text.proofs.Produced.{produced}

nothing-made : Fresh no_builder
nothing-made = (refl, refl, refl, refl, refl, refl, refl)

-- the tokens are taken, and the stack is left with what may follow them
pub record Stands (source : List ℕ) (front : List Token) (stack : List Symbol) (b : Builder) : Type 0 where
  pub fine : Fine stack
  pub same_texts : (u : List Token) (f : Builder) → Derives source (Sub part.Text ∷ []) (front ++ u) no_builder f ↔ Derives source stack u b f

pub stands-first : (source : List ℕ) (stack : List Symbol) (b : Builder) → stack ≡ Sub part.Text ∷ [] → b ≡ no_builder → Stands source [] stack b
stands-first source stack b e h = rw (e, h) (record { fine = ((λ k x. cc), tt); same_texts = λ u f. ((λ d. d), (λ d. d)) })

module _ (source : List ℕ) (front : List Token) (stack : List Symbol) (b : Builder) (stands : Stands source front stack b) where
  pub stands-next : (t : Token) (after : List Token) (new : List Symbol) (c : Builder) → TakesToken source stack b t new c → after ≡ front ++ t ∷ [] → Stands source after new c
  stands-next t after new c taken e = record {
    fine = taken.fine;
    same_texts = λ u f.
        let w : after ++ u ≡ front ++ (t ∷ u) = ap (λ x. x ++ u) e ∙ append_assoc front (t ∷ []) u in (
          (λ d. (taken.same_texts u f).0 ((stands.same_texts (t ∷ u) f).0 (subst (λ x. Derives source (Sub part.Text ∷ []) x no_builder f) w d))),
          (λ d. subst (λ x. Derives source (Sub part.Text ∷ []) x no_builder f) (sym w) ((stands.same_texts (t ∷ u) f).1 ((taken.same_texts u f).1 d))),
        );
  }

  pub stands-begins : Begins source front
  stands-begins =
      let d = produced source stack b in
      let r = read source nothing-made ((stands.same_texts d.0 d.1).1 d.2) in
      (d.0, r.0, r.1)

  pub stands-wrong : (t : Token) → RefusesToken source stack b t → Begins source (front ++ t ∷ []) → ⊥
  stands-wrong t refused h =
      let d : Derives source (Sub part.Text ∷ []) ((front ++ t ∷ []) ++ h.0) no_builder (record no_builder { definitions = h.1 }) = written source no_builder nothing-made h.2 in
      let w : (front ++ t ∷ []) ++ h.0 ≡ front ++ (t ∷ h.0) = append_assoc front (t ∷ []) h.0 in
      refused h.0 (record no_builder { definitions = h.1 }) ((stands.same_texts (t ∷ h.0) (record no_builder { definitions = h.1 })).0
      (subst (λ x. Derives source (Sub part.Text ∷ []) x no_builder (record no_builder { definitions = h.1 })) w d))

  pub stands-unfinished : IsCutOff source stack b → IsUnfinished source front
  stands-unfinished cut = record {
    begins = stands-begins;
    no_text = λ ds t.
        let d : Derives source (Sub part.Text ∷ []) front no_builder (record no_builder { definitions = ds }) = written source no_builder nothing-made t in
        cut (record no_builder { definitions = ds }) ((stands.same_texts [] (record no_builder { definitions = ds })).0
        (subst (λ x. Derives source (Sub part.Text ∷ []) x no_builder (record no_builder { definitions = ds })) (sym (append-nil front)) d));
  }

  pub stands-text : (c : Builder) → IsEnd source stack b c → IsText source front c.definitions
  stands-text c end =
      let d : Derives source (Sub part.Text ∷ []) (front ++ []) no_builder c = (stands.same_texts [] c).1 ((end c).1 refl) in
      let r = read source nothing-made (subst (λ x. Derives source (Sub part.Text ∷ []) x no_builder c) (append-nil front) d) in
      subst (λ x. IsText source front x) (sym (ap (λ (x : Builder). x.definitions) r.2)) r.1

first-wrong : (source : List ℕ) (ts : List Token) (i : ℕ) (d : Token) → i < length ts → Begins source (take i ts) → (Begins source (take i ts ++ get_or ts i d ∷ []) → ⊥) → IsFirstWrong source ts (get_or ts i d)
first-wrong source ts i d h right wrong = record {
  front = take i ts;
  rest = drop (i + 1) ts;
  parts = sym (take-append-drop i ts) ∙ ap (λ x. take i ts ++ x) (drop_more ts i d h);
  begins = right;
  wrong = wrong;
}

-- the faults and the syntax, from what the code knows at its ends
module _ (source : List ℕ) (ts listed : List Token) (end : Position) (i : ℕ) (stack : List Symbol) (b : Builder) (same : listed ≡ ts) (stands : Stands source (take i listed) stack b) where
  pub order-fault : (d : Token) (r : Bool) (e : TextFault) → i < length listed → r ≡ false → OnFalse r (RefusesToken source stack b (get_or listed i d)) → e ≡ record { line = (get_or listed i d).span.line; column = (get_or listed i d).span.column; kind = fault.Order } → IsGrammarFault source ts end e
  order-fault d true e h t refused is = cc
  order-fault d false e h t refused is =
      let t = get_or listed i d in
      let w : IsFirstWrong source listed t = first-wrong source listed i d h (stands-begins source (take i listed) stack b stands) (stands-wrong source (take i listed) stack b stands t refused) in
      subst (λ x. IsGrammarFault source ts end x) (sym is) (t, subst (λ x. IsFirstWrong source x t) same w, refl, refl)

  all-taken : length listed ≤ i → take i listed ≡ ts
  all-taken h = take_all i listed h ∙ same

  pub end-fault : (r : Bool) (e : TextFault) → length listed ≤ i → r ≡ false → OnFalse r (IsCutOff source stack b) → e ≡ record { line = end.line; column = end.column; kind = fault.End } → IsGrammarFault source ts end e
  end-fault true e h t cut is = cc
  end-fault false e h t cut is = subst (λ x. IsGrammarFault source ts end x) (sym is) (subst (λ x. IsUnfinished source x) (all-taken h) (stands-unfinished source (take i listed) stack b stands cut), refl, refl)

  pub whole-text : (r : Bool) (c : Builder) (ds : List Definition) → length listed ≤ i → r ≡ true → OnTrue r (IsEnd source stack b c) → ds ≡ c.definitions → IsText source ts ds
  whole-text false c ds h t ended is = cc
  whole-text true c ds h t ended is = subst (λ x. IsText source ts x) (sym is) (subst (λ x. IsText source x c.definitions) (all-taken h) (stands-text source (take i listed) stack b stands c ended))
