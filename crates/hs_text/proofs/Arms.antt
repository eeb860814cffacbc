use Rattle.std.proofs.Common.{ℕ, ◌<◌, ◌≡◌, ◌↔◌, Bool, true, false, List, [], ◌∷◌, ◌++◌, Some, None, sym}
use Rattle.std.specs.Bool.{OnTrue}
use Rattle.hs_tokens.specs.declared.token.Kind.{Kind}
use Rattle.hs_tokens.specs.declared.token.Token.{Token}
use Rattle.hs_tokens.specs.Kinds.{same}
use Rattle.hs_text.specs.declared.grammar.Term.{Term}
use Rattle.hs_text.specs.declared.grammar.Part.{Part}
use Rattle.hs_text.specs.declared.grammar.Production.{Production}
use Rattle.hs_text.specs.declared.grammar.Action.{Action}
use Rattle.hs_text.specs.declared.grammar.Symbol.{Symbol}
use Rattle.hs_text.specs.declared.grammar.Symbol.TheVariants.{Skip, Keep, Sub, Act}
use Rattle.hs_text.specs.declared.builder.Builder.{Builder}
use Rattle.hs_text.specs.Terms.{matches}
use Rattle.hs_text.specs.Building.{with_token, builder_after}
use Rattle.hs_text.specs.Machine.{Derives, done, skip, keep, act, right_side, empty_of, production_of, Fine, TakesToken, RefusesToken, IsEnd, IsCutOff}
use Rattle.hs_text.proofs.Steps.{skip-step, keep-step, act-step, sub-step, sub-back, sub-none, fine-step, measure, measure-act, measure-step, end-step, end-back, end-none, end-done, size, end-measure-act, end-measure-step}

abbrev pub SameTexts : List ℕ → List Symbol → Builder → Token → List Symbol → Builder → Type 0
SameTexts source start b t now c = (u : List Token) (f : Builder) → Derives source start (t ∷ u) b f ↔ Derives source now (t ∷ u) c f

abbrev pub SameEnds : List ℕ → List Symbol → Builder → List Symbol → Builder → Type 0
SameEnds source start b now c = (f : Builder) → Derives source start [] b f ↔ Derives source now [] c f

module _ (source : List ℕ) (start : List Symbol) (b : Builder) (t : Token) (old : List Symbol) (c : Builder) (fine : Fine old) (texts : SameTexts source start b t old c) where
  pub skip-taken : (r : Bool) (k : Kind) (new : List Symbol) → r ≡ same k t.kind → old ≡ Skip k ∷ new → OnTrue r (TakesToken source start b t new c)
  skip-taken false k new i e = tt
  skip-taken true k new i e = record {
    fine = rw e at fine;
    same_texts = λ u f. ((λ d. (skip-step (rw e at ((texts u f).0 d))).1), (λ d. (texts u f).1 (rw e (skip (sym i) d))));
  }

  pub keep-taken : (r : Bool) (w : Term) (new : List Symbol) (after : Builder) → r ≡ matches w t.kind → OnTrue r (after ≡ with_token t c) → old ≡ Keep w ∷ new → OnTrue r (TakesToken source start b t new after)
  keep-taken false w new after i h e = tt
  keep-taken true w new after i h e = record {
    fine = rw e at fine;
    same_texts = λ u f. ((λ d. rw h (keep-step (rw e at ((texts u f).0 d))).1), (λ d. (texts u f).1 (rw e (keep (sym i) (rw h at d)))));
  }

  pub act-less : (a : Action) (new : List Symbol) → old ≡ Act a ∷ new → measure t.kind new < measure t.kind old
  act-less a new e = rw e (measure-act t.kind a new)

  pub act-texts : (a : Action) (new : List Symbol) (after : Builder) → old ≡ Act a ∷ new → after ≡ builder_after source a c → SameTexts source start b t new after
  act-texts a new after e h u f = ((λ d. rw h (act-step (rw e at ((texts u f).0 d)))), (λ d. (texts u f).1 (rw e (act (rw h at d)))))

  pub act-fine : (a : Action) (new : List Symbol) → old ≡ Act a ∷ new → Fine new
  act-fine a new e = rw e at fine

  pub sub-less : (n : Part) (mid new : List Symbol) (p : Production) → old ≡ Sub n ∷ mid → production_of n t.kind ≡ Some p → new ≡ right_side p ++ mid → measure t.kind new < measure t.kind old
  sub-less n mid new p e g h = rw (e, h) (measure-step n t.kind p mid g)

  pub sub-fine : (n : Part) (mid new : List Symbol) (p : Production) → old ≡ Sub n ∷ mid → production_of n t.kind ≡ Some p → new ≡ right_side p ++ mid → Fine new
  sub-fine n mid new p e g h = rw h (fine-step n t.kind p mid g (rw e at fine))

  pub sub-texts : (n : Part) (mid new : List Symbol) (p : Production) → old ≡ Sub n ∷ mid → production_of n t.kind ≡ Some p → new ≡ right_side p ++ mid → SameTexts source start b t new c
  sub-texts n mid new p e g h u f = (
    (λ d. rw h (sub-step n t p mid u c f (rw e at fine) g (rw e at ((texts u f).0 d)))),
    (λ d. (texts u f).1 (rw e (sub-back n t p mid u c f g (rw h at d)))),
  )

  pub none-refused : (n : Part) (mid : List Symbol) → old ≡ Sub n ∷ mid → production_of n t.kind ≡ None → RefusesToken source start b t
  none-refused n mid e g u f d = sub-none n t mid u c f g (rw e at ((texts u f).0 d))

module _ (source : List ℕ) (start : List Symbol) (b : Builder) (old : List Symbol) (c : Builder) (ends : SameEnds source start b old c) where
  pub end-act-less : (a : Action) (new : List Symbol) → old ≡ Act a ∷ new → size new < size old
  end-act-less a new e = rw e (end-measure-act a new)

  pub end-act : (a : Action) (new : List Symbol) (after : Builder) → old ≡ Act a ∷ new → after ≡ builder_after source a c → SameEnds source start b new after
  end-act a new after e h f = ((λ d. rw h (act-step (rw e at ((ends f).0 d)))), (λ d. (ends f).1 (rw e (act (rw h at d)))))

  pub end-sub-less : (n : Part) (mid new : List Symbol) (p : Production) → old ≡ Sub n ∷ mid → empty_of n ≡ Some p → new ≡ right_side p ++ mid → size new < size old
  end-sub-less n mid new p e g h = rw (e, h) (end-measure-step n p mid g)

  pub end-sub : (n : Part) (mid new : List Symbol) (p : Production) → old ≡ Sub n ∷ mid → empty_of n ≡ Some p → new ≡ right_side p ++ mid → SameEnds source start b new c
  end-sub n mid new p e g h f = (
    (λ d. rw h (end-step n p mid c f g (rw e at ((ends f).0 d)))),
    (λ d. (ends f).1 (rw e (end-back n p mid c f g (rw h at d)))),
  )

  pub end-cut-off : (n : Part) (mid : List Symbol) → old ≡ Sub n ∷ mid → empty_of n ≡ None → IsCutOff source start b
  end-cut-off n mid e g f d = end-none n mid c f g (rw e at ((ends f).0 d))

  pub end-whole : old ≡ [] → IsEnd source start b c
  end-whole e f = ((λ d. end-done (rw e at ((ends f).0 d))), (λ h. (ends f).1 (rw (e, h) done)))
