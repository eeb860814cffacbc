-- Bytes are refused for one reason at most, and for none where they hold what is built.
use Rattle.std.proofs.Common.{ℕ, ◌≡◌, inl, inr, List, Option, Some, None, Result, Ok, Err, refl, ap, sym, subst, ◌∙◌}
use Rattle.std.specs.Str.{chars}
use Rattle.serde_json.specs.Data.{Data}
use Rattle.hs_expr.specs.Verdict.{verdict}
use Rattle.hs_tokens.specs.declared.fault.TextFault.{TextFault}
use Rattle.hs_text.specs.declared.syntax.Definition.{Definition}
use Rattle.hs_text.specs.declared.syntax.Syntax.{Syntax}
use Rattle.hs_text.specs.Parsing.{IsSyntaxOf, IsTextFault}
use Rattle.hs_types.specs.declared.request.Request.{Request}
use Rattle.hs_json.specs.declared.fault.BundleFault.{BundleFault}
use Rattle.hs_json.specs.Reading.{Contents, IsBundleAnswer, contents_of}
use Rattle.hs_faults.specs.declared.fault.RuleFault.{RuleFault}
use Rattle.hs_faults.specs.UnitFaults.{faults_of}
use Rattle.hs_check.specs.Rules.{rules_meant}
use Rattle.hs_check.specs.Units.{units_meant}
use Rattle.hs_input.specs.declared.refusal.Refusal.{Refusal}
use Rattle.hs_input.specs.declared.refusal.Refusal.TheVariants.{NoBundle, BadText, BadRule, NotBuilt}
use Rattle.hs_input.specs.Input.{IsBuilt, IsRead, asked}
use Rattle.hs_input.specs.Refusing.{Refuses}
use Rattle.hs_input.specs.Sessions.{sessions_asked}

-- ---- what bytes hold

same_data : {d e : Data} (o : Option Data) → o ≡ Some d → o ≡ Some e → d ≡ e
same_data None a b = absurd (cc)
same_data (Some x) a b = cc

none_some : {d : Data} (o : Option Data) → o ≡ None → o ≡ Some d → ⊥
none_some None a b = absurd (cc)
none_some (Some x) a b = absurd (cc)

one-answer : (bytes : List ℕ) (x y : Result Contents BundleFault) → IsBundleAnswer bytes x → IsBundleAnswer bytes y → x ≡ y
one-answer bytes x y (inl a) (inl b) = a.1 ∙ sym b.1
one-answer bytes x y (inl a) (inr b) = absurd (none_some _ (a.0 b.1.is_text) b.1.is_value)
one-answer bytes x y (inr a) (inl b) = absurd (none_some _ (b.0 a.1.is_text) a.1.is_value)
one-answer bytes x y (inr a) (inr b) = sym a.2 ∙ ap contents_of (same_data _ a.1.is_value b.1.is_value) ∙ b.2

inside : {h k : Contents} (r : Result Contents BundleFault) → r ≡ Ok h → r ≡ Ok k → h ≡ k
inside (Ok x) a b = cc
inside (Err f) a b = absurd (cc)

same-held : (bytes : List ℕ) (h k : Contents) → IsBundleAnswer bytes (Ok h) → IsBundleAnswer bytes (Ok k) → k ≡ h
same-held bytes h k a b = sym (inside (Ok h) refl (one-answer bytes (Ok h) (Ok k) a b))

no-both : (bytes : List ℕ) (f : BundleFault) (h : Contents) → IsBundleAnswer bytes (Err f) → IsBundleAnswer bytes (Ok h) → ⊥
no-both bytes f h a b = let e = one-answer bytes (Err f) (Ok h) a b in absurd (cc)

told : (v : Result (Unit {0}) RuleFault) (f g : RuleFault) → v ≡ Err f → v ≡ Err g → f ≡ g
told (Ok x) f g a b = absurd (cc)
told (Err x) f g a b = cc

silent : (v : Result (Unit {0}) RuleFault) (f : RuleFault) → v ≡ Err f → v ≡ Ok tt → ⊥
silent (Ok x) f a b = absurd (cc)
silent (Err x) f a b = absurd (cc)

built-or-not : (o : Option (List (List Request))) (sessions : List (List Request)) → o ≡ None → o ≡ Some sessions → ⊥
built-or-not None sessions a b = absurd (cc)
built-or-not (Some x) sessions a b = absurd (cc)

-- a text has the definitions of one syntax at most, one first fault at most, and never both
pub record ReadOnce : Type 0 where
  pub syntax : (source : List ℕ) (s t : Syntax) → IsSyntaxOf source s → IsSyntaxOf source t → s.definitions ≡ t.definitions
  pub fault : (source : List ℕ) (f g : TextFault) → IsTextFault source f → IsTextFault source g → f ≡ g
  pub never_both : (source : List ℕ) (s : Syntax) (f : TextFault) → IsSyntaxOf source s → IsTextFault source f → ⊥

module _ (once : ReadOnce) where
  -- ---- what comes after a bundle: a syntax, and what is found in it

  same-syntax : (h k : Contents) (s t : Syntax) → k ≡ h → IsSyntaxOf (chars h.rules) s → IsSyntaxOf (chars k.rules) t → t.definitions ≡ s.definitions
  same-syntax h k s t e a b = sym (once.syntax (chars h.rules) s t a (subst (λ (c : Contents). IsSyntaxOf (chars c.rules) t) e b))

  same-verdict : (h k : Contents) (s t : Syntax) → k ≡ h → IsSyntaxOf (chars h.rules) s → IsSyntaxOf (chars k.rules) t → verdict (faults_of k.meta t.definitions) ≡ verdict (faults_of h.meta s.definitions)
  same-verdict h k s t e a b = ap (λ (c : Contents). verdict (faults_of c.meta t.definitions)) e ∙ ap (λ (ds : List Definition). verdict (faults_of h.meta ds)) (same-syntax h k s t e a b)

  no-text : (bytes : List ℕ) (h k : Contents) (t : Syntax) (line column : ℕ) (kind : _) → IsBundleAnswer bytes (Ok h) → IsBundleAnswer bytes (Ok k) → IsTextFault (chars h.rules) (record { line = line; column = column; kind = kind }) → IsSyntaxOf (chars k.rules) t → ⊥
  no-text bytes h k t line column kind a b wrong is = once.never_both (chars h.rules) t (record { line = line; column = column; kind = kind }) (subst (λ (c : Contents). IsSyntaxOf (chars c.rules) t) (same-held bytes h k a b) is) wrong

  no-silence : (bytes : List ℕ) (h k : Contents) (s t : Syntax) (f : RuleFault) → IsBundleAnswer bytes (Ok h) → IsSyntaxOf (chars h.rules) s → verdict (faults_of h.meta s.definitions) ≡ Err f → IsRead bytes k t → ⊥
  no-silence bytes h k s t f a is wrong read =
      silent (verdict (faults_of h.meta s.definitions)) f wrong (sym (same-verdict h k s t (same-held bytes h k a read.is_bundle) is read.is_syntax) ∙ read.is_right)

  -- ---- one reason

  pub one : (bytes : List ℕ) (a b : Refusal) → Refuses bytes a → Refuses bytes b → a ≡ b
  one bytes (NoBundle f) (NoBundle g) x y = let e = one-answer bytes (Err f) (Err g) x y in cc
  one bytes (NoBundle f) (BadText l c k) x y = absurd (no-both bytes f y.0 x y.1)
  one bytes (NoBundle f) (BadRule g) x y = absurd (no-both bytes f y.0 x y.2)
  one bytes (NoBundle f) NotBuilt x y = absurd (no-both bytes f y.0 x y.2.is_bundle)
  one bytes (BadText l c k) (NoBundle f) x y = absurd (no-both bytes f x.0 y x.1)
  one bytes (BadRule g) (NoBundle f) x y = absurd (no-both bytes f x.0 y x.2)
  one bytes NotBuilt (NoBundle f) x y = absurd (no-both bytes f x.0 y x.2.is_bundle)
  one bytes (BadText l c k) (BadText m d j) x y =
      ap (λ (f : TextFault). BadText f.line f.column f.kind)
      (once.fault (chars x.0.rules) (record { line = l; column = c; kind = k }) (record { line = m; column = d; kind = j }) x.2
      (subst (λ (h : Contents). IsTextFault (chars h.rules) (record { line = m; column = d; kind = j })) (same-held bytes x.0 y.0 x.1 y.1) y.2))
  one bytes (BadText l c k) (BadRule g) x y = absurd (no-text bytes x.0 y.0 y.1 l c k x.1 y.2 x.2 y.3)
  one bytes (BadText l c k) NotBuilt x y = absurd (no-text bytes x.0 y.0 y.1 l c k x.1 y.2.is_bundle x.2 y.2.is_syntax)
  one bytes (BadRule g) (BadText l c k) x y = absurd (no-text bytes y.0 x.0 x.1 l c k y.1 x.2 y.2 x.3)
  one bytes NotBuilt (BadText l c k) x y = absurd (no-text bytes y.0 x.0 x.1 l c k y.1 x.2.is_bundle y.2 x.2.is_syntax)
  one bytes (BadRule f) (BadRule g) x y =
      ap BadRule (told (verdict (faults_of x.0.meta x.1.definitions)) f g x.4 (sym (same-verdict x.0 y.0 x.1 y.1 (same-held bytes x.0 y.0 x.2 y.2) x.3 y.3) ∙ y.4))
  one bytes (BadRule f) NotBuilt x y = absurd (no-silence bytes x.0 y.0 x.1 y.1 f x.2 x.3 x.4 y.2)
  one bytes NotBuilt (BadRule f) x y = absurd (no-silence bytes y.0 x.0 y.1 x.1 f y.2 y.3 y.4 x.2)
  one bytes NotBuilt NotBuilt x y = refl

  -- ---- and none

  same-asked : (h k : Contents) (s t : Syntax) → k ≡ h → IsSyntaxOf (chars h.rules) s → IsSyntaxOf (chars k.rules) t → asked k t ≡ asked h s
  same-asked h k s t e a b =
      ap (λ (c : Contents). asked c t) e
      ∙ ap (λ (ds : List Definition). sessions_asked (rules_meant h.meta ds) (units_meant h.meta ds) h.sessions h.journal) (same-syntax h k s t e a b)

  pub none : (bytes : List ℕ) (held : Contents) (syntax : Syntax) (sessions : List (List Request)) (refusal : Refusal) → IsBuilt bytes held syntax sessions → Refuses bytes refusal → ⊥
  none bytes held syntax sessions (NoBundle f) built x = no-both bytes f held x built.is_read.is_bundle
  none bytes held syntax sessions (BadText l c k) built x = no-text bytes x.0 held syntax l c k x.1 built.is_read.is_bundle x.2 built.is_read.is_syntax
  none bytes held syntax sessions (BadRule f) built x = no-silence bytes x.0 held x.1 syntax f x.2 x.3 x.4 built.is_read
  none bytes held syntax sessions NotBuilt built x =
      built-or-not (asked held syntax) sessions
      (sym (same-asked held x.0 syntax x.1 (same-held bytes held x.0 built.is_read.is_bundle x.2.is_bundle) built.is_read.is_syntax x.2.is_syntax) ∙ x.3)
      built.is_asked
