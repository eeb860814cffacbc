-- Types with split support (Kraus, Escardó, Coquand and Altenkirch, "Notions of anonymous existence"): where there merely is a proof, there is one to be had. A form that a type carries is truncated; this takes it back.
use Rattle.std.proofs.Common.{◌≡◌, ◌↔◌, List, [], ◌∷◌, Bool, true, Option, Some, None, IsSomeAnd, IfSome}
use Rattle.std.specs.Coded.{Coded-set, coded_bool}
use Rattle.std.specs.List.{All}
use mathlib.Core.HLevel.{⊥_prop}
use mathlib.Core.Logic.{∥∥₁_elim, ∥∥₁_map}
use Rattle.hs_expr.specs.Lists.{EachPair}

abbrev pub HasSplitSupport : Type 0 → Type 0
HasSplitSupport A = ∥ A ∥₁ → A

pub split-prop : {A : Type 0} → IsProp A → HasSplitSupport A
split-prop one h = ∥∥₁_elim h one (λ a. a)

pub split-× : {A B : Type 0} → HasSplitSupport A → HasSplitSupport B → HasSplitSupport (A × B)
split-× a b h = (a (∥∥₁_map h (λ p. p.0)), b (∥∥₁_map h (λ p. p.1)))

pub split-×₃ : {A B C : Type 0} → HasSplitSupport A → HasSplitSupport B → HasSplitSupport C → HasSplitSupport (A × B × C)
split-×₃ a b c h = (a (∥∥₁_map h (λ p. p.0)), b (∥∥₁_map h (λ p. p.1)), c (∥∥₁_map h (λ p. p.2)))

pub split-→ : {A : Type 0} (B : A → Type 0) → ((a : A) → HasSplitSupport (B a)) → HasSplitSupport ((a : A) → B a)
split-→ B each h = λ a. each a (∥∥₁_map h (λ f. f a))

-- What a test decides.
pub split-test : {A : Type 0} (b : Bool) → (b ≡ true) ↔ A → HasSplitSupport A
split-test b says h = says.0 (∥∥₁_elim h (Coded-set coded_bool b true) says.1)

pub split-All : {A : Type 0} (P : A → Type 0) (xs : List A) → ((x : A) → HasSplitSupport (P x)) → HasSplitSupport (All P xs)
split-All P xs each h = λ k d low. each _ (∥∥₁_map h (λ all. all k d low))

pub split-IsSomeAnd : {A : Type 0} (P : A → Type 0) (found : Option A) → ((x : A) → HasSplitSupport (P x)) → HasSplitSupport (IsSomeAnd found P)
split-IsSomeAnd P None each h = ∥∥₁_elim h ⊥_prop (λ none. none)
split-IsSomeAnd P (Some x) each h = each x h

pub split-IfSome : {A : Type 0} (P : A → Type 0) (found : Option A) → ((x : A) → HasSplitSupport (P x)) → HasSplitSupport (IfSome found P)
split-IfSome P None each h = tt
split-IfSome P (Some x) each h = each x h

pub split-EachPair : {A : Type 0} (R : A → A → Type 0) (xs : List A) → ((x y : A) → HasSplitSupport (R x y)) → HasSplitSupport (EachPair R xs)
split-EachPair R [] each h = tt
split-EachPair R (x ∷ xs) each h = split-× (split-All (R x) xs (each x)) (split-EachPair R xs each) h
