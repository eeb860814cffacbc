-- Facts that can be decided.
use Rattle.std.proofs.Common.{ℕ, suc, zero, ◌<◌, ◌≡◌, ◌⊎◌, refl, ap, inl, inr, arith, Bool, true, false}
use Rattle.std.proofs.lemmas.Bool.{cases_eq}
use Rattle.hs_types.specs.declared.rule.SlotKind.{SlotKind}
use Rattle.hs_types.specs.declared.rule.SlotKind.TheVariants.{Attribute, Link, Container}

-- A fact, or its opposite.
abbrev pub Decided : Type 0 → Type 0
Decided P = P ⊎ (P → ⊥)

-- A number below n has it, or none has.
pub some_below : (P : ℕ → Type 0) → ((i : ℕ) → Decided (P i)) → (n : ℕ) → ((i : ℕ) × (i < n) × P i) ⊎ ((i : ℕ) → i < n → P i → ⊥)
some_below P decide zero = inr (λ i l p. absurd (omega arith))
some_below P decide (suc n) = elim (decide n) [
  | inl here ↦ inl (n, omega arith, here)
  | inr not_here ↦ elim (some_below P decide n) [
    | inl h ↦ inl (h.0, (let l : h.0 < n = h.1 in omega arith), h.2)
    | inr none ↦ inr (λ i l p. elim (cases_eq i n) [ inl e ↦ not_here (rw e at p) | inr ne ↦ none i (omega arith) p ])
  ]
]

pub decided : (b : Bool) → Decided (b ≡ true)
decided true = inl refl
decided false = inr (λ e. cc)

pub kinds_decided : (a b : SlotKind) → Decided (a ≡ b)
kinds_decided (Attribute a) (Attribute b) = elim (cases_eq a b) [ inl e ↦ inl (ap (λ (n : ℕ). Attribute n) e) | inr ne ↦ inr (λ e. ne cc) ]
kinds_decided (Link a) (Link b) = elim (cases_eq a b) [ inl e ↦ inl (ap (λ (n : ℕ). Link n) e) | inr ne ↦ inr (λ e. ne cc) ]
kinds_decided Container Container = inl refl
kinds_decided (Attribute a) (Link b) = inr (λ e. cc)
kinds_decided (Attribute a) Container = inr (λ e. cc)
kinds_decided (Link a) (Attribute b) = inr (λ e. cc)
kinds_decided (Link a) Container = inr (λ e. cc)
kinds_decided Container (Attribute b) = inr (λ e. cc)
kinds_decided Container (Link b) = inr (λ e. cc)
