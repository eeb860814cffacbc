-- Numbers for the elements of two shapes of which some are paired.
use Rattle.std.proofs.Common.{ℕ, ◌+◌, ◌<◌, ◌≡◌, ◌⊎◌, refl, sym, ◌∙◌, inl, inr, arith}
use Rattle.hs_overlap.proofs.Decided.{Decided, some_below}

-- pairs of numbers, injective both ways
pub record IsPairing (size : ℕ) (On : ℕ → ℕ → Type 0) : Type 0 where
  pub below : (i j : ℕ) → On i j → i < size
  pub first : (i j k : ℕ) → On i j → On i k → j ≡ k
  pub second : (i k j : ℕ) → On i j → On k j → i ≡ k

-- a partner, or none
abbrev pub Partner : (ℕ → ℕ → Type 0) → ℕ → ℕ → Type 0
Partner On size j = ((i : ℕ) × (i < size) × On i j) ⊎ ((i : ℕ) → i < size → On i j → ⊥)

abbrev place_by : (On : ℕ → ℕ → Type 0) (size j : ℕ) → Partner On size j → ℕ
place_by On size j (inl h) = h.0
place_by On size j (inr none) = size + j

pub record IsPartner (On : ℕ → ℕ → Type 0) (size j place : ℕ) : Type 0 where
  pub first : ℕ
  pub pair : On first j
  pub at : place ≡ first
  pub below : first < size

pub record HasNone (On : ℕ → ℕ → Type 0) (size j place : ℕ) : Type 0 where
  pub none : (i : ℕ) → i < size → On i j → ⊥
  pub at : place ≡ size + j

cases_by : (On : ℕ → ℕ → Type 0) (size j : ℕ) (h : Partner On size j) → IsPartner On size j (place_by On size j h) ⊎ HasNone On size j (place_by On size j h)
cases_by On size j (inl h) = inl (record { first = h.0; pair = h.2; at = refl; below = h.1 })
cases_by On size j (inr none) = inr (record { none = none; at = refl })

-- a second element has its partner's number, or stands behind all first ones
module _ (size : ℕ) (On : ℕ → ℕ → Type 0) (decide : (i j : ℕ) → Decided (On i j)) where
  pub place : ℕ → ℕ
  place j = place_by On size j (some_below (λ i. On i j) (λ i. decide i j) size)

  pub place_cases : (j : ℕ) → IsPartner On size j (place j) ⊎ HasNone On size j (place j)
  unfolding place
  place_cases j = cases_by On size j (some_below (λ i. On i j) (λ i. decide i j) size)

  module _ (pairing : IsPairing size On) where
    pub place_paired : (i j : ℕ) → On i j → place j ≡ i
    place_paired i j p = elim (place_cases j) [
      | inl h ↦ h.at ∙ pairing.second h.first i j h.pair p
      | inr h ↦ absurd (h.none i (pairing.below i j p) p)
    ]

    pub paired_place : (i j : ℕ) → i < size → i ≡ place j → On i j
    paired_place i j l e = elim (place_cases j) [
      | inl h ↦ let same : h.first ≡ i = sym h.at ∙ sym e in rw same at h.pair
      | inr h ↦ let far : i ≡ size + j = e ∙ h.at in absurd (omega arith)
    ]

    pub place_differ : (j k : ℕ) → place j ≡ place k → j ≡ k
    place_differ j k e = elim (place_cases j) [
      | inl h ↦ let p : On h.first k = paired_place h.first k h.below (sym h.at ∙ e) in pairing.first h.first j k h.pair p
      | inr h ↦ elim (place_cases k) [
        | inl w ↦ let far : size + j ≡ w.first = sym h.at ∙ e ∙ w.at in let l : w.first < size = w.below in absurd (omega arith)
        | inr w ↦ let same : size + j ≡ size + k = sym h.at ∙ e ∙ w.at in omega arith
      ]
    ]

    pub place_below : (j others : ℕ) → j < others → place j < size + others
    place_below j others l = elim (place_cases j) [
      | inl h ↦ let at : place j ≡ h.first = h.at in let b : h.first < size = h.below in omega arith
      | inr h ↦ let at : place j ≡ size + j = h.at in omega arith
    ]
