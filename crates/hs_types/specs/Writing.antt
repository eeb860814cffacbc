-- Single writes into slots, and searches by number.
use Rattle.std.specs.Prelude.{ℕ, ◌≡◌, ◌<◌, ◌≤◌, ◌^◌, List, get_or, map, length, eqb, if◌then◌else◌, Option, MatchOption}
use Rattle.std.specs.List.{All, HoldsAt}
use Rattle.hs_expr.specs.declared.value.Value.{Value}
use Rattle.hs_types.specs.declared.graph.Object.{Object}
use Rattle.hs_types.specs.declared.graph.Slot.{Slot}
use Rattle.hs_types.specs.declared.plan.End.{End}
use Rattle.hs_expr.specs.Lists.{Differ, Rise}
use Rattle.hs_types.specs.Step.{number_of}

-- The slot with the value, where it is of this attribute.
abbrev pub set_slot : ℕ → Value → Slot → Slot
set_slot a v slot = record {
  attribute = slot.attribute;
  value = if eqb slot.attribute a then v else slot.value;
}

-- Objects stand in the order of their numbers, and no object has two slots for one attribute.
pub record AreKeyed (objects : List Object) : Type 0 where
  pub rise : (high : ℕ) × Rise 0 (map (λ object. object.number) objects) high
  pub slots_differ : All (λ object. Differ (map (λ slot. slot.attribute) object.slots)) objects

-- The place of the only item of this key, or none where no item has it.
abbrev pub IsPlace : {A : Type 0} → (A → ℕ) → List A → ℕ → Option ℕ → Type 0
IsPlace key xs n place =
    MatchOption place (All (λ x. key x ≡ n → ⊥) xs)
    (λ i. (i < length xs) × HoldsAt (λ x. key x ≡ n) xs i)

abbrev pub AreRising : List ℕ → Type 0
AreRising ns = (i j : ℕ) → i ≤ j → j < length ns → get_or ns i 0 ≤ get_or ns j 0

-- The number of the end is one that an object can have, where the first made object gets number
-- `next`.
abbrev pub IsWithin : ℕ → End → Type 0
IsWithin next end = number_of next end < 2 ^ 32
