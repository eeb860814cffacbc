-- The walk over the names of objects.
use Rattle.std.proofs.Common.{ℕ, ◌+◌, ◌<◌, ◌≡◌, ◌++◌, List, ◌∷◌, Bool, true, false, not, max, drop, get_or, length, Some, None, Ok, Err, refl, ap, sym, ◌∙◌, arith, if◌then◌else◌}
use Rattle.std.proofs.lemmas.Int.{clamps}
use Rattle.std.proofs.lemmas.List.{drop_more}
use Rattle.std.proofs.lemmas.Option.{none-some, same_Some}
use Rattle.hs_expr.specs.Verdict.{verdict, fault_if}
use Rattle.hs_graph.specs.declared.raw.RawObject.{RawObject}
use Rattle.hs_graph.specs.Lookups.{object_names}
use Rattle.hs_graph.specs.Meaning.{next_name_after}
use Rattle.hs_graph.specs.Names.{next_after}

-- Where the test gives a number, it is true, and the number is that one.
pub passed : (b : Bool) (n k : ℕ) → Some k ≡ (if b then Some n else None) → (b ≡ true) × (k ≡ n)
passed true n k e = (refl, same_Some k n e)
passed false n k e = absurd (none-some k (sym e))

-- Two tests of which neither finds a fault.
pub neither : {E : Type 0} (a b : Bool) (f g : E) → a ≡ true → b ≡ false → verdict (fault_if (not a) f ++ fault_if b g) ≡ Ok tt
neither a b f g p q = rw (p, q) refl

-- Two tests of which the second alone finds its fault.
pub second : {E : Type 0} (a b : Bool) (f g : E) → a ≡ true → b ≡ true → verdict (fault_if (not a) f ++ fault_if b g) ≡ Err g
second a b f g p q = rw (p, q) refl

larger_of_three : (a b c : ℕ) → max (max a b) c ≡ max a (max b c)
larger_of_three a b c = omega (arith, clamps)

-- The next name, one object on.
pub next_step : (objects : List RawObject) (i : ℕ) (object : RawObject) (old new : ℕ) → i < length objects → object ≡ get_or objects i object → new ≡ max old (next_after object.name) →
    max new (next_name_after (object_names (drop (i + 1) objects))) ≡ max old (next_name_after (object_names (drop i objects)))
next_step objects i object old new h at is =
    ap (λ k. max k (next_name_after (object_names (drop (i + 1) objects)))) is
    ∙ larger_of_three old (next_after object.name) (next_name_after (object_names (drop (i + 1) objects)))
    ∙ ap (λ os. max old (next_name_after (object_names os))) (sym (drop_more objects i object h ∙ ap (λ o. o ∷ drop (i + 1) objects) (sym at)))
