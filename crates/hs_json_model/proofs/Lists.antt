use Rattle.std.proofs.Common.{ℕ, ◌≤◌, ◌≡◌, ◌++◌, List, [], None, Some, map, drop, length, arith, refl, Option, Bor}
use Rattle.std.proofs.lemmas.Grind.{common_steps}
use Rattle.std.specs.Option.{option_map, unwrap_or}
use Rattle.hs_types.specs.declared.graph.Object.{Object}

-- Where nothing is left, what was made so far is the whole.
pub none_left : {A B : Type 0} (f : A → B) (made whole : List B) (xs : List A) (i : ℕ) → length xs ≤ i → made ++ map f (drop i xs) ≡ whole → made ≡ whole
none_left f made whole xs i past all = grind (arith, common_steps)

-- The name of an object that was looked up by reference.
pub named : (found : Option (Bor Object)) (object : Option Object) → option_map (λ o. o.now) found ≡ object →
    unwrap_or (option_map (λ o. o.name) object) [] ≡ unwrap_or (option_map (λ o. o.now.name) found) []
named None object e = rw (← e) refl
named (Some o) object e = rw (← e) refl
