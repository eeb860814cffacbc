-- A written journal that isn't lawful has a first entry and a cause by which it isn't.
use Rattle.std.proofs.Common.{ℕ, suc, zero, ◌<◌, ◌≡◌, List, [], ◌∷◌, ◌++◌, map, length, take, Option, Some, None, IfSome, slice_get, refl, sym, ap, ◌∙◌, subst, arith, inl, inr, zero-add}
use Rattle.std.specs.List.{range_with_len}
use Rattle.std.proofs.lemmas.List.{take_all}
use Rattle.hs_expr.proofs.Items.{range-more}
use Rattle.hs_types.specs.declared.entry.Cause.{Cause}
use Rattle.hs_types.specs.declared.entry.Cause.TheVariants as cause
use Rattle.hs_types.specs.declared.entry.Entry.{Entry}
use Rattle.hs_types.specs.declared.entry.Outcome.{Outcome}
use Rattle.hs_types.specs.declared.entry.Outcome.TheVariants.{Applied, Missed}
use Rattle.hs_types.specs.declared.entry.Tried.{Tried}
use Rattle.hs_types.specs.declared.graph.Graph.{Graph}
use Rattle.hs_types.specs.declared.rule.Rule.{Rule}
use Rattle.hs_types.specs.Rules.{Rules}
use Rattle.hs_types.specs.Journal.{AreLawfulTries, Asks, EntryFailsBy, FailsBy, IsLawful, IsLawfulEntry, IsLawfulTry, IsLawfulWritten, IsNumbered, IsUnlawfulAt, OneFailsBy, OutcomeAsks, after_journal, after_try, rank, rule_of, tries_in}
use Rattle.hs_laws.proofs.Lawful.{IsLawful-push, take_next, take_none}

module _ (rules : Rules) (g : Graph) (tried : Tried) where
  abbrev Met : Cause → Type 0
  Met asked = Asks rules g tried asked

  number_met : Met cause.Number
  number_met = go (rule_of rules tried)
    where
      of_outcome : (rule : Rule) (outcome : Outcome) → OutcomeAsks rules.meta g rule tried.args outcome cause.Number
      of_outcome rule (Applied found new old gone) = tt
      of_outcome rule Missed = tt

      go : (o : Option Rule) → IfSome o (λ rule. OutcomeAsks rules.meta g rule tried.args tried.outcome cause.Number)
      go None = tt
      go (Some rule) = of_outcome rule tried.outcome

  -- The causes up to a rank are met.
  up_to_rule : (c : Cause) → rank c < 1 → Met c
  up_to_rule cause.Number l = number_met
  up_to_rule cause.Rule l = absurd (omega arith)
  up_to_rule cause.Match l = absurd (omega arith)
  up_to_rule cause.Valid l = absurd (omega arith)
  up_to_rule cause.New l = absurd (omega arith)
  up_to_rule cause.Old l = absurd (omega arith)

  up_to_match : Met cause.Rule → (c : Cause) → rank c < 2 → Met c
  up_to_match rule cause.Number l = number_met
  up_to_match rule cause.Rule l = rule
  up_to_match rule cause.Match l = absurd (omega arith)
  up_to_match rule cause.Valid l = absurd (omega arith)
  up_to_match rule cause.New l = absurd (omega arith)
  up_to_match rule cause.Old l = absurd (omega arith)

  up_to_valid : Met cause.Rule → Met cause.Match → (c : Cause) → rank c < 3 → Met c
  up_to_valid rule found cause.Number l = number_met
  up_to_valid rule found cause.Rule l = rule
  up_to_valid rule found cause.Match l = found
  up_to_valid rule found cause.Valid l = absurd (omega arith)
  up_to_valid rule found cause.New l = absurd (omega arith)
  up_to_valid rule found cause.Old l = absurd (omega arith)

  up_to_new : Met cause.Rule → Met cause.Match → Met cause.Valid → (c : Cause) → rank c < 4 → Met c
  up_to_new rule found valid cause.Number l = number_met
  up_to_new rule found valid cause.Rule l = rule
  up_to_new rule found valid cause.Match l = found
  up_to_new rule found valid cause.Valid l = valid
  up_to_new rule found valid cause.New l = absurd (omega arith)
  up_to_new rule found valid cause.Old l = absurd (omega arith)

  up_to_old : Met cause.Rule → Met cause.Match → Met cause.Valid → Met cause.New → (c : Cause) → rank c < 5 → Met c
  up_to_old rule found valid new cause.Number l = number_met
  up_to_old rule found valid new cause.Rule l = rule
  up_to_old rule found valid new cause.Match l = found
  up_to_old rule found valid new cause.Valid l = valid
  up_to_old rule found valid new cause.New l = new
  up_to_old rule found valid new cause.Old l = absurd (omega arith)

  all_met : Met cause.Rule → Met cause.Match → Met cause.Valid → Met cause.New → Met cause.Old → IsLawfulTry rules g tried
  all_met rule found valid new old cause.Number = number_met
  all_met rule found valid new old cause.Rule = rule
  all_met rule found valid new old cause.Match = found
  all_met rule found valid new old cause.Valid = valid
  all_met rule found valid new old cause.New = new
  all_met rule found valid new old cause.Old = old

  -- An attempt that fails by no cause can't be unlawful.
  try_lawful : ((c : Cause) → FailsBy rules g tried c → ⊥) → (IsLawfulTry rules g tried → ⊥) → ⊥
  try_lawful none unlawful =
      none cause.Rule (record {
        met = up_to_rule;
        unmet = λ rule.
            none cause.Match (record {
              met = up_to_match rule;
              unmet = λ found.
                  none cause.Valid (record {
                    met = up_to_valid rule found;
                    unmet = λ valid.
                        none cause.New (record {
                          met = up_to_new rule found valid;
                          unmet = λ new.
                              none cause.Old (record { met = up_to_old rule found valid new; unmet = λ old. unlawful (all_met rule found valid new old) });
                        });
                  });
            });
      })

tries_lawful : (rules : Rules) (g : Graph) (tries : List Tried) → ((c : Cause) → OneFailsBy rules g tries c → ⊥) → (AreLawfulTries rules g tries → ⊥) → ⊥
tries_lawful rules g [] none unlawful = unlawful tt
tries_lawful rules g (tried ∷ tries) none unlawful =
    try_lawful rules g tried (λ c f. none c (inl f)) (λ here.
    tries_lawful rules (after_try rules g tried) tries (λ c f. none c (inr (here, f))) (λ rest. unlawful (here, rest)))

-- No attempt fails by its numbers alone.
never_by_number : (rules : Rules) (g : Graph) (tries : List Tried) → OneFailsBy rules g tries cause.Number → ⊥
never_by_number rules g [] f = f
never_by_number rules g (tried ∷ tries) (inl f) = f.unmet (number_met rules g tried)
never_by_number rules g (tried ∷ tries) (inr f) = never_by_number rules (after_try rules g tried) tries f.1

entry_lawful : (rules : Rules) (before : List Entry) (g : Graph) (place : ℕ) (entry : Entry) → ((c : Cause) → EntryFailsBy rules before g place entry c → ⊥) → (IsLawfulEntry rules before g place entry → ⊥) → ⊥
entry_lawful rules before g place entry none unlawful = none cause.Number (λ numbered.
    tries_lawful rules g (tries_in entry.what) (one numbered) (λ lawful. unlawful (record { numbered = numbered; tries = lawful })))
  where
    one : IsNumbered before place entry → (c : Cause) → OneFailsBy rules g (tries_in entry.what) c → ⊥
    one numbered cause.Number f = never_by_number rules g (tries_in entry.what) f
    one numbered cause.Rule f = none cause.Rule (numbered, f)
    one numbered cause.Match f = none cause.Match (numbered, f)
    one numbered cause.Valid f = none cause.Valid (numbered, f)
    one numbered cause.New f = none cause.New (numbered, f)
    one numbered cause.Old f = none cause.Old (numbered, f)

abbrev second : ℕ × Entry → Entry
second e = e.1

abbrev first : ℕ × Entry → ℕ
first e = e.0

map-last : {A B : Type 0} (f : A → B) (xs : List A) (x : A) → map f (xs ++ x ∷ []) ≡ map f xs ++ f x ∷ []
map-last f [] x = refl
map-last f (y ∷ xs) x = ap (λ ys. f y ∷ ys) (map-last f xs x)

length-last : {A : Type 0} (xs : List A) (x : A) → length (xs ++ x ∷ []) ≡ suc (length xs)
length-last [] x = refl
length-last (y ∷ xs) x = ap suc (length-last xs x)

length-mapped : {A B : Type 0} (f : A → B) (xs : List A) → length (map f xs) ≡ length xs
length-mapped f [] = refl
length-mapped f (x ∷ xs) = ap suc (length-mapped f xs)

-- A lawful written journal with a lawful entry more.
one_more : (rules : Rules) (opening : Graph) (written : List (ℕ × Entry)) (e : ℕ × Entry) → IsLawfulWritten rules opening written →
    IsLawfulEntry rules (map second written) (after_journal rules opening (map second written)) e.0 e.1 → IsLawfulWritten rules opening (written ++ e ∷ [])
one_more rules opening written e lawful entry =
    let place : e.0 ≡ length written = entry.numbered.at_its_place ∙ length-mapped second written in
    let at : IsLawfulEntry rules (map second written) (after_journal rules opening (map second written)) (length (map second written)) e.1 = subst (λ (n : ℕ). IsLawfulEntry rules (map second written) (after_journal rules opening (map second written)) n e.1) entry.numbered.at_its_place entry in
    let last : range_with_len 0 (suc (length written)) ≡ range_with_len 0 (length written) ++ length written ∷ [] = range-more 0 (length written) ∙ ap (λ n. range_with_len 0 (length written) ++ n ∷ []) (zero-add (length written)) in
    let places : map first (written ++ e ∷ []) ≡ range_with_len 0 (length (written ++ e ∷ [])) =
    map-last first written e ∙ ap (λ (ns : List ℕ). ns ++ e.0 ∷ []) lawful.0 ∙ ap (λ n. range_with_len 0 (length written) ++ n ∷ []) place ∙ sym last ∙ ap (range_with_len 0) (sym (length-last written e)) in
    (places, subst (IsLawful rules opening) (sym (map-last second written e)) (IsLawful-push rules opening (map second written) e.1 lawful.1 at))

-- If the journal is unlawful nowhere, no prefix of it can be unlawful.
prefix_lawful : (rules : Rules) (opening : Graph) (written : List (ℕ × Entry)) → ((position : ℕ) (asked : Cause) → IsUnlawfulAt rules opening written position asked → ⊥) → (n : ℕ) → (IsLawfulWritten rules opening (take n written) → ⊥) → ⊥
prefix_lawful rules opening written nowhere zero unlawful = unlawful (refl, λ place. tt)
prefix_lawful rules opening written nowhere (suc n) unlawful = prefix_lawful rules opening written nowhere n (λ lawful. go (slice_get written n) refl lawful)
  where
    go : (o : Option (ℕ × Entry)) → slice_get written n ≡ o → IsLawfulWritten rules opening (take n written) → ⊥
    go None e lawful = unlawful (subst (IsLawfulWritten rules opening) (sym (take_none written n e)) lawful)
    go (Some entry) e lawful =
        entry_lawful rules (map second (take n written)) (after_journal rules opening (map second (take n written))) entry.0 entry.1
        (λ c f. nowhere n c (record { lawful_before = lawful; fails = rw e f }))
        (λ here. unlawful (subst (IsLawfulWritten rules opening) (sym (take_next written n entry e)) (one_more rules opening (take n written) entry lawful here)))

pub lawful_or_unlawful : (rules : Rules) (opening : Graph) (written : List (ℕ × Entry)) → ((position : ℕ) (asked : Cause) → IsUnlawfulAt rules opening written position asked → ⊥) → (IsLawfulWritten rules opening written → ⊥) → ⊥
lawful_or_unlawful rules opening written nowhere unlawful =
    prefix_lawful rules opening written nowhere (length written) (λ lawful. unlawful (subst (IsLawfulWritten rules opening) (take_all (length written) written (omega arith)) lawful))
