-- Lawful journals.
use Rattle.std.proofs.Common.{ℕ, suc, zero, ◌+◌, ◌-◌, ◌<◌, ◌≤◌, ◌≡◌, inl, inr, List, [], ◌∷◌, ◌++◌, map, length, take, true, false, Option, Some, None, IsSomeAnd, IfSome, slice_get, refl, sym, ap, ◌∙◌, subst, arith, rules, zero-add, ◌⊎◌}
use Rattle.std.specs.List.{All, range_with_len}
use Rattle.std.specs.Option.{option_map, unwrap_or}
use Rattle.std.proofs.lemmas.Bool.{cases_lt}
use Rattle.std.proofs.lemmas.List.{take-append-le, take_all}
use Rattle.std.proofs.lemmas.List.Sums.{fold-append}
use Rattle.std.proofs.lemmas.List.Elements.{All-weaker, All-head, All-tail}
use Rattle.hs_expr.proofs.Items.{slice_get-take}
use Rattle.hs_types.specs.declared.entry.Cause.{Cause}
use Rattle.hs_types.specs.declared.entry.Cause.TheVariants as cause
use Rattle.hs_types.specs.declared.entry.Entry.{Entry}
use Rattle.hs_types.specs.declared.entry.Outcome.{Outcome}
use Rattle.hs_types.specs.declared.entry.Outcome.TheVariants.{Applied, Missed}
use Rattle.hs_types.specs.declared.entry.Tried.{Tried}
use Rattle.hs_types.specs.declared.entry.What.{What}
use Rattle.hs_types.specs.declared.entry.What.TheVariants.{One, Group}
use Rattle.hs_types.specs.declared.graph.Graph.{Graph}
use Rattle.hs_types.specs.declared.matching.Match.{Match}
use Rattle.hs_types.specs.declared.meta.Metamodel.{Metamodel}
use Rattle.hs_types.specs.declared.request.Args.{Args}
use Rattle.hs_types.specs.declared.rule.Rule.{Rule}
use Rattle.hs_types.specs.Limits.{IsSmallRule}
use Rattle.hs_types.specs.Rules.{AreFormed, Rules}
use Rattle.hs_types.specs.Journal.{AreLawfulTries, Asks, EntryFailsBy, IsLawful, IsLawfulEntry, IsLawfulTry, IsLawfulWritten, IsUnlawfulAt, OneFailsBy, OutcomeAsks, after_entry, after_journal, after_outcome, after_tries, after_try, after_what, match_named, rule_of, tries_in, IsNumbered, rank, FailsBy}
use Rattle.hs_types.specs.Metamodel.{IsMeta}
use Rattle.hs_types.specs.Plan.{plan_of}
use Rattle.hs_types.specs.RuleForm.{IsRule}
use Rattle.hs_types.specs.Step.{step}
use Rattle.hs_types.specs.TypedGraph.{IsTyped}
use Rattle.hs_types.specs.ValidMatch.{IsValid}
use Rattle.hs_expr.proofs.Lists.{slice_get-first, slice_get-last}
use Rattle.hs_laws.proofs.Planned.{IsTyped-applied}

-- What an attempt that missed leaves.
pub after_try-missed : (rules : Rules) (g : Graph) (tried : Tried) → tried.outcome ≡ Missed → after_try rules g tried ≡ g
after_try-missed rules g tried e = go (rule_of rules tried)
  where
    go : (o : Option Rule) → unwrap_or (option_map (λ rule. after_outcome rules.meta g rule tried.args tried.outcome) o) g ≡ g
    go None = refl
    go (Some rule) = rw e refl

-- A list and its prefixes.
pub slice_get-taken : {A : Type 0} (xs : List A) (n i : ℕ) → n ≤ i → slice_get (take n xs) i ≡ None
slice_get-taken [] zero i l = refl
slice_get-taken [] (suc n) i l = refl
slice_get-taken (x ∷ xs) zero i l = refl
slice_get-taken (x ∷ xs) (suc n) zero l = absurd (omega arith)
slice_get-taken (x ∷ xs) (suc n) (suc i) l = slice_get-taken xs n i (omega arith)

pub take-take : {A : Type 0} (xs : List A) (n i : ℕ) → i ≤ n → take i (take n xs) ≡ take i xs
take-take [] zero zero l = refl
take-take [] zero (suc i) l = refl
take-take [] (suc n) zero l = refl
take-take [] (suc n) (suc i) l = refl
take-take (x ∷ xs) zero zero l = refl
take-take (x ∷ xs) zero (suc i) l = absurd (omega arith)
take-take (x ∷ xs) (suc n) zero l = refl
take-take (x ∷ xs) (suc n) (suc i) l = ap (λ ys. x ∷ ys) (take-take xs n i (omega arith))

pub take_next : {A : Type 0} (xs : List A) (n : ℕ) (x : A) → slice_get xs n ≡ Some x → take (suc n) xs ≡ take n xs ++ x ∷ []
take_next [] n x h = absurd (cc)
take_next (y ∷ ys) zero x h = let same : y ≡ x = cc in rw same refl
take_next (y ∷ ys) (suc n) x h = ap (λ l. y ∷ l) (take_next ys n x h)

pub take_none : {A : Type 0} (xs : List A) (n : ℕ) → slice_get xs n ≡ None → take (suc n) xs ≡ take n xs
take_none [] zero h = refl
take_none [] (suc n) h = refl
take_none (y ∷ ys) zero h = absurd (cc)
take_none (y ∷ ys) (suc n) h = ap (λ l. y ∷ l) (take_none ys n h)

-- A prefix of a lawful journal is lawful.
pub IsLawful-take : (rules : Rules) (g : Graph) (entries : List Entry) (n : ℕ) → IsLawful rules g entries → IsLawful rules g (take n entries)
IsLawful-take rules g entries n h place = elim (cases_lt place n) [
  | inl l ↦ rw (slice_get-take entries n place l, take-take entries n place (omega arith)) (h place)
  | inr l ↦ rw (slice_get-taken entries n place l) tt
]

-- A lawful journal with one more entry that is lawful after it is lawful.
pub IsLawful-push : (rules : Rules) (g : Graph) (entries : List Entry) (entry : Entry) → IsLawful rules g entries → IsLawfulEntry rules entries (after_journal rules g entries) (length entries) entry → IsLawful rules g (entries ++ entry ∷ [])
IsLawful-push rules g entries entry h k place = elim (cases_lt place (length entries)) [
  | inl l ↦ rw (slice_get-first entries (entry ∷ []) place l, take-append-le place entries (entry ∷ []) (omega arith)) (h place)
  | inr l ↦ elim (cases_lt (length entries) place) [
    | inl m ↦ let past : slice_get (entries ++ entry ∷ []) place ≡ None = slice_get-last entries (entry ∷ []) place l ∙ nothing (place - length entries) (omega arith) in rw past tt
    | inr m ↦ let same : place ≡ length entries = omega arith in subst (λ (n : ℕ). At n) (sym same) here
  ]
]
  where
    At : ℕ → Type 0
    At n = IfSome (slice_get (entries ++ entry ∷ []) n) (IsLawfulEntry rules (take n (entries ++ entry ∷ [])) (after_journal rules g (take n (entries ++ entry ∷ []))) n)

    nothing : (i : ℕ) → 0 < i → slice_get (entry ∷ []) i ≡ None
    nothing zero l = absurd (omega arith)
    nothing (suc i) l = refl

    at : slice_get (entries ++ entry ∷ []) (length entries) ≡ Some entry
    at = let z : length entries - length entries ≡ 0 = omega arith in slice_get-last entries (entry ∷ []) (length entries) (omega arith) ∙ rw z refl

    whole : take (length entries) (entries ++ entry ∷ []) ≡ entries
    whole = take-append-le (length entries) entries (entry ∷ []) (omega arith) ∙ take_all (length entries) entries (omega arith)

    here : At (length entries)
    here = rw (at, whole) k

-- The graph after an attempt that is lawful in a typed graph is typed.
after_outcome-typed : (m : Metamodel) (g : Graph) (rule : Rule) (args : Args) (outcome : Outcome) → IsMeta m → IsRule m rule → IsTyped m g → ((asked : Cause) → OutcomeAsks m g rule args outcome asked) → IsTyped m (after_outcome m g rule args outcome)
after_outcome-typed m g rule args Missed d w t h = t
after_outcome-typed m g rule args (Applied found new old gone) d w t h = go (match_named g found) (h cause.Match)
  where
    go : (o : Option Match) → IsSomeAnd o (IsValid m g rule args) → IsTyped m (unwrap_or (option_map (λ f. step g (plan_of m g rule args f)) o) g)
    go None v = absurd v
    go (Some f) v = IsTyped-applied m g rule args f d w t v

pub after_try-typed : (rules : Rules) (g : Graph) (tried : Tried) → IsMeta rules.meta → All (IsRule rules.meta) rules.rules → IsTyped rules.meta g → IsLawfulTry rules g tried → IsTyped rules.meta (after_try rules g tried)
after_try-typed rules g tried d ws t h = go (rule_of rules tried) refl
  where
    m : Metamodel
    m = rules.meta

    asked : (rule : Rule) → rule_of rules tried ≡ Some rule → (c : Cause) → OutcomeAsks m g rule tried.args tried.outcome c
    asked rule e cause.Number = let k : Asks rules g tried cause.Number = h cause.Number in rw e at k
    asked rule e cause.Rule = ruled tried.outcome
      where
        ruled : (outcome : Outcome) → OutcomeAsks m g rule tried.args outcome cause.Rule
        ruled Missed = tt
        ruled (Applied found new old gone) = tt
    asked rule e cause.Match = let k : Asks rules g tried cause.Match = h cause.Match in rw e at k
    asked rule e cause.Valid = let k : Asks rules g tried cause.Valid = h cause.Valid in rw e at k
    asked rule e cause.New = let k : Asks rules g tried cause.New = h cause.New in rw e at k
    asked rule e cause.Old = let k : Asks rules g tried cause.Old = h cause.Old in rw e at k

    go : (o : Option Rule) → rule_of rules tried ≡ o → IsTyped m (unwrap_or (option_map (λ rule. after_outcome m g rule tried.args tried.outcome) o) g)
    go None e = t
    go (Some rule) e = after_outcome-typed m g rule tried.args tried.outcome d (found rules.rules tried.rule rule ws e) t (asked rule e)
      where
        found : (rs : List Rule) (i : ℕ) (rule : Rule) → All (IsRule m) rs → slice_get rs i ≡ Some rule → IsRule m rule
        found [] i rule a e = absurd (cc)
        found (x ∷ xs) zero rule a e = let same : x ≡ rule = cc in subst (IsRule m) same (All-head (IsRule m) x xs a)
        found (x ∷ xs) (suc i) rule a e = found xs i rule (All-tail (IsRule m) x xs a) e

pub after_tries-typed : (rules : Rules) (g : Graph) (tries : List Tried) → IsMeta rules.meta → All (IsRule rules.meta) rules.rules → IsTyped rules.meta g → AreLawfulTries rules g tries → IsTyped rules.meta (after_tries rules g tries)
after_tries-typed rules g [] d ws t h = t
after_tries-typed rules g (tried ∷ tries) d ws t h = after_tries-typed rules (after_try rules g tried) tries d ws (after_try-typed rules g tried d ws t h.0) h.1

pub after_what-typed : (rules : Rules) (g : Graph) (what : What) → IsMeta rules.meta → All (IsRule rules.meta) rules.rules → IsTyped rules.meta g → AreLawfulTries rules g (tries_in what) → IsTyped rules.meta (after_what rules g what)
after_what-typed rules g (One tried) d ws t h = after_try-typed rules g tried d ws t h.0
after_what-typed rules g (Group attempts false) d ws t h = t
after_what-typed rules g (Group attempts true) d ws t h = after_tries-typed rules g attempts d ws t h

-- The rules of rules in their form.
pub rules_of : (rules : Rules) → AreFormed rules → All (IsRule rules.meta) rules.rules
rules_of rules formed = All-weaker (λ rule. IsRule rules.meta rule × IsSmallRule rule) (IsRule rules.meta) (λ rule h. h.0) rules.rules formed.2.are_rules

pub after_journal-push : (rules : Rules) (g : Graph) (entries : List Entry) (entry : Entry) → after_journal rules g (entries ++ entry ∷ []) ≡ after_entry rules (after_journal rules g entries) entry
after_journal-push rules g entries entry = fold-append (after_entry rules) g entries (entry ∷ [])

-- The graph at each place of a lawful journal is typed.
pub after_journal-typed : (rules : Rules) (g : Graph) (entries : List Entry) (n : ℕ) → IsMeta rules.meta → All (IsRule rules.meta) rules.rules → IsTyped rules.meta g → IsLawful rules g entries → IsTyped rules.meta (after_journal rules g (take n entries))
after_journal-typed rules g entries zero d ws t h = start entries
  where
    start : (es : List Entry) → IsTyped rules.meta (after_journal rules g (take 0 es))
    start [] = t
    start (e ∷ es) = t
after_journal-typed rules g entries (suc n) d ws t h = go (after_journal-typed rules g entries n d ws t h) (slice_get entries n) refl
  where
    m : Metamodel
    m = rules.meta

    go : IsTyped m (after_journal rules g (take n entries)) → (o : Option Entry) → slice_get entries n ≡ o → IsTyped m (after_journal rules g (take (suc n) entries))
    go before None e = rw (take_none entries n e) before
    go before (Some entry) e =
        let lawful : IsLawfulEntry rules (take n entries) (after_journal rules g (take n entries)) n entry = rw e at (h n) in
        rw (take_next entries n entry e, fold-append (after_entry rules) g (take n entries) (entry ∷ [])) (after_what-typed rules (after_journal rules g (take n entries)) entry.what d ws before lawful.tries)

-- An attempt that fails by a cause is not lawful, and so on for all attempts.
pub OneFailsBy-unlawful : (rules : Rules) (g : Graph) (tries : List Tried) (asked : Cause) → OneFailsBy rules g tries asked → AreLawfulTries rules g tries → ⊥
OneFailsBy-unlawful rules g [] asked f h = f
OneFailsBy-unlawful rules g (tried ∷ tries) asked (inl f) h = f.unmet (h.0 asked)
OneFailsBy-unlawful rules g (tried ∷ tries) asked (inr f) h = OneFailsBy-unlawful rules (after_try rules g tried) tries asked f.1 h.1

slice_get-map : {A B : Type 0} (f : A → B) (xs : List A) (i : ℕ) → slice_get (map f xs) i ≡ option_map f (slice_get xs i)
slice_get-map f [] i = refl
slice_get-map f (x ∷ xs) zero = refl
slice_get-map f (x ∷ xs) (suc i) = slice_get-map f xs i

take-map : {A B : Type 0} (f : A → B) (xs : List A) (n : ℕ) → take n (map f xs) ≡ map f (take n xs)
take-map f [] zero = refl
take-map f [] (suc n) = refl
take-map f (x ∷ xs) zero = refl
take-map f (x ∷ xs) (suc n) = ap (λ ys. f x ∷ ys) (take-map f xs n)

slice_get-range : (a n i k : ℕ) → slice_get (range_with_len a n) i ≡ Some k → k ≡ a + i
slice_get-range a zero i k h = absurd (cc)
slice_get-range a (suc n) zero k h = let same : a ≡ k = cc in omega arith
slice_get-range a (suc n) (suc i) k h = omega (arith, slice_get-range (a + 1) n i k h)

-- An entry that fails by a cause isn't lawful there.
EntryFailsBy-unlawful : (rules : Rules) (before : List Entry) (g : Graph) (place : ℕ) (entry : Entry) (asked : Cause) → EntryFailsBy rules before g place entry asked → IsLawfulEntry rules before g place entry → ⊥
EntryFailsBy-unlawful rules before g place entry cause.Number f h = f h.numbered
EntryFailsBy-unlawful rules before g place entry cause.Rule f h = OneFailsBy-unlawful rules g (tries_in entry.what) cause.Rule f.1 h.tries
EntryFailsBy-unlawful rules before g place entry cause.Match f h = OneFailsBy-unlawful rules g (tries_in entry.what) cause.Match f.1 h.tries
EntryFailsBy-unlawful rules before g place entry cause.Valid f h = OneFailsBy-unlawful rules g (tries_in entry.what) cause.Valid f.1 h.tries
EntryFailsBy-unlawful rules before g place entry cause.New f h = OneFailsBy-unlawful rules g (tries_in entry.what) cause.New f.1 h.tries
EntryFailsBy-unlawful rules before g place entry cause.Old f h = OneFailsBy-unlawful rules g (tries_in entry.what) cause.Old f.1 h.tries

-- A written journal isn't both lawful and unlawful somewhere.
pub IsUnlawfulAt-unlawful : (rules : Rules) (opening : Graph) (written : List (ℕ × Entry)) (position : ℕ) (asked : Cause) → IsUnlawfulAt rules opening written position asked → IsLawfulWritten rules opening written → ⊥
IsUnlawfulAt-unlawful rules opening written position asked u l = go (slice_get written position) refl u.fails
  where
    second : (ℕ × Entry) → Entry
    second e = e.1

    before : List Entry
    before = map second (take position written)

    go : (o : Option (ℕ × Entry)) → slice_get written position ≡ o → IsSomeAnd o (λ e. EntryFailsBy rules before (after_journal rules opening before) e.0 e.1 asked) → ⊥
    go None e f = absurd f
    go (Some entry) e f =
        let here : slice_get (map second written) position ≡ Some entry.1 = slice_get-map second written position ∙ ap (option_map second) e in
        let first : slice_get (range_with_len 0 (length written)) position ≡ Some entry.0 = ap (λ (ns : List ℕ). slice_get ns position) (sym l.0) ∙ (slice_get-map (λ e. e.0) written position ∙ ap (option_map (λ (e : ℕ × Entry). e.0)) e) in
        let same : entry.0 ≡ position = slice_get-range 0 (length written) position entry.0 first ∙ zero-add position in
        let lawful : IsLawfulEntry rules (take position (map second written)) (after_journal rules opening (take position (map second written))) position entry.1 = rw here at (l.1 position) in
        EntryFailsBy-unlawful rules before (after_journal rules opening before) entry.0 entry.1 asked f (subst (λ (n : ℕ). IsLawfulEntry rules before (after_journal rules opening before) n entry.1) (sym same) (subst (λ (es : List Entry). IsLawfulEntry rules es (after_journal rules opening es) position entry.1) (take-map second written position) lawful))

-- Causes of one rank are one.
rank-same : (c d : Cause) → rank c ≡ rank d → c ≡ d
rank-same c d e = by_number (rank c) c d refl (sym e)
  where
    cause_at : ℕ → Cause
    cause_at zero = cause.Number
    cause_at (suc zero) = cause.Rule
    cause_at (suc (suc zero)) = cause.Match
    cause_at (suc (suc (suc zero))) = cause.Valid
    cause_at (suc (suc (suc (suc zero)))) = cause.New
    cause_at _ = cause.Old

    back : (c : Cause) → cause_at (rank c) ≡ c
    back cause.Number = refl
    back cause.Rule = refl
    back cause.Match = refl
    back cause.Valid = refl
    back cause.New = refl
    back cause.Old = refl

    by_number : (n : ℕ) (c d : Cause) → rank c ≡ n → rank d ≡ n → c ≡ d
    by_number n c d a b = sym (back c) ∙ (ap cause_at (a ∙ sym b) ∙ back d)

-- An attempt, and a list of them, fails by one cause.
FailsBy-same : (rules : Rules) (g : Graph) (tried : Tried) (c d : Cause) → FailsBy rules g tried c → FailsBy rules g tried d → c ≡ d
FailsBy-same rules g tried c d f h = elim (cases_lt (rank c) (rank d)) [
  | inl l ↦ absurd (f.unmet (h.met c l))
  | inr l ↦ elim (cases_lt (rank d) (rank c)) [
    | inl k ↦ absurd (h.unmet (f.met d k))
    | inr k ↦ rank-same c d (omega arith)
  ]
]

OneFailsBy-same : (rules : Rules) (g : Graph) (tries : List Tried) (c d : Cause) → OneFailsBy rules g tries c → OneFailsBy rules g tries d → c ≡ d
OneFailsBy-same rules g [] c d f h = absurd f
OneFailsBy-same rules g (tried ∷ tries) c d (inl f) (inl h) = FailsBy-same rules g tried c d f h
OneFailsBy-same rules g (tried ∷ tries) c d (inl f) (inr h) = absurd (f.unmet (h.0 c))
OneFailsBy-same rules g (tried ∷ tries) c d (inr f) (inl h) = absurd (h.unmet (f.0 d))
OneFailsBy-same rules g (tried ∷ tries) c d (inr f) (inr h) = OneFailsBy-same rules (after_try rules g tried) tries c d f.1 h.1

-- What an entry that fails by a cause other than its numbers says.
by_tries : (rules : Rules) (before : List Entry) (g : Graph) (place : ℕ) (entry : Entry) (c : Cause) → EntryFailsBy rules before g place entry c → (c ≡ cause.Number) ⊎ (IsNumbered before place entry × OneFailsBy rules g (tries_in entry.what) c)
by_tries rules before g place entry cause.Number f = inl refl
by_tries rules before g place entry cause.Rule f = inr f
by_tries rules before g place entry cause.Match f = inr f
by_tries rules before g place entry cause.Valid f = inr f
by_tries rules before g place entry cause.New f = inr f
by_tries rules before g place entry cause.Old f = inr f

not_numbered : (rules : Rules) (before : List Entry) (g : Graph) (place : ℕ) (entry : Entry) (c : Cause) → c ≡ cause.Number → EntryFailsBy rules before g place entry c → IsNumbered before place entry → ⊥
not_numbered rules before g place entry c e f = let k : EntryFailsBy rules before g place entry cause.Number = subst (EntryFailsBy rules before g place entry) e f in k

EntryFailsBy-same : (rules : Rules) (before : List Entry) (g : Graph) (place : ℕ) (entry : Entry) (c d : Cause) → EntryFailsBy rules before g place entry c → EntryFailsBy rules before g place entry d → c ≡ d
EntryFailsBy-same rules before g place entry c d f h = elim (by_tries rules before g place entry c f) [
  | inl a ↦ elim (by_tries rules before g place entry d h) [
    | inl b ↦ a ∙ sym b
    | inr b ↦ absurd (not_numbered rules before g place entry c a f b.0)
  ]
  | inr a ↦ elim (by_tries rules before g place entry d h) [
    | inl b ↦ absurd (not_numbered rules before g place entry d b h a.0)
    | inr b ↦ OneFailsBy-same rules g (tries_in entry.what) c d a.1 b.1
  ]
]

-- A written journal is unlawful first at one entry, and by one cause.
take-prefix : (rules : Rules) (opening : Graph) (written : List (ℕ × Entry)) (n i : ℕ) → i < n → IsLawfulWritten rules opening (take n written) → (asked : Cause) → IsUnlawfulAt rules opening written i asked → ⊥
take-prefix rules opening written n i l h asked u = IsUnlawfulAt-unlawful rules opening (take n written) i asked (record {
  lawful_before = rw (take-take written n i (omega arith)) u.lawful_before;
  fails = rw (slice_get-take written n i l, take-take written n i (omega arith)) u.fails;
}) h

pub IsUnlawfulAt-same : (rules : Rules) (opening : Graph) (written : List (ℕ × Entry)) (p q : ℕ) (c d : Cause) → IsUnlawfulAt rules opening written p c → IsUnlawfulAt rules opening written q d → (p ≡ q) × (c ≡ d)
IsUnlawfulAt-same rules opening written p q c d u w = elim (cases_lt p q) [
  | inl l ↦ absurd (take-prefix rules opening written q p l w.lawful_before c u)
  | inr l ↦ elim (cases_lt q p) [
    | inl k ↦ absurd (take-prefix rules opening written p q k u.lawful_before d w)
    | inr k ↦ let same : p ≡ q = omega arith in (same, go (slice_get written p) refl u.fails (subst (λ (i : ℕ). Fails i d) (sym same) w.fails))
  ]
]
  where
    before : ℕ → List Entry
    before i = map (λ e. e.1) (take i written)

    Fails : ℕ → Cause → Type 0
    Fails i asked = IsSomeAnd (slice_get written i) (λ e. EntryFailsBy rules (before i) (after_journal rules opening (before i)) e.0 e.1 asked)

    go : (o : Option (ℕ × Entry)) → slice_get written p ≡ o → IsSomeAnd o (λ e. EntryFailsBy rules (before p) (after_journal rules opening (before p)) e.0 e.1 c) → Fails p d → c ≡ d
    go None e f h = absurd f
    go (Some entry) e f h = EntryFailsBy-same rules (before p) (after_journal rules opening (before p)) entry.0 entry.1 c d f (rw e at h)
