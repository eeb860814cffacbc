-- An attempt at the least match is determined by its graph, its rule, its arguments and its number.
use Rattle.std.proofs.Common.{ℕ, ◌^◌, ◌<◌, ◌≡◌, List, [], ◌∷◌, map, true, Option, Some, None, IsSomeAnd, slice_get, refl, ap, sym, ◌∙◌, subst}
use Rattle.std.proofs.Math.Bool.{Bool-set}
use Rattle.std.proofs.Math.Bridge.{le_prop}
use mathlib.Core.HLevel.{is_prop→PathP}
use Rattle.std.specs.Prelude.{IfSome}
use Rattle.std.specs.List.{AllZip}
use Rattle.hs_types.specs.declared.entry.Cause.{Cause}
use Rattle.hs_types.specs.declared.entry.Cause.TheVariants as cause
use Rattle.hs_types.specs.declared.entry.Gone.{Gone}
use Rattle.hs_types.specs.declared.entry.Outcome.{Outcome}
use Rattle.hs_types.specs.declared.entry.Outcome.TheVariants.{Applied, Missed}
use Rattle.hs_types.specs.declared.entry.Tried.{Tried}
use Rattle.hs_types.specs.declared.graph.Graph.{Graph}
use Rattle.hs_types.specs.declared.graph.Object.{Object}
use Rattle.hs_types.specs.declared.matching.Match.{Match}
use Rattle.hs_types.specs.declared.meta.Metamodel.{Metamodel}
use Rattle.hs_types.specs.declared.request.Args.{Args}
use Rattle.hs_types.specs.declared.rule.Rule.{Rule}
use Rattle.hs_types.specs.Arguments.{ArgsFit}
use Rattle.hs_types.specs.Journal.{IsGone, IsLawfulTry, IsWithinNumbers, OutcomeAsks, dropped_objects, match_named, new_names, old_values, rule_of}
use Rattle.hs_types.specs.Plan.{plan_of}
use Rattle.hs_types.specs.Rules.{Rules}
use Rattle.hs_types.specs.Step.{step}
use Rattle.hs_types.specs.TypedGraph.{IsTyped}
use Rattle.hs_types.specs.ValidMatch.{IsLeast, IsValid}
use Rattle.hs_expr.specs.Lexicographic.{rises}
use Rattle.hs_session.specs.SerialReport.{IsLeastOutcome, IsLeastTry}
use Rattle.hs_session.proofs.Naming.{match_named-injective, some-same}

tried-same : (s t : Tried) → s.attempt ≡ t.attempt → s.rule ≡ t.rule → s.args ≡ t.args → s.outcome ≡ t.outcome → s ≡ t
tried-same s t a r x o = λ i. record { attempt = a i; rule = r i; args = x i; outcome = o i; attempt_bound = is_prop→PathP (λ j. a j < 2 ^ 63) (λ j. bounded (a j)) s.attempt_bound t.attempt_bound i }
  where
    bounded : (n : ℕ) → IsProp (n < 2 ^ 63)
    bounded n = hlevel (le_prop)

-- A deleted object is given in one way.
gone-same : (m : Metamodel) (object : Object) (a b : Gone) → IsGone m object a → IsGone m object b → a ≡ b
gone-same m object a b p q =
    let names : a.name ≡ b.name = p.name ∙ sym q.name in
    let classes : a.class ≡ b.class = some-same (sym p.class ∙ q.class) in
    let values : a.values ≡ b.values = p.values ∙ sym q.values in
    λ i. record { name = names i; class = classes i; values = values i; in_order = is_prop→PathP (λ j. rises (map (λ value. value.attribute) (values j)) ≡ true) (λ j. Bool-set _ _) a.in_order b.in_order i }

all_gone-same : (m : Metamodel) (objects : List Object) (xs ys : List Gone) → AllZip (IsGone m) objects xs → AllZip (IsGone m) objects ys → xs ≡ ys
all_gone-same m [] [] [] p q = refl
all_gone-same m [] [] (y ∷ ys) p q = absurd q
all_gone-same m [] (x ∷ xs) ys p q = absurd p
all_gone-same m (o ∷ os) [] ys p q = absurd p
all_gone-same m (o ∷ os) (x ∷ xs) [] p q = absurd q
all_gone-same m (o ∷ os) (x ∷ xs) (y ∷ ys) p q = let first = gone-same m o x y p.0 q.0 in let rest = all_gone-same m os xs ys p.1 q.1 in λ i. first i ∷ rest i

-- There is one least valid match at most.
abbrev pub LeastIsOne : Type 0
LeastIsOne = (m : Metamodel) (g : Graph) (rule : Rule) (args : Args) (f h : Match) → IsLeast m g rule args f → IsLeast m g rule args h → f ≡ h

-- Two outcomes of an attempt at the least match.
outcome-same : LeastIsOne → (m : Metamodel) (g : Graph) (rule : Rule) (args : Args) (a b : Outcome) → IsTyped m g →
    ((asked : Cause) → OutcomeAsks m g rule args a asked) → ((asked : Cause) → OutcomeAsks m g rule args b asked) → IsLeastOutcome m g rule args a → IsLeastOutcome m g rule args b → a ≡ b
outcome-same one m g rule args Missed Missed typed p q l k = refl
outcome-same one m g rule args Missed (Applied found new old gone) typed p q l k = absurd (valid_not (match_named g found) (q cause.Match) (p cause.Valid))
  where
    valid_not : (o : Option Match) → IsSomeAnd o (IsValid m g rule args) → ((f : Match) → IsValid m g rule args f → ⊥) → ⊥
    valid_not None v none = v
    valid_not (Some f) v none = none f v
outcome-same one m g rule args (Applied found new old gone) Missed typed p q l k = absurd (valid_not (match_named g found) (p cause.Match) (q cause.Valid))
  where
    valid_not : (o : Option Match) → IsSomeAnd o (IsValid m g rule args) → ((f : Match) → IsValid m g rule args f → ⊥) → ⊥
    valid_not None v none = v
    valid_not (Some f) v none = none f v
outcome-same one m g rule args (Applied found new old gone) (Applied found' new' old' gone') typed p q l k =
    go (match_named g found) (match_named g found') refl refl (p cause.Match) (q cause.Match) l k (p cause.New) (q cause.New) (p cause.Old) (q cause.Old)
  where
    go : (o o' : Option Match) → match_named g found ≡ o → match_named g found' ≡ o' → IsSomeAnd o (IsValid m g rule args) → IsSomeAnd o' (IsValid m g rule args) → IfSome o (IsLeast m g rule args) → IfSome o' (IsLeast m g rule args) →
        IfSome o (λ f. (new ≡ new_names g (plan_of m g rule args f)) × IsWithinNumbers (step g (plan_of m g rule args f))) →
        IfSome o' (λ f. (new' ≡ new_names g (plan_of m g rule args f)) × IsWithinNumbers (step g (plan_of m g rule args f))) →
        IfSome o (λ f. (old ≡ old_values g (plan_of m g rule args f)) × AllZip (IsGone m) (dropped_objects g (plan_of m g rule args f)) gone) →
        IfSome o' (λ f. (old' ≡ old_values g (plan_of m g rule args f)) × AllZip (IsGone m) (dropped_objects g (plan_of m g rule args f)) gone') →
        Applied found new old gone ≡ Applied found' new' old' gone'
    go None o' e e' v v' l k n n' w w' = absurd v
    go (Some f) None e e' v v' l k n n' w w' = absurd v'
    go (Some f) (Some h) e e' v v' l k n n' w w' =
        let same : f ≡ h = one m g rule args f h l k in
        let names : found ≡ found' = match_named-injective m g typed found found' h (e ∙ ap Some same) e' in
        let news : new ≡ new' = n.0 ∙ ap (λ (x : Match). new_names g (plan_of m g rule args x)) same ∙ sym n'.0 in
        let olds : old ≡ old' = w.0 ∙ ap (λ (x : Match). old_values g (plan_of m g rule args x)) same ∙ sym w'.0 in
        let gones : gone ≡ gone' = all_gone-same m (dropped_objects g (plan_of m g rule args h)) gone gone' (subst (λ (x : Match). AllZip (IsGone m) (dropped_objects g (plan_of m g rule args x)) gone) same w.1) w'.1 in
        λ i. Applied (names i) (news i) (olds i) (gones i)

told : (rules : Rules) (g : Graph) (t : Tried) (rule : Rule) → rule_of rules t ≡ Some rule → IsLawfulTry rules g t → (asked : Cause) → OutcomeAsks rules.meta g rule t.args t.outcome asked
told rules g t rule e lawful cause.Rule = nothing t.outcome
  where
    nothing : (outcome : Outcome) → OutcomeAsks rules.meta g rule t.args outcome cause.Rule
    nothing (Applied found new old gone) = tt
    nothing Missed = tt
told rules g t rule e lawful cause.Number = subst (λ (o : Option Rule). IfSome o (λ rule. OutcomeAsks rules.meta g rule t.args t.outcome cause.Number)) e (lawful cause.Number)
told rules g t rule e lawful cause.Match = subst (λ (o : Option Rule). IfSome o (λ rule. OutcomeAsks rules.meta g rule t.args t.outcome cause.Match)) e (lawful cause.Match)
told rules g t rule e lawful cause.Valid = subst (λ (o : Option Rule). IfSome o (λ rule. OutcomeAsks rules.meta g rule t.args t.outcome cause.Valid)) e (lawful cause.Valid)
told rules g t rule e lawful cause.New = subst (λ (o : Option Rule). IfSome o (λ rule. OutcomeAsks rules.meta g rule t.args t.outcome cause.New)) e (lawful cause.New)
told rules g t rule e lawful cause.Old = subst (λ (o : Option Rule). IfSome o (λ rule. OutcomeAsks rules.meta g rule t.args t.outcome cause.Old)) e (lawful cause.Old)

there_is_rule : (rules : Rules) (g : Graph) (t : Tried) → IsLawfulTry rules g t → (rule : Rule) × (rule_of rules t ≡ Some rule)
there_is_rule rules g t lawful = go (rule_of rules t) refl (lawful cause.Rule)
  where
    go : (o : Option Rule) → rule_of rules t ≡ o → IsSomeAnd o (λ rule. ArgsFit rule.params t.args) → (rule : Rule) × (rule_of rules t ≡ Some rule)
    go None e none = absurd none
    go (Some rule) e some = (rule, e)

-- Two attempts at one rule in one graph, with the same arguments and number.
pub try-same : LeastIsOne → (rules : Rules) (g : Graph) (s t : Tried) → IsTyped rules.meta g → IsLawfulTry rules g s → IsLawfulTry rules g t →
    IsLeastTry rules (record { graph = g; tried = s }) → IsLeastTry rules (record { graph = g; tried = t }) → s.attempt ≡ t.attempt → s.rule ≡ t.rule → s.args ≡ t.args → s ≡ t
try-same one rules g s t typed lawful_s lawful_t least-s least-t attempt rule_no args =
    let rule = there_is_rule rules g s lawful_s in
    let rule' : rule_of rules t ≡ Some rule.0 = ap (slice_get rules.rules) (sym rule_no) ∙ rule.1 in
    let told_t : (asked : Cause) → OutcomeAsks rules.meta g rule.0 s.args t.outcome asked = subst (λ (x : Args). (asked : Cause) → OutcomeAsks rules.meta g rule.0 x t.outcome asked) (sym args) (told rules g t rule.0 rule' lawful_t) in
    let here_s : IsLeastOutcome rules.meta g rule.0 s.args s.outcome = subst (λ (o : Option Rule). IfSome o (λ rule. IsLeastOutcome rules.meta g rule s.args s.outcome)) rule.1 least-s in
    let here_t : IsLeastOutcome rules.meta g rule.0 s.args t.outcome = subst (λ (x : Args). IsLeastOutcome rules.meta g rule.0 x t.outcome) (sym args) (subst (λ (o : Option Rule). IfSome o (λ rule. IsLeastOutcome rules.meta g rule t.args t.outcome)) rule' least-t) in
    tried-same s t attempt rule_no args (outcome-same one rules.meta g rule.0 s.args s.outcome t.outcome typed (told rules g s rule.0 rule.1 lawful_s) told_t here_s here_t)
