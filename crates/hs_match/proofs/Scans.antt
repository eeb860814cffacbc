use Rattle.std.proofs.Common.{ℕ, ◌+◌, ◌<◌, ◌≤◌, ◌≡◌, List, length, slice_get, Some, None, Option, refl, arith, ap, inl, inr, ◌∙◌}
use Rattle.std.specs.Prelude.{IsSomeAnd}
use Rattle.std.proofs.Math.Nat.{eq-or-lt_of_le}
use Rattle.std.proofs.lemmas.Bool.{cases_lt}
use Rattle.std.proofs.lemmas.Option.{slice_get_within}
use Rattle.hs_types.specs.declared.graph.Edge.{Edge}
use Rattle.hs_types.specs.declared.graph.Graph.{Graph}
use Rattle.hs_types.specs.declared.graph.Object.{Object}
use Rattle.hs_types.specs.declared.meta.Metamodel.{Metamodel}
use Rattle.hs_types.specs.Metamodel.{Conforms}
use Rattle.hs_types.specs.TypedGraph.{object_numbered, edge_numbered}
use Rattle.hs_match.specs.Candidates.{Ascend, IsLeastFrom, NoneFrom, IsFree, IsFreeEdge, MayBe, MayJoin}
use Rattle.hs_match.proofs.Ordered.{find_here, find_place}

-- the items before place i that pass have numbers below `from`
abbrev pub Skipped : {A : Type 0} → (A → ℕ) → (A → Type 0) → List A → ℕ → ℕ → Type 0
Skipped {A} number Passes xs from i = (k : ℕ) (a : A) → slice_get xs k ≡ Some a → k < i → from ≤ number a → Passes a → ⊥

-- a number is that of an item that passes
pub record Stands {A : Type 0} (number : A → ℕ) (Passes : A → Type 0) (xs : List A) (n : ℕ) : Type 0 where
  pub place : ℕ
  pub item : A
  pub at : slice_get xs place ≡ Some item
  pub same : number item ≡ n
  pub passes : Passes item

pub skip_one : {A : Type 0} (number : A → ℕ) (Passes : A → Type 0) (xs : List A) (from i : ℕ) (b : A) → Skipped number Passes xs from i → slice_get xs i ≡ Some b →
    (from ≤ number b → Passes b → ⊥) → Skipped number Passes xs from (i + 1)
skip_one number Passes xs from i b before here fails = λ k a at lt late passes.
    elim (cases_lt k i) [
      | inl less ↦ before k a at less late passes
      | inr ge ↦
          let e : k ≡ i = omega arith in
          let there : slice_get xs i ≡ Some a = rw e at at in
          let same : b ≡ a = cc in
          fails (rw same late) (rw same passes)
    ]

pub least_here : {A : Type 0} (number : A → ℕ) (Passes : A → Type 0) (P : ℕ → Type 0) (xs : List A) (from i : ℕ) (b : A) → Ascend number xs → Skipped number Passes xs from i →
    slice_get xs i ≡ Some b → from ≤ number b → P (number b) → ((y : ℕ) → P y → Stands number Passes xs y) → IsLeastFrom P from (number b)
least_here {A} number Passes P xs from i b up before here late fits stands = record { fits = fits; late = late; least = none_below }
  where
    none_below : (y : ℕ) → from ≤ y → y < number b → P y → ⊥
    none_below y ge lt p =
        let s = stands y p in
        elim (cases_lt s.place i) [
          | inl less ↦ before s.place s.item s.at less (rw s.same ge) s.passes
          | inr after ↦ elim (eq-or-lt_of_le after) [
            | inl e ↦
                let there : slice_get xs i ≡ Some s.item = rw e s.at in
                let same : b ≡ s.item = cc in
                let n : number b ≡ y = ap number same ∙ s.same in
                omega arith
            | inr more ↦ let rise = up i s.place b s.item here s.at more in let n = s.same in omega (arith, rise, n)
          ]
        ]

pub none_left : {A : Type 0} (number : A → ℕ) (Passes : A → Type 0) (P : ℕ → Type 0) (xs : List A) (from i : ℕ) → Skipped number Passes xs from i →
    length xs ≤ i → ((y : ℕ) → P y → Stands number Passes xs y) → NoneFrom P from
none_left number Passes P xs from i before end stands = λ y ge p.
    let s = stands y p in
    let within : s.place < length xs = slice_get_within xs s.place s.item s.at in
    before s.place s.item s.at (omega arith) (rw s.same ge) s.passes

pub some_and : {A : Type 0} (o : Option A) (P : A → Type 0) → IsSomeAnd o P → (a : A) × (o ≡ Some a) × P a
some_and None P h = absurd h
some_and (Some a) P h = (a, refl, h)

pub free_stands : (m : Metamodel) (g : Graph) (class : ℕ) (taken : List ℕ) (y : ℕ) → IsFree m g class taken y → Stands (λ object. object.number) (MayBe m class taken) g.objects y
free_stands m g class taken y free =
    let found = some_and (object_numbered g y) (λ object. Conforms m object.class class) free.of_class in
    let at = find_place (λ (object : Object). object.number) g.objects y found.0 found.1 in
    record { place = at.0; item = found.0; at = at.1; same = at.2; passes = record { of_class = found.2; free = rw at.2 free.free } }

pub free_here : (m : Metamodel) (g : Graph) (class : ℕ) (taken : List ℕ) (i : ℕ) (object : Object) → Ascend (λ object. object.number) g.objects → slice_get g.objects i ≡ Some object →
    MayBe m class taken object → IsFree m g class taken object.number
free_here m g class taken i object up at may =
    let found : object_numbered g object.number ≡ Some object = find_here (λ (object : Object). object.number) g.objects i object up at in
    record { of_class = rw found may.of_class; free = may.free }

pub edge_stands : (g : Graph) (source reference target : ℕ) (taken : List ℕ) (y : ℕ) → IsFreeEdge g source reference target taken y → Stands (λ edge. edge.number) (MayJoin source reference target taken) g.edges y
edge_stands g source reference target taken y free =
    let edge : Edge = record { number = y; source = source; reference = reference; target = target } in
    let at = find_place (λ (edge : Edge). edge.number) g.edges y edge free.joins in
    record { place = at.0; item = edge; at = at.1; same = at.2; passes = record { source_same = refl; reference_same = refl; target_same = refl; free = free.free } }

pub edge_here : (g : Graph) (source reference target : ℕ) (taken : List ℕ) (i : ℕ) (edge : Edge) → Ascend (λ edge. edge.number) g.edges → slice_get g.edges i ≡ Some edge →
    MayJoin source reference target taken edge → IsFreeEdge g source reference target taken edge.number
edge_here g source reference target taken i edge up at may =
    let found : edge_numbered g edge.number ≡ Some edge = find_here (λ (edge : Edge). edge.number) g.edges i edge up at in
    record { joins = rw (← may.source_same, ← may.reference_same, ← may.target_same) found; free = may.free }
