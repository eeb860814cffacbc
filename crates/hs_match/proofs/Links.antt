use Rattle.std.proofs.Common.{ℕ, ◌+◌, ◌<◌, ◌≤◌, ◌≡◌, ◌⊎◌, List, ◌++◌, ◌∷◌, length, take, append_assoc, length-append, eq-eqb, slice_get, Some, None, Option, refl, arith, ap, inl, inr, sym, ◌∙◌}
use Rattle.std.proofs.lemmas.Bool.{cases_lt}
use Rattle.std.proofs.Math.Seq.{get_or-append_seam}
use Rattle.std.proofs.lemmas.List.{get_or_append_left}
use Rattle.hs_match.proofs.Ordered.{find_place}
use Rattle.hs_types.specs.declared.graph.Edge.{Edge}
use Rattle.hs_types.specs.declared.graph.Graph.{Graph}
use Rattle.hs_types.specs.declared.rule.PatternEdge.{PatternEdge}
use Rattle.hs_types.specs.declared.rule.PatternNode.{PatternNode}
use Rattle.hs_types.specs.Pattern.{left_nodes}
use Rattle.hs_types.specs.PlainMatch.{image, IsImage}
use Rattle.hs_match.specs.declared.link.Link.{Link}
use Rattle.hs_match.specs.declared.link.Link.TheVariants.{From, Into}
use Rattle.hs_match.specs.Candidates.{IsNextFrom, NoneFrom}
use Rattle.hs_match.specs.Linked.{far_end, IsSmaller, IsLinked, IsLinkedBefore, Takes, Keeps}

-- one more edge
more : (g : Graph) (link : Link) (i y : ℕ) (edge : Edge) → slice_get g.edges i ≡ Some edge → IsLinkedBefore g link (i + 1) y → IsLinkedBefore g link i y ⊎ (far_end link edge ≡ Some y)
more g link i y edge at l = elim (cases_lt l.place i) [
  | inl less ↦ inl (record { place = l.place; edge = l.edge; at = l.at; before = less; leads = l.leads })
  | inr ge ↦
      let e : l.place ≡ i = omega (arith, l.before) in
      let there : slice_get g.edges i ≡ Some l.edge = rw e at l.at in
      let same : edge ≡ l.edge = cc in
      inr (rw same l.leads)
]

wider : (g : Graph) (link : Link) (i y : ℕ) → IsLinkedBefore g link i y → IsLinkedBefore g link (i + 1) y
wider g link i y l = record { place = l.place; edge = l.edge; at = l.at; before = omega (arith, l.before); leads = l.leads }

pub takes_next : (Free : ℕ → Type 0) (g : Graph) (link : Link) (i from : ℕ) (edge : Edge) (least answer : Option ℕ) → slice_get g.edges i ≡ Some edge →
    IsNextFrom (λ y. Free y × IsLinkedBefore g link i y) from least → Takes Free from (far_end link edge) least answer → IsNextFrom (λ y. Free y × IsLinkedBefore g link (i + 1) y) from answer
takes_next Free g link i from edge least answer at next t =
    let here : IsLinkedBefore g link (i + 1) t.found = record { place = i; edge = edge; at = at; before = omega arith; leads = t.is } in
    rw t.taken (record { fits = (t.free, here); late = t.late; least = none_below least next t.before })
  where
    none_below : (o : Option ℕ) → IsNextFrom (λ y. Free y × IsLinkedBefore g link i y) from o → IsSmaller t.found o → (y : ℕ) → from ≤ y → y < t.found → Free y × IsLinkedBefore g link (i + 1) y → ⊥
    none_below (Some other) n before y ge lt p = elim (more g link i y edge at p.1) [
      | inl early ↦ let b = before other refl in n.least y ge (omega (arith, b)) (p.0, early)
      | inr here ↦ let same : Some t.found ≡ Some y = sym t.is ∙ here in let e : t.found ≡ y = cc in omega arith
    ]
    none_below None n before y ge lt p = elim (more g link i y edge at p.1) [
      | inl early ↦ n y ge (p.0, early)
      | inr here ↦ let same : Some t.found ≡ Some y = sym t.is ∙ here in let e : t.found ≡ y = cc in omega arith
    ]

pub keeps_next : (Free : ℕ → Type 0) (g : Graph) (link : Link) (i from : ℕ) (edge : Edge) (least answer : Option ℕ) → slice_get g.edges i ≡ Some edge →
    IsNextFrom (λ y. Free y × IsLinkedBefore g link i y) from least → Keeps Free from (far_end link edge) least answer → IsNextFrom (λ y. Free y × IsLinkedBefore g link (i + 1) y) from answer
keeps_next Free g link i from edge (Some other) answer at next k = rw k.kept (record { fits = (next.fits.0, wider g link i other next.fits.1); late = next.late; least = none_below })
  where
    none_below : (y : ℕ) → from ≤ y → y < other → Free y × IsLinkedBefore g link (i + 1) y → ⊥
    none_below y ge lt p = elim (more g link i y edge at p.1) [
      | inl early ↦ next.least y ge lt (p.0, early)
      | inr here ↦ k.none y here ge (λ b same. let e : other ≡ b = cc in omega arith) p.0
    ]
keeps_next Free g link i from edge None answer at next k = rw k.kept none_left
  where
    none_left : NoneFrom (λ y. Free y × IsLinkedBefore g link (i + 1) y) from
    none_left y ge p = elim (more g link i y edge at p.1) [
      | inl early ↦ next y ge (p.0, early)
      | inr here ↦ k.none y here ge (λ b same. cc) p.0
    ]

pub IsNextFrom-iff : (P Q : ℕ → Type 0) (from : ℕ) (o : Option ℕ) → ((y : ℕ) → P y → Q y) → ((y : ℕ) → Q y → P y) → IsNextFrom P from o → IsNextFrom Q from o
IsNextFrom-iff P Q from (Some x) to back n = record { fits = to x n.fits; late = n.late; least = λ y ge lt q. n.least y ge lt (back y q) }
IsNextFrom-iff P Q from None to back n = λ y ge q. n y ge (back y q)

-- The next image, and those among these.
pub image_here : (nodes : List PatternNode) (base front : List ℕ) (y : ℕ) (rest : List ℕ) (node : ℕ) → length (left_nodes (take node nodes)) ≡ length base + length front → image nodes (base ++ (front ++ y ∷ rest)) node ≡ y
image_here nodes base front y rest node place =
    let long : length (left_nodes (take node nodes)) ≡ length (base ++ front) = omega (arith, place, length-append base front) in
    rw (long, ← append_assoc) (get_or-append_seam (base ++ front) y rest 0)

pub image_before : (nodes : List PatternNode) (base front more : List ℕ) (node : ℕ) → length (left_nodes (take node nodes)) < length base + length front → image nodes (base ++ (front ++ more)) node ≡ image nodes (base ++ front) node
image_before nodes base front more node place =
    let within : length (left_nodes (take node nodes)) < length (base ++ front) = omega (arith, place, length-append base front) in
    rw (← append_assoc) (get_or_append_left (base ++ front) more 0 (length (left_nodes (take node nodes))) within)

-- an image of an edge links its ends
pub linked_from : (g : Graph) (at : ℕ → ℕ) (edge : PatternEdge) (n source y : ℕ) → IsImage g at edge n → at edge.source ≡ source → at edge.target ≡ y → IsLinked g (From source edge.reference) y
linked_from g at edge n source y image begins ends =
    let found : Edge = record { number = n; source = at edge.source; reference = edge.reference; target = at edge.target } in
    let there = find_place (λ (edge : Edge). edge.number) g.edges n found image in
    record { place = there.0; edge = found; at = there.1; leads = rw (eq-eqb (at edge.source) source begins, eq-eqb edge.reference edge.reference refl) (ap Some ends) }

pub linked_into : (g : Graph) (at : ℕ → ℕ) (edge : PatternEdge) (n target y : ℕ) → IsImage g at edge n → at edge.target ≡ target → at edge.source ≡ y → IsLinked g (Into edge.reference target) y
linked_into g at edge n target y image ends begins =
    let found : Edge = record { number = n; source = at edge.source; reference = edge.reference; target = at edge.target } in
    let there = find_place (λ (edge : Edge). edge.number) g.edges n found image in
    record { place = there.0; edge = found; at = there.1; leads = rw (eq-eqb (at edge.target) target ends, eq-eqb edge.reference edge.reference refl) (ap Some begins) }
