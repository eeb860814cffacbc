-- Kinds of slots: the test and equality.
use Rattle.std.proofs.Common.{◌≡◌, true, refl, ap}
use Rattle.std.proofs.lemmas.Bool.{eq-eqb, eqb-true}
use Rattle.hs_types.specs.declared.rule.SlotKind.{SlotKind}
use Rattle.hs_types.specs.declared.rule.SlotKind.TheVariants.{Attribute, Link, Container}
use Rattle.hs_types.specs.Pattern.{is_kind}

pub is_kind-itself : (k : SlotKind) → is_kind k k ≡ true
is_kind-itself (Attribute a) = eq-eqb a a refl
is_kind-itself (Link a) = eq-eqb a a refl
is_kind-itself Container = refl

pub is_kind-same : (a b : SlotKind) → is_kind a b ≡ true → a ≡ b
is_kind-same (Attribute a) (Attribute b) h = ap Attribute (eqb-true a b h)
is_kind-same (Link a) (Link b) h = ap Link (eqb-true a b h)
is_kind-same Container Container h = refl
is_kind-same (Attribute a) (Link b) h = absurd (cc)
is_kind-same (Attribute a) Container h = absurd (cc)
is_kind-same (Link a) (Attribute b) h = absurd (cc)
is_kind-same (Link a) Container h = absurd (cc)
is_kind-same Container (Attribute b) h = absurd (cc)
is_kind-same Container (Link b) h = absurd (cc)
