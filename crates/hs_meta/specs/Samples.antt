-- Small written metamodels, on which the definitions are tried.
use Rattle.std.specs.Prelude.{ℕ, pos, negsuc, List, [], ◌∷◌, false, codes}
use Rattle.hs_meta.specs.declared.raw.RawAttribute.{RawAttribute}
use Rattle.hs_meta.specs.declared.raw.RawClass.{RawClass}
use Rattle.hs_meta.specs.declared.raw.RawDefault.TheVariants.{LeftOut}
use Rattle.hs_meta.specs.declared.raw.RawMeta.{RawMeta}
use Rattle.hs_meta.specs.declared.raw.RawReference.{RawReference}

-- A class with these supertypes, attributes and references.
abbrev pub sample_class : List ℕ → List (List ℕ) → List RawAttribute → List RawReference → RawClass
sample_class name supers attributes references = record {
  name = name;
  is_abstract = false;
  supers = supers;
  attributes = attributes;
  references = references;
}

-- An attribute without a default.
abbrev pub sample_attribute : List ℕ → List ℕ → RawAttribute
sample_attribute name data_type = record { name = name; data_type = data_type; default = LeftOut }

-- A reference to one target or more.
abbrev pub sample_reference : List ℕ → List ℕ → RawReference
sample_reference name target = record {
  name = name;
  target = target;
  containment = false;
  lower = pos 1;
  upper = negsuc 0;
}

-- D is below B and C, and both are below A, which is the last.
abbrev pub diamond : RawMeta
diamond = record {
  format = 1;
  classes =
      sample_class (codes "D") (codes "B" ∷ codes "C" ∷ []) []
      (sample_reference (codes "r") (codes "A") ∷ []) ∷
      sample_class (codes "B") (codes "A" ∷ [])
      (sample_attribute (codes "y") (codes "EString") ∷ []) [] ∷
      sample_class (codes "C") (codes "A" ∷ []) [] [] ∷
      sample_class (codes "A") [] (sample_attribute (codes "x") (codes "EInt") ∷ []) [] ∷ [];
}

-- A leads to B, which is below itself.
abbrev pub cycle : RawMeta
cycle = record {
  format = 1;
  classes = sample_class (codes "A") (codes "B" ∷ []) [] []
      ∷ sample_class (codes "B") (codes "B" ∷ []) [] [] ∷ [];
}
