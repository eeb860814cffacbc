-- The supertypes of written classes.
use Rattle.std.specs.Prelude.{ℕ, List, map}
use Rattle.std.specs.List.{filter_map}
use Rattle.hs_meta.specs.declared.raw.RawClass.{RawClass}
use Rattle.hs_meta.specs.declared.checking.Supers.{Supers}
use Rattle.hs_meta.specs.Names.{raw_class_number}
use Rattle.hs_types.specs.Reachability.{reach_rows}

-- The numbers of each class's direct supertypes; a name that isn't a class's is left out.
abbrev pub written_supers : List RawClass → List (List ℕ)
written_supers classes = map (λ class. filter_map (raw_class_number classes) class.supers) classes

-- The same, with the rows of what they reach.
abbrev pub supers_found : List RawClass → Supers
supers_found classes = record {
  direct = written_supers classes;
  rows = reach_rows (written_supers classes);
}
