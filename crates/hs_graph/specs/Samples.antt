-- A small metamodel with written objects, on which the definitions are tried.
use Rattle.std.specs.Prelude.{ℕ, pos, List, [], ◌∷◌, Bool, true, false, Some, None, codes}
use Rattle.hs_expr.specs.declared.value.Value.TheVariants as value
use Rattle.hs_types.specs.declared.graph.Edge.{Edge}
use Rattle.hs_types.specs.declared.graph.Graph.{Graph}
use Rattle.hs_types.specs.declared.graph.Object.{Object}
use Rattle.hs_types.specs.declared.meta.Class.{Class}
use Rattle.hs_types.specs.declared.meta.DataType.TheVariants.{EInt, EString}
use Rattle.hs_types.specs.declared.meta.FeatureKind.TheVariants.{Attribute, Reference}
use Rattle.hs_types.specs.declared.meta.Metamodel.{Metamodel}
use Rattle.hs_graph.specs.declared.raw.RawAttr.{RawAttr}
use Rattle.hs_graph.specs.declared.raw.RawObject.{RawObject}
use Rattle.hs_graph.specs.declared.raw.RawRef.{RawRef}
use Rattle.hs_graph.specs.declared.raw.RawValue.{RawValue}
use Rattle.hs_graph.specs.declared.raw.RawValue.TheVariants.{Given, NoValue}

abbrev pub sample_graph_class : List ℕ → Bool → List ℕ → List ℕ → Class
sample_graph_class name is_abstract supers features = record {
  name = name;
  is_abstract = is_abstract;
  supers = supers;
  features = features;
}

-- Clients hold accounts, an account has an owner and a balance, which is 5 where none is given, and
-- both have a name from an abstract class.
abbrev pub sample_bank : Metamodel
sample_bank = record {
  format = 1;
  classes =
      sample_graph_class (codes "Named") true [] (0 ∷ []) ∷
      sample_graph_class (codes "Client") false (0 ∷ []) (0 ∷ 1 ∷ []) ∷
      sample_graph_class (codes "Account") false (0 ∷ []) (0 ∷ 2 ∷ 3 ∷ []) ∷ [];
  features =
      record { owner = 0; name = codes "name"; kind = Attribute EString (value.Text []) } ∷
      record { owner = 1; name = codes "accounts"; kind = Reference 2 true 0 None } ∷
      record { owner = 2; name = codes "balance"; kind = Attribute EInt (value.Int (pos 5)) } ∷
      record { owner = 2; name = codes "owner"; kind = Reference 1 false 0 None } ∷ [];
}

abbrev pub sample_object : List ℕ → List ℕ → List RawAttr → List RawRef → RawObject
sample_object name class attrs refs = record {
  name = name;
  class = class;
  attrs = attrs;
  refs = refs;
}

abbrev pub sample_attr : List ℕ → RawValue → RawAttr
sample_attr name value = record { name = name; value = value }

abbrev pub sample_ref : List ℕ → List (List ℕ) → RawRef
sample_ref name targets = record { name = name; targets = targets }

-- A client that holds an account twice, and the account.
abbrev pub sample_objects : List RawObject
sample_objects =
    sample_object (codes "c1") (codes "Client")
    (sample_attr (codes "name") (Given (value.Text (codes "Ann"))) ∷ [])
    (sample_ref (codes "accounts") (codes "#7" ∷ codes "#7" ∷ []) ∷ []) ∷
    sample_object (codes "#7") (codes "Account") []
    (sample_ref (codes "owner") (codes "c1" ∷ []) ∷ []) ∷ []

-- Objects with a fault of each kind, but for the limits.
abbrev pub faulty_objects : List RawObject
faulty_objects =
    sample_object [] (codes "Client") [] [] ∷
    sample_object (codes "x") (codes "Bank") [] [] ∷
    sample_object (codes "x") (codes "Named") [] [] ∷
    sample_object (codes "#09") (codes "Account")
    (sample_attr (codes "age") (Given (value.Int (pos 1))) ∷ sample_attr (codes "balance")
    (Given (value.Int (pos 2147483648))) ∷ sample_attr (codes "name") NoValue ∷ [])
    (sample_ref (codes "accounts") [] ∷ sample_ref (codes "owner") (codes "y" ∷ codes "x" ∷ [])
    ∷ []) ∷ []

-- Boxes hold boxes, and a box is tied to one other and no more.
abbrev pub boxes : Metamodel
boxes = record {
  format = 1;
  classes = sample_graph_class (codes "Box") false [] (0 ∷ 1 ∷ []) ∷ [];
  features =
      record { owner = 0; name = codes "parts"; kind = Reference 0 true 0 None } ∷
      record { owner = 0; name = codes "tie"; kind = Reference 0 false 1 (Some 1) } ∷ [];
}

abbrev pub box : ℕ → List ℕ → Object
box n name = record { number = n; name = name; class = 0; slots = [] }

abbrev pub sample_edge : ℕ → ℕ → ℕ → ℕ → Edge
sample_edge n source reference target = record {
  number = n;
  source = source;
  reference = reference;
  target = target;
}

-- Box 2 is tied, is in no box and holds box 5; boxes 5 and 7 hold each other; box 7 is tied twice
-- and holds box 9, which isn't tied.
abbrev pub boxed : Graph
boxed = record {
  objects = box 2 (codes "a") ∷ box 5 (codes "b") ∷ box 7 (codes "c") ∷ box 9 (codes "d") ∷ [];
  edges =
      sample_edge 0 2 1 2 ∷ sample_edge 1 2 0 5 ∷ sample_edge 2 5 0 7 ∷ sample_edge 3 7 0 5 ∷
      sample_edge 4 7 1 2 ∷ sample_edge 6 7 1 2 ∷ sample_edge 8 7 0 9 ∷ sample_edge 9 5 1 9 ∷ [];
  next_object = 10;
  next_edge = 10;
  next_name = 0;
}
