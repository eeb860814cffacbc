-- Lists that are given beside each other.
use Rattle.std.proofs.Common.{ℕ, ◌<◌, ◌≡◌, List, length, get_or, slice_get, Some, ap, ◌∙◌, arith}
use Rattle.std.proofs.lemmas.List.{get_or-map, length-map}
use Rattle.std.proofs.lemmas.Option.{get_or_from_slice_get, slice_get_within}
use Rattle.hs_types.specs.declared.meta.Metamodel.{Metamodel}
use Rattle.hs_graph.specs.declared.raw.RawObject.{RawObject}
use Rattle.hs_graph.specs.Lookups.{class_of_object, classes_of_objects}

-- The class that is beside an object.
pub class_at_place : (m : Metamodel) (objects : List RawObject) (classes : List ℕ) (i : ℕ) (object : RawObject) → classes ≡ classes_of_objects m objects → slice_get objects i ≡ Some object → get_or classes i 0 ≡ class_of_object m object
class_at_place m objects classes i object are at =
    let within = slice_get_within objects i object at in
    ap (λ cs. get_or cs i 0) are ∙ get_or-map (class_of_object m) objects i object 0 within ∙ ap (class_of_object m) (get_or_from_slice_get objects i object object at)

pub class_stands : (m : Metamodel) (objects : List RawObject) (classes : List ℕ) (i : ℕ) (object : RawObject) → classes ≡ classes_of_objects m objects → slice_get objects i ≡ Some object → i < length classes
class_stands m objects classes i object are at =
    let within = slice_get_within objects i object at in
    let same : length classes ≡ length objects = ap length are ∙ length-map objects (class_of_object m) in
    omega (arith, within, same)

pub ruleset beside = (class_at_place, class_stands)
