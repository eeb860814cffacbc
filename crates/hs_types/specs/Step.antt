-- The step: the graph after a plan.
use Rattle.std.specs.Prelude.{ℕ, ◌+◌, List, [], ◌∷◌, ◌++◌, map, length, Bool, ◌&&◌, not, eqb}
use Rattle.std.specs.List.{filter, find}
use Rattle.std.specs.Option.{option_map, unwrap_or}
use Rattle.hs_types.specs.declared.graph.Edge.{Edge}
use Rattle.hs_types.specs.declared.graph.Graph.{Graph}
use Rattle.hs_types.specs.declared.graph.Object.{Object}
use Rattle.hs_types.specs.declared.graph.Slot.{Slot}
use Rattle.hs_types.specs.declared.plan.End.{End}
use Rattle.hs_types.specs.declared.plan.End.TheVariants.{Old, New}
use Rattle.hs_types.specs.declared.plan.MadeEdge.{MadeEdge}
use Rattle.hs_types.specs.Plan.{MadeObject, Plan}
use Rattle.hs_types.specs.declared.plan.Write.{Write}
use Rattle.hs_types.specs.declared.rule.SlotKind.{SlotKind}
use Rattle.hs_types.specs.declared.rule.SlotKind.TheVariants.{Attribute}
use Rattle.hs_expr.specs.Lists.{has}
use Rattle.hs_types.specs.Pattern.{is_kind}
use Rattle.hs_types.specs.TypedGraph.{hash_name}

-- The write goes to this slot of the object at n.
abbrev pub is_to : ℕ → SlotKind → Write → Bool
is_to n slot write = eqb write.object n && is_kind write.slot slot

-- A slot of the object at n after the writes: with the value that is written there, or else its
-- own.
abbrev pub slot_after : List Write → ℕ → Slot → Slot
slot_after writes n slot = record {
  attribute = slot.attribute;
  value = unwrap_or (option_map (λ write. write.value)
      (find (is_to n (Attribute slot.attribute)) writes)) slot.value;
}

abbrev pub object_after : List Write → Object → Object
object_after writes object = record {
  number = object.number;
  name = object.name;
  class = object.class;
  slots = map (slot_after writes object.number) object.slots;
}

-- The made objects, of which the first gets this number and the name `#k`.
abbrev pub new_objects : ℕ → ℕ → List MadeObject → List Object
new_objects n k [] = []
new_objects n k (object ∷ objects) =
    record { number = n; name = hash_name k; class = object.class; slots = object.slots }
    ∷ new_objects (n + 1) (k + 1) objects

-- The number of an end, where the first made object gets this number.
abbrev pub number_of : ℕ → End → ℕ
number_of next (Old n) = n
number_of next (New i) = next + i

-- The made edges, of which the first gets number n, where the first made object gets number `next`.
abbrev pub new_edges : ℕ → ℕ → List MadeEdge → List Edge
new_edges next n [] = []
new_edges next n (edge ∷ edges) =
    record {
      number = n;
      source = number_of next edge.source;
      reference = edge.reference;
      target = number_of next edge.target;
    } ∷ new_edges next (n + 1) edges

-- The graph after the plan: what is dropped is gone, written slots have their new values, and what
-- is made follows, with the next numbers and names. All else stays.
abbrev pub step : Graph → Plan → Graph
step g plan = record {
  objects =
      map (object_after plan.writes) (filter (λ object. not (has plan.drop_objects object.number))
      g.objects) ++ new_objects g.next_object g.next_name plan.make_objects;
  edges =
      filter (λ edge. not (has plan.drop_edges edge.number)) g.edges
      ++ new_edges g.next_object g.next_edge plan.make_edges;
  next_object = g.next_object + length plan.make_objects;
  next_edge = g.next_edge + length plan.make_edges;
  next_name = g.next_name + length plan.make_objects;
}
