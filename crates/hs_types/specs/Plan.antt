-- Plans: what a match does to its graph.
use Rattle.std.specs.Prelude.{ℕ, ◌+◌, ◌≡◌, List, [], ◌∷◌, ◌++◌, map, take, length, true, false, ◌&&◌, not, cond, eqb, nat_lt, if◌then◌else◌, Option, IsSomeAnd, IsSome, slice_get}
use Rattle.std.specs.List.{All, filter, filter_map, find, flat_map}
use Rattle.std.specs.Option.{option_map, option_and_then, option_or}
use Rattle.hs_expr.specs.declared.value.Value.{Value}
use Rattle.hs_expr.specs.Evaluation.{Env, value_of}
use Rattle.hs_types.specs.declared.graph.Graph.{Graph}
use Rattle.hs_types.specs.declared.graph.Slot.{Slot}
use Rattle.hs_types.specs.declared.matching.Extension.{Extension}
use Rattle.hs_types.specs.declared.matching.Match.{Match}
use Rattle.hs_types.specs.declared.meta.Metamodel.{Metamodel}
use Rattle.hs_types.specs.declared.plan.End.{End}
use Rattle.hs_types.specs.declared.plan.End.TheVariants.{Old, New}
use Rattle.hs_types.specs.declared.plan.MadeEdge.{MadeEdge}
use Rattle.hs_types.specs.declared.plan.Write.{Write}
use Rattle.hs_types.specs.declared.request.Args.{Args}
use Rattle.hs_types.specs.declared.rule.PatternEdge.{PatternEdge}
use Rattle.hs_types.specs.declared.rule.PatternNode.{PatternNode}
use Rattle.hs_types.specs.declared.rule.Rule.{Rule}
use Rattle.hs_types.specs.declared.rule.SetItem.{SetItem}
use Rattle.hs_types.specs.declared.rule.SlotKind.{SlotKind}
use Rattle.hs_types.specs.declared.rule.SlotKind.TheVariants.{Attribute, Link, Container}
use Rattle.hs_types.specs.Conditions.{env_of}
use Rattle.hs_types.specs.Copies.{Copy, copies_of, copy_env, nodes_of, images_of, all_dropped_nodes, all_dropped_edges}
use Rattle.hs_types.specs.Dangling.{NoneDangle}
use Rattle.hs_expr.specs.Lists.{has, Differ, EachPair}
use Rattle.hs_types.specs.Metamodel.{Conforms, attributes_of, default_of, features_of, fits, target_of}
use Rattle.hs_types.specs.Pattern.{is_make, made_nodes, made_edges, node_is}
use Rattle.hs_types.specs.PlainMatch.{image, kernel_of}
use Rattle.hs_types.specs.TypedGraph.{AreSlotsOf, object_numbered, edge_numbered, value_at, Stands}

-- An object that is made, with all its slots.
pub record MadeObject : Type 0 where
  pub class : ℕ
  pub slots : List Slot

-- Which objects and edges go, which slots get which values, and which objects and edges are made.
pub record Plan : Type 0 where
  pub drop_objects : List ℕ
  pub drop_edges : List ℕ
  pub writes : List Write
  pub make_objects : List MadeObject
  pub make_edges : List MadeEdge

abbrev pub no_plan : Plan
no_plan = record {
  drop_objects = [];
  drop_edges = [];
  writes = [];
  make_objects = [];
  make_edges = [];
}

-- The values that the `set`s write into slots of preserved nodes, in written order.
abbrev pub writes_of : Env → List PatternNode → List ℕ → List SetItem → List Write
writes_of env nodes images sets =
    filter_map (λ item. option_map (λ v.
    record {
      object = image nodes images item.node;
      slot = Attribute item.attribute;
      value = v;
    }) (value_of env item.value)) (filter (λ item. not (node_is is_make nodes item.node)) sets)

-- The value that a `set` gives to the attribute of made node n.
abbrev pub value_set : Env → List SetItem → ℕ → ℕ → Option Value
value_set env sets n a =
    option_and_then (λ item. value_of env item.value)
    (find (λ item. eqb item.node n && eqb item.attribute a) sets)

-- The slots of the object that is made for node n: each attribute of its class with the value that
-- is set, or else its default.
abbrev pub made_slots : Metamodel → Env → List SetItem → ℕ → ℕ → List Slot
made_slots m env sets n class =
    filter_map (λ a. option_map (λ v. record { attribute = a; value = v })
    (option_or (value_set env sets n a) (default_of m a))) (attributes_of m class)

-- One object for each made node, where the first node has this number.
abbrev pub objects_for : Metamodel → Env → List SetItem → ℕ → List PatternNode → List MadeObject
objects_for m env sets n [] = []
objects_for m env sets n (node ∷ nodes) =
    cond (is_make node.mark)
    (record { class = node.class; slots = made_slots m env sets n node.class }
    ∷ objects_for m env sets (n + 1) nodes) (objects_for m env sets (n + 1) nodes)

-- The object of node n: the one that is made for it, by its place among those made, or its image.
abbrev pub end_of : List PatternNode → List ℕ → ℕ → End
end_of nodes images n =
    if node_is is_make nodes n then New (length (made_nodes (take n nodes)))
    else Old (image nodes images n)

-- The same end, after `count` further made objects.
abbrev pub end_after : ℕ → End → End
end_after count (Old n) = Old n
end_after count (New i) = New (i + count)

-- The same of a copy, where the copies before it make `count` objects: a node of the kernel keeps
-- its object.
abbrev pub copy_end : Rule → Extension → ℕ → Copy → ℕ → End
copy_end rule f count copy n =
    if nat_lt n (length rule.shape.nodes) then end_of rule.shape.nodes f.nodes n
    else end_after count (end_of (nodes_of rule copy.multi) (images_of f copy.found) n)

abbrev pub edges_for : (ℕ → End) → List PatternEdge → List MadeEdge
edges_for end edges =
    map (λ edge. record {
      source = end edge.source;
      reference = edge.reference;
      target = end edge.target;
    }) (made_edges edges)

-- The edges that copies make, where the copies before them make `count` objects.
abbrev pub copy_edges : Rule → Extension → ℕ → List Copy → List MadeEdge
copy_edges rule f count [] = []
copy_edges rule f count (copy ∷ copies) =
    edges_for (copy_end rule f count copy) copy.multi.shape.edges
    ++ copy_edges rule f (count + length (made_nodes copy.multi.shape.nodes)) copies

abbrev pub copy_writes : Graph → Rule → Args → Extension → Copy → List Write
copy_writes g rule args f copy =
    writes_of (copy_env g rule args f copy) (nodes_of rule copy.multi) (images_of f copy.found)
    copy.multi.sets

abbrev pub copy_objects : Metamodel → Graph → Rule → Args → Extension → Copy → List MadeObject
copy_objects m g rule args f copy =
    objects_for m (copy_env g rule args f copy) copy.multi.sets (length rule.shape.nodes)
    copy.multi.shape.nodes

-- What the rule does at a match: the kernel's part first, then copy by copy, each in written order.
-- All values are those of the graph before.
abbrev pub plan_of : Metamodel → Graph → Rule → Args → Match → Plan
plan_of m g rule args f =
    let kernel = kernel_of f in
    let env = env_of g rule args rule.shape.nodes f.nodes in
    let copies = copies_of rule f in
    record {
      drop_objects = all_dropped_nodes rule f;
      drop_edges = all_dropped_edges rule f;
      writes =
          writes_of env rule.shape.nodes f.nodes rule.sets
          ++ flat_map (copy_writes g rule args kernel) copies;
      make_objects =
          objects_for m env rule.sets 0 rule.shape.nodes
          ++ flat_map (copy_objects m g rule args kernel) copies;
      make_edges =
          edges_for (end_of rule.shape.nodes f.nodes) rule.shape.edges
          ++ copy_edges rule kernel 0 copies;
    }

-- The fact holds of the class of an end of a made edge, which is an object that stays or is made.
abbrev pub EndIs : Graph → Plan → (ℕ → Type 0) → End → Type 0
EndIs g plan P (Old n) = Stands g P n × (has plan.drop_objects n ≡ false)
EndIs g plan P (New i) = IsSomeAnd (slice_get plan.make_objects i) (λ object. P object.class)

-- A made edge can join its ends.
abbrev pub CanBeMade : Metamodel → Graph → Plan → MadeEdge → Type 0
CanBeMade m g plan edge =
    EndIs g plan (λ c. has (features_of m c) edge.reference ≡ true) edge.source × IsSomeAnd
    (target_of m edge.reference) (λ class. EndIs g plan (λ c. Conforms m c class) edge.target)

-- The value is one that the slot can have.
abbrev pub SlotFits : Metamodel → SlotKind → Value → Type 0
SlotFits m (Attribute a) v = fits m a v ≡ true
SlotFits m (Link r) v = ⊥
SlotFits m Container v = ⊥

-- The plan can be carried out in the graph: what it drops and writes is there, each once; no edge
-- is left without an end, and nothing is written to what goes; what it writes and makes is such as
-- a typed graph has.
pub record Fits (m : Metamodel) (g : Graph) (plan : Plan) : Type 0 where
  pub objects_stand : All (λ n. IsSome (object_numbered g n)) plan.drop_objects
  pub objects_differ : Differ plan.drop_objects
  pub edges_stand : All (λ n. IsSome (edge_numbered g n)) plan.drop_edges
  pub edges_differ : Differ plan.drop_edges
  pub none_dangle : NoneDangle plan.drop_objects plan.drop_edges g
  pub slots_stand : All (λ write. IsSome (value_at g write.object write.slot)
      × (has plan.drop_objects write.object ≡ false)) plan.writes
  pub slots_differ : EachPair (λ v w. (v.object ≡ w.object) × (v.slot ≡ w.slot) → ⊥) plan.writes
  pub values_fit : All (λ write. SlotFits m write.slot write.value) plan.writes
  pub objects_fit : All (λ object. AreSlotsOf m object.class object.slots) plan.make_objects
  pub edges_fit : All (CanBeMade m g plan) plan.make_edges
