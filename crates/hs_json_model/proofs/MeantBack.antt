-- What written objects mean is the graph that they were written from, numbered by places.
use Rattle.std.proofs.Common.{ℕ, ◌+◌, ◌≡◌, List, [], ◌∷◌, length, map, max, refl, ap, ◌∙◌}
use Rattle.std.proofs.lemmas.List.Elements.{All-head, All-tail}
use Rattle.std.specs.List.{All}
use Rattle.hs_types.specs.declared.graph.Graph.{Graph}
use Rattle.hs_types.specs.declared.graph.Object.{Object}
use Rattle.hs_types.specs.declared.graph.Slot.{Slot}
use Rattle.hs_types.specs.declared.meta.Metamodel.{Metamodel}
use Rattle.hs_types.specs.Metamodel.{IsMeta}
use Rattle.hs_types.specs.TypedGraph.{AreSlotsOf, IsTyped}
use Rattle.hs_graph.specs.declared.edges.Link.{Link}
use Rattle.hs_graph.specs.Links.{all_links}
use Rattle.hs_graph.specs.Lookups.{object_names}
use Rattle.hs_graph.specs.Meaning as meaning
use Rattle.hs_graph.specs.Meaning.{graph_of}
use Rattle.hs_graph.specs.Names.{next_after}
use Rattle.std.proofs.lemmas.List.{length-map}
use Rattle.hs_json_model.specs.Renumbered.{links_by_place, objects_by_place, graph_by_place}
use Rattle.hs_json_model.proofs.FormBack.{attrs_written, object_written}
use Rattle.hs_json_model.proofs.SlotsBack.{keys_differ, slots_back}
use Rattle.hs_json_model.proofs.LinksBack.{all_links_back, class_written}

abbrev object : ℕ → List ℕ → ℕ → List Slot → Object
object n name class slots = record { number = n; name = name; class = class; slots = slots }

object_meant : (m : Metamodel) (g : Graph) (n : ℕ) (o : Object) → IsMeta m → AreSlotsOf m o.class o.slots → meaning.object_of_raw m n (object_written m g o) ≡ object n o.name o.class o.slots
object_meant m g n o is fit =
    ap (λ (c : ℕ). object n o.name c (meaning.slots_for m c (attrs_written m o.slots))) (class_written m g o is fit.0)
    ∙ ap (object n o.name o.class) (slots_back m o.class o.slots fit.1 (keys_differ m o.class o.slots is fit.1))

objects_meant : (m : Metamodel) (g : Graph) (n : ℕ) (os : List Object) → IsMeta m → All (λ (o : Object). AreSlotsOf m o.class o.slots) os → meaning.objects_from m n (map (object_written m g) os) ≡ objects_by_place n os
objects_meant m g n [] is all = refl
objects_meant m g n (o ∷ os) is all =
    ap (λ (x : Object). x ∷ meaning.objects_from m (n + 1) (map (object_written m g) os)) (object_meant m g n o is (All-head (λ (o : Object). AreSlotsOf m o.class o.slots) o os all))
    ∙ ap (λ (xs : List Object). object n o.name o.class o.slots ∷ xs) (objects_meant m g (n + 1) os is (All-tail (λ (o : Object). AreSlotsOf m o.class o.slots) o os all))

next_meant : (m : Metamodel) (g : Graph) (os : List Object) → meaning.next_name_after (object_names (map (object_written m g) os)) ≡ meaning.next_name_after (map (λ (o : Object). o.name) os)
next_meant m g [] = refl
next_meant m g (o ∷ os) = ap (max (next_after o.name)) (next_meant m g os)

pub length_written : (m : Metamodel) (g : Graph) (os : List Object) → length (map (object_written m g) os) ≡ length os
length_written m g os = length-map os (object_written m g)

abbrev graph : List Object → List Link → ℕ → ℕ → Graph
graph objects links next_object next_name = record { objects = objects; edges = meaning.edges_of_links 0 links; next_object = next_object; next_edge = length links; next_name = next_name }

-- The graph that the written objects mean.
pub meant_back : (m : Metamodel) (g : Graph) → IsMeta m → IsTyped m g → meaning.graph_of m (map (object_written m g) g.objects) ≡ graph_by_place m g
unfolding graph_of graph_by_place
meant_back m g is typed =
    ap (λ (os : List Object). graph os (all_links m (map (object_written m g) g.objects)) (length (map (object_written m g) g.objects)) (meaning.next_name_after (object_names (map (object_written m g) g.objects)))) (objects_meant m g 0 g.objects is typed.objects_fit)
    ∙ ap (λ (ls : List Link). graph (objects_by_place 0 g.objects) ls (length (map (object_written m g) g.objects)) (meaning.next_name_after (object_names (map (object_written m g) g.objects)))) (all_links_back m g is typed)
    ∙ ap (λ (n : ℕ). graph (objects_by_place 0 g.objects) (links_by_place m g 0 g.objects) n (meaning.next_name_after (object_names (map (object_written m g) g.objects)))) (length_written m g g.objects)
    ∙ ap (graph (objects_by_place 0 g.objects) (links_by_place m g 0 g.objects) (length g.objects)) (next_meant m g g.objects)
