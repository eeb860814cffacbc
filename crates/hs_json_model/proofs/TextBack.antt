-- The text of a written graph is read back.
use Rattle.std.proofs.Common.{ℕ, get_or, ◌^◌, ◌≡◌, ℤ, pos, negsuc, List, [], ◌∷◌, true, codes, map, Some, option_and_then, ap, sym, subst, arith}
use Rattle.std.proofs.lemmas.Bool.{ltb-true}
use Rattle.std.proofs.lemmas.List.Elements.{All-cons, All-map, All-nil}
use Rattle.std.specs.List.{All, filter}
use Rattle.json.proofs.Printed.Decimals.{IsNumber-signed_decimal}
use Rattle.serde_json.specs.Data.{string}
use Rattle.serde_json.specs.Find.{get, of_integer}
use Rattle.serde_json.specs.Read.{read}
use Rattle.serde_json.specs.Written.{compact_text}
use Rattle.serde_json.proofs.Numbers.{number_of-decimal, number_of-negative}
use Rattle.hs_expr.specs.declared.value.Value.{Value}
use Rattle.hs_expr.specs.declared.value.Value.TheVariants as value
use Rattle.hs_expr.specs.Evaluation.{is_within}
use Rattle.hs_types.specs.declared.graph.Graph.{Graph}
use Rattle.hs_types.specs.declared.graph.Object.{Object}
use Rattle.hs_types.specs.declared.graph.Slot.{Slot}
use Rattle.hs_types.specs.declared.meta.Metamodel.{Metamodel}
use Rattle.hs_types.specs.Metamodel.{features_of}
use Rattle.hs_types.specs.TypedGraph.{IsTyped}
use Rattle.hs_graph.specs.Problems.{edges_leaving}
use Rattle.hs_json_model.specs.Written.{Member, attrs_data, class_name, feature_name, graph_data, list_data, name_in, object_data, object_line, object_members, objects_data, refs_members, targets_of, value_data}
use Rattle.hs_json_model.proofs.FormBack.{IsHeld, is_used, references_listed}
use Rattle.hs_json_model.proofs.Held.{values_held}
use Rattle.hs_json_model.proofs.Readable.{IsReadable, IsReadableNumber, readable_items, readable_object, text_read}

readable_integer : (n : ℤ) → is_within (2 ^ 63) n ≡ true → IsReadableNumber (of_integer n)
readable_integer (pos k) h =
    let below = ltb-true k (2 ^ 63) h in
    record { is_read = number_of-decimal k (omega (arith, below)); is_number = IsNumber-signed_decimal (pos k) below }
readable_integer (negsuc k) h =
    let below = ltb-true k (2 ^ 63) h in
    record { is_read = number_of-negative k below; is_number = IsNumber-signed_decimal (negsuc k) below }

readable_value : (n : ℕ) (v : Value) → IsHeld v → IsReadable n (value_data v)
readable_value n (value.Int i) held = readable_integer i held
readable_value n (value.Bool b) held = tt
readable_value n (value.Text t) held = tt

readable_attrs : (m : Metamodel) (slots : List Slot) → All (λ (slot : Slot). IsHeld slot.value) slots → IsReadable 2 (attrs_data m slots)
readable_attrs m slots held =
    readable_object 1 (map (λ (slot : Slot). (feature_name m slot.attribute, value_data slot.value)) slots)
    (All-map (λ (x : Member). IsReadable 1 x.1) (λ (slot : Slot). (feature_name m slot.attribute, value_data slot.value)) slots (λ i slot h. readable_value 1 _ (held i slot h)))

readable_texts : (ts : List (List ℕ)) → IsReadable 1 (list_data string ts)
readable_texts ts = readable_items (IsReadable 0) (map string ts) (All-map (IsReadable 0) string ts (λ i t h. tt))

readable_refs : (m : Metamodel) (g : Graph) (o : Object) → IsReadable 2 (object_data (refs_members m (name_in g) (edges_leaving g o.number) (features_of m o.class)))
readable_refs m g o =
    let targets = λ (f : ℕ). targets_of (name_in g) (edges_leaving g o.number) f in
    let used = filter (λ f. is_used (targets f)) (features_of m o.class) in
    let one : ℕ → Member = λ f. (feature_name m f, list_data string (targets f)) in
    subst (λ (ms : List Member). IsReadable 2 (object_data ms)) (sym (references_listed m targets (features_of m o.class)))
    (readable_object 1 (map one used) (All-map (λ (x : Member). IsReadable 1 x.1) one used (λ i f h. readable_texts (targets _))))

readable_object_line : (m : Metamodel) (g : Graph) (o : Object) → All (λ (slot : Slot). IsHeld slot.value) o.slots → IsReadable 3 (object_line m g o)
readable_object_line m g o held =
    let P = λ (x : Member). IsReadable 2 x.1 in
    let refs : Member = (codes "refs", object_data (refs_members m (name_in g) (edges_leaving g o.number) (features_of m o.class))) in
    let name : Member = (codes "name", string o.name) in
    let class : Member = (codes "class", string (class_name m o.class)) in
    let attrs : Member = (codes "attrs", attrs_data m o.slots) in
    readable_object 2 (object_members m (name_in g) (edges_leaving g o.number) o)
    (All-cons P attrs (class ∷ name ∷ refs ∷ []) (readable_attrs m o.slots held)
    (All-cons P class (name ∷ refs ∷ []) tt (All-cons P name (refs ∷ []) tt (All-cons P refs [] (readable_refs m g o) (All-nil P)))))

readable_graph : (m : Metamodel) (g : Graph) → IsTyped m g → IsReadable 5 (graph_data m g)
readable_graph m g typed =
    let held = values_held m g typed in
    let P = λ (x : Member). IsReadable 4 x.1 in
    readable_object 4 ((codes "graph", objects_data m g) ∷ [])
    (All-cons P (codes "graph", objects_data m g) [] (readable_items (IsReadable 3) (map (object_line m g) g.objects) (All-map (IsReadable 3) (object_line m g) g.objects (λ i o h. readable_object_line m g (get_or g.objects i o) (held i o h)))) (All-nil P))

-- What is read of the text has the objects at its key.
pub text_back : (m : Metamodel) (g : Graph) → IsTyped m g → option_and_then (get (codes "graph")) (read (compact_text (graph_data m g))) ≡ Some (objects_data m g)
text_back m g typed = ap (option_and_then (get (codes "graph"))) (text_read 5 (graph_data m g) (omega arith) (readable_graph m g typed))
