-- What a bundle holds, or its first fault.
use Rattle.std.specs.Prelude.{ℕ, ◌≡◌, ◌⊎◌, List, [], ◌∷◌, Option, Some, None, Result, Ok, Err, codes, IsUtf8, option_map}
use Rattle.serde_json.specs.Data.{Data}
use Rattle.serde_json.specs.Find.{get}
use Rattle.serde_json.specs.Read.{read}
use Rattle.serde_json.specs.View.{view}
use Rattle.hs_expr.specs.declared.failure.Failure.{Failure}
use Rattle.hs_expr.specs.declared.failure.Failure.TheVariants.{Fault, NoMemory}
use Rattle.hs_expr.specs.Steps.{◌>>=◌, fault_as}
use Rattle.hs_json_form.specs.declared.path.Step.TheVariants.{Key}
use Rattle.hs_json_form.specs.Form.{Read, at_or, member_at, only_known, text_value}
use Rattle.hs_graph.specs.declared.fault.GraphFaultKind.{GraphFaultKind}
use Rattle.hs_graph.specs.Meaning.{graph_of}
use Rattle.hs_meta.specs.declared.fault.ModelFaultKind.{ModelFaultKind}
use Rattle.hs_json_model.specs.declared.fault.Fault.{Fault as PartFault}
use Rattle.hs_json_model.specs.Graph.{graph_at}
use Rattle.hs_json_model.specs.Meta.{meta_at}
use Rattle.hs_types.specs.declared.graph.Graph.{Graph}
use Rattle.hs_types.specs.declared.meta.Metamodel.{Metamodel}
use Rattle.hs_json.specs.declared.reading.Bundle.{Bundle}
use Rattle.hs_json.specs.declared.fault.BundleFault.{BundleFault}
use Rattle.hs_json.specs.declared.fault.BundleFault.TheVariants.{BadJson, BadBundle, BadModel, BadGraph}

-- What a bundle holds: a metamodel, a graph over it, a text of rules, and the values of its
-- sessions and its journal, which are read after the rules.
pub record Contents : Type 0 where
  pub meta : Metamodel
  pub graph : Graph
  pub rules : List ℕ
  pub sessions : Option Data
  pub journal : Option Data

-- A fault of a part, reported from the bundle that has the part at this key.
abbrev pub under : {K : Type 0} → List ℕ → PartFault K → PartFault K
under key fault = record { path = Key key ∷ fault.path; wrong = fault.wrong }

abbrev pub in_model : PartFault ModelFaultKind → BundleFault
in_model fault = BadModel (under (codes "meta") fault)

abbrev pub in_graph : PartFault GraphFaultKind → BundleFault
in_graph fault = BadGraph (under (codes "graph") fault)

-- The graph is empty where it is left out.
abbrev pub graph_or_empty : Metamodel → Option Data → Result Graph (PartFault GraphFaultKind)
graph_or_empty m None = Ok (graph_of m [])
graph_or_empty m (Some d) = graph_at m d

-- The keys that a bundle may have.
abbrev pub keys : List (List ℕ)
keys = codes "meta" ∷ codes "graph" ∷ codes "rules" ∷ codes "sessions" ∷ codes "journal" ∷ []

-- The bundle's own form: its metamodel's value, which has to be there, and its rules.
unfoldable pub top_of : Data → Read (Data × List ℕ)
top_of d = do
  known ← only_known keys d
  meta ← member_at (codes "meta") d
  rules ← at_or (codes "rules") [] text_value d
  Ok (meta, rules)

-- What a value holds that is a bundle: its own form comes first, then the metamodel, then the
-- graph.
unfoldable pub contents_of : Data → Result Contents BundleFault
contents_of d = do
  top ← fault_as BadBundle (top_of d)
  meta ← fault_as in_model (meta_at top.0)
  graph ← fault_as in_graph (graph_or_empty meta (get (codes "graph") d))
  Ok (record {
    meta = meta;
    graph = graph;
    rules = top.1;
    sessions = get (codes "sessions") d;
    journal = get (codes "journal") d;
  })

-- The contents of this bundle, whose metamodel is in a shared pointer.
abbrev pub contents : Bundle → Contents
contents bundle = record {
  meta = bundle.graph.meta;
  graph = bundle.graph.graph;
  rules = bundle.rules;
  sessions = option_map view bundle.sessions;
  journal = option_map view bundle.journal;
}

-- The bytes are the text of a JSON value, in UTF-8.
pub record IsJson (bytes : List ℕ) (d : Data) : Type 0 where
  pub is_text : IsUtf8 bytes
  pub is_value : read bytes ≡ Some d

-- The bytes aren't a text in UTF-8, or the text isn't JSON.
abbrev pub IsNoJson : List ℕ → Type 0
IsNoJson bytes = IsUtf8 bytes → read bytes ≡ None

-- What the bytes hold: bad JSON, or the contents of their value or its first fault.
abbrev pub IsBundleAnswer : List ℕ → Result Contents BundleFault → Type 0
IsBundleAnswer bytes answer =
    (IsNoJson bytes × (answer ≡ Err BadJson))
    ⊎ ((d : Data) × IsJson bytes d × (contents_of d ≡ answer))

-- The answer is what the bytes hold; only out of memory may take its place.
abbrev pub Answers : List ℕ → Result Bundle (Failure BundleFault) → Type 0
Answers bytes (Ok bundle) = IsBundleAnswer bytes (Ok (contents bundle))
Answers bytes (Err (Fault fault)) = IsBundleAnswer bytes (Err fault)
Answers bytes (Err NoMemory) = Unit {0}
