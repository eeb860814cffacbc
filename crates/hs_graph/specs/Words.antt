-- The words that faults of graphs are printed as.
use Rattle.std.specs.Prelude.{ℕ, List, codes}
use Rattle.hs_graph.specs.declared.fault.GraphFaultKind.{GraphFaultKind}
use Rattle.hs_graph.specs.declared.fault.GraphFaultKind.TheVariants.{Limit, Name, Twice, UnknownClass, Abstract, UnknownAttribute, BadValue, UnknownReference, UnknownTarget, BadTarget}

abbrev pub graph_word : GraphFaultKind → List ℕ
graph_word Limit = codes "limit"
graph_word Name = codes "name"
graph_word Twice = codes "twice"
graph_word UnknownClass = codes "unknownclass"
graph_word Abstract = codes "abstract"
graph_word UnknownAttribute = codes "unknownattribute"
graph_word BadValue = codes "badvalue"
graph_word UnknownReference = codes "unknownreference"
graph_word UnknownTarget = codes "unknowntarget"
graph_word BadTarget = codes "badtarget"
