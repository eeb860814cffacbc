-- Lawful reports: a lawful journal, its graph, and to each request the reply that its entries call
-- for.
use Rattle.std.specs.Prelude.{◌≡◌, List}
use Rattle.std.specs.List.{All, AllZip}
use Rattle.hs_types.specs.declared.graph.Graph.{Graph}
use Rattle.hs_types.specs.declared.request.Request.{Request}
use Rattle.hs_types.specs.Journal.{IsLawful, after_journal}
use Rattle.hs_types.specs.Rules.{Rules}
use Rattle.hs_session.specs.declared.report.Report.{Report}
use Rattle.hs_session.specs.Replies.{RepliesTo}
use Rattle.hs_session.specs.Requests.{IsAsked, all_asked}

-- The journal is lawful from the opening graph and has entries of these requests alone; the graph
-- is the journal's graph; and the replies answer the requests, one by one.
pub record IsLawfulReport (rules : Rules) (opening : Graph) (sessions : List (List Request))
    (report : Report) : Type 0 where
  pub lawful : IsLawful rules opening report.journal
  pub all_were_asked : All (IsAsked sessions) report.journal
  pub answered : AllZip (RepliesTo rules opening report.journal) (all_asked sessions) report.replies
  pub graph_after : report.graph.graph ≡ after_journal rules opening report.journal
  pub same_model : report.graph.meta ≡ rules.meta
