use Rattle.std.proofs.Common.{[], ◌∷◌, inl, refl}
use Rattle.hs_laws.specs.Bank.{arrow, drop_client, model, open_account, touch}
use Rattle.hs_types.specs.declared.rule.Mark.TheVariants.{Keep}
use Rattle.hs_overlap.specs.declared.pair.Pair.TheVariants.{Node}
use Rattle.hs_overlap.proofs.Deletions.{client_dropped, client_overlap, client_reason, dangles, drop_occurs, kept_arrow, open_occurs, touch_occurs}
use Rattle.hs_overlap.proofs.Pairs.{Contains-here}
use Rattle.hs_overlap.proofs.examples.deletions_tried.Goals as goal

pub returns-clause-client : goal.returns-clause-client
returns-clause-client c = client_reason ((c.glue.ensures model drop_client.shape open_account.shape c.metamodels.ensures.is_meta drop_occurs open_occurs (Node 0 0 ∷ [])).1 client_overlap)

pub returns-clause-dangling : goal.returns-clause-dangling
returns-clause-dangling c = λ h. dangles (c.what_reasons_pair.ensures.edges model drop_client.shape touch.shape c.metamodels.ensures.is_meta drop_occurs touch_occurs (Node 0 0 ∷ []) h 0 0 0 (arrow 0 0 1 Keep) (Contains-here (Node 0 0) []) client_dropped kept_arrow (inl refl))
