use Rattle.std.proofs.Common.{◌≡◌, Result, Ok, Err, IfOk}
use Rattle.serde_json.specs.View.{view}
use Rattle.hs_expr.specs.declared.failure.Failure.{Failure}
use Rattle.hs_expr.specs.Steps.{Gives}
use Rattle.hs_json_model.specs.Meta.{meta_at}
use Rattle.hs_json_model.specs.MetaForm.{raw_meta}
use Rattle.hs_json_model.proofs.meta.read_meta.Goals as goal

given : {A F : Type 0} (P : A → Type 0) (answer : Result A (Failure F)) (meant : Result A F) → ((x : A) → meant ≡ Ok x → P x) → Gives answer meant → IfOk answer P
given P (Ok x) meant law gives = law x gives
given P (Err failure) meant law gives = tt

pub returns-clause-whole : goal.returns-clause-whole
unfolding meta_at
returns-clause-whole c = given _ c.metamodel_of.result (meta_at (view c.args.value.now)) (c.models_are_sound.ensures.whole (view c.args.value.now)) (rw (c.in_ok-raw.ensures (raw_meta (view c.args.value.now)) c.raw_meta.ensures) c.metamodel_of.ensures)

pub returns-clause-small : goal.returns-clause-small
unfolding meta_at
returns-clause-small c = given _ c.metamodel_of.result (meta_at (view c.args.value.now)) (c.models_are_sound.ensures.small (view c.args.value.now)) (rw (c.in_ok-raw.ensures (raw_meta (view c.args.value.now)) c.raw_meta.ensures) c.metamodel_of.ensures)
