use Rattle.std.proofs.Common.{◌≡◌, Option, Some, None, Err, refl, ap, sym}
use Rattle.std.specs.Borrow.{Bor}
use Rattle.std.specs.Option.{option_copied, option_map}
use Rattle.serde_json.specs.declared.value.Value.{Value}
use Rattle.serde_json.specs.View.{view}
use Rattle.hs_json.specs.Reading.{contents}
use Rattle.hs_input.specs.Sessions.{seen}
use Rattle.hs_input.proofs.Refused.{handed_on}
use Rattle.hs_input.proofs.reading.read_input.Goals as goal

-- What is lent of a value that may be left out is seen as the value.
lent : (value : Option (Bor Value)) (kept : Option Value) → option_copied value ≡ kept → option_map view kept ≡ seen value
lent None kept same = ap (option_map view) (sym same)
lent (Some v) kept same = ap (option_map view) (sym same)

pub returns-in_err-syntax-clause-refused : goal.returns-in_err-syntax-clause-refused
returns-in_err-syntax-clause-refused c =
    handed_on {Y = Unit {0}} c.args.bytes.now (Err c.in_err-syntax.field-0.0) c.from_residual-in_err-syntax.result c.in_err-syntax.field-0.0 c.from_residual-in_err-syntax.ensures.1 refl
    (c.in_err-syntax.ensures.refused c.args.bytes.now (contents c.in_ok-graph.field-0) (sym c.as_str.ensures) c.in_ok-graph.ensures.read)

pub returns-in_err-rules-clause-refused : goal.returns-in_err-rules-clause-refused
returns-in_err-rules-clause-refused c =
    handed_on {Y = Unit {0}} c.args.bytes.now (Err c.in_err-rules.field-0.0) c.from_residual-in_err-rules.result c.in_err-rules.field-0.0 c.from_residual-in_err-rules.ensures.1 refl
    (c.in_err-rules.ensures.refused c.args.bytes.now (contents c.in_ok-graph.field-0) refl c.in_ok-graph.ensures.read (rw (← c.as_str.ensures) c.in_ok-syntax.ensures.parsed))

pub returns-in_err-sessions-clause-refused : goal.returns-in_err-sessions-clause-refused
returns-in_err-sessions-clause-refused c =
    handed_on {Y = Unit {0}} c.args.bytes.now (Err c.in_err-sessions.field-0.0) c.from_residual-in_err-sessions.result c.in_err-sessions.field-0.0 c.from_residual-in_err-sessions.ensures.1 refl
    (c.in_err-sessions.ensures.refused c.args.bytes.now (contents c.in_ok-graph.field-0) c.in_ok-syntax.syntax (lent c.as_ref.result c.in_ok-graph.field-0.sessions c.as_ref.ensures.value) (lent c.as_ref-2.result c.in_ok-graph.field-0.journal c.as_ref-2.ensures.value) c.in_ok-rules.ensures.meant
    (record { is_bundle = c.in_ok-graph.ensures.read; is_syntax = rw (← c.as_str.ensures) c.in_ok-syntax.ensures.parsed; is_right = c.in_ok-rules.ensures.right }))

pub returns-clause-read : goal.returns-clause-read
returns-clause-read c =
    let meant = c.in_ok-rules.ensures.meant in (
      contents c.in_ok-graph.field-0,
      record {
        is_built = record {
          is_read = record { is_bundle = c.in_ok-graph.ensures.read; is_syntax = rw (← c.as_str.ensures) c.in_ok-syntax.ensures.parsed; is_right = c.in_ok-rules.ensures.right };
          is_asked = rw (← meant.0, ← meant.1, lent c.as_ref.result c.in_ok-graph.field-0.sessions c.as_ref.ensures.value, lent c.as_ref-2.result c.in_ok-graph.field-0.journal c.as_ref-2.ensures.value) c.in_ok-sessions.ensures.asked;
        };
        is_meant = meant;
        same_model = c.in_ok-rules.ensures.model;
        same_meta = refl;
        same_graph = refl;
      },
    )
