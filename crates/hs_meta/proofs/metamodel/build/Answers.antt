use Rattle.std.proofs.Common.{◌≡◌, [], Ok, ◌∙◌, ap, subst, sym}
use Rattle.hs_types.specs.Limits.{IsSmallMeta}
use Rattle.hs_types.specs.Metamodel.{IsMeta, supers_of}
use Rattle.hs_types.specs.Reachability.{reach_rows}
use Rattle.hs_meta.specs.declared.checking.Supers.{Supers}
use Rattle.hs_meta.specs.Faults.{model_faults}
use Rattle.hs_meta.specs.WrittenSupers.{supers_found}
use Rattle.hs_expr.proofs.Faults.{none-from_value, same-from_value, value-from_none}
use Rattle.hs_meta.proofs.IsMeta.{metamodel_of-is_meta, metamodel_of-is_small}
use Rattle.hs_meta.proofs.MeantMeta.{supers_written}
use Rattle.hs_meta.proofs.metamodel.build.Goals as goal

pub from_rows-requires-clause-sound : goal.from_rows-requires-clause-sound
from_rows-requires-clause-sound c =
    let none : model_faults c.args.raw.classes ≡ [] = ap model_faults (sym c.as_slice.ensures) ∙ none-from_value _ _ _ c.in_ok-supers.ensures in
    rw c.in_ok-plain.ensures (metamodel_of-is_meta c.args.raw none)

pub from_rows-requires-clause-small : goal.from_rows-requires-clause-small
from_rows-requires-clause-small c =
    let none : model_faults c.args.raw.classes ≡ [] = ap model_faults (sym c.as_slice.ensures) ∙ none-from_value _ _ _ c.in_ok-supers.ensures in
    rw c.in_ok-plain.ensures (metamodel_of-is_small c.args.raw none)

pub from_rows-requires-clause-rows : goal.from_rows-requires-clause-rows
from_rows-requires-clause-rows c =
    let found = same-from_value _ _ _ c.in_ok-supers.ensures ∙ ap supers_found c.as_slice.ensures in
    ap (λ (s : Supers). s.rows) found
    ∙ ap reach_rows (sym (supers_written c.args.raw))
    ∙ ap (λ m. reach_rows (supers_of m)) (sym c.in_ok-plain.ensures)

pub returns-clause-built : goal.returns-clause-built
returns-clause-built c =
    let none : model_faults c.args.raw.classes ≡ [] = ap model_faults (sym c.as_slice.ensures) ∙ none-from_value _ _ _ c.in_ok-supers.ensures in
    value-from_none _ _ none ∙ ap Ok (sym (c.from_rows.ensures ∙ c.in_ok-plain.ensures))

pub returns-clause-whole : goal.returns-clause-whole
returns-clause-whole c =
    let none : model_faults c.args.raw.classes ≡ [] = ap model_faults (sym c.as_slice.ensures) ∙ none-from_value _ _ _ c.in_ok-supers.ensures in
    subst IsMeta (sym (c.from_rows.ensures ∙ c.in_ok-plain.ensures)) (metamodel_of-is_meta c.args.raw none)

pub returns-clause-small : goal.returns-clause-small
returns-clause-small c =
    let none : model_faults c.args.raw.classes ≡ [] = ap model_faults (sym c.as_slice.ensures) ∙ none-from_value _ _ _ c.in_ok-supers.ensures in
    subst IsSmallMeta (sym (c.from_rows.ensures ∙ c.in_ok-plain.ensures)) (metamodel_of-is_small c.args.raw none)
