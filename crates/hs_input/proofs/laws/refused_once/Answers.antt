use Rattle.hs_input.proofs.Once.{ReadOnce, none, one}
use Rattle.hs_input.proofs.laws.refused_once.Goals as goal

pub returns-clause-one : goal.returns-clause-one
returns-clause-one c =
    let once : ReadOnce = record { syntax = c.read_once.ensures.syntax; fault = c.read_once.ensures.fault; never_both = c.read_once.ensures.never_both } in
    one once

pub returns-clause-none : goal.returns-clause-none
returns-clause-none c =
    let once : ReadOnce = record { syntax = c.read_once.ensures.syntax; fault = c.read_once.ensures.fault; never_both = c.read_once.ensures.never_both } in
    none once
