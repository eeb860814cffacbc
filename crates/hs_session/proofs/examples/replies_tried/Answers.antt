use Rattle.std.proofs.Common.{false, codes, inl, refl, lit<}
use Rattle.std.proofs.lemmas.Bool.{both_ways}
use Rattle.hs_laws.specs.Bank.{object_arg}
use Rattle.hs_session.proofs.examples.replies_tried.Goals as goal

pub returns-clause-bad_args : goal.returns-clause-bad_args
returns-clause-bad_args c = record {
  of_session = refl;
  of_request = refl;
  at_places = refl;
  served = inl (
    (λ h. both_ways false refl (h.each_taken 0 (object_arg (codes "x") (codes "c1")) (lit< tt))),
    record { no_entry = refl; says = inl refl; gives = refl },
  );
}
