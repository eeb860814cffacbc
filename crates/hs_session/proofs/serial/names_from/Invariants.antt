use Rattle.std.proofs.Common.{◌≡◌, ◌++◌, drop, map}
use Rattle.hs_session.proofs.serial.names_from.Given as goal

-- the names so far, and those that are left, are all
abbrev pub invariant-loop-object : goal.invariant-loop-object
invariant-loop-object l = l.names ++ map (λ object. object.name) (drop l.object-index (drop l.place l.objects)) ≡ map (λ object. object.name) (drop l.place l.objects)
