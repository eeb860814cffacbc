use Rattle.std.proofs.Common.{◌≡◌, ◌++◌, drop}
use Rattle.std.specs.List.{filter, filter_map}
use Rattle.std.specs.Option.{is_some, option_map, option_or}
use Rattle.hs_types.specs.Metamodel.{default_of, type_of}
use Rattle.hs_types.specs.Plan.{value_set}
use Rattle.hs_apply.proofs.making.made_slots.Given as goal

-- the slots so far, and those that are left, are all
abbrev pub invariant-loop-feature : goal.invariant-loop-feature
invariant-loop-feature g l = l.slots ++ filter_map (λ a. option_map (λ v. record { attribute = a; value = v }) (option_or (value_set (g.E.Env.reads l.env) l.sets l.number a) (default_of l.meta a))) (filter (λ f. is_some (type_of l.meta f)) (drop l.feature-index l.feature-items)) ≡ filter_map (λ a. option_map (λ v. record { attribute = a; value = v }) (option_or (value_set (g.E.Env.reads l.env) l.sets l.number a) (default_of l.meta a))) (filter (λ f. is_some (type_of l.meta f)) l.feature-items)
