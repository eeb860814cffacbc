use Rattle.std.proofs.Common.{◌≡◌, ◌∙◌, List, ap, subst}
use Rattle.std.specs.Option.{option_copied, option_map}
use Rattle.hs_faults.proofs.Signatures.{callee_found}
use Rattle.hs_faults.specs.Callable.{Callable}
use Rattle.hs_faults.specs.Named.{first_named}
use Rattle.hs_faults.specs.NamedParams.{NamedParams, all_params}
use Rattle.hs_faults.specs.UnitFaults.{callee_params, rules_of, units_of}
use Rattle.hs_faults.proofs.callees.Callees.signature_of.Goals as goal

pub returns : goal.returns
returns c =
    let found : option_copied c.find.result ≡ first_named (λ other. other.name) (all_params c.self.inside.definitions.now) c.args.name.now =
    c.find.ensures ∙ ap (λ (signatures : List NamedParams). first_named (λ other. other.name) signatures c.args.name.now) c.self.invariant.1 in
    subst (λ (callable : Callable). option_map (λ signature. signature.now.params) c.find.result ≡ callee_params (rules_of callable.definitions) (units_of callable.definitions) c.args.name.now) c.self.view_is
    (callee_found c.self.inside.definitions.now c.args.name.now c.find.result found)
