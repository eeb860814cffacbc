use Rattle.std.proofs.Common.{◌≡◌, ◌++◌, drop, map}
use Rattle.hs_meta.proofs.inherited.add_attribute_names.Given as goal

abbrev pub invariant-loop-attribute : goal.invariant-loop-attribute
invariant-loop-attribute l = l.names ++ map (λ attribute. attribute.name) (drop l.attribute-index l.attributes) ≡ l.fn.names ++ map (λ attribute. attribute.name) l.attributes
