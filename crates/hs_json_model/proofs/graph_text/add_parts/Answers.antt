use Rattle.hs_json_model.proofs.Tokens.{parts}
use Rattle.hs_json_model.proofs.graph_text.add_parts.Goals as goal

pub returns-clause-ok : goal.returns-clause-ok
returns-clause-ok c =
    parts c.args.out.now.tokens c.begin_object.new.self.tokens c.key.new.self.tokens c.add_attrs.new.out.tokens c.add_text.new.out.tokens c.add_text-2.new.out.tokens
    c.key-2.new.self.tokens c.add_refs.new.out.tokens c.end_object.new.self.tokens _ _ _ _ _ _ _ _ _ _
    c.in_ok-begin_object.ensures.ok c.in_ok-key.ensures.ok c.in_ok-add_attrs.ensures.ok (rw (← c.class_name.ensures) c.in_ok-add_text.ensures.ok) (rw (← c.as_str.ensures) c.in_ok-add_text-2.ensures.ok)
    c.in_ok-key-2.ensures.ok c.in_ok-add_refs.ensures.ok c.in_ok-end_object.ensures.ok
