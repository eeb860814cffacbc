use Rattle.std.proofs.Common.{List, ◌∷◌, ◌↔◌}
use Rattle.hs_tokens.specs.declared.token.Token.{Token}
use Rattle.hs_text.specs.declared.builder.Builder.{Builder}
use Rattle.hs_text.specs.Machine.{Derives, Fine}
use Rattle.hs_text.proofs.Steps.{measure}
use Rattle.hs_text.proofs.parser.take.Given as goal

abbrev pub invariant-steps : goal.invariant-steps
invariant-steps l = record {
  fine : Fine l.stack;
  same_texts : (u : List Token) (f : Builder) → Derives l.source l.initial.stack (l.token ∷ u) l.initial.builder f ↔ Derives l.source l.stack (l.token ∷ u) l.builder f;
}

abbrev pub decreases-steps : goal.decreases-steps
decreases-steps l = measure l.token.kind l.stack
