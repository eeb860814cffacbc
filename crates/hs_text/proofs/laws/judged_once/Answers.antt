use Rattle.hs_text.proofs.Judged.{no-wrong, text-right}
use Rattle.hs_text.proofs.laws.judged_once.Goals as goal

pub returns-clause-text_ends : goal.returns-clause-text_ends
returns-clause-text_ends c = λ source ts ds t u. u.no_text ds t

pub returns-clause-text_is_right : goal.returns-clause-text_is_right
returns-clause-text_is_right c = λ source ts ds t x w. no-wrong source ts t (text-right source ts ds x) w

pub returns-clause-unfinished_is_right : goal.returns-clause-unfinished_is_right
returns-clause-unfinished_is_right c = λ source ts t u w. no-wrong source ts t u.begins w
