use Rattle.std.proofs.Common.{◌∙◌, sym, ap}
use Rattle.std.specs.Option.{unwrap_or}
use Rattle.hs_faults.proofs.Numbering.{count_there, counts_more}
use Rattle.hs_faults.specs.Numbers as spec
use Rattle.hs_faults.proofs.numbers.count_one.Goals as goal

pub returns-clause-count : goal.returns-clause-count
returns-clause-count c = λ nodes has.
    c.unwrap_or-count.ensures ∙ ap (λ o. unwrap_or o 0) (c.copied.ensures ∙ c.get.ensures.value) ∙ count_there c.args.counts.now nodes c.args.block has

pub returns-clause-counts : goal.returns-clause-counts
returns-clause-counts c = λ nodes node has is.
    counts_more c.args.counts.now c.insert.new.self nodes node c.unwrap_or-count.result has
    (c.unwrap_or-count.ensures ∙ ap (λ o. unwrap_or o 0) (c.copied.ensures ∙ c.get.ensures.value) ∙ count_there c.args.counts.now nodes c.args.block has ∙ ap (λ b. spec.number_at (spec.count_in nodes b)) (sym is))
    (λ q. rw (is, ← c.saturating_add.ensures) (c.in_ok-insert.ensures.updates.0 q))
