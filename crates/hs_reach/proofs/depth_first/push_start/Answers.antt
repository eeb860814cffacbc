use Rattle.std.proofs.Common.{true, set, ◌≡◌, sym, ◌∙◌, subst, Some}
use Rattle.std.specs.List.{All}
use Rattle.std.proofs.lemmas.List.Elements.{All-nil}
use Rattle.hs_reach.specs.Reaching.{has_path}
use Rattle.hs_reach.specs.Searching.{StartedFrom, IsSearchOf}
use Rattle.hs_reach.proofs.Paths.{has_path-itself}
use Rattle.hs_reach.proofs.Searches.{comes-begins, comes-enters, enters}
use Rattle.hs_reach.proofs.depth_first.push_start.Goals as goal

pub returns-then-is_found-clause-comes : goal.returns-then-is_found-clause-comes
returns-then-is_found-clause-comes c = λ graph before first.
    subst (StartedFrom graph before c.args.start c.args.search.now.starts.items) (sym c.requires.at_end) (comes-begins graph before c.args.start c.args.search.now.starts.items first)

pub returns-clause-goes : goal.returns-clause-goes
returns-clause-goes c = λ graph goes.
    let search = c.args.search.now in
    let nothing : All (λ p. has_path graph p c.args.start ≡ true) search.path = subst (All (λ p. has_path graph p c.args.start ≡ true)) (sym c.requires.at_end) (All-nil (λ p. has_path graph p c.args.start ≡ true)) in
    subst (λ path. IsSearchOf graph search.tried.items (set search.starts.items c.args.start (Some c.args.start)) path search.finished) (sym c.in_ok-push.ensures.ok)
    (enters graph search.tried.items search.starts.items search.path search.finished c.args.start c.args.start goes nothing (sym c.is_found.ensures ∙ c.if-is_found.false) c.requires.within)

pub returns-clause-comes : goal.returns-clause-comes
returns-clause-comes c = λ graph before first.
    let search = c.args.search.now in
    subst (StartedFrom graph before c.args.start (set search.starts.items c.args.start (Some c.args.start))) (sym c.in_ok-push.ensures.ok)
    (comes-enters graph before c.args.start search.starts.items search.path c.args.start
    (subst (StartedFrom graph before c.args.start search.starts.items) (sym c.requires.at_end) (comes-begins graph before c.args.start search.starts.items first))
    (has_path-itself graph c.args.start) (sym c.is_found.ensures ∙ c.if-is_found.false) c.requires.within)
