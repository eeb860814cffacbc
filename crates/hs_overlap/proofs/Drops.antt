-- No kept edge at a dropped node, said both ways.
use Rattle.std.proofs.Common.{ℕ, ◌≡◌, refl, sym, ap, ◌∙◌, true}
use Rattle.std.proofs.lemmas.Option.{same_Some}
use Rattle.hs_types.specs.Pattern.{is_left}
use Rattle.hs_types.specs.declared.rule.Mark.{Mark}
use Rattle.hs_types.specs.declared.rule.Mark.TheVariants.{Drop, Keep, Make}
use Rattle.hs_types.specs.declared.rule.PatternEdge.{PatternEdge}
use Rattle.hs_types.specs.declared.rule.Shape.{Shape}
use Rattle.hs_overlap.specs.LeftSide.{IsAt, IsLeftEdge}
use Rattle.hs_overlap.specs.Contexts.{IsDroppedEdge, IsDroppedNode}
use Rattle.hs_overlap.specs.Overlaps.{DropsItsEdges}
use Rattle.hs_overlap.specs.Tests.{KeptAtDropped}

pub no_kept : (s : Shape) → DropsItsEdges s → (x : ℕ) → KeptAtDropped s x → ⊥
no_kept s h x k =
    let d : IsDroppedEdge s x = h x k.node k.edge (record { at = k.there; left = ap is_left k.kept }) k.dropped k.at in
    let one : d.edge ≡ k.edge = same_Some d.edge k.edge (sym d.left.at ∙ k.there) in
    let both : Drop ≡ Keep = sym d.dropped ∙ ap (λ (z : PatternEdge). z.mark) one ∙ k.kept in cc

by_mark : (s : Shape) (x i : ℕ) (e : PatternEdge) → ((x : ℕ) → KeptAtDropped s x → ⊥) → IsLeftEdge s x e → IsDroppedNode s i → IsAt e i → (mark : Mark) → e.mark ≡ mark → IsDroppedEdge s x
by_mark s x i e none left d at Keep h = absurd (none x (record { edge = e; there = left.at; kept = h; node = i; at = at; dropped = d }))
by_mark s x i e none left d at Drop h = record { edge = e; left = left; dropped = h }
by_mark s x i e none left d at Make h = let l : is_left e.mark ≡ true = left.left in let m : is_left Make ≡ true = ap is_left (sym h) ∙ l in absurd cc

pub kept_none : (s : Shape) → ((x : ℕ) → KeptAtDropped s x → ⊥) → DropsItsEdges s
kept_none s none x i e left d at = by_mark s x i e none left d at e.mark refl
