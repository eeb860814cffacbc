-- The order of extensions, and the order of their numbers as one list.
use Rattle.std.proofs.Common.{ℕ, ◌≡◌, ◌⊎◌, inl, inr, List, [], ◌∷◌, ◌++◌, length, refl, arith}
use Rattle.hs_expr.specs.Lexicographic.{IsBefore}
use Rattle.hs_types.specs.declared.matching.Extension.{Extension}
use Rattle.hs_types.specs.MatchOrder.{IsEarlier}

-- Of lists of one length the first parts decide, and else the second: the order of pairs is that of the lists put together.
IsBefore-appended : (as' bs cs ds : List ℕ) → length as' ≡ length bs → IsBefore as' bs ⊎ ((as' ≡ bs) × IsBefore cs ds) → IsBefore (as' ++ cs) (bs ++ ds)
IsBefore-appended [] [] cs ds l (inl h) = absurd h
IsBefore-appended [] [] cs ds l (inr h) = h.1
IsBefore-appended [] (b ∷ bs) cs ds l h = absurd (omega arith)
IsBefore-appended (a ∷ as') [] cs ds l h = absurd (omega arith)
IsBefore-appended (a ∷ as') (b ∷ bs) cs ds l (inl (inl h)) = inl h
IsBefore-appended (a ∷ as') (b ∷ bs) cs ds l (inl (inr h)) = inr (h.0, IsBefore-appended as' bs cs ds (omega arith) (inl h.1))
IsBefore-appended (a ∷ as') (b ∷ bs) cs ds l (inr h) = let head : a ≡ b = heads a b as' bs h.0 in let tail : as' ≡ bs = tails a b as' bs h.0 in inr (head, IsBefore-appended as' bs cs ds (omega arith) (inr (tail, h.1)))
  where
    heads : (a b : ℕ) (xs ys : List ℕ) → a ∷ xs ≡ b ∷ ys → a ≡ b
    heads a b xs ys e = cc

    tails : (a b : ℕ) (xs ys : List ℕ) → a ∷ xs ≡ b ∷ ys → xs ≡ ys
    tails a b xs ys e = cc

IsBefore-split : (as' bs cs ds : List ℕ) → length as' ≡ length bs → IsBefore (as' ++ cs) (bs ++ ds) → IsBefore as' bs ⊎ ((as' ≡ bs) × IsBefore cs ds)
IsBefore-split [] [] cs ds l h = inr (refl, h)
IsBefore-split [] (b ∷ bs) cs ds l h = absurd (omega arith)
IsBefore-split (a ∷ as') [] cs ds l h = absurd (omega arith)
IsBefore-split (a ∷ as') (b ∷ bs) cs ds l (inl h) = inl (inl h)
IsBefore-split (a ∷ as') (b ∷ bs) cs ds l (inr h) = elim (IsBefore-split as' bs cs ds (omega arith) h.1) [
  | inl k ↦ inl (inr (h.0, k))
  | inr k ↦ let same : a ≡ b = h.0 in let rest : as' ≡ bs = k.0 in inr (cc, k.1)
]

pub IsEarlier-appended : (x y : Extension) → length x.nodes ≡ length y.nodes → IsEarlier x y → IsBefore (x.nodes ++ x.edges) (y.nodes ++ y.edges)
IsEarlier-appended x y l h = IsBefore-appended x.nodes y.nodes x.edges y.edges l h

pub IsEarlier-from_appended : (x y : Extension) → length x.nodes ≡ length y.nodes → IsBefore (x.nodes ++ x.edges) (y.nodes ++ y.edges) → IsEarlier x y
IsEarlier-from_appended x y l h = IsBefore-split x.nodes y.nodes x.edges y.edges l h
