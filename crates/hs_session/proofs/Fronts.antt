-- The entries of the first request are the front of a journal in order.
use Rattle.std.proofs.Common.{◌≡◌, inl, inr, List, [], ◌∷◌, ◌++◌, true, false, refl, ap}
use Rattle.std.specs.List.{All}
use Rattle.std.proofs.lemmas.List.Elements.{All-nil, All-cons, All-head, All-tail, All-weaker}
use Rattle.hs_types.specs.declared.entry.Entry.{Entry}
use Rattle.hs_expr.specs.Lists.{EachPair}
use Rattle.hs_expr.proofs.Lists.{All-both}
use Rattle.hs_session.specs.Requests.{Asked, is_of}
use Rattle.hs_session.specs.SerialReport.{NotAfter}
use Rattle.hs_session.proofs.Sound.{IsAmong}
use Rattle.hs_session.proofs.Requests.{AskedBefore, Comes, comes_among, later_is_not, not_back}

pub record Parts (a : Asked) (ks : List Asked) (journal : List Entry) : Type 0 where
  pub front : List Entry
  pub rest : List Entry
  pub whole : journal ≡ front ++ rest
  pub theirs : All (λ e. is_of a e ≡ true) front
  pub among : All (IsAmong ks) rest
  pub none : All (λ e. is_of a e ≡ false) rest
  pub in_order : EachPair NotAfter rest

rest_among : (a : Asked) (ks : List Asked) (e : Entry) (es : List Entry) → Comes a e → All (NotAfter e) es → All (IsAmong (a ∷ ks)) es → All (IsAmong ks) es
rest_among a ks e es comes after among = All-weaker (λ f. NotAfter e f × IsAmong (a ∷ ks) f) (IsAmong ks) (λ f h. later f h.0 h.1) es (All-both (NotAfter e) (IsAmong (a ∷ ks)) es after among)
  where
    later : (f : Entry) → NotAfter e f → IsAmong (a ∷ ks) f → IsAmong ks f
    later f n (inl t) = absurd (not_back a e f comes n t)
    later f n (inr t) = t

pub parts : (a : Asked) (ks : List Asked) (journal : List Entry) → All (AskedBefore a) ks → EachPair NotAfter journal → All (IsAmong (a ∷ ks)) journal → Parts a ks journal
parts a ks [] first in_order among = record { front = []; rest = []; whole = refl; theirs = All-nil (λ e. is_of a e ≡ true); among = All-nil (IsAmong ks); none = All-nil (λ e. is_of a e ≡ false); in_order = tt }
parts a ks (e ∷ es) first in_order among = go (All-head (IsAmong (a ∷ ks)) e es among) (parts a ks es first in_order.1 (All-tail (IsAmong (a ∷ ks)) e es among))
  where
    go : IsAmong (a ∷ ks) e → Parts a ks es → Parts a ks (e ∷ es)
    go (inl t) more = record { front = e ∷ more.front; rest = more.rest; whole = ap (λ l. e ∷ l) more.whole; theirs = All-cons (λ e. is_of a e ≡ true) e more.front t more.theirs; among = more.among; none = more.none; in_order = more.in_order }
    go (inr t) more =
        let rest : All (IsAmong ks) (e ∷ es) = All-cons (IsAmong ks) e es t (rest_among a ks e es (comes_among a ks e first t) in_order.0 (All-tail (IsAmong (a ∷ ks)) e es among)) in
        record { front = []; rest = e ∷ es; whole = refl; theirs = All-nil (λ e. is_of a e ≡ true); among = rest; none = All-weaker (IsAmong ks) (λ e. is_of a e ≡ false) (λ f h. later_is_not a f (comes_among a ks f first h)) (e ∷ es) rest; in_order = in_order }
