-- Requests by session and number: their order, and that each entry is of one of them.
use Rattle.std.proofs.Common.{ℕ, zero, suc, ◌+◌, ◌<◌, ◌≤◌, ◌≡◌, ◌⊎◌, inl, inr, List, [], ◌∷◌, ◌++◌, length, Bool, true, false, ◌&&◌, eqb, IsSomeAnd, slice_get, refl, sym, ◌∙◌, arith}
use Rattle.std.specs.List.{All}
use Rattle.std.proofs.lemmas.Bool.{eqb-true, eq-eqb, and_from, both_ways, false_from_ne_true}
use Rattle.std.proofs.lemmas.List.Elements.{All-nil, All-cons, All-head, All-tail, All-append, All-weaker}
use Rattle.hs_types.specs.declared.entry.Entry.{Entry}
use Rattle.hs_types.specs.declared.request.Request.{Request}
use Rattle.hs_expr.specs.Lists.{EachPair}
use Rattle.hs_expr.proofs.Lists.{EachPair-append}
use Rattle.hs_session.specs.Requests.{Asked, IsAsked, all_asked, all_asked_from, asked_from, is_of}
use Rattle.hs_session.specs.SerialReport.{NotAfter}
use Rattle.hs_session.proofs.Sound.{IsAmong}

-- A request comes before another.
abbrev pub AskedBefore : Asked → Asked → Type 0
AskedBefore a k = (a.session < k.session) ⊎ ((a.session ≡ k.session) × (a.number < k.number))

-- An entry is of a request, or of a later one.
abbrev pub Comes : Asked → Entry → Type 0
Comes a e = (a.session < e.session) ⊎ ((a.session ≡ e.session) × (a.number < e.request))

and_left_of : (x y : Bool) → (x && y) ≡ true → x ≡ true
and_left_of true y e = refl
and_left_of false y e = e

and_right_of : (x y : Bool) → (x && y) ≡ true → y ≡ true
and_right_of true y e = e
and_right_of false y e = absurd (both_ways false refl e)

pub is_of-same : (k : Asked) (e : Entry) → is_of k e ≡ true → (e.session ≡ k.session) × (e.request ≡ k.number)
is_of-same k e t = (eqb-true e.session k.session (and_left_of (eqb e.session k.session) (eqb e.request k.number) t), eqb-true e.request k.number (and_right_of (eqb e.session k.session) (eqb e.request k.number) t))

pub same-is_of : (k : Asked) (e : Entry) → e.session ≡ k.session → e.request ≡ k.number → is_of k e ≡ true
same-is_of k e p q = and_from (eqb e.session k.session) (eqb e.request k.number) (eq-eqb e.session k.session p) (eq-eqb e.request k.number q)

pub later_is_not : (a : Asked) (e : Entry) → Comes a e → is_of a e ≡ false
later_is_not a e c = false_from_ne_true (is_of a e) (λ t. no_both c (is_of-same a e t))
  where
    no_both : Comes a e → (e.session ≡ a.session) × (e.request ≡ a.number) → ⊥
    no_both (inl l) s = absurd (omega (arith, s.0))
    no_both (inr l) s = absurd (omega (arith, l.0, l.1, s.1))

pub comes_of : (a k : Asked) (e : Entry) → AskedBefore a k → is_of k e ≡ true → Comes a e
comes_of a k e (inl l) t = let s = is_of-same k e t in inl (omega (arith, s.0))
comes_of a k e (inr l) t = let s = is_of-same k e t in inr (l.0 ∙ sym s.0, omega (arith, l.1, s.1))

pub comes_among : (a : Asked) (ks : List Asked) (e : Entry) → All (AskedBefore a) ks → IsAmong ks e → Comes a e
comes_among a [] e all among = absurd among
comes_among a (k ∷ ks) e all (inl t) = comes_of a k e (All-head (AskedBefore a) k ks all) t
comes_among a (k ∷ ks) e all (inr t) = comes_among a ks e (All-tail (AskedBefore a) k ks all) t

-- What isn't before an entry of a later request is of no earlier one.
pub not_back : (a : Asked) (e f : Entry) → Comes a e → NotAfter e f → is_of a f ≡ true → ⊥
not_back a e f (inl l) (inl m) t = let s = is_of-same a f t in absurd (omega (arith, s.0))
not_back a e f (inl l) (inr m) t = let s = is_of-same a f t in absurd (omega (arith, s.0, m.0))
not_back a e f (inr l) (inl m) t = let s = is_of-same a f t in absurd (omega (arith, s.0, l.0))
not_back a e f (inr l) (inr m) t = let s = is_of-same a f t in absurd (omega (arith, s.1, l.1, m.1))

-- An entry of an earlier request is of no later one.
pub earlier_is_not : (a k : Asked) (e : Entry) → AskedBefore a k → is_of a e ≡ true → is_of k e ≡ false
earlier_is_not a k e l t = false_from_ne_true (is_of k e) (λ u. both_ways (is_of a e) (later_is_not a e (comes_of a k e l u)) t)

-- The requests of the sessions, in order.
number_from : (session n : ℕ) (requests : List Request) → All (λ k. (k.session ≡ session) × (n ≤ k.number)) (asked_from session n requests)
number_from session n [] = All-nil (λ k. (k.session ≡ session) × (n ≤ k.number))
number_from session n (r ∷ rs) = All-cons (λ (k : Asked). (k.session ≡ session) × (n ≤ k.number)) (record { session = session; number = n; request = r }) (asked_from session (n + 1) rs) (refl, omega arith)
    (All-weaker (λ k. (k.session ≡ session) × (n + 1 ≤ k.number)) (λ k. (k.session ≡ session) × (n ≤ k.number)) (λ k h. (h.0, omega (arith, h.1))) (asked_from session (n + 1) rs) (number_from session (n + 1) rs))

session_from : (session : ℕ) (sessions : List (List Request)) → All (λ k. session ≤ k.session) (all_asked_from session sessions)
session_from session [] = All-nil (λ k. session ≤ k.session)
session_from session (rs ∷ sessions) = All-append (λ k. session ≤ k.session) (asked_from session 0 rs) (all_asked_from (session + 1) sessions)
    (All-weaker (λ k. (k.session ≡ session) × (0 ≤ k.number)) (λ k. session ≤ k.session) (λ k h. omega (arith, h.0)) (asked_from session 0 rs) (number_from session 0 rs))
    (All-weaker (λ k. session + 1 ≤ k.session) (λ k. session ≤ k.session) (λ k h. omega (arith, h)) (all_asked_from (session + 1) sessions) (session_from (session + 1) sessions))

one_session_rises : (session n : ℕ) (requests : List Request) → EachPair AskedBefore (asked_from session n requests)
one_session_rises session n [] = tt
one_session_rises session n (r ∷ rs) = (
  All-weaker (λ k. (k.session ≡ session) × (n + 1 ≤ k.number)) (AskedBefore (record { session = session; number = n; request = r })) (λ k h. inr (sym h.0, omega (arith, h.1))) (asked_from session (n + 1) rs) (number_from session (n + 1) rs),
  one_session_rises session (n + 1) rs,
)

all_rise : (session : ℕ) (sessions : List (List Request)) → EachPair AskedBefore (all_asked_from session sessions)
all_rise session [] = tt
all_rise session (rs ∷ sessions) = EachPair-append AskedBefore (asked_from session 0 rs) (all_asked_from (session + 1) sessions) (one_session_rises session 0 rs) (all_rise (session + 1) sessions)
    (All-weaker (λ a. (a.session ≡ session) × (0 ≤ a.number)) (λ a. All (AskedBefore a) (all_asked_from (session + 1) sessions))
    (λ a h. All-weaker (λ k. session + 1 ≤ k.session) (AskedBefore a) (λ k l. inl (omega (arith, h.0, l))) (all_asked_from (session + 1) sessions) (session_from (session + 1) sessions))
    (asked_from session 0 rs) (number_from session 0 rs))

pub requests_rise : (sessions : List (List Request)) → EachPair AskedBefore (all_asked sessions)
requests_rise sessions = all_rise 0 sessions

among_left : (ks ls : List Asked) (e : Entry) → IsAmong ks e → IsAmong (ks ++ ls) e
among_left [] ls e among = absurd among
among_left (k ∷ ks) ls e (inl t) = inl t
among_left (k ∷ ks) ls e (inr t) = inr (among_left ks ls e t)

among_right : (ks ls : List Asked) (e : Entry) → IsAmong ls e → IsAmong (ks ++ ls) e
among_right [] ls e among = among
among_right (k ∷ ks) ls e among = inr (among_right ks ls e among)

in_session : (session n : ℕ) (requests : List Request) (e : Entry) (i : ℕ) → e.session ≡ session → e.request ≡ n + i → i < length requests → IsAmong (asked_from session n requests) e
in_session session n [] e i p q l = absurd (omega arith)
in_session session n (r ∷ rs) e zero p q l = inl (same-is_of (record { session = session; number = n; request = r }) e p (omega (arith, q)))
in_session session n (r ∷ rs) e (suc i) p q l = inr (in_session session (n + 1) rs e i p (omega (arith, q)) (omega (arith, l)))

in_sessions : (session : ℕ) (sessions : List (List Request)) (e : Entry) (i : ℕ) → e.session ≡ session + i → IsSomeAnd (slice_get sessions i) (λ requests. e.request < length requests) → IsAmong (all_asked_from session sessions) e
in_sessions session [] e i p l = absurd l
in_sessions session (rs ∷ sessions) e zero p l = among_left (asked_from session 0 rs) (all_asked_from (session + 1) sessions) e (in_session session 0 rs e e.request (omega (arith, p)) (omega arith) l)
in_sessions session (rs ∷ sessions) e (suc i) p l = among_right (asked_from session 0 rs) (all_asked_from (session + 1) sessions) e (in_sessions (session + 1) sessions e i (omega (arith, p)) l)

pub asked_among : (sessions : List (List Request)) (e : Entry) → IsAsked sessions e → IsAmong (all_asked sessions) e
asked_among sessions e l = in_sessions 0 sessions e e.session (omega arith) l
