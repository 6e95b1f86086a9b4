-- What an offer and a taking do to those waiting; both keep range.
use mathlib.Core.Path.{◌≡◌, ◌∙◌, refl, sym, ap}
use mathlib.Core.Bool.{Bool, true, false, cond, ◌&&◌}
use mathlib.Core.List.{List, [], ◌∷◌, ◌++◌}
use Prim.Native.Nat.{ℕ, suc, ◌+◌, ◌-◌, ◌≤◌}
use native.Mathlib.Omega.{arith}
use lib.Dec.{leb}
use lib.ListN.{length, take, drop, length-append, length-drop}
use lib.Seq.{sets-eq, take-append_seam, take-append-le, take-nil, length-take-le}
use borrow.Author.Tests.{le-leb, leb-true}
use Rattle.lists.proofs.Lists.{and_left, and_right}
use Rattle.alphabet.specs.declared.Alphabet.{Alphabet}
use Rattle.queue.specs.Queue.{Queue, waits, waiters, all_wait, waiting_of, in_range, room, offered, taken}

and_both : (x y : Bool) → x ≡ true → y ≡ true → (x && y) ≡ true
and_both x y p q = rw (p, q) refl

drop-take : (k : ℕ) (l : List ℕ) → drop 1 (take (suc k) l) ≡ take k (drop 1 l)
drop-take k [] = sym (take-nil k)
drop-take k (x ∷ l) = refl

module _ (a : Alphabet) where
  -- those of a text that wait do wait
  pub waiters-wait : (cs : List ℕ) → all_wait a (waiters a cs) ≡ true
  unfolding waiters all_wait
  waiters-wait [] = refl
  waiters-wait (c ∷ cs) = go (waits a c) refl (waiters-wait cs)
    where
      go : (b : Bool) → waits a c ≡ b → all_wait a (waiters a cs) ≡ true
          → all_wait a (cond b (c ∷ waiters a cs) (waiters a cs)) ≡ true
      go true e h = rw (e, h) refl
      go false e h = h

  pub wait-append : (cs ds : List ℕ) → all_wait a cs ≡ true → all_wait a ds ≡ true → all_wait a (cs ++ ds) ≡ true
  unfolding all_wait
  wait-append [] ds p q = q
  wait-append (c ∷ cs) ds p q =
      rw (and_left (waits a c) (all_wait a cs) p) (wait-append cs ds (and_right (waits a c) (all_wait a cs) p) q)

  wait-drop : (cs : List ℕ) → all_wait a cs ≡ true → all_wait a (drop 1 cs) ≡ true
  unfolding all_wait
  wait-drop [] p = p
  wait-drop (c ∷ cs) p = and_right (waits a c) (all_wait a cs) p

  module _ (q : Queue) (full : length q.chars ≡ 256) where
    -- an offer puts those that wait behind, in order
    pub waiting-offered : (text : List ℕ) → room a q text ≡ true
        → waiting_of (offered a q text) ≡ waiting_of q ++ waiters a text
    unfolding room offered
    waiting-offered text r =
        let w = waiters a text in
        let h = leb-true (q.waiting + length w) 256 r in
        let t = take q.waiting q.chars in
        let n : length t ≡ q.waiting = length-take-le q.waiting q.chars (omega arith) in
        let rest = drop (q.waiting + length w) q.chars in
        let e = sets-eq w q.chars q.waiting (omega arith) in
        let k = length-append t w ∙ ap (λ (m : ℕ). m + length w) n in
        ap (take (q.waiting + length w)) e
        ∙ ap (λ (m : ℕ). take m ((t ++ w) ++ rest)) (sym k)
        ∙ take-append_seam (t ++ w) rest

    fewer : (text : List ℕ) → room a q text ≡ true → leb (offered a q text).waiting 256 ≡ true
    unfolding room offered
    fewer text r = r

    less : q.waiting ≤ 256 → leb (taken q).waiting 256 ≡ true
    unfolding taken
    less h = le-leb (q.waiting - 1) 256 (omega arith)

    -- the one in front is taken, and the others stay in order
    pub waiting-taken : 1 ≤ q.waiting → q.waiting ≤ 256 → waiting_of (taken q) ≡ drop 1 (waiting_of q)
    unfolding taken
    waiting-taken o h =
        let l = q.chars in
        let k = q.waiting - 1 in
        let d = length-drop 1 l in
        let s : suc k ≡ q.waiting = omega arith in
        take-append-le k (drop 1 l) (drop (length (drop 1 l)) l) (omega arith)
        ∙ sym (drop-take k l)
        ∙ ap (λ (n : ℕ). drop 1 (take n l)) s

    -- both keep range
    pub offered-in : (text : List ℕ) → in_range a q ≡ true → room a q text ≡ true → in_range a (offered a q text) ≡ true
    unfolding in_range
    offered-in text i r =
        let h = and_right (leb q.waiting 256) (all_wait a (waiting_of q)) i in
        let w = wait-append (waiting_of q) (waiters a text) h (waiters-wait text) in
        and_both (leb (offered a q text).waiting 256) _ (fewer text r) (ap (all_wait a) (waiting-offered text r) ∙ w)

    pub taken_in : 1 ≤ q.waiting → in_range a q ≡ true → in_range a (taken q) ≡ true
    unfolding in_range
    taken_in o i =
        let h = leb-true q.waiting 256 (and_left (leb q.waiting 256) (all_wait a (waiting_of q)) i) in
        let w = and_right (leb q.waiting 256) (all_wait a (waiting_of q)) i in
        let n = ap (all_wait a) (waiting-taken o h) ∙ wait-drop (waiting_of q) w in
        and_both (leb (taken q).waiting 256) _ (less h) n
