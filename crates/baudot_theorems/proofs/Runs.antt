-- Between two shift codes, and after the last, there are never more than 72 characters.
use Rattle.std.specs.Prelude.{Option, Some, None}
use Rattle.alphabet.specs.declared.CharCode.{CharCode}
use Rattle.alphabet.specs.Codes.{char_code}
use mathlib.Core.Path.{◌≡◌, refl, ap, subst}
use mathlib.Core.Bool.{true, cond}
use mathlib.Core.List.{List, [], ◌∷◌, ◌++◌}
use mathlib.Core.Logic.{⊎_elim}
use Prim.Native.Nat.{ℕ, zero, suc, ◌+◌, ◌≤◌, ◌<◌}
use native.Mathlib.Omega.{arith}
use lib.Dec.{eqb}
use lib.ListN.{length}
use Rattle.lists.proofs.Lists.{at-most-head, at-most-tail}
use Rattle.alphabet.specs.declared.Alphabet.TheVariants.{Baudot}
use Rattle.alphabet.specs.declared.LineCode.{LineCode}
use Rattle.alphabet.specs.declared.Reads.{Reads}
use Rattle.alphabet.specs.Normal.{sends, is_code, reads, chars_of, all_chars}
use Rattle.alphabet_theorems.proofs.Rule.{rule-of}
use Rattle.alphabet_theorems.proofs.Normal.{own-shift}
use Rattle.baudot.specs.declared.Sender.{Sender}
use Rattle.baudot.specs.Sending.{sender, shift_code, wanted, codes_for, sender_for, codes_of, Running}
use Rattle.baudot.specs.Counting.{shift_one, shifts_in}
use Rattle.baudot.proofs.SendingRule.{NoneAhead, Ahead, ahead, codes-none, codes-some, sender-none, sender-some, own_range, running-for}
use Rattle.baudot.proofs.Fresh.{running-letters, fresh-for}
use Rattle.baudot.proofs.CountingRule.{one_of}

-- the characters since the last shift code, n at first
abbrev since : ℕ → ℕ → ℕ
since n k = cond (eqb (shift_one k) 0) (n + 1) 0

-- at every place of a list of codes at most 72 characters have gone since the last shift code, n at first
abbrev Bounded : ℕ → List ℕ → Type 0
Bounded n [] = n ≤ 72
Bounded n (k ∷ ks) = (n ≤ 72) × Bounded (since n k) ks

-- the code of a character is no shift code; the code of a shift is one
not-shift : (c own : ℕ) (k : LineCode) → c < 128 → sends Baudot c ≡ char_code own k → shift_one k.0 ≡ 0
unfolding reads
not-shift c own k h e =
    let a = own-shift Baudot own k (rule-of Baudot c h own k e) in
    let b = ap (λ (x : Reads). length (chars_of x)) a in
    let o = one_of own k.0 in
    omega arith

is-shift : (w : ℕ) → 1 ≤ w → w ≤ 2 → shift_one (shift_code w) ≡ 1
is-shift zero a b = absurd (omega arith)
is-shift (suc zero) a b = refl
is-shift (suc (suc zero)) a b = refl
is-shift (suc (suc (suc w))) a b = absurd (omega arith)

bounded-text : (text : List ℕ) → all_chars text ≡ true → (s : Sender) → Running s → Bounded s.count (codes_of s text)
unfolding codes_for sender_for codes_of
bounded-text [] t s r = r.count_in
bounded-text (c ∷ cs) t s r =
    let g = at-most-head 0x7f c cs t in
    let h : c < 128 = omega arith in
    go h (sends Baudot c) refl
    (bounded-text cs (at-most-tail 0x7f c cs t) (sender_for s (sends Baudot c)) (running-for s c h r))
  where
    All : Type 0
    All = Bounded s.count (codes_for s (sends Baudot c) ++ codes_of (sender_for s (sends Baudot c)) cs)

    go : c < 128 → (x : Option CharCode) → sends Baudot c ≡ x
        → Bounded (sender_for s (sends Baudot c)).count (codes_of (sender_for s (sends Baudot c)) cs) → All
    go h None e i = rw e (rw e at i)
    go h (Some o) e i = ⊎_elim by-none by-some (ahead s o.shift r lo hi)
      where
        Left : Sender → Type 0
        Left x = Bounded x.count (codes_of x cs)

        lo : 1 ≤ o.shift
        lo = (own_range c o.shift o.code h e).0

        hi : o.shift ≤ 3
        hi = (own_range c o.shift o.code h e).1

        j : Bounded (sender_for s (char_code o.shift o.code)).count
            (codes_of (sender_for s (char_code o.shift o.code)) cs)
        j = rw e at i

        by-none : NoneAhead s o.shift r lo hi → All
        by-none n =
            let z = sender-none s o.shift r lo hi o.code n.none in
            rw (e, codes-none s o.shift r lo hi o.code n.none, z, not-shift c o.shift o.code h e)
            (r.count_in, subst Left z j)

        by-some : Ahead s o.shift r lo hi (wanted s o.shift) → All
        by-some a =
            let z = sender-some s o.shift r lo hi o.code a in
            let w = is-shift (wanted s o.shift) a.low a.high in
            rw (e, codes-some s o.shift r lo hi o.code a, z, w, not-shift c o.shift o.code h e)
            (r.count_in, (omega arith, subst Left z j))

-- a fresh sender's codes: none, or 11111 and those of a sender in letters
bounded-fresh : (text : List ℕ) → all_chars text ≡ true → (s : Sender) → s.shift ≡ 0 → Bounded 0 (codes_of s text)
unfolding codes_for sender_for codes_of
bounded-fresh [] t s z = omega arith
bounded-fresh (c ∷ cs) t s z = go (sends Baudot c) refl (bounded-fresh cs (at-most-tail 0x7f c cs t) s z)
  where
    go : (x : Option CharCode) → sends Baudot c ≡ x → Bounded 0 (codes_of s cs)
        → Bounded 0 (codes_for s (sends Baudot c) ++ codes_of (sender_for s (sends Baudot c)) cs)
    go None e i = rw e i
    go (Some o) e i =
        let g = at-most-head 0x7f c cs t in
        let f = fresh-for s z c (omega arith) (ap is_code e) in
        rw (f.0, f.1) (omega arith, bounded-text (c ∷ cs) t (sender 1 0) running-letters)

-- a stretch without a shift code, n characters after the last one
run_length : (n : ℕ) (mid post : List ℕ) → Bounded n (mid ++ post) → shifts_in mid ≡ 0 → n + length mid ≤ 72
unfolding shifts_in
run_length n [] [] b e = omega arith
run_length n [] (k ∷ post) b e = let h = b.0 in omega arith
run_length n (k ∷ mid) post b e =
    let z : shift_one k ≡ 0 = omega arith in
    let i = run_length (n + 1) mid post (simp z at b.1) (omega arith) in
    omega arith

stretch : (n : ℕ) (pre mid post : List ℕ) → Bounded n (pre ++ (mid ++ post)) → shifts_in mid ≡ 0 → length mid ≤ 72
stretch n [] mid post b e = let i = run_length n mid post b e in omega arith
stretch n (k ∷ pre) mid post b e = stretch (since n k) pre mid post b.1 e

-- For any text, shift and count: a stretch of the codes without a shift code has at most 72 codes.
pub at-most-72 : (text : List ℕ) → all_chars text ≡ true → (shift count : ℕ) → shift ≤ 2 → count ≤ 72
    → (pre mid post : List ℕ) → codes_of (sender shift count) text ≡ pre ++ (mid ++ post)
    → shifts_in mid ≡ 0 → length mid ≤ 72
at-most-72 text t zero count h g pre mid post e n =
    stretch 0 pre mid post (subst (Bounded 0) e (bounded-fresh text t (sender 0 count) refl)) n
at-most-72 text t (suc m) count h g pre mid post e n =
    let r : Running (sender (suc m) count) = record { shift_low = omega arith; shift_in = h; count_in = g } in
    stretch count pre mid post (subst (Bounded count) e (bounded-text text t (sender (suc m) count) r)) n

-- The characters that had gone before the call count among them: up to the first shift code there are no more than
-- are left.
pub at-most-72-left : (text : List ℕ) → all_chars text ≡ true → (s : Sender) → Running s
    → (mid post : List ℕ) → codes_of s text ≡ mid ++ post → shifts_in mid ≡ 0 → s.count + length mid ≤ 72
at-most-72-left text t s r mid post e n =
    run_length s.count mid post (subst (Bounded s.count) e (bounded-text text t s r)) n
