-- A fresh sender: its first shift code. And any sender's: the one that is wanted goes first.
use Rattle.std.specs.Prelude.{Option, Some, None}
use Rattle.alphabet.specs.declared.CharCode.{CharCode}
use Rattle.alphabet.specs.Codes.{char_code}
use mathlib.Core.Path.{◌≡◌, ◌∙◌, refl, sym, ap}
use mathlib.Core.Bool.{true, false≢true}
use mathlib.Core.List.{List, [], ◌∷◌, ◌++◌}
use mathlib.Core.Logic.{⊎_elim}
use Prim.Native.Nat.{ℕ, ◌+◌, ◌*◌, ◌≤◌, ◌<◌}
use native.Mathlib.Omega.{arith}
use lib.Dec.{eqb}
use lib.ListN.{length}
use borrow.Author.Tests.{ne_eqb, eqb-true, eqb-false}
use Rattle.lists.proofs.Lists.{by-test, at-most-head, at-most-tail}
use Rattle.alphabet.specs.declared.Alphabet.TheVariants.{Baudot}
use Rattle.alphabet.specs.declared.LineCode.{LineCode}
use Rattle.alphabet.specs.Baudot.{letters_code}
use Rattle.alphabet.specs.Normal.{sends, is_code, all_chars}
use Rattle.baudot.specs.declared.Sender.{Sender}
use Rattle.baudot.specs.Sending.{sender, shift_code, wanted, codes_for, sender_for, codes_of, Running}
use Rattle.baudot.specs.code.Bounds.{SenderIn}
use Rattle.baudot.proofs.SendingRule.{NoneAhead, Ahead, ahead, own_range, codes-none, codes-some, sender-none}
use Rattle.baudot.proofs.SendingRule.{sender-some, codes-twice}

abbrev pub running-letters : Running (sender 1 0)
running-letters = record { shift_low = omega arith; shift_in = omega arith; count_in = omega arith }

-- a fresh sender sends 11111, and goes on as a sender in letters
module _ (s : Sender) (fresh : s.shift ≡ 0) where
  pub wants-letters : (own : ℕ) → wanted s own ≡ 1
  unfolding wanted
  wants-letters own = simp fresh

  abbrev GoesOn : Option CharCode → Type 0
  GoesOn x =
      (codes_for s x ≡ letters_code ∷ codes_for (sender 1 0) x) × (sender_for s x ≡ sender_for (sender 1 0) x)

  fresh-code : (own : ℕ) (k : LineCode) → 1 ≤ own → own ≤ 3 → GoesOn (char_code own k)
  unfolding codes_for sender_for
  fresh-code own k lo hi = ⊎_elim by-none by-some (ahead (sender 1 0) own running-letters lo hi)
    where
      by-none : NoneAhead (sender 1 0) own running-letters lo hi → GoesOn (char_code own k)
      by-none n = (simp (wants-letters own, n.none), simp (wants-letters own, n.none))

      by-some : Ahead (sender 1 0) own running-letters lo hi (wanted (sender 1 0) own) → GoesOn (char_code own k)
      by-some a =
          let l = a.low in
          let z = ne_eqb (wanted (sender 1 0) own) 0 (λ (e : wanted (sender 1 0) own ≡ 0). omega arith) in
          (simp (wants-letters own, z, a.then_none), simp (wants-letters own, z, a.then_none))

  pub fresh-for : (c : ℕ) → c < 128 → is_code (sends Baudot c) ≡ true
      → (codes_for s (sends Baudot c) ≡ letters_code ∷ codes_for (sender 1 0) (sends Baudot c))
      × (sender_for s (sends Baudot c) ≡ sender_for (sender 1 0) (sends Baudot c))
  fresh-for c h b = go (sends Baudot c) refl b
    where
      go : (x : Option CharCode) → sends Baudot c ≡ x → is_code x ≡ true → GoesOn x
      go None e b = absurd (false≢true b)
      go (Some o) e b = fresh-code o.shift o.code (own_range c o.shift o.code h e).0 (own_range c o.shift o.code h e).1

-- its codes are at most twice the text and one more
pub fresh-bound : (text : List ℕ) → all_chars text ≡ true → (s : Sender) → s.shift ≡ 0
    → length (codes_of s text) ≤ 2 * length text + 1
unfolding codes_for sender_for codes_of
fresh-bound [] t s z = omega arith
fresh-bound (c ∷ cs) t s z = go (sends Baudot c) refl (fresh-bound cs (at-most-tail 0x7f c cs t) s z)
  where
    go : (x : Option CharCode) → sends Baudot c ≡ x → length (codes_of s cs) ≤ 2 * length cs + 1
        → length (codes_for s (sends Baudot c) ++ codes_of (sender_for s (sends Baudot c)) cs) ≤ 2 * length (c ∷ cs) + 1
    go None e i = rw e (omega arith)
    go (Some o) e i =
        let g = at-most-head 0x7f c cs t in
        let f = fresh-for s z c (omega arith) (ap is_code e) in
        let b = codes-twice (sender 1 0) (c ∷ cs) t (λ _. running-letters) in
        rw (f.0, f.1) (omega arith)

-- a sender in range is fresh or runs
pub running-from : (s : Sender) → SenderIn s → (s.shift ≡ 0 → ⊥) → Running s
running-from s i n = record { shift_low = omega (arith, n); shift_in = i.shift_in; count_in = i.count_in }

-- a shift code that is wanted goes first, and the sender goes on from there
module _ (s : Sender) (own : ℕ) (k : LineCode) (i : SenderIn s) (lo : 1 ≤ own) (hi : own ≤ 3)
    (some : wanted s own ≡ 0 → ⊥) where
  abbrev w : ℕ
  w = wanted s own

  abbrev First : ℕ → Type 0
  First v =
      (codes_for s (char_code own k) ≡ shift_code v ∷ codes_for (sender v 0) (char_code own k))
      × (sender_for s (char_code own k) ≡ sender_for (sender v 0) (char_code own k))

  running-first : (r : Running s) → First w
  running-first r =
      ⊎_elim (λ (n : NoneAhead s own r lo hi). absurd (some n.none))
      (λ (a : Ahead s own r lo hi w).
      let q : Running (sender w 0) =
      record { shift_low = a.low; shift_in = a.high; count_in = omega arith } in (
        codes-some s own r lo hi k a
            ∙ ap (λ (l : List ℕ). shift_code w ∷ l) (sym (codes-none (sender w 0) own q lo hi k a.then_none)),
        sender-some s own r lo hi k a ∙ sym (sender-none (sender w 0) own q lo hi k a.then_none),
      ))
      (ahead s own r lo hi)

  pub wanted-first : First w
  wanted-first =
      by-test (eqb s.shift 0)
      (λ e.
      let z = eqb-true s.shift 0 e in
      rw (wants-letters s z own) (fresh-code s z own k lo hi))
      (λ e. running-first (running-from s i (eqb-false s.shift 0 e)))
