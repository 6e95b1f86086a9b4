-- What a running sender leaves for a character: nothing sent, a code, or a shift code first.
use Rattle.std.specs.Prelude.{Option, None}
use Rattle.alphabet.specs.declared.CharCode.{CharCode}
use Rattle.alphabet.specs.Codes.{char_code}
use mathlib.Core.Path.{◌≡◌, ◌∙◌}
use mathlib.Core.Bool.{true, false, not}
use mathlib.Core.List.{List}
use mathlib.Core.Logic.{⊎_elim}
use Prim.Native.Nat.{ℕ, ◌+◌, ◌≤◌}
use native.Mathlib.Nat.{add-zero}
use native.Mathlib.Numerals.{add-one}
use lib.Dec.{eqb}
use lib.ListN.{length, set}
use lib.Seq.{sets}
use borrow.Author.Tests.{eqb-false, not-true}
use Rattle.alphabet.specs.declared.LineCode.{LineCode}
use Rattle.baudot.specs.declared.Sender.{Sender}
use Rattle.baudot.specs.Sending.{sender, wanted, opened, shift_code, counted, codes_for, sender_for, Running}
use Rattle.baudot.proofs.SendingRule.{Ahead, ahead, codes-none, sender-none, codes-some, sender-some, wants-no, behind-wanted}
use Rattle.baudot_sending.specs.declared.Placed.{Placed}

-- the place and sender after it, and the slice
pub record Put (codes : List ℕ) (at : ℕ) (s : Sender) (x : Option CharCode) (p : Placed) (after : List ℕ) : Type 0 where
  pub placed : p ≡ record { at = at + length (codes_for s x); sender = sender_for s x }
  pub stored : after ≡ sets codes at (codes_for s x)

pub put-nothing : (codes : List ℕ) (at : ℕ) (s : Sender) (x : Option CharCode) → x ≡ None
    → Put codes at s x (record { at = at; sender = s }) codes
unfolding codes_for sender_for
put-nothing codes at s x e = record { placed = simp (e, add-zero); stored = simp e }

module _ (s : Sender) (x : Option CharCode) (own : ℕ) (k : LineCode) (sent : x ≡ char_code own k) (r : Running s)
    (range : (1 ≤ own) × (own ≤ 3)) where
  pub alone-length : not (eqb (wanted s own) 0) ≡ false → length (codes_for s x) ≡ 1
  alone-length n = simp (sent, codes-none s own r range.0 range.1 k (wants-no s own r n))

  pub ahead_of : not (eqb (wanted s own) 0) ≡ true → Ahead s own r range.0 range.1 (wanted s own)
  ahead_of y =
      let n = eqb-false (wanted s own) 0 (not-true (eqb (wanted s own) 0) y) in
      ⊎_elim (λ o. absurd (n o.none)) (λ a. a) (ahead s own r range.0 range.1)

  pub shifted-length : not (eqb (wanted s own) 0) ≡ true → length (codes_for s x) ≡ 2
  shifted-length y = simp (sent, codes-some s own r range.0 range.1 k (ahead_of y))

module _ (codes : List ℕ) (at : ℕ) (s : Sender) (x : Option CharCode) (own : ℕ) (k : LineCode)
    (sent : x ≡ char_code own k)
    (r : Running s) (range : (1 ≤ own) × (own ≤ 3)) where
  pub put-alone : not (eqb (wanted s own) 0) ≡ false
      → Put codes at s x (record { at = at + 1; sender = counted s }) (set codes at k.0)
  put-alone n =
      let e = wants-no s own r n in
      let c = codes-none s own r range.0 range.1 k e in
      record { placed = simp (sent, c, sender-none s own r range.0 range.1 k e); stored = simp (sent, c) }

  pub put-shifted : (w : ℕ) → w ≡ (opened s own).shift → not (eqb (wanted s own) 0) ≡ true
      → Put codes at s x (record { at = at + 2; sender = sender w 1 })
      (set (set codes at (shift_code w)) (at + 1) k.0)
  put-shifted w e y =
      let a = ahead_of s x own k sent r range y in
      let c = codes-some s own r range.0 range.1 k a in
      rw (e ∙ behind-wanted s own r y)
      (record {
        placed = simp (sent, c, sender-some s own r range.0 range.1 k a);
        stored = simp (sent, c, add-one);
      })
