-- SPACE, CR, LF and BACKSPACE never change the shift.
use Rattle.alphabet.specs.Codes.{char_code}
use mathlib.Core.Path.{◌≡◌, refl}
use mathlib.Core.Bool.{Bool, true, false, cond}
use mathlib.Core.List.{[], ◌∷◌}
use native.Mathlib.Omega.{arith}
use lib.Dec.{eqb, leb}
use borrow.Author.Tests.{ne_eqb}
use Rattle.alphabet.specs.declared.Alphabet.TheVariants.{Baudot}
use Rattle.alphabet.specs.declared.LineCode.{LineCode}
use Rattle.alphabet.specs.Print.{left_rows, right_rows, rows, bits_from, bits}
use Rattle.alphabet.specs.TableA2.{a2}
use Rattle.alphabet.specs.Baudot.{any_shift, letters_code, printed_at, send_baudot}
use Rattle.alphabet.specs.Normal.{sends}
use Rattle.baudot.specs.declared.Sender.{Sender}
use Rattle.baudot.specs.Sending.{shift_code, wanted, codes_for, sender_for, Running}

-- the four codes, by their characters
pub four-codes : (sends Baudot 0x08 ≡ char_code any_shift (record { 0 = 0b00000 }))
    × (sends Baudot 0x0a ≡ char_code any_shift (record { 0 = 0b00010 }))
    × (sends Baudot 0x20 ≡ char_code any_shift (record { 0 = 0b00100 }))
    × (sends Baudot 0x0d ≡ char_code any_shift (record { 0 = 0b01000 }))
unfolding sends send_baudot printed_at left_rows right_rows rows bits bits_from a2
four-codes = (refl, refl, refl, refl)

-- a running sender: the shift stays; ahead of the code stands nothing, or the shift in force after 72 characters
pub both-shifts : (s : Sender) → Running s → (k : LineCode)
    → (codes_for s (char_code any_shift k) ≡ cond (leb 72 s.count) (shift_code s.shift ∷ k.0 ∷ []) (k.0 ∷ []))
    × ((sender_for s (char_code any_shift k)).shift ≡ s.shift)
unfolding wanted codes_for sender_for
both-shifts s r k = go (leb 72 s.count) refl
  where
    fresh-not : eqb s.shift 0 ≡ false
    fresh-not = ne_eqb s.shift 0 (λ (e : s.shift ≡ 0). let l = r.shift_low in omega arith)

    go : (b : Bool) → leb 72 s.count ≡ b
        → (codes_for s (char_code any_shift k) ≡ cond b (shift_code s.shift ∷ k.0 ∷ []) (k.0 ∷ []))
        × ((sender_for s (char_code any_shift k)).shift ≡ s.shift)
    go true e = (simp (fresh-not, e), simp (fresh-not, e))
    go false e = (simp (fresh-not, e), simp (fresh-not, e))

-- a fresh sender: the one code ahead is its 11111
pub both-shifts-fresh : (s : Sender) → s.shift ≡ 0 → (k : LineCode)
    → (codes_for s (char_code any_shift k) ≡ letters_code ∷ k.0 ∷ [])
    × ((sender_for s (char_code any_shift k)).shift ≡ 1)
unfolding wanted codes_for sender_for
both-shifts-fresh s z k = (simp z, simp z)
