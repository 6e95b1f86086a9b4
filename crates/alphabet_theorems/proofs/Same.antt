-- Equality of what is sent and of what is read, as tests.
use Rattle.std.specs.Prelude.{Option, Some, None}
use Rattle.alphabet.specs.declared.CharCode.{CharCode}
use Rattle.alphabet.specs.Codes.{char_code}
use mathlib.Core.Path.{◌≡◌, refl}
use mathlib.Core.Bool.{Bool, true, false, ◌&&◌}
use Prim.Native.Nat.{ℕ}
use lib.Dec.{T, eqb, eqb→eq}
use Rattle.lists.proofs.Tables.{both_left, both_right}
use Rattle.alphabet.specs.declared.Reads.{Reads}
use Rattle.alphabet.specs.declared.Reads.TheVariants.{Character, Shift, NoRow}

abbrev pub same_sends : Option CharCode → Option CharCode → Bool
same_sends None None = true
same_sends None (Some o) = false
same_sends (Some o) None = false
same_sends (Some o) (Some q) = eqb o.shift q.shift && eqb o.code.0 q.code.0

pub same-sends : (x y : Option CharCode) → T (same_sends x y) → x ≡ y
same-sends None None t = refl
same-sends None (Some o) t = absurd t
same-sends (Some o) None t = absurd t
same-sends (Some o) (Some q) e =
    let p : o.shift ≡ q.shift = eqb→eq o.shift q.shift (both_left (eqb o.shift q.shift) (eqb o.code.0 q.code.0) e) in
    let q : o.code.0 ≡ q.code.0 =
    eqb→eq o.code.0 q.code.0 (both_right (eqb o.shift q.shift) (eqb o.code.0 q.code.0) e) in
    λ i. char_code (p i) (record { 0 = q i })

-- the reading is the character n
abbrev pub is_character : ℕ → Reads → Bool
is_character n (Character c) = eqb c.0 n
is_character n (Shift s) = false
is_character n NoRow = false

pub is-character : (n : ℕ) (r : Reads) → T (is_character n r) → r ≡ Character (record { 0 = n })
is-character n (Character c) t =
    let e = eqb→eq c.0 n t in
    λ i. Character (record { 0 = e i })
is-character n (Shift s) t = absurd t
is-character n NoRow t = absurd t
