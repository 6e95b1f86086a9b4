-- The reading-back rule of the sending table, computed once over its 358 entries and carried to each of the 384
-- characters of the three alphabets, to a to z of Baudot by their capitals.
use Rattle.std.specs.Prelude.{Option, Some, None}
use Rattle.alphabet.specs.declared.CharCode.{CharCode}
use Rattle.alphabet.specs.Codes.{char_code}
use mathlib.Core.Path.{◌≡◌, ◌∙◌, subst}
use mathlib.Core.Bool.{Bool, true, cond, ◌&&◌}
use Prim.Native.Nat.{ℕ, ◌+◌, ◌<◌, ◌≤◌}
use lib.Dec.{T, eqb, ltb, ltb→lt}
use Rattle.lists.specs.Tables.{passes}
use Rattle.lists.proofs.Tables.{both_left, both_right, passes_at}
use Rattle.alphabet.specs.declared.Alphabet.{Alphabet}
use Rattle.alphabet.specs.declared.LineCode.{LineCode}
use Rattle.alphabet.specs.declared.Reads.{Reads}
use Rattle.alphabet.specs.declared.Reads.TheVariants.{Character, Shift, NoRow}
use Rattle.alphabet.specs.Print.{left_rows, right_rows, rows, bits_from, bits, keys}
use Rattle.alphabet.specs.TableA1.{a1}
use Rattle.alphabet.specs.TableA2.{a2}
use Rattle.alphabet.specs.TableB1.{b1}
use Rattle.alphabet.specs.TableB2.{b2}
use Rattle.alphabet.specs.Baudot.{printed_at, read_baudot, send_baudot}
use Rattle.alphabet.specs.Dtmf.{with_mark, code_from, marks_then_digit, among, not_struck, remaining, names, first_sign, named, read_in, read_dtmf, send_in, has_row, send_from, send_dtmf}
use Rattle.alphabet.specs.Normal.{sends, reads}
use Rattle.alphabet.specs.Modes.{codes}
use Rattle.alphabet.specs.code.Packing.{base, number_at, place_of}
use Rattle.alphabet.proofs.Ranges.{least_shift, InRange, range-of}
use Rattle.alphabet.proofs.Packing.{asked, number_of, number-below}
use Rattle.alphabet.proofs.Storage.{place-below, place-serves}
use Rattle.alphabet_theorems.proofs.Same.{same_sends, same-sends, is_character, is-character}

char_of : Reads → ℕ
char_of (Character c) = c.0
char_of (Shift s) = 128
char_of NoRow = 128

-- what is tested of a sent code: the character that it reads as in each shift it belongs to; that this character sends
-- it too
abbrev rule : Alphabet → Option CharCode → Bool
unfolding char_of
rule a None = true
rule a (Some o) =
    let n = char_of (reads a o.shift o.code.0) in
    ltb n 128 && same_sends (sends a n) (char_code o.shift o.code)
    && is_character n (reads a (cond (eqb o.shift 3) 1 o.shift) o.code.0) && is_character n
    (reads a (cond (eqb o.shift 3) 2 o.shift) o.code.0)

abbrev rule_at : ℕ → Bool
rule_at i = asked rule (number_at i)

rule-test : T (passes rule_at 358 0)
unfolding passes char_of sends reads bits bits_from left_rows right_rows rows a1 a2 b1 b2 printed_at read_baudot
    send_baudot
    keys with_mark code_from marks_then_digit among not_struck remaining names first_sign named read_in read_dtmf
    send_in has_row
    send_from send_dtmf
rule-test = tt

-- what holds of a code that a character sends
pub record ReadBack (a : Alphabet) (s : ℕ) (k : LineCode) : Type 0 where
  pub shift_least : least_shift a ≤ s
  pub shift-most : s ≤ 3
  pub code-in : k.0 < codes a
  pub char : ℕ
  pub char-in : char < 128
  pub same : sends a char ≡ char_code s k
  pub letters : reads a (cond (eqb s 3) 1 s) k.0 ≡ Character (record { 0 = char })
  pub figures : reads a (cond (eqb s 3) 2 s) k.0 ≡ Character (record { 0 = char })

rule-read : (a : Alphabet) (s : ℕ) (k : LineCode) → InRange a s k → T (rule a (char_code s k)) → ReadBack a s k
unfolding char_of
rule-read a s k g t =
    let n = char_of (reads a s k.0) in
    let b₀ = ltb n 128 in
    let b₁ = same_sends (sends a n) (char_code s k) in
    let b₂ = is_character n (reads a (cond (eqb s 3) 1 s) k.0) in
    let b₃ = is_character n (reads a (cond (eqb s 3) 2 s) k.0) in
    let t₂ = both_left (b₀ && b₁ && b₂) b₃ t in
    let t₁ = both_left (b₀ && b₁) b₂ t₂ in
    record {
      shift_least = g.shift_least;
      shift-most = g.shift-most;
      code-in = g.code-in;
      char = n;
      char-in = ltb→lt n 128 (both_left b₀ b₁ t₁);
      same = same-sends (sends a n) (char_code s k) (both_right b₀ b₁ t₁);
      letters = is-character n (reads a (cond (eqb s 3) 1 s) k.0) (both_right (b₀ && b₁) b₂ t₂);
      figures = is-character n (reads a (cond (eqb s 3) 2 s) k.0) (both_right (b₀ && b₁ && b₂) b₃ t);
    }

-- the rule at each character: that of the entry which serves it
pub rule-of : (a : Alphabet) (c : ℕ) → c < 128 → (s : ℕ) (k : LineCode) → sends a c ≡ char_code s k → ReadBack a s k
rule-of a c h s k e =
    let n = base a + c in
    let t = passes_at rule_at 358 rule-test (place_of n) (place-below n (number-below a c h)) in
    let u : T (rule a (sends a c)) = subst T (place-serves rule n ∙ number_of rule a c h) t in
    rule-read a s k (range-of a c h s k e) (subst (λ (x : Option CharCode). T (rule a x)) e u)
