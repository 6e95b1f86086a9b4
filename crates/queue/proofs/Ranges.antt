-- The characters that send something, by their ranges: one computed test over all bytes for each alphabet.
use Rattle.std.specs.Prelude.{None}
use Rattle.alphabet.specs.Codes.{char_code}
use mathlib.Core.Path.{◌≡◌, refl}
use mathlib.Core.Bool.{Bool, true, false, cond, ◌&&◌, ◌||◌}
use Prim.Native.Nat.{ℕ, ◌<◌}
use lib.Dec.{T, eqb, leb}
use Rattle.lists.specs.Tables.{passes}
use Rattle.lists.proofs.Tables.{agree, agreed, passes_at}
use Rattle.alphabet.specs.declared.Alphabet.TheVariants.{Baudot, Dtmf, Edt}
use Rattle.alphabet.specs.Print.{left_rows, right_rows, rows, bits_from, bits, keys}
use Rattle.alphabet.specs.TableA2.{a2}
use Rattle.alphabet.specs.TableB1.{b1}
use Rattle.alphabet.specs.TableB2.{b2}
use Rattle.alphabet.specs.Baudot.{any_shift, printed_at, send_baudot}
use Rattle.alphabet.specs.Dtmf.{with_mark, code_from, marks_then_digit, among, not_struck, remaining, names, first_sign, named, send_in, has_row, send_from, send_dtmf}
use Rattle.alphabet.specs.Normal.{sends, is_code}
use Rattle.queue.specs.Queue.{waits}

abbrev pub within : ℕ → ℕ → ℕ → Bool
within c least most = leb least c && leb c most

abbrev pub in_baudot : ℕ → Bool
in_baudot c = (within c 0x08 0x0d || eqb c 0x1a) || within c 0x1c 0x7e

abbrev pub in_dtmf : ℕ → Bool
in_dtmf c =
    ((((((within c 0x08 0x0c || eqb c 0x1a)
    || within c 0x1c 0x21)
    || within c 0x25 0x26)
    || within c 0x28 0x2e)
    || within c 0x30 0x5d)
    || eqb c 0x5f)
    || within c 0x61 0x7f

baudot-test : T (passes (λ (c : ℕ). agree (in_baudot c) (waits Baudot c)) 256 0)
unfolding passes sends bits bits_from left_rows right_rows rows a2 printed_at send_baudot
baudot-test = tt

pub in-baudot : (c : ℕ) → c < 256 → in_baudot c ≡ waits Baudot c
in-baudot c h =
    agreed (in_baudot c) (waits Baudot c)
    (passes_at (λ (k : ℕ). agree (in_baudot k) (waits Baudot k)) 256 baudot-test c h)

dtmf-test : T (passes (λ (c : ℕ). agree (in_dtmf c) (waits Dtmf c)) 256 0)
unfolding passes sends bits bits_from left_rows right_rows rows b1 b2 keys with_mark code_from marks_then_digit
    among not_struck remaining names first_sign named send_in has_row send_from printed_at send_dtmf
dtmf-test = tt

pub in-dtmf : (c : ℕ) → c < 256 → in_dtmf c ≡ waits Dtmf c
in-dtmf c h =
    agreed (in_dtmf c) (waits Dtmf c)
    (passes_at (λ (k : ℕ). agree (in_dtmf k) (waits Dtmf k)) 256 dtmf-test c h)

-- every character up to 7F sends something in EDT
pub in-edt : (c : ℕ) → leb c 0x7f ≡ waits Edt c
unfolding sends
in-edt c = go (leb c 0x7f)
  where
    go : (b : Bool) → b ≡ (b && is_code (cond b (char_code any_shift (record { 0 = c })) None))
    go true = refl
    go false = refl
