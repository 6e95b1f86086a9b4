-- How many codes an alphabet has, and how many ms a part.
use mathlib.Core.Bool.{Bool, true, false, cond}
use mathlib.Core.List.{[]}
use Prim.Native.Nat.{ℕ, ◌≤◌}
use native.Mathlib.Omega.{arith}
use lib.ListN.{length, length-replicate}
use Rattle.alphabet.specs.declared.Mode.{Mode}
use Rattle.alphabet.specs.declared.Mode.TheVariants.{Baudot45, Baudot50, Dtmf, Edt}
use Rattle.alphabet.specs.Modes.{alphabet_of, preamble_of, longest}
use Rattle.signal.specs.Signal.{signal, preamble}
use Rattle.burst.specs.declared.OnLine.{OnLine}
use Rattle.burst.specs.Line.{is_code, in_burst, part_ms}
use Rattle.burst.specs.code.Bounds.{LineIn}
use Rattle.alphabet.proofs.Ranges.{few-codes}
use Rattle.signal.proofs.Lengths.{within-longest}

pub longest-480 : (mode : Mode) → longest mode ≤ 480
longest-480 Baudot45 = omega arith
longest-480 Baudot50 = omega arith
longest-480 Dtmf = omega arith
longest-480 Edt = omega arith

preamble-480 : (mode : Mode) → preamble_of mode ≤ 480
preamble-480 Baudot45 = omega arith
preamble-480 Baudot50 = omega arith
preamble-480 Dtmf = omega arith
preamble-480 Edt = omega arith

-- no part is longer than four keys
pub part-most : (mode : Mode) (l : OnLine) → LineIn mode l → length (part_ms mode l) ≤ 480
unfolding part_ms
part-most mode l i =
    let f = few-codes (alphabet_of mode) in
    let k = i.code-in in
    let a = within-longest mode l.code.0 (omega arith) in
    let b = longest-480 mode in
    let p = length-replicate {A = ℕ} (preamble_of mode) 1 in
    let q = preamble-480 mode in
    go (is_code l) (in_burst l) (omega arith) (omega arith)
  where
    go : (a b : Bool) → length (signal mode l.code.0) ≤ 480 → length (preamble mode) ≤ 480
        → length (cond a (signal mode l.code.0) (cond b (preamble mode) [])) ≤ 480
    go true b p q = p
    go false true p q = q
    go false false p q = omega arith
