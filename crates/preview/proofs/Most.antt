-- The ms of the codes that characters send, at most: as many of the longest as there are codes.
use Rattle.std.specs.Prelude.{Option, Some, None}
use Rattle.alphabet.specs.declared.CharCode.{CharCode}
use mathlib.Core.Path.{◌≡◌}
use mathlib.Core.Bool.{true, cond}
use mathlib.Core.List.{List, [], ◌∷◌, ◌++◌}
use Prim.Native.Nat.{ℕ, ◌+◌, ◌*◌, ◌≤◌}
use native.Mathlib.Nat.{mul-add}
use native.Mathlib.Omega.{arith}
use lib.Dec.{eqb}
use lib.ListN.{length, length-append}
use Rattle.lists.proofs.Lists.{either, by-test, at-most-head, at-most-tail}
use Rattle.alphabet.specs.declared.Alphabet.{Alphabet}
use Rattle.alphabet.specs.declared.Alphabet.TheVariants.{Dtmf as dtmf}
use Rattle.alphabet.specs.declared.Mode.{Mode}
use Rattle.alphabet.specs.declared.Mode.TheVariants.{Baudot45, Baudot50, Dtmf, Edt}
use Rattle.alphabet.specs.Modes.{alphabet_of, longest}
use Rattle.alphabet.specs.Normal.{sends, own_code, own_codes, all_chars}
use Rattle.baudot.specs.declared.Sender.{Sender}
use Rattle.baudot.specs.Sending.{sender, shift_code}
use Rattle.baudot.specs.Text.{text_codes}
use Rattle.baudot.specs.code.Bounds.{SenderIn}
use Rattle.baudot.proofs.Text.{text-most}
use Rattle.signal.specs.Signal.{signal, signals}
use Rattle.signal.proofs.Lengths.{within-longest, signals-each, baudot-165, baudot-150, edt-100}
use Rattle.burst.specs.declared.OnLine.{OnLine}
use Rattle.burst.specs.Rules.{opening_shift}
use Rattle.burst.specs.Line.{is_opening}
use Rattle.burst.specs.code.Bounds.{SendsIn}
use Rattle.burst.proofs.Codes.{code-few}
use Rattle.burst.proofs.Range.{sends-in, opening-in}
use Rattle.preview.specs.code.Count.{code_ms, chars_ms, behind_ms}

-- ---- codes, one by one

shift-most : (mode : Mode) (w : ℕ) → code_ms mode (shift_code w) ≤ longest mode
shift-most mode w =
    let f = within-longest mode 0b11011 (omega arith) in
    let l = within-longest mode 0b11111 (omega arith) in
    either (λ (k : ℕ). code_ms mode k ≤ longest mode) (eqb w 2) 0b11011 0b11111 f l

-- in DTMF: of the codes that characters send none has more than four keys
keys-most : (cs : List ℕ) → all_chars cs ≡ true
    → length (signals Dtmf (own_codes dtmf cs)) ≤ 480 * length (own_codes dtmf cs)
unfolding own_codes signals
keys-most [] h = omega arith
keys-most (c ∷ cs) h =
    let l = at-most-head 0x7f c cs h in
    go (sends dtmf c) (sends-in dtmf c (omega arith)) (keys-most cs (at-most-tail 0x7f c cs h))
  where
    go : (x : Option CharCode) → SendsIn dtmf x
        → length (signals Dtmf (own_codes dtmf cs)) ≤ 480 * length (own_codes dtmf cs)
        → length (signals Dtmf (own_code x ++ own_codes dtmf cs)) ≤ 480 * length (own_code x ++ own_codes dtmf cs)
    go None i rest = rest
    go (Some o) i rest =
        let f = code-few dtmf o.code.0 i.code_is in
        let m = within-longest Dtmf o.code.0 (omega arith) in
        let a = length-append (signal Dtmf o.code.0) (signals Dtmf (own_codes dtmf cs)) in
        omega arith

-- ---- the codes of a text

-- in the modes whose codes are all of one length: exactly
pub chars-each : (mode : Mode) → ((k : ℕ) → code_ms mode k ≡ longest mode) → (s : Sender) (cs : List ℕ)
    → chars_ms mode s cs ≡ longest mode * length (text_codes (alphabet_of mode) s cs)
unfolding chars_ms
chars-each mode each s cs = signals-each mode (longest mode) each (text_codes (alphabet_of mode) s cs)

chars-longest : (mode : Mode) (s : Sender) (cs : List ℕ) → all_chars cs ≡ true
    → chars_ms mode s cs ≤ longest mode * length (text_codes (alphabet_of mode) s cs)
unfolding chars_ms
chars-longest Baudot45 s cs h = let e = chars-each Baudot45 baudot-165 s cs in omega arith
chars-longest Baudot50 s cs h = let e = chars-each Baudot50 baudot-150 s cs in omega arith
chars-longest Dtmf s cs h = keys-most cs h
chars-longest Edt s cs h = let e = chars-each Edt edt-100 s cs in omega arith

-- ---- behind what is on the line

-- how many codes there are, with the one that opens the burst where it is to come
abbrev pub codes_behind : Alphabet → OnLine → Sender → List ℕ → ℕ
codes_behind a l s cs =
    cond (is_opening a l) (1 + length (text_codes a (sender (opening_shift s) 0) cs)) (length (text_codes a s cs))

pub behind-longest : (mode : Mode) (l : OnLine) (s : Sender) (cs : List ℕ) → all_chars cs ≡ true
    → behind_ms mode l s cs ≤ longest mode * codes_behind (alphabet_of mode) l s cs
behind-longest mode l s cs h =
    let a = alphabet_of mode in
    let v = opening_shift s in
    by-test (is_opening a l)
    (λ o.
    let m = shift-most mode v in
    let c = chars-longest mode (sender v 0) cs h in
    let d = mul-add (longest mode) 1 (length (text_codes a (sender v 0) cs)) in
    rw o (omega arith))
    (λ o. rw o (chars-longest mode s cs h))

-- two for each character, and two more
pub opening-sender : (s : Sender) → SenderIn s → SenderIn (sender (opening_shift s) 0)
opening-sender s j = record { shift_in = opening-in s j.shift_in; count_in = omega arith }

pub behind-most : (a : Alphabet) (l : OnLine) (s : Sender) → SenderIn s → (cs : List ℕ) → all_chars cs ≡ true
    → codes_behind a l s cs ≤ 2 * length cs + 2
behind-most a l s j cs h =
    let p = text-most a (sender (opening_shift s) 0) cs (opening-sender s j) h in
    let q = text-most a s cs j h in
    either (λ (k : ℕ). k ≤ 2 * length cs + 2) (is_opening a l) _ _ (omega arith) (omega arith)
