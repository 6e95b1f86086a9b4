-- The loop that counts codes: what is counted and what is left are all.
use Rattle.std.specs.Prelude.{Option, Some, None}
use Rattle.alphabet.specs.declared.CharCode.{CharCode}
use mathlib.Core.Path.{◌≡◌, ◌∙◌, refl, sym, ap}
use mathlib.Core.Bool.{Bool, true, false, cond}
use mathlib.Core.List.{List, ◌∷◌}
use Prim.Native.Nat.{ℕ, ◌+◌, ◌-◌, ◌≤◌, ◌<◌}
use native.Mathlib.Numerals.{add-one}
use native.Mathlib.Omega.{arith}
use lib.ListN.{length, get_or, drop, drop_of_length-le}
use lib.Seq.{drop-cons}
use Rattle.lists.proofs.Lists.{either, by-test, at-most-at}
use Rattle.alphabet.specs.declared.Alphabet.{Alphabet}
use Rattle.alphabet.specs.declared.Mode.{Mode}
use Rattle.alphabet.specs.Modes.{alphabet_of}
use Rattle.alphabet.specs.Normal.{sends, is_code, all_chars}
use Rattle.baudot.specs.declared.Sender.{Sender}
use Rattle.baudot.specs.code.Bounds.{SenderIn}
use Rattle.signal.proofs.Lengths.{some-ms}
use Rattle.burst.specs.declared.Loaded.{Loaded}
use Rattle.burst.specs.Line.{idle, code_begins}
use Rattle.burst.specs.code.Next.{next_for, whole}
use Rattle.burst.proofs.Range.{sends-in, blank-in, begins-in}
use Rattle.preview.specs.code.Count.{code_ms, chars_ms}
use Rattle.preview.proofs.Counting.{chars-step, no-chars}

-- one that takes no character is a code
code_stays : (a : Alphabet) (s : Sender) (x : Option CharCode) → (code_begins a idle s x).takes ≡ false
    → is_code x ≡ true
unfolding code_begins
code_stays a s None e = sym e
code_stays a s (Some o) e = refl

drop-place : (cs : List ℕ) (takes : Bool) (i : ℕ)
    → drop (cond takes (i + 1) i) cs ≡ cond takes (drop (i + 1) cs) (drop i cs)
drop-place cs true i = refl
drop-place cs false i = refl

-- it falls with each code
abbrev pub left : Mode → List ℕ → Sender → ℕ → ℕ
left mode cs s i = length cs - i + chars_ms mode s (drop i cs)

module _ (mode : Mode) (cs : List ℕ) (total : ℕ) where
  pub record Counts (ms : ℕ) (s : Sender) (i : ℕ) : Type 0 where
    pub sender-in : SenderIn s
    pub place_in : i ≤ length cs
    pub all : ms + chars_ms mode s (drop i cs) ≡ total

  module _ (chars : all_chars cs ≡ true) (ms : ℕ) (s : Sender) (i : ℕ) (d : Counts ms s i) (h : i < length cs) where
    abbrev a : Alphabet
    a = alphabet_of mode

    abbrev c : ℕ
    c = get_or cs i 0

    abbrev next : Loaded
    next = code_begins a idle s (sends a c)

    abbrev next_ms : ℕ
    next_ms = cond (is_code (sends a c)) (code_ms mode next.line.code.0) 0

    abbrev place : ℕ
    place = cond next.takes (i + 1) i

    pub char-low : c < 128
    char-low = let l = at-most-at 0x7f cs chars i h in omega arith

    here : drop i cs ≡ c ∷ drop (i + 1) cs
    here = drop-cons cs i 0 h ∙ ap (λ (k : ℕ). c ∷ drop k cs) (sym (add-one i))

    steps : chars_ms mode s (drop i cs) ≡ next_ms + chars_ms mode next.sender (drop place cs)
    steps =
        ap (chars_ms mode s) here
        ∙ chars-step mode idle s d.sender-in c (drop (i + 1) cs) char-low
        ∙ ap (λ (l : List ℕ). next_ms + chars_ms mode next.sender l)
        (ap (λ (l : List ℕ). cond next.takes (drop (i + 1) cs) l) (sym here) ∙ sym (drop-place cs next.takes i))

    turn : Counts (ms + next_ms) next.sender place
    turn =
        let e = steps in
        let f = d.all in
        let l = blank-in mode 0 (omega arith) in
        let i₁ = begins-in mode idle s l d.sender-in (sends a c) (sends-in a c char-low) in
        record {
          sender-in = i₁.sender-in;
          place_in = either (λ (k : ℕ). k ≤ length cs) next.takes (i + 1) i (omega arith) (omega arith);
          all = omega arith;
        }

    falls : left mode cs next.sender place < left mode cs s i
    falls =
        let e = steps in
        by-test next.takes
        (λ t. let p : place ≡ i + 1 = rw t refl in omega arith)
        (λ t.
        let p : place ≡ i = rw t refl in
        let k = next.line.code.0 in
        let m : next_ms ≡ code_ms mode k = rw (code_stays a s (sends a c) t) refl in
        let o = some-ms mode k in
        omega arith)

    -- a turn of the loop, as the code makes it
    module _ (x : Option CharCode) (ex : x ≡ sends a c) (q : Loaded) (eq : q ≡ whole mode (next_for a idle s x))
        (m : ℕ) (em : m ≡ cond (is_code x) q.line.at 0) where
      pub within : ms + m ≤ total
      within = let w = turn.all in rw (em, eq, ex) (omega arith)

      pub record Turned (p : ℕ) : Type 0 where
        pub counts : Counts (ms + m) q.sender p
        pub less : left mode cs q.sender p < left mode cs s i

      pub turned : (p : ℕ) → p ≡ cond q.takes (i + 1) i → Turned p
      turned p ep = record {
        counts = rw (em, ep, eq, ex) turn;
        less = rw (ep, eq, ex) falls;
      }

  pub counted : (ms : ℕ) (s : Sender) (i : ℕ) → Counts ms s i → length cs ≤ i → ms ≡ total
  counted ms s i d h =
      let z = ap (chars_ms mode s) (drop_of_length-le cs h) ∙ no-chars mode s in
      let e = d.all in
      omega arith
