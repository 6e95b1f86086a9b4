-- What the functions of this crate need of the definitions.
use Rattle.std.specs.Prelude.{Option, None}
use Rattle.alphabet.specs.declared.CharCode.{CharCode}
use Rattle.alphabet.specs.Codes.{char_code}
use mathlib.Core.Path.{◌≡◌, ◌∙◌, refl, ap}
use mathlib.Core.Bool.{Bool, true, false, not, ◌&&◌, and-false}
use mathlib.Core.List.{List, [], ◌∷◌}
use Prim.Native.Nat.{ℕ, zero, suc, ◌≤◌, ◌<◌}
use native.Mathlib.Omega.{arith}
use lib.Dec.{eqb}
use lib.ListN.{length, get_or, length-replicate, get_or-replicate}
use borrow.Author.Tests.{eqb-true, eqb-false, ne_eqb, lt-ltb, le-ltb}
use Rattle.lists.proofs.Lists.{either-by, by-test}
use Rattle.alphabet.specs.declared.Alphabet.{Alphabet}
use Rattle.alphabet.specs.declared.Mode.{Mode}
use Rattle.alphabet.specs.declared.LineCode.{LineCode}
use Rattle.alphabet.specs.Modes.{preamble_of, alphabet_of}
use Rattle.alphabet.specs.Normal.{sends, is_code}
use Rattle.signal.specs.Signal.{signal, preamble}
use Rattle.baudot.specs.declared.Sender.{Sender}
use Rattle.baudot.specs.Sending.{sender, shift_code}
use Rattle.burst.specs.declared.OnLine.{OnLine}
use Rattle.burst.specs.Rules.{opening_shift, shift_wanted, sender_after_own}
use Rattle.burst.specs.Line.{on_line, further, in_burst, part_ms, is_over, begun, loaded, shift_begins, code_begins, is_opening, next_code}
use Rattle.burst.specs.Line.{level_on, one_gone, closed}
use Rattle.burst.specs.code.Next.{shift_ahead, next_for}

-- behind the end of a list
get_d_over : (l : List ℕ) (n : ℕ) → length l ≤ n → get_or l n 0 ≡ 0
get_d_over [] n h = refl
get_d_over (x ∷ l) zero h = absurd (omega arith)
get_d_over (x ∷ l) (suc n) h = get_d_over l n (omega arith)

module _ (mode : Mode) (l : OnLine) where
  pub level-over : length (part_ms mode l) ≤ l.at → level_on mode l ≡ 0
  unfolding level_on
  level-over h = get_d_over (part_ms mode l) l.at h

  preamble-is : l.part ≡ 1 → part_ms mode l ≡ preamble mode
  unfolding part_ms
  preamble-is e = rw e refl

  code_is : l.part ≡ 2 → part_ms mode l ≡ signal mode l.code.0
  unfolding part_ms
  code_is e = rw e refl

  none_is : l.part ≡ 0 → part_ms mode l ≡ []
  unfolding part_ms
  none_is e = rw e refl

  pub level-preamble : l.part ≡ 1 → l.at < length (part_ms mode l) → level_on mode l ≡ 1
  unfolding level_on
  level-preamble e h =
      let p = preamble-is e in
      let n = ap length p ∙ length-replicate {A = ℕ} (preamble_of mode) 1 in
      ap (λ (ms : List ℕ). get_or ms l.at 0) p ∙ get_or-replicate {A = ℕ} (preamble_of mode) l.at 1 0 (omega arith)

  -- a part that has ms left, and is not the preamble, is a code
  pub code-part : l.part ≤ 2 → (l.part ≡ 1 → ⊥) → l.at < length (part_ms mode l) → l.part ≡ 2
  code-part h n a = go (eqb l.part 0) refl
    where
      go : (b : Bool) → eqb l.part 0 ≡ b → l.part ≡ 2
      go true e = let z = ap length (none_is (eqb-true l.part 0 e)) in absurd (omega arith)
      go false e = let z = eqb-false l.part 0 e in omega arith

  pub level-code : l.part ≡ 2 → level_on mode l ≡ get_or (signal mode l.code.0) l.at 0
  unfolding level_on
  level-code e = ap (λ (ms : List ℕ). get_or ms l.at 0) (code_is e)

  pub code-ms : l.part ≡ 2 → length (part_ms mode l) ≡ length (signal mode l.code.0)
  code-ms e = ap length (code_is e)

-- where none begins what is on the line stays; in no burst one begins with its preamble
pub begun-same : (begins : Bool) (l : OnLine) → (begins && not (in_burst l)) ≡ false → begun begins l ≡ l
unfolding begun
begun-same begins l e = rw e refl

pub begun_first : (l : OnLine) → in_burst l ≡ false → begun true l ≡ on_line 1 0 0
unfolding begun
begun_first l e = rw e refl

-- a shift code begins as the code makes it
pub shift_made : (w k : ℕ) → k ≡ shift_code w → loaded (on_line 2 k 0) (sender w 0) false ≡ shift_begins w
shift_made w k e = rw e refl

-- a sender opens a burst with some shift
pub opening-some : (s : Sender) → opening_shift s ≡ 0 → ⊥
opening-some s =
    either-by (λ (w : ℕ). w ≡ 0 → ⊥) (eqb s.shift 0) (λ e (z : 1 ≡ 0). omega arith) (λ e. eqb-false s.shift 0 e)

-- the code that begins, with characters waiting: none, an own code, a shift code
module _ (a : Alphabet) (l : OnLine) (s : Sender) where
  pub no_code : (x : Option CharCode) → x ≡ None → next_for a l s x ≡ loaded l s true
  unfolding code_begins
  no_code x e = rw (e, and-false) refl

  module _ (x : Option CharCode) (own : ℕ) (k : LineCode) (e : x ≡ char_code own k) where
    pub own_code : shift_ahead a l s own ≡ 0 → next_for a l s x ≡ loaded (on_line 2 k.0 0) (sender_after_own a s) true
    unfolding code_begins
    own_code =
        by-test (is_opening a l)
        (λ o z. absurd (opening-some s (rw o at z)))
        (λ o z. rw (e, o, rw o at z) refl)

    pub shift-code : (shift_ahead a l s own ≡ 0 → ⊥) → next_for a l s x ≡ shift_begins (shift_ahead a l s own)
    unfolding code_begins
    shift-code =
        by-test (is_opening a l) (λ o n. rw (e, o) refl)
        (λ o n. rw (e, o, ne_eqb (shift_wanted a s own) 0 (rw o at n)) refl)

module _ (mode : Mode) (waiting front : ℕ) (l : OnLine) (s : Sender) where
  pub not-over : is_over mode l ≡ false → next_code mode waiting front l s ≡ loaded l s false
  unfolding next_code
  not-over e = rw e refl

  module _ (over : is_over mode l ≡ true) where
    pub opening-next : is_opening (alphabet_of mode) l ≡ true
        → next_code mode waiting front l s ≡ shift_begins (opening_shift s)
    unfolding next_code
    opening-next e = rw (over, e) refl

    -- those that wait send codes
    pub waiting-next : (waiting ≡ 0 → ⊥) → is_code (sends (alphabet_of mode) front) ≡ true
        → next_code mode waiting front l s ≡ next_for (alphabet_of mode) l s (sends (alphabet_of mode) front)
    unfolding next_code
    waiting-next n e =
        by-test (is_opening (alphabet_of mode) l) (λ o. rw (over, o, e) refl)
        (λ o. rw (over, o, lt-ltb 0 waiting (omega arith)) refl)

    module _ (opened : is_opening (alphabet_of mode) l ≡ false) where
      pub none-waits : waiting ≡ 0 → next_code mode waiting front l s ≡ loaded l s false
      unfolding next_code
      none-waits e = rw (over, opened, le-ltb 0 waiting (omega arith)) refl

      pub code-next : (waiting ≡ 0 → ⊥)
          → next_code mode waiting front l s ≡ code_begins (alphabet_of mode) l s (sends (alphabet_of mode) front)
      unfolding next_code
      code-next n = rw (over, opened, lt-ltb 0 waiting (omega arith)) refl

-- one ms gone, and the end of a burst
module _ (mode : Mode) (l : OnLine) where
  pub gone-none : length (part_ms mode l) ≤ l.at → one_gone mode l ≡ l
  unfolding one_gone
  gone-none h = rw (le-ltb l.at (length (part_ms mode l)) h) refl

  pub gone_one : l.at < length (part_ms mode l) → one_gone mode l ≡ further l 1
  unfolding one_gone
  gone_one h = rw (lt-ltb l.at (length (part_ms mode l)) h) refl

  pub stays-left : (ends : Bool) → is_over mode l ≡ false → closed mode ends l ≡ l
  unfolding closed
  stays-left ends e = rw e refl
