-- What a station has on the line, in numbers, beside what its model has there.
use Rattle.std.specs.Prelude.{Option, Some, None}
use Rattle.alphabet.specs.declared.CharCode.{CharCode}
use mathlib.Core.Path.{◌≡◌, ◌∙◌, refl, sym, ap, subst}
use mathlib.Core.Bool.{Bool, true, false, cond, not, ◌&&◌, true≢false}
use mathlib.Core.List.{List, [], ◌∷◌}
use Prim.Native.Nat.{ℕ, zero, suc, ◌+◌, ◌<◌, ◌≤◌}
use native.Mathlib.Omega.{arith}
use native.Mathlib.Numerals.{add-one}
use lib.Dec.{eqb, leb, ltb}
use lib.ListN.{length, get_or, drop, drop_of_length-le}
use lib.Seq.{drop-cons}
use borrow.Author.Tests.{leb-true, leb-false, ltb-true, ltb-false, lt-ltb}
use Rattle.lists.proofs.Lists.{by-test}
use Rattle.alphabet.specs.declared.Alphabet.{Alphabet}
use Rattle.alphabet.specs.declared.Mode.{Mode}
use Rattle.alphabet.specs.Modes.{alphabet_of}
use Rattle.alphabet.specs.Normal.{sends, is_code}
use Rattle.baudot.specs.declared.Sender.{Sender}
use Rattle.baudot.specs.Sending.{shift_code}
use Rattle.signal.specs.Signal.{preamble}
use Rattle.burst.specs.declared.OnLine.{OnLine as Line}
use Rattle.burst.specs.declared.Loaded.{Loaded as LoadedLine}
use Rattle.burst.specs.Rules.{opens_with_shift, opening_shift, shift_wanted, sender_after_own}
use Rattle.burst.specs.Line as line
use Rattle.burst.specs.Line.{on_line, idle, part_ms}
use Rattle.demand3.specs.Model.{Part, Preamble, ShiftCode, OwnCode, OnLine, Idle, Sending, Loaded}
use Rattle.demand3.specs.Model.{begun, loaded, own_begins, shift_begins, code_begins, front_begins, is_opening, next_code}
use Rattle.demand3.specs.Model.{level_on, in_burst, one_gone, closed}

-- the number of a part
pub data PartNo : Part → ℕ → Type 0 where
  preamble-1 : PartNo Preamble 1
  shift-2 : PartNo ShiftCode 2
  own-2 : PartNo OwnCode 2

part-some : {part : Part} {n : ℕ} → PartNo part n → not (eqb n 0) ≡ true
part-some preamble-1 = refl
part-some shift-2 = refl
part-some own-2 = refl

opening-same : {part : Part} {n : ℕ} → PartNo part n → (a : Alphabet) → (eqb n 1 && opens_with_shift a)
    ≡ is_opening a part
opening-same preamble-1 a = refl
opening-same shift-2 a = refl
opening-same own-2 a = refl

-- the numbers stand for what the model has on the line
pub data Stands (mode : Mode) : Line → OnLine → Type 0 where
  no-burst : Stands mode idle Idle
  sending : {part : Part} {n : ℕ} → PartNo part n → (code at : ℕ)
      → Stands mode (on_line n code at) (Sending part (drop at (part_ms mode (on_line n code at))))

module _ (mode : Mode) where
  pub burst-same : {l : Line} {on : OnLine} → Stands mode l on → line.in_burst l ≡ in_burst on
  burst-same no-burst = refl
  burst-same (sending p code at) = part-some p

  -- the level
  level-any : (part : Part) (ms : List ℕ) (p : ℕ) → get_or ms p 0 ≡ level_on (Sending part (drop p ms))
  unfolding level_on
  level-any part [] zero = refl
  level-any part [] (suc p) = refl
  level-any part (x ∷ ms) zero = refl
  level-any part (x ∷ ms) (suc p) = level-any part ms p

  pub level-same : {l : Line} {on : OnLine} → Stands mode l on → line.level_on mode l ≡ level_on on
  unfolding line.level_on level_on part_ms
  level-same no-burst = refl
  level-same (sending {part} {n} p code at) = level-any part (part_ms mode (on_line n code at)) at

  -- one ms has gone
  gone_at : (part : Part) (ms : List ℕ) (at : ℕ) → at < length ms
      → one_gone (Sending part (drop at ms)) ≡ Sending part (drop (suc at) ms)
  unfolding one_gone
  gone_at part ms at h = rw (drop-cons ms at 0 h) refl

  pub gone-stands : {l : Line} {on : OnLine} → Stands mode l on → Stands mode (line.one_gone mode l) (one_gone on)
  unfolding line.one_gone one_gone part_ms
  gone-stands no-burst = no-burst
  gone-stands (sending {part} {n} p code at) = go (ltb at (length ms)) refl
    where
      ms : List ℕ
      ms = part_ms mode (on_line n code at)

      go : (b : Bool) → ltb at (length ms) ≡ b
          → Stands mode (cond b (on_line n code (at + 1)) (on_line n code at)) (one_gone (Sending part (drop at ms)))
      go true e =
          let next = ap (λ (k : ℕ). Sending part (drop k ms)) (add-one at) in
          let gone = gone_at part ms at (ltb-true at (length ms) e) in
          subst (Stands mode (on_line n code (at + 1))) (next ∙ sym gone) (sending p code (at + 1))
      go false e =
          let z = drop_of_length-le ms (ltb-false at (length ms) e) in
          subst (Stands mode (on_line n code at)) (rw z refl) (sending p code at)

  -- the burst ends, or goes on
  stays_closed : (ends : Bool) (part : Part) (ms : List ℕ) (at : ℕ) → at < length ms
      → closed mode ends (Sending part (drop at ms)) ≡ Sending part (drop at ms)
  unfolding closed
  stays_closed ends part ms at h = rw (drop-cons ms at 0 h) refl

  over_closed : (ends : Bool) (part : Part) (ms : List ℕ) (at : ℕ) → length ms ≤ at
      → closed mode ends (Sending part (drop at ms))
      ≡ cond (not (is_opening (alphabet_of mode) part) && ends) Idle (Sending part (drop at ms))
  unfolding closed
  over_closed ends part ms at h = rw (drop_of_length-le ms h) refl

  pub closed-stands : {l : Line} {on : OnLine} (ends : Bool) → Stands mode l on
      → Stands mode (line.closed mode ends l) (closed mode ends on)
  unfolding line.closed line.is_over closed
  closed-stands ends no-burst = no-burst
  closed-stands ends (sending {part} {n} p code at) =
      rw (part-some p, opening-same p (alphabet_of mode)) (go (leb (length ms) at) refl)
    where
      ms : List ℕ
      ms = part_ms mode (on_line n code at)

      opening : Bool
      opening = is_opening (alphabet_of mode) part

      both : (c : Bool) → Stands mode (cond c idle (on_line n code at)) (cond c Idle (Sending part (drop at ms)))
      both true = no-burst
      both false = sending p code at

      go : (b : Bool) → leb (length ms) at ≡ b
          → Stands mode (cond (b && not opening && ends) idle (on_line n code at))
          (closed mode ends (Sending part (drop at ms)))
      go true e = rw (over_closed ends part ms at (leb-true (length ms) at e)) (both (not opening && ends))
      go false e = rw (stays_closed ends part ms at (leb-false (length ms) at e)) (sending p code at)

  -- a burst begins, or what is on the line goes on
  preamble-stands : Stands mode (on_line 1 0 0) (Sending Preamble (preamble mode))
  unfolding part_ms
  preamble-stands = sending preamble-1 0 0

  pub begun-stands : {l : Line} {on : OnLine} (begins : Bool) → Stands mode l on
      → Stands mode (line.begun begins l) (begun mode begins on)
  unfolding line.begun begun
  begun-stands true no-burst = preamble-stands
  begun-stands false no-burst = no-burst
  begun-stands true (sending p code at) = rw (part-some p) (sending p code at)
  begun-stands false (sending p code at) = sending p code at

  -- what a ms starts with; ws wait before it
  pub record LoadedLike (ws : List ℕ) (x : LoadedLine) (y : Loaded) : Type 0 where
    pub line-is : Stands mode x.line y.on_line
    pub sender-is : x.sender ≡ y.sender
    pub waiting-is : y.waiting ≡ cond x.takes (drop 1 ws) ws

  shift-like : (ws : List ℕ) (w : ℕ) → LoadedLike ws (line.shift_begins w) (shift_begins mode ws w)
  unfolding part_ms
  shift-like ws w = record { line-is = sending shift-2 (shift_code w) 0; sender-is = refl; waiting-is = refl }

  -- a code begins: the front character sends one
  begins-like : (c : ℕ) (cs : List ℕ) (l : Line) (s : Sender) (x : Option CharCode) → is_code x ≡ true
      → LoadedLike (c ∷ cs) (line.code_begins (alphabet_of mode) l s x) (code_begins mode c cs s x)
  unfolding line.code_begins code_begins part_ms
  begins-like c cs l s None h = absurd (true≢false (sym h))
  begins-like c cs l s (Some o) h = go (eqb w 0)
    where
      w : ℕ
      w = shift_wanted (alphabet_of mode) s o.shift

      own_code : LoadedLine
      own_code = line.loaded (on_line 2 o.code.0 0) (sender_after_own (alphabet_of mode) s) true

      go : (b : Bool)
          → LoadedLike (c ∷ cs) (cond b own_code (line.shift_begins w))
          (cond b (own_begins mode c cs s o.code) (shift_begins mode (c ∷ cs) w))
      go true = record { line-is = sending own-2 o.code.0 0; sender-is = refl; waiting-is = refl }
      go false = shift-like (c ∷ cs) w

  stays-next : (ws : List ℕ) (part : Part) (ms : List ℕ) (at : ℕ) (s : Sender) → at < length ms
      → next_code mode ws (Sending part (drop at ms)) s ≡ loaded ws (Sending part (drop at ms)) s []
  unfolding next_code
  stays-next ws part ms at s h = rw (drop-cons ms at 0 h) refl

  -- a number and a front character stand for those waiting; each sends a code
  pub data Heads : ℕ → ℕ → List ℕ → Type 0 where
    none : (front : ℕ) → Heads 0 front []
    some : (c : ℕ) (cs : List ℕ) → is_code (sends (alphabet_of mode) c) ≡ true → Heads (suc (length cs)) c (c ∷ cs)

  pub next_like : {l : Line} {on : OnLine} {waiting front : ℕ} {ws : List ℕ} (s : Sender) → Heads waiting front ws
      → Stands mode l on → LoadedLike ws (line.next_code mode waiting front l s) (next_code mode ws on s)
  unfolding line.next_code line.is_over next_code
  next_like s h no-burst = record { line-is = no-burst; sender-is = refl; waiting-is = refl }
  next_like {waiting = waiting} {front} {ws} s h (sending {part} {n} p code at) =
      rw (part-some p, opening-same p a) (go (leb (length ms) at) refl)
    where
      a : Alphabet
      a = alphabet_of mode

      ms : List ℕ
      ms = part_ms mode (on_line n code at)

      l : Line
      l = on_line n code at

      goes_on : (ws : List ℕ) → LoadedLike ws (line.loaded l s false) (loaded ws (Sending part (drop at ms)) s [])
      goes_on ws = record { line-is = sending p code at; sender-is = refl; waiting-is = refl }

      -- the next for those that wait
      front-line : ℕ → ℕ → LoadedLine
      front-line waiting front = cond (ltb 0 waiting) (line.code_begins a l s (sends a front)) (line.loaded l s false)

      front-like : {waiting front : ℕ} {ws : List ℕ} → Heads waiting front ws → length ms ≤ at
          → LoadedLike ws (front-line waiting front) (front_begins mode ws part s)
      front-like (none front) e = rw (drop_of_length-le ms e) at (goes_on [])
      front-like (some c cs g) e = rw (lt-ltb 0 (suc (length cs)) (omega arith)) (begins-like c cs l s (sends a c) g)

      -- with no ms left
      over-like : length ms ≤ at
          → LoadedLike ws (cond (is_opening a part) (line.shift_begins (opening_shift s)) (front-line waiting front))
          (next_code mode ws (Sending part []) s)
      over-like e =
          by-test (is_opening a part) (λ o. rw o (shift-like ws (opening_shift s))) (λ o. rw o (front-like h e))

      go : (b : Bool) → leb (length ms) at ≡ b
          → LoadedLike ws
          (cond b (cond (is_opening a part) (line.shift_begins (opening_shift s)) (front-line waiting front))
          (line.loaded l s false))
          (next_code mode ws (Sending part (drop at ms)) s)
      go true e =
          let over = leb-true (length ms) at e in
          rw (drop_of_length-le ms over) (over-like over)
      go false e = rw (stays-next ws part ms at s (leb-false (length ms) at e)) (goes_on ws)
