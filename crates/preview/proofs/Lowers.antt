-- A ms of a burst lowers by one the ms that are left to a station.
use Rattle.std.specs.Prelude.{Option, Some, None}
use Rattle.alphabet.specs.declared.CharCode.{CharCode}
use mathlib.Core.Path.{◌≡◌, ◌∙◌, refl, sym, ap}
use mathlib.Core.Bool.{Bool, true, false, cond, not, ◌&&◌, false≢true}
use mathlib.Core.List.{List, [], ◌∷◌}
use Prim.Native.Nat.{ℕ, zero, suc, max, ◌+◌, ◌-◌, ◌≤◌}
use native.Mathlib.Omega.{arith}
use lib.Dec.{eqb, leb, ltb}
use lib.ListN.{length, get_or, drop, length-drop}
use borrow.Author.Tests.{not-true, eqb-true, eqb-false, ne_eqb, leb-true, leb-false, ltb-true, ltb-false}
use Rattle.lists.proofs.Lists.{either, either-by, by-test, and_left, and_right}
use Rattle.alphabet.specs.declared.Alphabet.{Alphabet}
use Rattle.alphabet.specs.declared.Mode.{Mode}
use Rattle.alphabet.specs.Modes.{alphabet_of}
use Rattle.alphabet.specs.Normal.{sends, is_code}
use Rattle.baudot.specs.declared.Sender.{Sender}
use Rattle.baudot.specs.Sending.{sender, shift_code}
use Rattle.baudot.specs.Text.{text_codes}
use Rattle.baudot.specs.code.Bounds.{SenderIn}
use Rattle.baudot.proofs.Text.{text-some}
use Rattle.signal.proofs.Lengths.{some-ms, signals-some}
use Rattle.burst.specs.declared.OnLine.{OnLine}
use Rattle.burst.specs.declared.Loaded.{Loaded}
use Rattle.burst.specs.Rules.{opening_shift, shift_wanted, may_end}
use Rattle.burst.specs.Line.{on_line, further, in_burst, part_ms, is_over, loaded, shift_begins, code_begins}
use Rattle.burst.specs.Line.{is_opening, next_code, one_gone, front_is_next, closed}
use Rattle.burst.proofs.Laws as line
use Rattle.burst.proofs.Laws.{begun-same}
use Rattle.half_duplex.specs.Core.{waiting_after}
use Rattle.queue.specs.Queue.{waits, all_wait}
use Rattle.preview.specs.code.Count.{code_ms, chars_ms, behind_ms, part_left, some_ms, left_of}
use Rattle.preview.proofs.Counting.{chars-step, no-chars}

-- ---- what is left, in a burst and outside

-- the ms of the part that are left, and those behind them
abbrev pub burst_left : Mode → OnLine → Sender → List ℕ → ℕ
burst_left mode l s cs = part_left mode l + behind_ms mode l s cs

pub some_is : (n : ℕ) → 1 ≤ n → some_ms n ≡ n
some_is n h = rw (ne_eqb n 0 (λ e. omega arith)) refl

pub max-some : (n : ℕ) → max n 1 ≡ some_ms n
max-some zero = refl
max-some (suc n) = let e : max (suc n) 1 ≡ suc n = omega arith in e ∙ sym (some_is (suc n) (omega arith))

-- a list by its first element
cons-is : (cs : List ℕ) → 1 ≤ length cs → cs ≡ get_or cs 0 0 ∷ drop 1 cs
cons-is [] h = absurd (omega arith)
cons-is (c ∷ cs) h = refl

left-length : (cs : List ℕ) (takes : Bool) → length (cond takes (drop 1 cs) cs) ≡ waiting_after takes (length cs)
left-length cs true = length-drop 1 cs
left-length cs false = refl

-- a code begins with its first ms
begins-line : (a : Alphabet) (l : OnLine) (s : Sender) (x : Option CharCode) → is_code x ≡ true
    → (code_begins a l s x).line ≡ on_line 2 (code_begins a l s x).line.code.0 0
unfolding code_begins
begins-line a l s None e = absurd (false≢true e)
begins-line a l s (Some o) e =
    either (λ (q : Loaded). q.line ≡ on_line 2 q.line.code.0 0) (eqb (shift_wanted a s o.shift) 0) _ _ refl refl

module _ (mode : Mode) where
  abbrev a : Alphabet
  a = alphabet_of mode

  -- in a burst
  pub left-burst : (l : OnLine) (s : Sender) (n silence : ℕ) (cs : List ℕ) → in_burst l ≡ true
      → left_of mode l s n silence cs ≡ some_ms (burst_left mode l s cs)
  left-burst l s n silence cs b = rw (b, begun-same true l (rw b refl)) refl

  -- those that wait send a ms at least
  some-chars : (s : Sender) (cs : List ℕ) → 1 ≤ length cs → all_wait a cs ≡ true → 1 ≤ chars_ms mode s cs
  unfolding chars_ms all_wait
  some-chars s [] h w = absurd (omega arith)
  some-chars s (c ∷ cs) h w =
      let v = and_left (waits a c) (all_wait a cs) w in
      signals-some mode (text_codes a s (c ∷ cs)) (text-some a s c cs (and_right (leb c 0x7f) (is_code (sends a c)) v))

  pub some-behind : (l : OnLine) (s : Sender) (cs : List ℕ) → 1 ≤ length cs → all_wait a cs ≡ true
      → 1 ≤ behind_ms mode l s cs
  some-behind l s cs h w =
      let m = some-ms mode (shift_code (opening_shift s)) in
      either (λ (n : ℕ). 1 ≤ n) (is_opening a l) _ _ (omega arith) (some-chars s cs h w)

  -- the end of a ms in a burst: it ends where its part is over and none waits
  module _ (l : OnLine) (s : Sender) (n silence : ℕ) (cs : List ℕ) (b : in_burst l ≡ true) (len : length cs ≡ n)
      (w : all_wait a cs ≡ true) where
    over-left : is_over mode l ≡ true → part_left mode l ≡ 0
    unfolding is_over
    over-left e =
        let n = length (part_ms mode l) in
        let h = leb-true n l.at (and_right (in_burst l) (leb n l.at) e) in
        omega arith

    part_left-some : is_over mode l ≡ false → 1 ≤ part_left mode l
    unfolding is_over
    part_left-some e =
        let h = leb-false (length (part_ms mode l)) l.at (rw b at e) in
        omega arith

    ended-left : is_over mode l ≡ true → is_opening a l ≡ false → n ≡ 0 → burst_left mode l s cs ≡ 0
    ended-left o p z = rw p (none cs len)
      where
        none : (ds : List ℕ) → length ds ≡ n → part_left mode l + chars_ms mode s ds ≡ 0
        none [] h = let e = over-left o in let z = no-chars mode s in omega arith
        none (d ∷ ds) h = absurd (omega arith)

    goes_on : (front_is_next mode l && eqb n 0) ≡ false → 1 ≤ burst_left mode l s cs
    goes_on e =
        by-test (is_over mode l)
        (λ o. by-test (is_opening a l)
        (λ p. let m = some-ms mode (shift_code (opening_shift s)) in rw p (omega arith))
        (λ p.
        let z = eqb-false n 0 (rw (o, p) at e) in
        let m = some-chars s cs (omega (arith, z)) w in
        rw p (omega arith)))
        (λ o. let h = part_left-some o in omega arith)

    closed-left : left_of mode (closed mode (may_end n) l) s n silence cs ≡ burst_left mode l s cs
    unfolding closed may_end
    closed-left =
        either-by (λ (k : OnLine). left_of mode k s n silence cs ≡ burst_left mode l s cs)
        (front_is_next mode l && eqb n 0)
        (λ e.
        let f = and_left (front_is_next mode l) (eqb n 0) e in
        let z = and_right (front_is_next mode l) (eqb n 0) e in
        let o = and_left (is_over mode l) (not (is_opening a l)) f in
        let p = not-true (is_opening a l) (and_right (is_over mode l) (not (is_opening a l)) f) in
        rw z (sym (ended-left o p (eqb-true n 0 z))))
        (λ e. left-burst l s n silence cs b ∙ some_is _ (goes_on e))

  -- ---- one ms of a burst

  -- the first ms of a code
  code-left : (k : ℕ) (s : Sender) (n silence : ℕ) (cs : List ℕ) → length cs ≡ n → all_wait a cs ≡ true
      → left_of mode (closed mode (may_end n) (one_gone mode (on_line 2 k 0))) s n silence cs
      ≡ code_ms mode k + chars_ms mode s cs - 1
  unfolding part_ms
  code-left k s n silence cs len w =
      let m = some-ms mode k in
      let e = closed-left (on_line 2 k 1) s n silence cs refl len w in
      rw (line.gone_one mode (on_line 2 k 0) (omega arith)) (e ∙ (omega arith))

  module _ (l : OnLine) (s : Sender) (front : ℕ) (cs : List ℕ) (b : in_burst l ≡ true) (j : SenderIn s)
      (w : all_wait a cs ≡ true) (first : 1 ≤ length cs → front ≡ get_or cs 0 0) where
    abbrev n : ℕ
    n = length cs

    abbrev x : Option CharCode
    x = sends a front

    -- after it one ms less is left
    abbrev Lowers : Loaded → Type 0
    Lowers q =
        let m = waiting_after q.takes n in
        (silence : ℕ)
        → left_of mode (closed mode (may_end m) (one_gone mode q.line)) q.sender m silence
        (cond q.takes (drop 1 cs) cs) ≡ some_ms (burst_left mode l s cs) - 1

    -- a ms of the part goes
    part-lowers : is_over mode l ≡ false → Lowers (loaded l s false)
    unfolding part_ms
    part-lowers e silence =
        let h = part_left-some l s n silence cs b refl w e in
        let c = closed-left (further l 1) s n silence cs b refl w in
        rw (line.gone_one mode l (omega arith), some_is (burst_left mode l s cs) (omega arith)) (c ∙ (omega arith))

    module _ (over : is_over mode l ≡ true) where
      -- the shift code that opens the burst
      opens : is_opening a l ≡ true → Lowers (shift_begins (opening_shift s))
      opens p silence =
          let v = opening_shift s in
          let z = over-left l s n silence cs b refl w over in
          let m = some-ms mode (shift_code v) in
          let e = code-left (shift_code v) (sender v 0) n silence cs refl w in
          let all = part_left mode l + (code_ms mode (shift_code v) + chars_ms mode (sender v 0) cs) in
          rw (p, some_is all (omega arith)) (e ∙ (omega arith))

      module _ (opened : is_opening a l ≡ false) where
        -- none waits
        stops : n ≡ 0 → Lowers (loaded l s false)
        stops z silence =
            let e = closed-left l s n silence cs b refl w in
            let d = ended-left l s n silence cs b refl w over opened z in
            let o = over-left l s n silence cs b refl w over in
            rw (line.gone-none mode l (omega arith)) (e ∙ d ∙ sym (ap (λ (k : ℕ). some_ms k - 1) d))

        module _ (o : 1 ≤ n) where
          all : cs ≡ front ∷ drop 1 cs
          all = cons-is cs o ∙ sym (ap (λ (c : ℕ). c ∷ drop 1 cs) (first o))

          front-waits : waits a front ≡ true
          unfolding all_wait
          front-waits = and_left (waits a front) (all_wait a (drop 1 cs)) (rw all at w)

          rest-wait : all_wait a (drop 1 cs) ≡ true
          unfolding all_wait
          rest-wait = and_right (waits a front) (all_wait a (drop 1 cs)) (rw all at w)

          front-lowers : Lowers (code_begins a l s x)
          front-lowers silence =
              let q = code_begins a l s x in
              let v = and_right (leb front 0x7f) (is_code x) front-waits in
              let low = leb-true front 0x7f (and_left (leb front 0x7f) (is_code x) front-waits) in
              let t = rw (v, sym all) at (chars-step mode l s j front (drop 1 cs) (omega arith)) in
              let ds = cond q.takes (drop 1 cs) cs in
              let m = waiting_after q.takes n in
              let c = code-left q.line.code.0 q.sender m silence ds (left-length cs q.takes)
              (either (λ (es : List ℕ). all_wait a es ≡ true) q.takes _ _ rest-wait w) in
              let z = over-left l s n silence cs b refl w over in
              let k = some-chars s cs o w in
              ap (λ (i : OnLine). left_of mode (closed mode (may_end m) (one_gone mode i)) q.sender m silence ds)
              (begins-line a l s x v)
              ∙ c
              ∙ rw (opened, some_is (part_left mode l + chars_ms mode s cs) (omega arith)) (omega arith)

    pub burst-lowers : Lowers (next_code mode n front l s)
    unfolding next_code
    burst-lowers =
        either-by Lowers (is_over mode l)
        (λ e. either-by Lowers (is_opening a l) (λ o. opens e o)
        (λ o. either-by Lowers (ltb 0 n)
        (λ z. let g = ltb-true 0 n z in front-lowers e o (omega arith))
        (λ z. let g = ltb-false 0 n z in stops e o (omega arith))))
        (λ e. part-lowers e)
