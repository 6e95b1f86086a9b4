-- A station that was offered a text: those that wait in it, and how many ms their codes are at most.
use mathlib.Core.Path.{◌≡◌, ◌∙◌, refl, sym, ap, subst}
use mathlib.Core.Bool.{Bool, true, false, not, ◌&&◌}
use mathlib.Core.List.{List, [], ◌∷◌, ◌++◌}
use Prim.Native.Nat.{ℕ, ◌+◌, ◌≤◌}
use native.Mathlib.Nat.{mul-le-mul}
use native.Mathlib.Omega.{arith}
use lib.Dec.{eqb, leb}
use lib.ListN.{length}
use Rattle.lists.specs.Lists.{all_at_most}
use Rattle.lists.specs.Steps.{state_after}
use Rattle.lists.proofs.Lists.{and_left, and_right, both, at-most-append}
use Rattle.alphabet.specs.declared.Alphabet.{Alphabet}
use Rattle.alphabet.specs.declared.Mode.{Mode}
use Rattle.alphabet.specs.declared.Mode.TheVariants.{Baudot45, Baudot50, Dtmf, Edt}
use Rattle.alphabet.specs.Modes.{alphabet_of, longest}
use Rattle.alphabet.specs.Normal.{sends, is_code, all_chars}
use Rattle.baudot.specs.declared.Sender.{Sender}
use Rattle.baudot.specs.Sending.{sender}
use Rattle.burst.specs.declared.OnLine.{OnLine}
use Rattle.burst.specs.Rules.{opening_shift}
use Rattle.burst.specs.Line.{begun}
use Rattle.queue.specs.Queue.{waits, waiters, all_wait, waiting_of}
use Rattle.queue.proofs.Laws.{waiting-offered}
use Rattle.station.specs.declared.Station.{Station}
use Rattle.station.specs.Station.{mode_of_station, queue_of, offered_to}
use Rattle.station.specs.code.Accepted.{Accepted}
use Rattle.station.proofs.Range.{core-in, all-waiting, waiting-count, offered-in, offered-full}
use Rattle.preview.specs.Preview.{is_idle, IdleIn}
use Rattle.preview.specs.code.Count.{chars_ms, behind_ms, ahead_ms, some_ms, ms_left}
use Rattle.preview.proofs.Idle.{idle-in}
use Rattle.preview.proofs.Counting.{chars-waiters}
use Rattle.preview.proofs.Most.{codes_behind, behind-longest, behind-most}

-- those that wait, and those of a text behind them
module _ (a : Alphabet) where
  pub all-waiters : (cs text : List ℕ) → all_wait a cs ≡ true → waiters a (cs ++ text) ≡ cs ++ waiters a text
  unfolding waiters all_wait
  all-waiters [] text w = refl
  all-waiters (c ∷ cs) text w =
      let rest = and_right (waits a c) (all_wait a cs) w in
      rw (and_left (waits a c) (all_wait a cs) w) (ap (λ (l : List ℕ). c ∷ l) (all-waiters cs text rest))

  pub all-chars : (cs : List ℕ) → all_wait a cs ≡ true → all_chars cs ≡ true
  unfolding all_wait all_at_most
  all-chars [] w = refl
  all-chars (c ∷ cs) w =
      let v = and_left (waits a c) (all_wait a cs) w in
      both (and_left (leb c 0x7f) (is_code (sends a c)) v) (all-chars cs (and_right (waits a c) (all_wait a cs) w))

longest-480 : (mode : Mode) → longest mode ≤ 480
longest-480 Baudot45 = omega arith
longest-480 Baudot50 = omega arith
longest-480 Dtmf = omega arith
longest-480 Edt = omega arith

module _ (s : Station) (text : List ℕ) (full : length s.chars ≡ 256) (z : Accepted s text) where
  abbrev mode : Mode
  mode = mode_of_station s

  abbrev pub own : List ℕ
  own = waiting_of (queue_of s)

  abbrev after : Station
  after = offered_to s text

  own-wait : all_wait (alphabet_of mode) own ≡ true
  own-wait = all-waiting s z.ranged

  pub chars-low : all_chars (own ++ text) ≡ true
  chars-low = at-most-append 0x7f own text (all-chars (alphabet_of mode) own own-wait) z.chars

  waiting-is : waiting_of (queue_of after) ≡ own ++ waiters (alphabet_of mode) text
  unfolding offered_to
  waiting-is = waiting-offered (alphabet_of mode) (queue_of s) full text z.space

  chars-same : (t : Sender) → chars_ms mode t (own ++ text) ≡ chars_ms mode t (waiting_of (queue_of after))
  chars-same t =
      sym (chars-waiters mode t (own ++ text) chars-low)
      ∙ ap (chars_ms mode t) (all-waiters (alphabet_of mode) own text own-wait ∙ sym waiting-is)

  pub behind-same : (l : OnLine) (t : Sender)
      → behind_ms mode l t (own ++ text) ≡ behind_ms mode l t (waiting_of (queue_of after))
  behind-same l t = rw (chars-same t, chars-same (sender (opening_shift t) 0)) refl

  waiting-low : all_chars (waiting_of (queue_of after)) ≡ true
  unfolding offered_to
  waiting-low =
      all-chars (alphabet_of mode) (waiting_of (queue_of after)) (all-waiting after (offered-in s text full z))

  pub behind-few : (l : OnLine) → behind_ms mode l s.core.sender (own ++ text) ≤ 250_000
  behind-few l =
      let cs = waiting_of (queue_of after) in
      let i = offered-in s text full z in
      let c = (core-in after i).waiting-in in
      let n = waiting-count after i (offered-full s text full) in
      let e = behind-same l s.core.sender in
      let j = (core-in s z.ranged).sender-in in
      let m = behind-longest mode l s.core.sender cs waiting-low in
      let b = behind-most (alphabet_of mode) l s.core.sender j cs waiting-low in
      let few : codes_behind (alphabet_of mode) l s.core.sender cs ≤ 514 = omega arith in
      let p = mul-le-mul (longest-480 mode) few in
      omega arith

-- ---- the answer

not-not : (b c : Bool) → (not (not b) && c) ≡ (b && c)
not-not true c = refl
not-not false c = refl

module _ (s : Station) (text : List ℕ) (waiting : ℕ) (w : waiting ≡ (offered_to s text).core.waiting) where
  -- whether it is idle at once, as the code finds it
  abbrev idle_at : Bool
  idle_at = eqb s.core.line.part 0 && eqb waiting 0

  idle-is : is_idle (offered_to s text) ≡ idle_at
  unfolding offered_to
  idle-is =
      not-not (eqb s.core.line.part 0) (eqb (offered_to s text).core.waiting 0)
      ∙ sym (ap (λ (n : ℕ). eqb s.core.line.part 0 && eqb n 0) w)

  pub idle-now : idle_at ≡ true → IdleIn (offered_to s text) 0
  unfolding state_after
  idle-now e = record { idle = idle-is ∙ e; first = λ k h. absurd (omega arith) }

  module _ (full : length s.chars ≡ 256) (z : Accepted s text) where
    -- the ms that the code counts, ahead of the codes and of the codes
    abbrev ahead_of : ℕ
    ahead_of = ahead_ms (mode_of_station s) s.core.line s.core.silence

    abbrev codes_of : ℕ
    codes_of =
        behind_ms (mode_of_station s) (begun true s.core.line) s.core.sender (waiting_of (queue_of s) ++ text)

    -- else, in these
    left_is : idle_at ≡ false → ms_left (offered_to s text) ≡ some_ms (ahead_of + codes_of)
    unfolding offered_to
    left_is e =
        let b = behind-same s text full z (begun true s.core.line) s.core.sender in
        rw (idle-is ∙ e) (ap (λ (n : ℕ). some_ms (ahead_of + n)) (sym b))

    pub idle-later : idle_at ≡ false → (ms : ℕ) → ms ≡ some_ms (ahead_of + codes_of) → IdleIn (offered_to s text) ms
    idle-later e ms h =
        subst (IdleIn (offered_to s text)) (left_is e ∙ sym h)
        (idle-in (offered_to s text) (offered-full s text full) (offered-in s text full z))
