-- Question 1 in facts; what a ms starts with is in range, and every ms keeps a core in range,
-- whenever a burst begins and ends.
use mathlib.Core.Path.{◌≡◌, refl}
use mathlib.Core.Bool.{Bool, true, false, cond, ◌&&◌}
use Prim.Native.Nat.{ℕ, ◌+◌, ◌-◌, ◌<◌, ◌≤◌}
use native.Mathlib.Omega.{arith}
use lib.Dec.{leb, ltb}
use borrow.Author.Tests.{leb-true, ltb-true, le-leb}
use Rattle.lists.proofs.Lists.{either, and_left, and_right}
use Rattle.baudot.specs.Sending.{in_range as sender_in}
use Rattle.reader.specs.Reader.{hear, inhibited}
use Rattle.reader.specs.code.Bounds.{ReaderIn}
use Rattle.reader.specs.Range.{reader_in}
use Rattle.reader.proofs.Range.{reader-in, reader-is, hear-in, inhibited-in}
use Rattle.burst.specs.declared.Loaded.{Loaded}
use Rattle.burst.specs.Rules.{is_inhibited, is_silent}
use Rattle.burst.specs.Line.{in_burst, begun, one_gone}
use Rattle.burst.specs.Range.{line_in}
use Rattle.baudot.proofs.Range.{sender-in, sender-is}
use Rattle.burst.proofs.Range.{line-in, line-is, LoadedIn, begun-in, next-in, gone-in, closed_in, next-takes}
use Rattle.half_duplex.specs.declared.Core.{Core}
use Rattle.half_duplex.specs.Core.{silence_after, mode_in, settled_by, settled, begins_in, ends_in, core_from_by, core_from, core_after}
use Rattle.half_duplex.specs.Range.{timers_in, parts_in, core_in}
use Rattle.half_duplex.specs.code.Bounds.{CoreIn}

-- ---- question 1 in facts

pub record TimersIn (c : Core) : Type 0 where
  pub mode_low : 1 ≤ c.mode
  pub mode_ranged : c.mode ≤ 4
  pub silence_in : c.silence ≤ 300
  pub inhibited-in : c.inhibited ≤ 300

timers-in : (c : Core) → timers_in c ≡ true → TimersIn c
timers-in c e =
    let a = leb 1 c.mode in
    let b = leb c.mode 4 in
    let s = leb c.silence 300 in
    let i = leb c.inhibited 300 in
    let abs = and_left (a && b && s) i e in
    let ab = and_left (a && b) s abs in
    record {
      mode_low = leb-true 1 c.mode (and_left a b ab);
      mode_ranged = leb-true c.mode 4 (and_right a b ab);
      silence_in = leb-true c.silence 300 (and_right (a && b) s abs);
      inhibited-in = leb-true c.inhibited 300 (and_right (a && b && s) i e);
    }

module _ (c : Core) where
  pub core-timers : core_in c ≡ true → TimersIn c
  unfolding core_in
  core-timers e = timers-in c (and_left (timers_in c) (parts_in c) e)

  -- with those waiting, who are the queue's
  pub core-in : core_in c ≡ true → c.waiting ≤ 256 → CoreIn c
  unfolding core_in
  core-in e w =
      let t = core-timers e in
      let l = line_in (mode_in c) c.line in
      let s = sender_in c.sender in
      let r = reader_in (mode_in c) c.reader in
      let p = and_right (timers_in c) (parts_in c) e in
      let ls = and_left (l && s) r p in
      record {
        waiting-in = w;
        silence_in = t.silence_in;
        inhibited-in = t.inhibited-in;
        line-in = line-in (mode_in c) c.line (and_left l s ls);
        sender-in = sender-in c.sender (and_right l s ls);
        reader-in = reader-in (mode_in c) c.reader (and_right (l && s) r p);
      }

  pub core_is : 1 ≤ c.mode → c.mode ≤ 4 → CoreIn c → core_in c ≡ true
  unfolding core_in
  core_is m n i =
      rw (
        le-leb 1 c.mode m,
        le-leb c.mode 4 n,
        le-leb c.silence 300 i.silence_in,
        le-leb c.inhibited 300 i.inhibited-in,
        line-is (mode_in c) c.line i.line-in,
        sender-is c.sender i.sender-in,
        reader-is (mode_in c) c.reader i.reader-in,
      ) refl

-- ---- what a ms starts with

pub settled-by-in : (begins : Bool) (c : Core) (front : ℕ) → CoreIn c → (1 ≤ c.waiting → front < 128)
    → LoadedIn (mode_in c) (settled_by begins c front)
settled-by-in begins c front i h =
    let l = begun begins c.line in
    let b = begun-in (mode_in c) begins c.line i.line-in in
    next-in (mode_in c) l c.sender b i.sender-in c.waiting front h

pub settled-in : (c : Core) (front : ℕ) → CoreIn c → (1 ≤ c.waiting → front < 128)
    → LoadedIn (mode_in c) (settled c front)
unfolding settled
settled-in c front i h = settled-by-in (begins_in c) c front i h

-- one that is taken waits
pub takes-waiting-by : (begins : Bool) (c : Core) (front : ℕ) → (settled_by begins c front).takes ≡ true → 1 ≤ c.waiting
takes-waiting-by begins c front = next-takes (mode_in c) c.waiting front (begun begins c.line) c.sender

pub takes-waiting : (c : Core) (front : ℕ) → (settled c front).takes ≡ true → 1 ≤ c.waiting
unfolding settled
takes-waiting c front = takes-waiting-by (begins_in c) c front

silence-after-in : (silent : Bool) (n : ℕ) → n ≤ 300 → silence_after silent n ≤ 300
unfolding silence_after
silence-after-in false n h = omega arith
silence-after-in true n h = go (ltb n 300) refl
  where
    go : (b : Bool) → ltb n 300 ≡ b → cond b (n + 1) n ≤ 300
    go true e = let l = ltb-true n 300 e in omega arith
    go false e = h

pub core-from-by-in : (ends : Bool) (c : Core) (l : Loaded) (heard : ℕ) → heard ≤ 16 → CoreIn c → LoadedIn (mode_in c) l
    → CoreIn (core_from_by ends c l heard)
core-from-by-in ends c l heard h i j =
    let mode = mode_in c in
    let burst = in_burst l.line in
    let deaf = is_inhibited burst c.inhibited in
    let w = i.waiting-in in
    let n = i.inhibited-in in
    let r = i.reader-in in
    record {
      waiting-in = either (λ (m : ℕ). m ≤ 256) l.takes (c.waiting - 1) c.waiting (omega arith) w;
      silence_in = silence-after-in (is_silent deaf heard) c.silence i.silence_in;
      inhibited-in = either (λ (m : ℕ). m ≤ 300) burst 300 (c.inhibited - 1) (omega arith) (omega arith);
      line-in = closed_in mode ends (one_gone mode l.line) (gone-in mode l.line j.line-in);
      sender-in = j.sender-in;
      reader-in =
          either (ReaderIn mode) deaf (inhibited c.reader) (hear mode c.reader heard).reader
          (inhibited-in mode c.reader r) (hear-in mode c.reader heard h r);
    }

pub core-from-in : (c : Core) (l : Loaded) (heard : ℕ) → heard ≤ 16 → CoreIn c → LoadedIn (mode_in c) l
    → CoreIn (core_from c l heard)
unfolding core_from
core-from-in c l heard h i j = core-from-by-in (ends_in c l) c l heard h i j

pub core-after-in : (c : Core) (front heard : ℕ) → heard ≤ 16 → (1 ≤ c.waiting → front < 128) → CoreIn c
    → CoreIn (core_after c front heard)
core-after-in c front heard h f i = core-from-in c (settled c front) heard h i (settled-in c front i f)
