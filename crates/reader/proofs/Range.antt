-- A reader in range: what question 1 says in facts, and that every step keeps it.
use mathlib.Core.Path.{◌≡◌, refl}
use mathlib.Core.Bool.{Bool, true, false, cond, ◌&&◌, ◌||◌}
use Prim.Native.Nat.{ℕ, ◌+◌, ◌-◌, ◌*◌, ◌<◌, ◌≤◌}
use native.Mathlib.Omega.{arith}
use lib.Dec.{eqb, leb, ltb}
use borrow.Author.Tests.{eqb-true, leb-true, ltb-true, le-leb}
use Rattle.lists.proofs.Lists.{either, and_left, and_right}
use Rattle.alphabet.specs.declared.Alphabet.{Alphabet}
use Rattle.alphabet.specs.declared.Alphabet.TheVariants.{Baudot, Edt as edt}
use Rattle.alphabet.specs.declared.Mode.{Mode}
use Rattle.alphabet.specs.declared.Mode.TheVariants.{Baudot45, Baudot50, Dtmf, Edt}
use Rattle.alphabet.specs.declared.Reads.{Reads}
use Rattle.alphabet.specs.declared.Reads.TheVariants.{Shift}
use Rattle.alphabet.specs.Baudot.{read_baudot}
use Rattle.alphabet.specs.Dtmf.{with_mark}
use Rattle.alphabet.specs.Normal.{reads}
use Rattle.baudot.specs.Reading.{shift_by}
use Rattle.frames.specs.declared.Found.{Found}
use Rattle.frames.specs.declared.Found.TheVariants.{Nothing, Fault, Code}
use Rattle.frames.specs.Samples.{samples_of}
use Rattle.frames.specs.Frames.{frame_step}
use Rattle.alphabet.specs.Modes.{frame_codes}
use Rattle.frames.specs.code.Bounds.{Framed}
use Rattle.frames.specs.Range.{frame_in}
use Rattle.frames.proofs.Range.{frame-in, frame_is, next-in}
use Rattle.keys.specs.Keys.{key_step}
use Rattle.keys.specs.Range.{keys_in}
use Rattle.keys.proofs.Range.{keys_ranged, keys-are, ready-in, key-step-in}
use Rattle.reader.specs.declared.Reader.{Reader}
use Rattle.reader.specs.Reader.{fresh, found_shift, prefix_after, after_frame, hear, inhibited}
use Rattle.reader.specs.code.Bounds.{ReaderIn}
use Rattle.reader.specs.Range.{reader_in}

-- question 1 in facts, and back
pub reader-in : (mode : Mode) (r : Reader) → reader_in mode r ≡ true → ReaderIn mode r
reader-in mode r e =
    let a = frame_in mode r.frame in
    let b = keys_in r.keys in
    let c = leb 1 r.shift in
    let d = leb r.shift 2 in
    let p = leb r.prefix 15 in
    let abcd = and_left (a && b && c && d) p e in
    let abc = and_left (a && b && c) d abcd in
    let ab = and_left (a && b) c abc in
    record {
      frame-in = frame-in mode r.frame (and_left a b ab);
      keys_ranged = keys_ranged r.keys (and_right a b ab);
      shift_low = leb-true 1 r.shift (and_right (a && b) c abc);
      shift_in = leb-true r.shift 2 (and_right (a && b && c) d abcd);
      prefix_in = leb-true r.prefix 15 (and_right (a && b && c && d) p e);
    }

pub reader-is : (mode : Mode) (r : Reader) → ReaderIn mode r → reader_in mode r ≡ true
reader-is mode r h =
    rw (
      frame_is mode r.frame h.frame-in,
      keys-are r.keys h.keys_ranged,
      le-leb 1 r.shift h.shift_low,
      le-leb r.shift 2 h.shift_in,
      le-leb r.prefix 15 h.prefix_in,
    ) refl

-- a shift that is read is letters or figures
abbrev ShiftIn : ℕ → Type 0
ShiftIn s = (1 ≤ s) × (s ≤ 2)

baudot-shift : (shift n : ℕ) → ShiftIn shift → ShiftIn (shift_by shift (reads Baudot shift n))
unfolding reads read_baudot
baudot-shift shift n h =
    let P : Reads → Type 0 = λ (r : Reads). ShiftIn (shift_by shift r) in
    either P (eqb n 0b11111) (Shift 1) _ (omega arith, omega arith)
    (either P (eqb n 0b11011) (Shift 2) _ (omega arith, omega arith) h)

edt-shift : (shift n : ℕ) → ShiftIn shift → ShiftIn (shift_by shift (reads edt shift n))
unfolding reads
edt-shift shift n h = h

found-shift : (a : Alphabet) → ((shift n : ℕ) → ShiftIn shift → ShiftIn (shift_by shift (reads a shift n)))
    → (shift : ℕ) (f : Found) → ShiftIn shift → ShiftIn (found_shift a shift f)
found-shift a law shift Nothing h = h
found-shift a law shift (Fault cause ms) h = h
found-shift a law shift (Code k) h = law shift k.0 h

-- the prefix
mark-in : (p k : ℕ) → (eqb k 11 || eqb k 12) ≡ true → with_mark p k ≤ 15
unfolding with_mark
mark-in p k t = go (ltb p 7) refl (eqb k 11) refl
  where
    go : (b : Bool) → ltb p 7 ≡ b → (c : Bool) → eqb k 11 ≡ c → cond (ltb p 7) (2 * p + (k - 10)) 15 ≤ 15
    go true e true f = let a = ltb-true p 7 e in let g = eqb-true k 11 f in rw e (omega arith)
    go true e false f =
        let a = ltb-true p 7 e in
        let u : eqb k 12 ≡ true = rw f at t in
        let g = eqb-true k 12 u in
        rw e (omega arith)
    go false e c f = rw e (omega arith)

pub prefix-step-in : (p k : ℕ) → p ≤ 15 → prefix_after p k ≤ 15
unfolding prefix_after
prefix-step-in p k h = go (eqb k 0) (eqb k 11 || eqb k 12) refl
  where
    go : (a b : Bool) → (eqb k 11 || eqb k 12) ≡ b → cond a p (cond b (with_mark p k) 0) ≤ 15
    go true b e = h
    go false true e = mark-in p k e
    go false false e = omega arith

-- fresh is in range
pub fresh_in : (mode : Mode) → ReaderIn mode fresh
fresh_in mode = record {
  frame-in = record { place_in = omega arith; digits_in = some mode };
  keys_ranged = ready-in;
  shift_low = omega arith;
  shift_in = omega arith;
  prefix_in = omega arith;
}
  where
    some : (m : Mode) → 0 < frame_codes m
    some Baudot45 = omega arith
    some Baudot50 = omega arith
    some Dtmf = omega arith
    some Edt = omega arith

-- a reader of frames after a ms
framed : (mode : Mode) → Framed mode → (a : Alphabet)
    → ((shift n : ℕ) → ShiftIn shift → ShiftIn (shift_by shift (reads a shift n)))
    → (r : Reader) (x : ℕ) → ReaderIn mode r
    → ReaderIn mode (after_frame a r (frame_step (samples_of mode) r.frame x)).reader
framed mode t a law r x h =
    let s = found-shift a law r.shift (frame_step (samples_of mode) r.frame x).found (h.shift_low, h.shift_in) in
    record {
      frame-in = next-in mode t r.frame x h.frame-in;
      keys_ranged = h.keys_ranged;
      shift_low = s.0;
      shift_in = s.1;
      prefix_in = h.prefix_in;
    }

-- every ms keeps a reader in range
pub hear-in : (mode : Mode) (r : Reader) (x : ℕ) → x ≤ 16 → ReaderIn mode r → ReaderIn mode (hear mode r x).reader
unfolding hear
hear-in Baudot45 r x l h = framed Baudot45 tt Baudot baudot-shift r x h
hear-in Baudot50 r x l h = framed Baudot50 tt Baudot baudot-shift r x h
hear-in Dtmf r x l h = record {
  frame-in = h.frame-in;
  keys_ranged = key-step-in r.keys x l h.keys_ranged;
  shift_low = h.shift_low;
  shift_in = h.shift_in;
  prefix_in = prefix-step-in r.prefix (key_step r.keys x).key h.prefix_in;
}
hear-in Edt r x l h = framed Edt tt edt edt-shift r x h

pub inhibited-in : (mode : Mode) (r : Reader) → ReaderIn mode r → ReaderIn mode (inhibited r)
unfolding inhibited
inhibited-in mode r h = record {
  frame-in = (fresh_in mode).frame-in;
  keys_ranged = key-step-in r.keys 0 (omega arith) h.keys_ranged;
  shift_low = h.shift_low;
  shift_in = h.shift_in;
  prefix_in = h.prefix_in;
}
