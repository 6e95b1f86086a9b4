-- The levels of a code, element by element or key by key.
use mathlib.Core.Path.{◌≡◌, ◌∙◌, refl, sym, ap}
use mathlib.Core.Bool.{Bool, true, false, cond}
use mathlib.Core.List.{List, ◌∷◌}
use Prim.Native.Nat.{ℕ, zero, suc, ◌+◌, ◌-◌, ◌/◌, ◌%◌, ◌^◌, ◌≤◌, ◌<◌}
use native.Mathlib.Omega.{arith}
use lib.Dec.{eqb, ltb}
use lib.ListN.{length, get_or, take, replicate}
use borrow.Rule.Slice.PartMut.{put_mid}
use Rattle.std.specs.List.{between}
use borrow.Author.Tests.{eqb-false, ltb-true, ltb-false, not-true}
use Rattle.lists.specs.Tables.{tabulate}
use Rattle.alphabet.specs.declared.Mode.{Mode}
use Rattle.alphabet.specs.declared.Mode.TheVariants.{Baudot45, Baudot50, Dtmf, Edt}
use Rattle.alphabet.specs.Dtmf.{keys_of}
use Rattle.alphabet.specs.Modes.{alphabet_of, codes, longest}
use Rattle.signal.specs.Signal.{level_of, signal}
use Rattle.signal.proofs.Levels.{test-22, test-20, baudot-at, edt-at, keys_on, keys-off}
use Rattle.signal.proofs.Lengths.{baudot-165, baudot-150, edt-100, within-longest}
use Rattle.burst.specs.declared.OnLine.{OnLine}
use Rattle.burst.specs.Line.{further, in_burst, part_ms}
use Rattle.burst.proofs.Laws.{level-preamble, level-code}
use Rattle.signal_runs.specs.code.Levels.{code_level, part_level, even_ms, element_at, element_end, frame_of, frame_level, Run, Framed}
use Rattle.alphabet.proofs.Ranges.{few-codes}
use Rattle.signal_runs.proofs.Parts.{longest-480}
use Rattle.signal_runs.proofs.Filling.{tabulate-level, part-length, level_more}

-- ---- keys

pub even-some : (at : ℕ) → 1 ≤ even_ms at
unfolding even_ms
even-some at = go (ltb (at % 120) 70) refl
  where
    go : (b : Bool) → ltb (at % 120) 70 ≡ b → 1 ≤ cond b (70 - at % 120) (120 - at % 120)
    go true e = let l = ltb-true (at % 120) 70 e in omega arith
    go false e = omega arith

pub even-same : (k at j : ℕ) → j < even_ms at → code_level Dtmf k at j ≡ get_or (signal Dtmf k) at 0
unfolding even_ms signal
even-same k at j = go (ltb (at % 120) 70) refl
  where
    go : (b : Bool) → ltb (at % 120) 70 ≡ b → j < cond b (70 - at % 120) (120 - at % 120)
        → code_level Dtmf k at j ≡ get_or (signal Dtmf k) at 0
    go true e m =
        let o = ltb-true (at % 120) 70 e in
        let q : (at + j) / 120 ≡ at / 120 = omega arith in
        keys_on (keys_of k) (at + j) (omega arith) ∙ ap (λ (i : ℕ). get_or (keys_of k) i 0) q
        ∙ sym (keys_on (keys_of k) at o)
    go false e m =
        let o = ltb-false (at % 120) 70 e in
        keys-off (keys_of k) (at + j) (omega arith) ∙ sym (keys-off (keys_of k) at o)

-- ---- frames

pub framed-45 : Framed Baudot45
unfolding signal frame_of element_at
framed-45 = record {
  level = λ (k m : ℕ) (h : k < 32) (l : m < length (signal Baudot45 k)).
      let n = baudot-165 k in
      baudot-at 22 165 test-22 k h m (omega arith);
  few = λ (m : ℕ) (h : m < 165). omega arith;
}

pub framed-50 : Framed Baudot50
unfolding signal frame_of element_at
framed-50 = record {
  level = λ (k m : ℕ) (h : k < 32) (l : m < length (signal Baudot50 k)).
      let n = baudot-150 k in
      baudot-at 20 150 test-20 k h m (omega arith);
  few = λ (m : ℕ) (h : m < 150). omega arith;
}

pub framed-edt : Framed Edt
unfolding signal frame_of element_at
framed-edt = record {
  level = λ (k m : ℕ) (h : k < 128) (l : m < length (signal Edt k)). let n = edt-100 k in edt-at k m h (omega arith);
  few = λ (m : ℕ) (h : m < 100). omega arith;
}

-- the ms of an element
pub element-next : (mode : Mode) (j : ℕ) → element_at mode (element_end mode j) ≡ j + 1
unfolding element_at element_end
element-next Baudot45 j = omega arith
element-next Baudot50 j = omega arith
element-next Dtmf j = omega arith
element-next Edt j = omega arith

-- the ms up to the end of an element, and the elements to which they belong
element-before : (mode : Mode) (m j : ℕ) → element_at mode m ≤ j → m < element_end mode j
unfolding element_at element_end
element-before Baudot45 m j h = omega arith
element-before Baudot50 m j h = omega arith
element-before Dtmf m j h = omega arith
element-before Edt m j h = omega arith

element-within : (mode : Mode) (m j : ℕ) → m < element_end mode j → element_at mode m ≤ j
unfolding element_at element_end
element-within Baudot45 m j h = omega arith
element-within Baudot50 m j h = omega arith
element-within Dtmf m j h = omega arith
element-within Edt m j h = omega arith

element-later : (mode : Mode) (m k : ℕ) → m ≤ k → element_at mode m ≤ element_at mode k
unfolding element_at
element-later Baudot45 m k h = omega arith
element-later Baudot50 m k h = omega arith
element-later Dtmf m k h = omega arith
element-later Edt m k h = omega arith

-- ---- parts

tabulate-as : (f g : ℕ → ℕ) (n a : ℕ) → ((k : ℕ) → k < a + n → f k ≡ g k) → tabulate f n a ≡ tabulate g n a
unfolding tabulate
tabulate-as f g zero a h = refl
tabulate-as f g (suc n) a h =
    let rest = tabulate-as f g n (suc a) (λ (k : ℕ) (l : k < suc a + n). h k (omega arith)) in
    let o = h a (omega arith) in
    λ j. o j ∷ rest j

pub level-same : (n i level : ℕ) → tabulate (λ (k : ℕ). level) n i ≡ replicate n level
level-same n i level = tabulate-level (λ (k : ℕ). level) level n i (λ (k : ℕ) (a : i ≤ k) (b : k < i + n). refl)

module _ (mode : Mode) (l : OnLine) (n : ℕ) (h : l.at + n ≤ length (part_ms mode l)) where
  pub preamble-levels : l.part ≡ 1 → replicate n 1 ≡ tabulate (part_level mode l) n 0
  unfolding part_ms
  preamble-levels e =
      sym (tabulate-as (part_level mode l) (λ (k : ℕ). 1) n 0
      (λ (k : ℕ) (g : k < 0 + n). level-preamble mode (further l k) e (omega arith)) ∙ level-same n 0 1)

  pub code-levels : l.part ≡ 2 → tabulate (code_level mode l.code.0 l.at) n 0 ≡ tabulate (part_level mode l) n 0
  code-levels e =
      sym (tabulate-as (part_level mode l) (code_level mode l.code.0 l.at) n 0
      (λ (k : ℕ) (g : k < 0 + n). level-code mode (further l k) e))

-- no code is longer than four keys
pub record Short (mode : Mode) (k : ℕ) : Type 0 where
  pub longest : length (signal mode k) ≤ longest mode
  pub most : length (signal mode k) ≤ 480

pub short : (mode : Mode) (k : ℕ) → k < codes (alphabet_of mode) → Short mode k
short mode k h =
    let f = few-codes (alphabet_of mode) in
    let l = longest-480 mode in
    let w = within-longest mode k (omega arith) in
    record { longest = w; most = omega arith }

-- a part in a burst that is not the preamble is a code
pub code-part : (l : OnLine) → l.part ≤ 2 → in_burst l ≡ true → (l.part ≡ 1 → ⊥) → l.part ≡ 2
code-part l h b n = let z = eqb-false l.part 0 (not-true (eqb l.part 0) b) in omega arith

-- in a frame's levels, those of a code
pub frame-levels : (mode : Mode) → Framed mode → (code at n : ℕ) → code < codes (alphabet_of mode)
    → at + n ≤ length (signal mode code)
    → tabulate (frame_level mode (frame_of mode code) at) n 0 ≡ tabulate (code_level mode code at) n 0
frame-levels mode framed code at n h fits =
    tabulate-as (frame_level mode (frame_of mode code) at) (code_level mode code at) n 0
    (λ (k : ℕ) (g : k < 0 + n). sym (framed.level code (at + k) h (omega arith)))

-- ---- the loop that writes a frame: what is written, and the element of the next ms

pub record Framing (mode : Mode) (frame at : ℕ) (sent : List ℕ) (i j : ℕ) : Type 0 where
  pub within : i ≤ length sent
  pub written : take i sent ≡ tabulate (frame_level mode frame at) i 0
  pub element : i < length sent → j ≡ element_at mode (at + i)

module _ (mode : Mode) (frame at : ℕ) (sent : List ℕ) (i j : ℕ) (p : Framing mode frame at sent i j)
    (g : i < length sent) where
  pub element-few : Framed mode → at + length sent ≤ longest mode → j < 16
  element-few framed fits = rw (p.element g) (framed.few (at + i) (omega arith))

  module _ (last : ℕ) (r : Run frame j last) where
    pub ends-later : at + i < element_end mode last
    ends-later = let q = p.element g in let low = r.low in element-before mode (at + i) last (omega arith)

    module _ (end : ℕ) (low : i ≤ end) (high : end ≤ length sent) (few : at + end ≤ element_end mode last)
        (full : end < length sent → at + end ≡ element_end mode last) where
      even : (k : ℕ) → i ≤ k → k < end → frame_level mode frame at k ≡ level_of (frame / 2 ^ j % 2)
      even k a b =
          let q = p.element g in
          let after = element-later mode (at + i) (at + k) (omega arith) in
          r.same (element_at mode (at + k)) (omega arith) (element-within mode (at + k) last (omega arith))

      pub framing-turn : (level : ℕ) → level ≡ level_of (frame / 2 ^ j % 2)
          → (new : List ℕ) → new ≡ replicate (length (between i end sent)) level
          → Framing mode frame at (put_mid i (end - i) sent new) end (last + 1)
      framing-turn level el new e =
          let size = part-length sent i end low high level new e in
          record {
            within = omega arith;
            written =
                level_more sent i end low high level new e (frame_level mode frame at) p.written
                (λ (k : ℕ) (a : i ≤ k) (b : k < end). even k a b ∙ sym el);
            element = λ (l : end < length (put_mid i (end - i) sent new)).
                sym (element-next mode last) ∙ ap (element_at mode) (sym (full (omega arith)));
          }

-- ---- the loop over elements of one level

module _ (frame j k : ℕ) where
  pub run-start : j < 16 → k ≡ j → Run frame j k
  run-start h e = record {
    low = omega arith;
    high = omega arith;
    same = λ (n : ℕ) (a : j ≤ n) (b : n ≤ k).
        let z : n ≡ j = omega arith in
        ap (λ (q : ℕ). level_of (frame / 2 ^ q % 2)) z;
  }

  pub run-turn : Run frame j k → k < 15 → level_of (frame / 2 ^ (k + 1) % 2) ≡ level_of (frame / 2 ^ j % 2)
      → Run frame j (k + 1)
  run-turn r h e = record {
    low = let low = r.low in omega arith;
    high = omega arith;
    same = λ (n : ℕ) (a : j ≤ n) (b : n ≤ k + 1). go n a b (ltb n (k + 1)) refl;
  }
    where
      go : (n : ℕ) → j ≤ n → n ≤ k + 1 → (b : Bool) → ltb n (k + 1) ≡ b
          → level_of (frame / 2 ^ n % 2) ≡ level_of (frame / 2 ^ j % 2)
      go n a b true f = let l = ltb-true n (k + 1) f in r.same n a (omega arith)
      go n a b false f =
          let l = ltb-false n (k + 1) f in
          let z : n ≡ k + 1 = omega arith in
          ap (λ (q : ℕ). level_of (frame / 2 ^ q % 2)) z ∙ e
