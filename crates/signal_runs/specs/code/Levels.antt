-- The levels of a part, from a ms of it on.
use Rattle.std.specs.Prelude.{ℕ, ◌+◌, ◌-◌, ◌*◌, ◌/◌, ◌%◌, ◌^◌, ◌≤◌, ◌<◌, ◌≡◌, cond, ltb, length, get_or}
use Rattle.alphabet.specs.declared.Mode.{Mode}
use Rattle.alphabet.specs.declared.Mode.TheVariants.{Baudot45, Baudot50, Dtmf, Edt}
use Rattle.alphabet.specs.Modes.{alphabet_of, codes, longest}
use Rattle.signal.specs.Signal.{quiet, level_of, signal}
use Rattle.signal.specs.code.Packing.{edt_frame}
use Rattle.burst.specs.declared.OnLine.{OnLine}
use Rattle.burst.specs.Line.{further, level_on}

abbrev pub code_level : Mode → ℕ → ℕ → ℕ → ℕ
code_level mode code at k = get_or (signal mode code) (at + k) quiet

abbrev pub part_level : Mode → OnLine → ℕ → ℕ
part_level mode l k = level_on mode (further l k)

-- Up to the end of a DTMF key, or of the quiet behind it.
unfoldable pub even_ms : ℕ → ℕ
even_ms at = cond (ltb (at % 120) 70) (70 - at % 120) (120 - at % 120)

-- The element of a frame to which a ms belongs, the ms behind an element, and a frame as a number, the first element
-- lowest. DTMF has no frames.
unfoldable pub element_at : Mode → ℕ → ℕ
element_at Baudot45 m = m / 22
element_at Baudot50 m = m / 20
element_at Dtmf m = m
element_at Edt m = 11 * m / 100

unfoldable pub element_end : Mode → ℕ → ℕ
element_end Baudot45 j = 22 * (j + 1)
element_end Baudot50 j = 20 * (j + 1)
element_end Dtmf j = j + 1
element_end Edt j = (100 * (j + 1) + 10) / 11

unfoldable pub frame_of : Mode → ℕ → ℕ
frame_of Baudot45 code = 192 + 2 * code
frame_of Baudot50 code = 192 + 2 * code
frame_of Dtmf code = 0
frame_of Edt code = edt_frame code

-- The levels of a frame.
abbrev pub frame_level : Mode → ℕ → ℕ → ℕ → ℕ
frame_level mode frame at k = level_of (frame / 2 ^ element_at mode (at + k) % 2)

-- The elements of a frame from one up to another have one level.
pub record Run (frame j last : ℕ) : Type 0 where
  pub low : j ≤ last
  pub high : last < 16
  pub same : (k : ℕ) → j ≤ k → k ≤ last → level_of (frame / 2 ^ k % 2) ≡ level_of (frame / 2 ^ j % 2)

-- A mode whose codes are sent in frames.
pub record Framed (mode : Mode) : Type 0 where
  pub level : (code m : ℕ) → code < codes (alphabet_of mode) → m < length (signal mode code)
      → get_or (signal mode code) m quiet ≡ level_of (frame_of mode code / 2 ^ element_at mode m % 2)
  pub few : (m : ℕ) → m < longest mode → element_at mode m < 16
