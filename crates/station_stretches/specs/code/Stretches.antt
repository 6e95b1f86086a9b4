-- A run in stretches, each of which does what its ms do one after the other.
use Rattle.std.specs.Prelude.{ℕ, ◌+◌, ◌-◌, ◌≤◌, ◌<◌, ◌≡◌, List, length, take, drop}
use Rattle.std.proofs.lemmas.List.Edits.{sets}
use Rattle.half_duplex.specs.declared.Core.{Core}
use Rattle.station.specs.Station.{station, station_after, sent_by, words_by}
use Rattle.station_stretches.specs.declared.Stretched.{Stretched}

-- The ms of a list from a place to another.
abbrev pub between : ℕ → ℕ → List ℕ → List ℕ
between i to heard = take (to - i) (drop i heard)

-- Where the ms end in which no burst may begin.
pub record Free (waiting silence i len to : ℕ) : Type 0 where
  pub low : i < to
  pub high : to ≤ len
  pub free : 1 ≤ waiting → silence + (to - i) ≤ 300

-- From the place i on, with words from n on: the stretch x, and the sent ms and the words after it. Which characters
-- are taken follows from how many wait (station/proofs/Takings.antt).
pub record Stretches (heard : List ℕ) (c : Core) (chars sent₀ words₀ : List ℕ) (i n : ℕ)
    (x : Stretched) (sent₁ words₁ : List ℕ) : Type 0 where
  pub low : i < x.at
  pub high : x.at ≤ length heard
  pub after : x.core ≡ (station_after (station c chars) (between i x.at heard)).core
  pub sent : sent₁ ≡ sets sent₀ i (sent_by (station c chars) (between i x.at heard))
  pub place : x.words ≡ n + length (words_by (station c chars) (between i x.at heard))
  pub words : words₁ ≡ sets words₀ n (words_by (station c chars) (between i x.at heard))
