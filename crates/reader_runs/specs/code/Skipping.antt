-- Ms that end in nothing: what is left behind them ends in what was left before them.
use Rattle.std.specs.Prelude.{ℕ, ◌≤◌, ◌≡◌, List, length, drop}
use Rattle.alphabet.specs.declared.Mode.{Mode}
use Rattle.reader.specs.declared.Reader.{Reader}
use Rattle.reader.specs.code.Bounds.{ReaderIn}
use Rattle.reader.specs.Words.{reader_after, words}
use Rattle.reader_runs.specs.declared.Skipped.{Skipped}

pub record Skips (mode : Mode) (heard : List ℕ) (r : Reader) (i : ℕ) (s : Skipped) : Type 0 where
  pub low : i ≤ s.to
  pub high : s.to ≤ length heard
  pub ranged : ReaderIn mode s.reader
  pub reader : reader_after mode s.reader (drop s.to heard) ≡ reader_after mode r (drop i heard)
  pub words : words mode s.reader (drop s.to heard) ≡ words mode r (drop i heard)
