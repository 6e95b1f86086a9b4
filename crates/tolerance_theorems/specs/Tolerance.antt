-- Document 02, #111: a reader that is hunting when a Baudot burst of its mode arrives gives the same codes when every
-- edge of that burst is moved by up to 4 ms either way, each on its own.
use Rattle.std.specs.Prelude.{ℕ, ◌*◌, ◌≤◌, ◌<◌, true, List, ◌≡◌}
use Rattle.alphabet.specs.declared.Alphabet.TheVariants.{Baudot}
use Rattle.alphabet.specs.declared.Mode.{Mode}
use Rattle.alphabet.specs.declared.Mode.TheVariants.{Baudot45, Baudot50}
use Rattle.alphabet.specs.Modes.{alphabet_of, element_of}
use Rattle.baudot.specs.Reading.{all_codes}
use Rattle.signal.specs.Signal.{quiet}
use Rattle.frames.specs.Samples.{baudot_samples}
use Rattle.frames.specs.Frames.{hunting}
use Rattle.reader.specs.declared.Reader.{Reader}
use Rattle.tolerance_theorems.specs.Edges.{Edge, edges, EachDisplaced, Moved, Drawn}
use Rattle.tolerance_theorems.specs.Bursts.{on_quiet, burst, burst_at, ReadAs, HeardAs}

-- The law: for any element e, and displacements of up to d where 4 d < e.
abbrev pub Law : Type 0
Law =
    (e d before preamble_ms after : ℕ) (ks ys : List ℕ) → 2 ≤ e → 4 * d < e → 1 ≤ preamble_ms → all_codes ks ≡ true
    → Moved d (on_quiet before (burst_at e preamble_ms ks) after) ys → ReadAs (baudot_samples e) hunting ys ks hunting

-- A mode bears displacements of up to d: where every edge of a burst is moved by up to d, a reader that hunts hears the
-- burst's codes.
abbrev pub Bears : Mode → ℕ → Type 0
Bears mode d =
    (before after : ℕ) (ks ys : List ℕ) (r : Reader) → all_codes ks ≡ true → r.frame ≡ hunting
    → Moved d (on_quiet before (burst mode ks) after) ys → HeardAs mode r ys ks

-- What the request asks for.
abbrev pub Request : Type 0
Request = (mode : Mode) → alphabet_of mode ≡ Baudot → Bears mode 4

-- The burst itself is among those whose edges are moved by up to d, so the codes are the same.
abbrev pub Unmoved : Type 0
Unmoved = (d : ℕ) (xs : List ℕ) → Moved d xs xs

-- No choice of displacements is left out: wherever each edge of a burst is put, within d ms of its place, there are ms
-- with just these edges.
abbrev pub EveryChoice : Type 0
EveryChoice =
    (mode : Mode) (d before after : ℕ) (ks : List ℕ) (fs : List Edge) → alphabet_of mode ≡ Baudot
    → 2 * d < element_of mode → EachDisplaced d (edges 0 quiet (on_quiet before (burst mode ks) after)) fs → Drawn fs

-- The most that a mode bears: so much, and no more.
pub record Most (mode : Mode) (most : ℕ) : Type 0 where
  pub bears : (d : ℕ) → d ≤ most → Bears mode d
  pub no_more : (d : ℕ) → most < d → Bears mode d → ⊥

-- Elements of 22 ms bear 5, elements of 20 ms the 4 of the request.
abbrev pub Limits : Type 0
Limits = Most Baudot45 5 × Most Baudot50 4
