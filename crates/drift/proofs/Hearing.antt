-- A station that only listens counts the edges that the frames of its reader count.
use mathlib.Core.Path.{◌≡◌, ◌∙◌, refl, sym, ap, subst}
use mathlib.Core.Bool.{Bool, true, false, cond}
use mathlib.Core.List.{List, [], ◌∷◌}
use Prim.Native.Nat.{ℕ}
use lib.Dec.{T}
use Rattle.lists.specs.Steps.{state_after, outputs}
use Rattle.alphabet.specs.declared.Mode.{Mode}
use Rattle.alphabet.specs.declared.Mode.TheVariants.{Baudot45, Baudot50, Dtmf, Edt}
use Rattle.frames.specs.Samples.{samples_of}
use Rattle.frames.specs.Frames.{frame_next}
use Rattle.edges.specs.declared.Report.{Report}
use Rattle.edges.specs.Edges.{no_edge, joined, is_measured, edges_ms, counted_ms}
use Rattle.edges.specs.code.Measuring.{report_over}
use Rattle.edges.proofs.Range.{none-counted}
use Rattle.edges.proofs.Joining.{joined-none}
use Rattle.reader.specs.declared.Reader.{Reader}
use Rattle.reader.specs.Reader.{hear}
use Rattle.half_duplex.specs.Core.{mode_in, inhibited_in, core_from}
use Rattle.station.specs.declared.Measured.{Measured}
use Rattle.station.specs.Station.{front, station_ms}
use Rattle.station.specs.Measured.{station_of, waiting_ms, counted_in, measured_ms, report_after}
use Rattle.station.specs.Listening.{Listens}
use Rattle.station.proofs.Listening.{ms-reader, not-inhibited, still-listens}

-- the frame after a ms that is heard, in a mode that is measured
pub hear-frame : (mode : Mode) → is_measured mode ≡ true → (r : Reader) (heard : ℕ)
    → (hear mode r heard).reader.frame ≡ frame_next (samples_of mode) r.frame heard
unfolding hear
hear-frame Baudot45 m r heard = refl
hear-frame Baudot50 m r heard = refl
hear-frame Dtmf m r heard = absurd (subst T (sym m) tt)
hear-frame Edt m r heard = refl

module _ (x : Measured) (heard : ℕ) (free : inhibited_in x.core (front (station_of x)) ≡ false) where
  pub counted-free : counted_in x heard ≡ counted_ms (mode_in x.core) x.core.reader.frame x.edges heard
  unfolding counted_in
  counted-free = rw free refl

  pub waiting-free : waiting_ms x heard ≡ edges_ms (mode_in x.core) x.core.reader.frame x.edges heard
  unfolding waiting_ms
  waiting-free = rw free refl

pub hears-all : (x : Measured) (r : Report) (heard : List ℕ) → Listens (station_of x)
    → is_measured (mode_in x.core) ≡ true
    → report_after x r heard ≡ report_over (mode_in x.core) x.core.reader.frame x.edges r heard
unfolding state_after outputs report_over measured_ms station_ms core_from
hears-all x r [] l m = refl
hears-all x r (h ∷ hs) l m =
    let mode = mode_in x.core in
    let free = not-inhibited (station_of x) l in
    let frame = ap (λ (q : Reader). q.frame) (ms-reader (station_of x) h free)
    ∙ hear-frame mode m x.core.reader h in
    let c = counted-free x h free in
    let w = waiting-free x h free in
    hears-all (measured_ms x h) (joined r (counted_in x h)) hs (still-listens (station_of x) l h) m
    ∙ (λ j. report_over mode (frame j) (w j) (joined r (c j)) hs)

-- in a mode that is not measured none counts
none-counts : (x : Measured) (heard : ℕ) → is_measured (mode_in x.core) ≡ false → counted_in x heard ≡ no_edge
unfolding counted_in
none-counts x heard m = go (inhibited_in x.core (front (station_of x)))
  where
    go : (b : Bool)
        → cond b no_edge (counted_ms (mode_in x.core) x.core.reader.frame x.edges heard) ≡ no_edge
    go true = refl
    go false = (none-counted (mode_in x.core) x.core.reader.frame x.edges heard m).0

pub unmeasured-report : (x : Measured) (r : Report) (heard : List ℕ) → is_measured (mode_in x.core) ≡ false
    → (r.edges ≡ 0 → r ≡ no_edge) → report_after x r heard ≡ r
unfolding state_after outputs measured_ms station_ms core_from
unmeasured-report x r [] m n = refl
unmeasured-report x r (h ∷ hs) m n =
    ap (λ (q : Report). report_after (measured_ms x h) q hs) (ap (joined r) (none-counts x h m) ∙ joined-none r n)
    ∙ unmeasured-report (measured_ms x h) r hs m n
