-- A ms adds at most one edge, to those that wait or to those that count, and keeps reports in range.
use mathlib.Core.Path.{◌≡◌, refl, sym, subst}
use mathlib.Core.Bool.{Bool, true, false, cond}
use mathlib.Core.List.{List}
use Prim.Native.Nat.{ℕ, ◌+◌, ◌-◌, ◌≤◌, ◌<◌}
use native.Mathlib.Omega.{arith}
use lib.Dec.{T, eqb, leb}
use borrow.Author.Tests.{lt-leb}
use Rattle.lists.proofs.Lists.{either, by-test}
use Rattle.alphabet.specs.declared.Mode.{Mode}
use Rattle.alphabet.specs.Modes.{element_of}
use Rattle.signal.specs.Signal.{parity_of}
use Rattle.frames.specs.declared.Cause.TheVariants.{Quiet, StopNotMark, OddParity}
use Rattle.frames.specs.declared.Frame.{Frame}
use Rattle.frames.specs.declared.Found.TheVariants.{Nothing, Code}
use Rattle.frames.specs.declared.FrameRead.{FrameRead}
use Rattle.frames.specs.Samples.{Sample, None, Start, Digit, Parity, Stop, Last, Placed, sample_at, samples_of}
use Rattle.frames.specs.Frames.{in_frame, hunting, waiting, gives, goes_on, faulty, with_digit, parity_heard, sampled, frame_step, frame_next, frame_found}
use Rattle.frames.proofs.Range.{tested}
use Rattle.edges.specs.declared.Report.{Report}
use Rattle.edges.specs.declared.Edges.{Edges}
use Rattle.edges.specs.Edges.{no_edge, no_edges, one_edge, joined, is_edge, displacement, with_ms, is_measured, is_code, edges_ms, counted_ms}
use Rattle.edges.specs.code.Bounds.{ReportOf}
use Rattle.edges.proofs.Range.{none_of, one_of, joined_of, joined-edges, element-few, element-some, edges-measured, counted-measured, none-counted}

-- ---- a code ends its frame

abbrev Ends : FrameRead → Type 0
Ends r = is_code r.found ≡ true → r.frame.place < 2

no_code : {p : ℕ} → false ≡ true → p < 2
no_code t = absurd (subst T (sym t) tt)

sampled-ends : (k : Sample) (m digits heard : ℕ) → Ends (sampled k m digits heard)
unfolding sampled
sampled-ends None m digits heard = no_code
sampled-ends Start m digits heard = either Ends (eqb heard 2) (goes_on m digits) (gives hunting Nothing) no_code no_code
sampled-ends (Digit top) m digits heard =
    either Ends (eqb heard 0) (faulty Quiet m) (goes_on m (with_digit top digits heard)) no_code no_code
sampled-ends Parity m digits heard =
    tested Ends m heard (eqb (parity_of digits) (parity_heard heard)) (goes_on m digits) OddParity no_code no_code
    no_code
sampled-ends Stop m digits heard =
    tested Ends m heard (eqb heard 1) (goes_on m digits) StopNotMark no_code no_code no_code
sampled-ends Last m digits heard =
    tested Ends m heard (eqb heard 1) (gives hunting (Code (record { 0 = digits }))) StopNotMark no_code no_code
    (λ t. omega arith)

-- a code is found in a frame only, and ends it
pub code-ends : (samples : List Placed) (f : Frame) (heard : ℕ) → Ends (frame_step samples f heard)
unfolding frame_step
code-ends samples f heard =
    let m = f.place - 1 in
    let s = sampled (sample_at samples m) m f.digits heard in
    let w = gives (cond (eqb heard 2) waiting hunting) Nothing in
    either Ends (eqb f.place 0) (gives (cond (eqb heard 2) (in_frame 1 0) hunting) Nothing)
    (cond (eqb f.place 1) w s) no_code
    (either Ends (eqb f.place 1) w s no_code (sampled-ends (sample_at samples m) m f.digits heard))

-- ---- one ms adds at most one edge

pub with-more : (e m : ℕ) (w : Edges) (x : ℕ) → (with_ms e m w x).seen.edges ≤ w.seen.edges + 1
unfolding with_ms
with-more e m w x =
    either (λ (r : Report). r.edges ≤ w.seen.edges + 1) (is_edge w.level x)
    (joined w.seen (one_edge (displacement e m))) w.seen
    (let j = joined-edges w.seen (one_edge (displacement e m)) in omega arith) (omega arith)

module _ (mode : Mode) (f : Frame) (w : Edges) (x : ℕ) where
  abbrev with : Edges
  with = with_ms (element_of mode) (f.place - 1) w x

  abbrev found : Bool
  found = is_code (frame_found (samples_of mode) f x)

  abbrev place : ℕ
  place = (frame_next (samples_of mode) f x).place

  waits-or-counts : (b c : Bool) → (b ≡ true → c ≡ false)
      → (cond b with.seen no_edge).edges + (cond c with no_edges).seen.edges ≤ w.seen.edges + 1
  waits-or-counts true true h = absurd (subst T (h refl) tt)
  waits-or-counts true false h = let l = with-more (element_of mode) (f.place - 1) w x in omega arith
  waits-or-counts false true h = let l = with-more (element_of mode) (f.place - 1) w x in omega arith
  waits-or-counts false false h = omega arith

  pub ms-more : (counted_ms mode f w x).edges + (edges_ms mode f w x).seen.edges ≤ w.seen.edges + 1
  ms-more =
      by-test (is_measured mode)
      (λ m. rw (counted-measured mode f w x m, edges-measured mode f w x m)
      (waits-or-counts found (leb 2 place) (λ t. lt-leb 2 place (code-ends (samples_of mode) f x t))))
      (λ m. let n = none-counted mode f w x m in rw (n.0, n.1) (omega arith))

-- ---- reports stay in range

-- a report in range, however many edges it has
abbrev pub Fine : Report → Type 0
Fine r = ReportOf r.edges r

pub fine_of : {n : ℕ} {r : Report} → ReportOf n r → Fine r
fine_of h = record {
  few = omega arith;
  sum_in = h.sum_in;
  smallest_in = h.smallest_in;
  largest_in = h.largest_in;
  none = h.none;
}

pub fine-joined : {a b : Report} → Fine a → Fine b → Fine (joined a b)
fine-joined h k = fine_of (joined_of h k)

module _ (e m : ℕ) (some : 1 ≤ e) (few : e ≤ 22) where
  pub with-fine : (w : Edges) (x : ℕ) → Fine w.seen → Fine (with_ms e m w x).seen
  unfolding with_ms
  with-fine w x h =
      either Fine (is_edge w.level x) (joined w.seen (one_edge (displacement e m))) w.seen
      (fine-joined h (one_of e m some few)) h

module _ (mode : Mode) where
  pub ms-fine : (f : Frame) (w : Edges) (x : ℕ) → Fine w.seen
      → Fine (counted_ms mode f w x) × Fine (edges_ms mode f w x).seen
  ms-fine f w x h =
      by-test (is_measured mode)
      (λ m.
      let l = with-fine (element_of mode) (f.place - 1) (element-some mode m) (element-few mode) w x h in (
        rw (counted-measured mode f w x m)
            (either Fine (found mode f w x) (with mode f w x).seen no_edge l (none_of 0)),
        rw (edges-measured mode f w x m)
            (either (λ (v : Edges). Fine v.seen) (leb 2 (place mode f w x)) (with mode f w x) no_edges l (none_of 0)),
      ))
      (λ m. let n = none-counted mode f w x m in (rw n.0 (none_of 0), rw n.1 (none_of 0)))
