-- The loop over the frames: the reader and the report so far.
use mathlib.Core.Path.{◌≡◌, ◌∙◌, refl, sym, ap, subst}
use mathlib.Core.Bool.{Bool, true, false, cond}
use mathlib.Core.List.{List, [], ◌∷◌, ◌++◌}
use Prim.Native.Nat.{ℕ, zero, suc, ◌+◌, ◌-◌, ◌≤◌, ◌<◌}
use native.Mathlib.Omega.{arith}
use lib.Dec.{T, ltb}
use lib.ListN.{length, get_or, take, length-take}
use lib.Seq.{take-add, take_all}
use borrow.Author.Tests.{ltb-true, ltb-false}
use Rattle.lists.specs.Steps.{state_after}
use Rattle.lists.proofs.Steps.{after-append}
use Rattle.alphabet.specs.declared.Mode.{Mode}
use Rattle.alphabet.specs.declared.Mode.TheVariants.{Baudot45, Baudot50, Dtmf, Edt}
use Rattle.alphabet.specs.Modes.{element_of}
use Rattle.frames.specs.declared.Frame.{Frame}
use Rattle.frames.specs.declared.FrameRead.{FrameRead}
use Rattle.frames.specs.Samples.{Placed, samples_of}
use Rattle.frames.specs.Frames.{frame_step, frame_next, frame_found, frame_after}
use Rattle.frames.specs.code.Bounds.{Framed, FrameOf}
use Rattle.frames.proofs.Range.{next-in, place-255}
use Rattle.frames_runs.specs.declared.Walk.{Walk}
use Rattle.frames_runs.specs.code.Passing.{frame_at}
use Rattle.frames_runs.proofs.Walking.{part}
use Rattle.edges.specs.declared.Report.{Report}
use Rattle.edges.specs.declared.Edges.{Edges}
use Rattle.edges.specs.Edges.{no_edge, no_edges, joined, with_ms, is_measured, going_on, ending, edges_ms, counted_ms}
use Rattle.edges.specs.code.Bounds.{ReportOf, EdgesOf}
use Rattle.edges.specs.code.Measuring.{edges_over, report_over}
use Rattle.edges.proofs.Range.{more_of, waiting_few, counted-measured, element-few, element-some}
use Rattle.edges_runs.specs.declared.Ended.{Ended}
use Rattle.edges_runs.specs.code.Latest.{Goes}
use Rattle.edges_runs.specs.code.Counting.{Clean, clean_digits, Reached, EndsSo, EndedAt, EndsNone, with_code, CountOf}
use Rattle.edges_runs.proofs.Reading.{report-append, goes_over, walks-after, walks-report}
use Rattle.edges.proofs.Bound.{fine_of}
use Rattle.edges_runs.proofs.Bound.{report-most, report-fine}
use Rattle.edges_runs.proofs.Sampling.{clean-next, reached-clean, code-in, take_next}

-- ---- a reader whose digits are as they are to be

abbrev pub cleaned : Frame → Frame
cleaned f = frame_at f.place (clean_digits f)

clean_step : (mode : Mode) (place digits x : ℕ) → ltb place 2 ≡ true
    → frame_step (samples_of mode) (frame_at place digits) x ≡ frame_step (samples_of mode) (frame_at place 0) x
unfolding frame_step
clean_step mode zero digits x t = refl
clean_step mode (suc zero) digits x t = refl
clean_step mode (suc (suc place)) digits x t = let l = ltb-true (suc (suc place)) 2 t in absurd (omega arith)

-- a ms, by what its step gives
module _ (mode : Mode) (place x : ℕ) (w : Edges) (r : Report) (xs : List ℕ) where
  abbrev with : Edges
  with = with_ms (element_of mode) (place - 1) w x

  abbrev then : FrameRead → Report
  then q =
      report_over mode q.frame (cond (going_on mode q) with no_edges)
      (joined r (cond (ending mode q) with.seen no_edge)) xs

  same_step : (d d' : ℕ)
      → frame_step (samples_of mode) (frame_at place d) x ≡ frame_step (samples_of mode) (frame_at place d') x
      → report_over mode (frame_at place d) w r (x ∷ xs) ≡ report_over mode (frame_at place d') w r (x ∷ xs)
  unfolding report_over edges_ms counted_ms
  same_step d d' e = ap then e

same_digits : (mode : Mode) (place d d' : ℕ) (w : Edges) (r : Report) (xs : List ℕ)
    → ((x : ℕ) → frame_step (samples_of mode) (frame_at place d) x ≡ frame_step (samples_of mode) (frame_at place d') x)
    → report_over mode (frame_at place d) w r xs ≡ report_over mode (frame_at place d') w r xs
unfolding report_over
same_digits mode place d d' w r [] h = refl
same_digits mode place d d' w r (x ∷ xs) h = same_step mode place x w r xs d d' (h x)

pub cleaned-report : (mode : Mode) (f : Frame) (w : Edges) (r : Report) (xs : List ℕ)
    → report_over mode f w r xs ≡ report_over mode (cleaned f) w r xs
cleaned-report mode f w r xs = go (ltb f.place 2) refl
  where
    go : (b : Bool) → ltb f.place 2 ≡ b
        → report_over mode f w r xs ≡ report_over mode (frame_at f.place (cond b 0 f.digits)) w r xs
    go true t = same_digits mode f.place f.digits 0 w r xs (λ x. clean_step mode f.place f.digits x t)
    go false t = refl

pub cleaned-clean : (f : Frame) → Clean (cleaned f)
cleaned-clean f = go (ltb f.place 2) refl
  where
    go : (b : Bool) → ltb f.place 2 ≡ b → Clean (frame_at f.place (cond b 0 f.digits))
    go true t l = refl
    go false t l = let m = ltb-false f.place 2 t in absurd (omega arith)

pub cleaned-in : (mode : Mode) (f : Frame) → FrameOf mode f → FrameOf mode (cleaned f)
cleaned-in mode f h = go (ltb f.place 2)
  where
    go : (b : Bool) → FrameOf mode (frame_at f.place (cond b 0 f.digits))
    go true = record { place_in = h.place_in; digits_in = let d = h.digits_in in omega arith }
    go false = h

pub measured-framed : (mode : Mode) → is_measured mode ≡ true → Framed mode
measured-framed Baudot45 m = tt
measured-framed Baudot50 m = tt
measured-framed Dtmf m = absurd (subst T (sym m) tt)
measured-framed Edt m = tt

-- ---- the loop

-- what a call of the loop is given, with a reader whose digits are as they are to be
pub record Given (mode : Mode) (f : Frame) (w : Edges) (r : Report) (heard : List ℕ) : Type 0 where
  pub measured : is_measured mode ≡ true
  pub frame : FrameOf mode f
  pub edges : EdgesOf mode f w
  pub report : ReportOf 70_000 r
  pub short : length heard ≤ 4_096

-- before ms i the reader is at a place, with some digits and the report so far
pub record At (mode : Mode) (f : Frame) (w : Edges) (r : Report) (heard : List ℕ) (place digits i : ℕ) (report : Report)
    : Type 0 where
  pub given : Given mode f w r heard
  pub within : i ≤ length heard
  pub ranged : FrameOf mode (frame_at place digits)
  pub clean : Clean (frame_at place digits)
  pub frame : frame_after (samples_of mode) (cleaned f) (take i heard) ≡ frame_at place digits
  pub report-is : report_over mode (cleaned f) w r (take i heard) ≡ report

take_on : (heard : List ℕ) (i to : ℕ) → i ≤ to → take to heard ≡ take i heard ++ part heard i to
take_on heard i to l =
    let z : to ≡ i + (to - i) = omega arith in
    ap (λ (n : ℕ). take n heard) z ∙ take-add i (to - i) heard

module _ (mode : Mode) (f : Frame) (w : Edges) (r : Report) (heard : List ℕ) (g : Given mode f w r heard) where
  abbrev ss : List Placed
  ss = samples_of mode

  abbrev e : ℕ
  e = element_of mode

  pub at-start : At mode f w r heard f.place (clean_digits f) 0 r
  unfolding state_after report_over
  at-start = record {
    given = g;
    within = omega arith;
    ranged = cleaned-in mode f g.frame;
    clean = cleaned-clean f;
    frame = refl;
    report-is = refl;
  }

  -- the report so far is in range
  so_far : (i : ℕ) → i ≤ length heard → ReportOf 1_000_000 (report_over mode (cleaned f) w r (take i heard))
  so_far i l =
      let a = waiting_few mode f w g.frame g.edges in
      let n = a.few in
      let m = g.report.few in
      let s = g.short in
      let k : length (take i heard) ≤ i = rw length-take (omega arith) in
      let most = report-most mode (cleaned f) w r (take i heard) in
      more_of (omega arith) (report-fine mode (cleaned f) w r (take i heard) (fine_of a) (fine_of g.report))

  module _ (place digits i : ℕ) (report : Report) (a : At mode f w r heard place digits i report) where
    report-in : ReportOf 1_000_000 report
    report-in = subst (ReportOf 1_000_000) a.report-is (so_far i a.within)

    -- up to the ms that ends a frame
    module _ (k : Frame) (to : ℕ) (h : Reached mode heard (frame_at place digits) i k to) where
      at-reached : At mode f w r heard k.place k.digits to report
      at-reached =
          let ps = part heard i to in
          let c = take_on heard i to h.low in
          let at = edges_over mode (cleaned f) w (take i heard) in
          record {
            given = g;
            within = h.high;
            ranged = h.ranged;
            clean = reached-clean mode heard (frame_at place digits) i k to a.clean h;
            frame =
                ap (frame_after ss (cleaned f)) c
                ∙ after-append (frame_next ss) (frame_found ss) (cleaned f) (take i heard) ps
                ∙ ap (λ (g : Frame). frame_after ss g ps) a.frame
                ∙ walks-after mode (frame_at place digits) k ps h.walks;
            report-is =
                ap (report_over mode (cleaned f) w r) c
                ∙ report-append mode (cleaned f) w r (take i heard) ps
                ∙ (λ t. report_over mode (a.frame t) at (a.report-is t) ps)
                ∙ walks-report mode (frame_at place digits) k at report ps report-in.none h.walks;
          }

    at-end : i ≡ length heard → report ≡ report_over mode f w r heard
    at-end z =
        sym a.report-is
        ∙ ap (report_over mode (cleaned f) w r) (take_all i heard (omega arith))
        ∙ sym (cleaned-report mode f w r heard)

    at-counts : i < length heard → CountOf e w heard i report
    at-counts l = record {
      some = element-some mode g.measured;
      few = element-few mode;
      inside = l;
      short = g.short;
      waiting = more_of (omega arith) (waiting_few mode f w g.frame g.edges);
      report = report-in;
    }

  -- the ms that ends a frame, with whatever edges wait before it
  module _ (k : Frame) (p : Ended) (report : Report) (a : At mode f w r heard k.place k.digits p.to report)
      (l : p.to < length heard) where
    abbrev before : List ℕ
    before = take p.to heard

    abbrev x : ℕ
    x = get_or heard p.to 0

    abbrev v : Edges
    v = edges_over mode (cleaned f) w before

    module _ (h : EndsSo mode k x p) where
      place-few : p.place < 255
      place-few = subst (λ (n : ℕ). n < 255) h.place (place-255 mode k a.ranged)

      code_inside : p.code ≡ true → 2 ≤ p.place
      code_inside t = subst (λ (n : ℕ). 2 ≤ n) h.place (code-in ss k.place k.digits x (h.code ∙ t))

      goes-here : Goes e f.place w before p.place v
      goes-here =
          subst (λ (n : ℕ). Goes e f.place w before n v) (ap (λ (g : Frame). g.place) a.frame ∙ h.place)
          (goes_over mode g.measured (cleaned f) w before g.edges.outside)

      module _ (q : Report)
          (all : (u : Edges) → Goes e f.place w before p.place u
          → q ≡ with_code e p.place u x p.code report) where
        counted-here : joined report (counted_ms mode k v x) ≡ q
        counted-here =
            ap (joined report) (counted-measured mode k v x g.measured)
            ∙ (λ t. with_code e (h.place t) v x (h.code t) report)
            ∙ sym (all v goes-here)

        at_ended : At mode f w r heard p.next 0 (p.to + 1) q
        unfolding state_after report_over
        at_ended =
            let n = h.next in
            let c = take_next heard p.to l in
            record {
              given = g;
              within = omega arith;
              ranged =
                  subst (FrameOf mode) n
                  (next-in mode (measured-framed mode g.measured) k x a.ranged);
              clean = subst Clean n (clean-next ss k x);
              frame =
                  ap (frame_after ss (cleaned f)) c
                  ∙ after-append (frame_next ss) (frame_found ss) (cleaned f) before (x ∷ [])
                  ∙ ap (λ (y : Frame). frame_next ss y x) a.frame
                  ∙ n;
              report-is =
                  ap (report_over mode (cleaned f) w r) c
                  ∙ report-append mode (cleaned f) w r before (x ∷ [])
                  ∙ (λ t. joined (a.report-is t) (counted_ms mode (a.frame t) v x))
                  ∙ counted-here;
            }

-- from a walk to the ms that ends the next frame
module _ (mode : Mode) (f : Frame) (w : Edges) (r : Report) (heard : List ℕ) (walk : Walk) (report : Report)
    (a : At mode f w r heard walk.place walk.digits walk.to report) (p : Ended) (h : EndedAt mode heard walk p)
  where
    before-end : At mode f w r heard h.frame.place h.frame.digits p.to report
    before-end = at-reached mode f w r heard a.given walk.place walk.digits walk.to report a h.frame p.to h.reached

    pub end-counts : (e : ℕ) → e ≡ element_of mode → CountOf e w heard p.to report
    end-counts e n = rw n (at-counts mode f w r heard a.given _ _ _ report before-end h.inside)

    pub end-few : p.place < 255
    end-few = place-few mode f w r heard a.given h.frame p report before-end h.inside h.ends

    pub end-code : p.code ≡ true → 2 ≤ p.place
    end-code = code_inside mode f w r heard a.given h.frame p report before-end h.inside h.ends

    pub behind-end : (e : ℕ) → e ≡ element_of mode → (q : Report)
        → ((u : Edges) → Goes e f.place w (take p.to heard) p.place u
        → q ≡ with_code e p.place u (get_or heard p.to 0) p.code report)
        → At mode f w r heard p.next 0 (p.to + 1) q
    behind-end e n q all = at_ended mode f w r heard a.given h.frame p report before-end h.inside h.ends q (rw n at all)

-- no frame ends
pub at-last : (mode : Mode) (f : Frame) (w : Edges) (r : Report) (heard : List ℕ) (walk : Walk) (report : Report)
    → At mode f w r heard walk.place walk.digits walk.to report → EndsNone mode heard walk
    → report ≡ report_over mode f w r heard
at-last mode f w r heard walk report a h =
    at-end mode f w r heard a.given _ _ _ report
    (at-reached mode f w r heard a.given walk.place walk.digits walk.to report a h.frame (length heard) h.reached) refl
