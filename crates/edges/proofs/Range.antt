-- Reports and edges in range: what question 1 says in facts, and back; that a join and every ms keep it.
use mathlib.Core.Path.{◌≡◌, ◌∙◌, refl, sym, ap, subst}
use mathlib.Core.Logic.{⊎_elim}
use mathlib.Core.Bool.{Bool, true, false, cond, ◌&&◌, and-false}
use Prim.Native.Nat.{ℕ, ◌+◌, ◌-◌, ◌*◌, ◌≤◌, ◌<◌}
use native.Mathlib.Omega.{arith}
use lib.Dec.{T, eqb, leb, ltb}
use lib.IntN.{nat_abs, ◌+ℤ◌}
use borrow.Author.Tests.{eqb-true, eqb-false, leb-true, leb-false, le-leb, lt-leb, ltb-true, lt-ltb, le-ltb}
use Rattle.lists.proofs.Lists.{either, either-by, by-test, and_left, and_right, both}
use Rattle.alphabet.specs.declared.Mode.{Mode}
use Rattle.alphabet.specs.declared.Mode.TheVariants.{Baudot45, Baudot50, Dtmf, Edt}
use Rattle.alphabet.specs.Modes.{element_of, highest_level}
use Rattle.signal.specs.Signal.{quiet}
use Rattle.frames.specs.declared.Frame.{Frame}
use Rattle.frames.specs.code.Bounds.{FrameOf}
use Rattle.frames.specs.Samples.{samples_of}
use Rattle.frames.specs.Frames.{frame_step, frame_next}
use Rattle.frames.proofs.Range.{last-few}
use Rattle.edges.specs.declared.Report.{Report}
use Rattle.edges.specs.declared.Edges.{Edges}
use Rattle.edges.specs.Edges.{report, no_edge, one_edge, smaller, larger, joined, is_edge, displacement, edges, no_edges, with_ms, is_measured, is_code, edges_ms, counted_ms}
use Rattle.edges.specs.Range.{most_edges, is_empty, is_displaced, report_in, edges_in}
use Rattle.edges.specs.code.Bounds.{ReportOf, EdgesOf}
use Rattle.edges.proofs.Places.{next_place}
use Rattle.edges.proofs.Integers.{sum-size, zero_is, smaller-size, larger-size, displacement-size}

-- ---- reports

pub more_of : {m n : ℕ} {r : Report} → m ≤ n → ReportOf m r → ReportOf n r
more_of l h =
    record {
      few = let f = h.few in omega arith;
      sum_in = h.sum_in;
      smallest_in = h.smallest_in;
      largest_in = h.largest_in;
      none = h.none;
    }

pub none_of : (n : ℕ) → ReportOf n no_edge
none_of n =
    record {
      few = omega arith;
      sum_in = omega arith;
      smallest_in = omega arith;
      largest_in = omega arith;
      none = λ e. refl;
    }

pub one_of : (e m : ℕ) → 1 ≤ e → e ≤ 22 → ReportOf 1 (one_edge (displacement e m))
one_of e m o h =
    let s = displacement-size e m o h in
    record { few = omega arith; sum_in = s; smallest_in = s; largest_in = s; none = λ e. absurd (omega arith) }

-- of two reports with edges
both_of : {m n : ℕ} {a b : Report} → ReportOf m a → ReportOf n b → (a.edges ≡ 0 → ⊥)
    → ReportOf (m + n) (report (a.edges + b.edges) (a.sum +ℤ b.sum) (smaller a.smallest b.smallest)
    (larger a.largest b.largest))
both_of {a} {b} h k ne =
    record {
      few = let f = h.few in let g = k.few in omega arith;
      sum_in = let f = h.sum_in in let g = k.sum_in in let s = sum-size a.sum b.sum in omega arith;
      smallest_in = smaller-size 11 a.smallest b.smallest h.smallest_in k.smallest_in;
      largest_in = larger-size 11 a.largest b.largest h.largest_in k.largest_in;
      none = λ e. absurd (ne (omega arith));
    }

pub joined_of : {m n : ℕ} {a b : Report} → ReportOf m a → ReportOf n b → ReportOf (m + n) (joined a b)
unfolding joined
joined_of {m} {n} {a} {b} h k =
    either-by (ReportOf (m + n)) (eqb a.edges 0) (λ e. more_of (omega arith) k)
    (λ e. either-by (ReportOf (m + n)) (eqb b.edges 0) (λ g. more_of (omega arith) h)
    (λ g. both_of h k (eqb-false a.edges 0 e)))

pub joined-edges : (a b : Report) → (joined a b).edges ≡ a.edges + b.edges
unfolding joined
joined-edges a b =
    either-by (λ (r : Report). r.edges ≡ a.edges + b.edges) (eqb a.edges 0)
    (λ e. let z = eqb-true a.edges 0 e in omega arith)
    (λ e. either-by (λ (r : Report). r.edges ≡ a.edges + b.edges) (eqb b.edges 0)
    (λ g. let z = eqb-true b.edges 0 g in omega arith) (λ g. refl))

-- ---- question 1 of a report

module _ (r : Report) where
  pub empty-is : is_empty r ≡ true → r ≡ no_edge
  empty-is t =
      let e = eqb r.edges 0 in
      let s = eqb (nat_abs r.sum) 0 in
      let a = eqb (nat_abs r.smallest) 0 in
      let z = eqb (nat_abs r.largest) 0 in
      let es = and_left (e && s) a (and_left (e && s && a) z t) in
      let pe = eqb-true r.edges 0 (and_left e s es) in
      let ps = zero_is r.sum (eqb-true (nat_abs r.sum) 0 (and_right e s es)) in
      let pa = zero_is r.smallest (eqb-true (nat_abs r.smallest) 0
      (and_right (e && s) a (and_left (e && s && a) z t))) in
      let pz = zero_is r.largest (eqb-true (nat_abs r.largest) 0 (and_right (e && s && a) z t)) in
      λ i. report (pe i) (ps i) (pa i) (pz i)

  displaced-of : (r.edges ≡ 0 → ⊥) → (leb r.edges most_edges && is_displaced r) ≡ true → ReportOf 65_536 r
  displaced-of ne t =
      let m = leb r.edges most_edges in
      let a = leb (nat_abs r.smallest) 11 in
      let z = leb (nat_abs r.largest) 11 in
      let s = leb (nat_abs r.sum) (11 * r.edges) in
      let az = and_left (a && z) s (and_right m (a && z && s) t) in
      record {
        few = leb-true r.edges most_edges (and_left m (a && z && s) t);
        sum_in = leb-true (nat_abs r.sum) (11 * r.edges) (and_right (a && z) s (and_right m (a && z && s) t));
        smallest_in = leb-true (nat_abs r.smallest) 11 (and_left a z az);
        largest_in = leb-true (nat_abs r.largest) 11 (and_right a z az);
        none = λ e. absurd (ne e);
      }

  pub report-in : report_in r ≡ true → ReportOf 65_536 r
  unfolding report_in
  report-in = go (eqb r.edges 0) refl
    where
      go : (t : Bool) → eqb r.edges 0 ≡ t
          → cond t (is_empty r) (leb r.edges most_edges && is_displaced r) ≡ true → ReportOf 65_536 r
      go true e h = subst (ReportOf 65_536) (sym (empty-is h)) (none_of 65_536)
      go false e h = displaced-of (eqb-false r.edges 0 e) h

  pub report-is : ReportOf 65_536 r → report_in r ≡ true
  unfolding report_in
  report-is h = go (eqb r.edges 0) refl
    where
      go : (t : Bool) → eqb r.edges 0 ≡ t
          → cond t (is_empty r) (leb r.edges most_edges && is_displaced r) ≡ true
      go true e = subst (λ (q : Report). is_empty q ≡ true) (sym (h.none (eqb-true r.edges 0 e))) refl
      go false e =
          both (le-leb r.edges most_edges h.few)
          (both
          (both (le-leb (nat_abs r.smallest) 11 h.smallest_in)
          (le-leb (nat_abs r.largest) 11 h.largest_in))
          (le-leb (nat_abs r.sum) (11 * r.edges) h.sum_in))

-- ---- question 1 of edges that wait

pub element-few : (mode : Mode) → element_of mode ≤ 22
element-few Baudot45 = omega arith
element-few Baudot50 = omega arith
element-few Dtmf = omega arith
element-few Edt = omega arith

pub element-some : (mode : Mode) → is_measured mode ≡ true → 1 ≤ element_of mode
element-some mode m = ltb-true 0 (element_of mode) m

pub is-unmeasured : (mode : Mode) → element_of mode ≡ 0 → is_measured mode ≡ false
is-unmeasured mode e = le-ltb 0 (element_of mode) (omega arith)

pub is-measured : (mode : Mode) → (element_of mode ≡ 0 → ⊥) → is_measured mode ≡ true
is-measured mode ne = lt-ltb 0 (element_of mode) (positive (element_of mode) ne)
  where
    positive : (n : ℕ) → (n ≡ 0 → ⊥) → 0 < n
    positive n f = omega (arith, f)

pub level-two : (mode : Mode) → is_measured mode ≡ true → highest_level mode ≡ 2
level-two Baudot45 m = refl
level-two Baudot50 m = refl
level-two Dtmf m = absurd (subst T (sym m) tt)
level-two Edt m = refl

module _ (mode : Mode) (f : Frame) (w : Edges) where
  abbrev none_wait : Bool
  none_wait = is_empty w.seen && eqb w.level quiet

  abbrev some_wait : Bool
  some_wait = report_in w.seen && ltb w.seen.edges (f.place - 1) && leb w.level 2

  pub in-outside : f.place < 2 → edges_in mode f w ≡ none_wait
  unfolding edges_in
  in-outside h = rw (lt-leb 2 f.place h, and-false (is_measured mode)) refl

  pub in-unmeasured : is_measured mode ≡ false → edges_in mode f w ≡ none_wait
  unfolding edges_in
  in-unmeasured m = rw m refl

  pub in-measured : is_measured mode ≡ true → 2 ≤ f.place → edges_in mode f w ≡ some_wait
  unfolding edges_in
  in-measured m h = rw (m, le-leb 2 f.place h, level-two mode m) refl

-- ---- a ms

module _ (mode : Mode) (f : Frame) (w : Edges) (heard : ℕ) where
  abbrev with : Edges
  with = with_ms (element_of mode) (f.place - 1) w heard

  pub edges-measured : is_measured mode ≡ true
      → edges_ms mode f w heard ≡ cond (leb 2 (frame_next (samples_of mode) f heard).place) with no_edges
  unfolding edges_ms
  edges-measured m = rw m refl

  pub counted-measured : is_measured mode ≡ true
      → counted_ms mode f w heard ≡ cond (is_code (frame_step (samples_of mode) f heard).found) with.seen no_edge
  unfolding counted_ms
  counted-measured m = rw m refl

  pub none-counted : is_measured mode ≡ false
      → (counted_ms mode f w heard ≡ no_edge) × (edges_ms mode f w heard ≡ no_edges)
  unfolding edges_ms counted_ms
  none-counted m = (rw m refl, rw m refl)

-- at most 142 edges wait
pub waiting_few : (mode : Mode) (f : Frame) (w : Edges) → FrameOf mode f → EdgesOf mode f w → ReportOf 142 w.seen
waiting_few mode f w h k =
    by-test (is_measured mode)
    (λ m.
    by-test (leb 2 f.place)
    (λ e. more_of (let p = h.place_in in let l = last-few mode in omega arith)
    (k.waiting m (leb-true 2 f.place e)))
    (λ e. subst (λ (v : Edges). ReportOf 142 v.seen) (sym (k.outside (leb-false 2 f.place e))) (none_of 142)))
    (λ m. subst (λ (v : Edges). ReportOf 142 v.seen) (sym (k.unmeasured m)) (none_of 142))

-- ---- what question 1 says of the edges that wait, in facts, and back

module _ (mode : Mode) (f : Frame) (w : Edges) where
  none_is : (is_empty w.seen && eqb w.level quiet) ≡ true → w ≡ no_edges
  none_is t =
      let s = empty-is w.seen (and_left (is_empty w.seen) (eqb w.level quiet) t) in
      let l = eqb-true w.level quiet (and_right (is_empty w.seen) (eqb w.level quiet) t) in
      λ i. edges (s i) (l i)

  -- where none waits they are in range, wherever the reader is
  pub none_in : (is_empty w.seen && eqb w.level quiet) ≡ true → edges_in mode f w ≡ true
  unfolding report_in
  none_in t =
      by-test (is_measured mode)
      (λ m.
      by-test (leb 2 f.place)
      (λ e. let h = leb-true 2 f.place e in in-measured mode f w m h ∙ ap (waits f) (none_is t) ∙ some-ms f h)
      (λ e. in-outside mode f w (leb-false 2 f.place e) ∙ t))
      (λ m. in-unmeasured mode f w m ∙ t)
    where
      waits : Frame → Edges → Bool
      waits f w = report_in w.seen && ltb w.seen.edges (f.place - 1) && leb w.level 2

      some-ms : (f : Frame) → 2 ≤ f.place → waits f no_edges ≡ true
      some-ms f h = ap (λ (b : Bool). b && true) (lt-ltb 0 (f.place - 1) (omega arith))

  pub edges-in : edges_in mode f w ≡ true → EdgesOf mode f w
  edges-in t =
      record {
        waiting = λ m h. seen_of (sym (in-measured mode f w m h) ∙ t);
        level_in = level-of;
        outside = λ h. none_is (sym (in-outside mode f w h) ∙ t);
        unmeasured = λ m. none_is (sym (in-unmeasured mode f w m) ∙ t);
      }
    where
      seen_of : (report_in w.seen && ltb w.seen.edges (f.place - 1) && leb w.level 2) ≡ true
          → ReportOf (f.place - 1 - 1) w.seen
      seen_of e =
          let r = report_in w.seen in
          let n = ltb w.seen.edges (f.place - 1) in
          let rn = and_left (r && n) (leb w.level 2) e in
          let h = report-in w.seen (and_left r n rn) in
          let l = ltb-true w.seen.edges (f.place - 1) (and_right r n rn) in
          record {
            few = omega arith;
            sum_in = h.sum_in;
            smallest_in = h.smallest_in;
            largest_in = h.largest_in;
            none = h.none;
          }

      quiet_of : w ≡ no_edges → w.level ≤ 2
      quiet_of e = subst (λ (v : Edges). v.level ≤ 2) (sym e) (omega arith)

      level-of : w.level ≤ 2
      level-of =
          by-test (is_measured mode)
          (λ m.
          by-test (leb 2 f.place)
          (λ e.
          leb-true w.level 2
          (and_right (report_in w.seen && ltb w.seen.edges (f.place - 1)) (leb w.level 2)
          (sym (in-measured mode f w m (leb-true 2 f.place e)) ∙ t)))
          (λ e. quiet_of (none_is (sym (in-outside mode f w (leb-false 2 f.place e)) ∙ t))))
          (λ m. quiet_of (none_is (sym (in-unmeasured mode f w m) ∙ t)))

  pub edges-is : FrameOf mode f → EdgesOf mode f w → edges_in mode f w ≡ true
  edges-is h k =
      by-test (is_measured mode)
      (λ m.
      by-test (leb 2 f.place)
      (λ e. let l = leb-true 2 f.place e in in-measured mode f w m l ∙ waits m l)
      (λ e. in-outside mode f w (leb-false 2 f.place e) ∙ no-wait (k.outside (leb-false 2 f.place e))))
      (λ m. in-unmeasured mode f w m ∙ no-wait (k.unmeasured m))
    where
      no-wait : w ≡ no_edges → (is_empty w.seen && eqb w.level quiet) ≡ true
      no-wait e = subst (λ (v : Edges). (is_empty v.seen && eqb v.level quiet) ≡ true) (sym e) refl

      waits : is_measured mode ≡ true → 2 ≤ f.place
          → (report_in w.seen && ltb w.seen.edges (f.place - 1) && leb w.level 2) ≡ true
      waits m l =
          let s = k.waiting m l in
          let p = h.place_in in
          let q = last-few mode in
          let n = s.few in
          both
          (both (report-is w.seen (more_of (omega arith) s))
          (lt-ltb w.seen.edges (f.place - 1) (omega arith)))
          (le-leb w.level 2 k.level_in)

-- ---- every ms keeps it

-- a ms adds at most one edge
pub with-ms-of : {n : ℕ} (e m : ℕ) (w : Edges) (heard : ℕ) → 1 ≤ e → e ≤ 22 → ReportOf n w.seen
    → ReportOf (n + 1) (with_ms e m w heard).seen
unfolding with_ms
with-ms-of {n} e m w heard o h k =
    either (ReportOf (n + 1)) (is_edge w.level heard) (joined w.seen (one_edge (displacement e m))) w.seen
    (joined_of k (one_of e m o h)) (more_of (omega arith) k)

-- the first ms of a frame has none
pub with_first : (e m heard : ℕ) → (with_ms e m no_edges heard).seen ≡ no_edge
unfolding with_ms is_edge
with_first e m heard = refl

module _ (mode : Mode) (f : Frame) (w : Edges) (heard : ℕ) where
  abbrev next : Frame
  next = frame_next (samples_of mode) f heard

  abbrev added : Edges
  added = with_ms (element_of mode) (f.place - 1) w heard

  pub edges-on : is_measured mode ≡ true → 2 ≤ next.place → edges_ms mode f w heard ≡ added
  edges-on m l = edges-measured mode f w heard m ∙ ap (λ (t : Bool). cond t added no_edges) (le-leb 2 next.place l)

  pub edges-out : next.place < 2 → edges_ms mode f w heard ≡ no_edges
  unfolding edges_ms
  edges-out l = rw (lt-leb 2 next.place l, and-false (is_measured mode)) refl

  -- in the first ms of a frame, in a later one, in either
  added-first : w ≡ no_edges → added.seen ≡ no_edge
  added-first e =
      ap (λ (v : Edges). (with_ms (element_of mode) (f.place - 1) v heard).seen) e
      ∙ with_first (element_of mode) (f.place - 1) heard

  added-later : {n : ℕ} → is_measured mode ≡ true → ReportOf n w.seen → ReportOf (n + 1) added.seen
  added-later m h = with-ms-of (element_of mode) (f.place - 1) w heard (element-some mode m) (element-few mode) h

  added_of : is_measured mode ≡ true → EdgesOf mode f w → 2 ≤ next.place → ReportOf (next.place - 1 - 1) added.seen
  added_of m k l =
      ⊎_elim
      (λ z.
      let v = k.outside (let p = z.0 in omega arith) in
      subst (ReportOf (next.place - 1 - 1)) (sym (added-first v)) (none_of (next.place - 1 - 1)))
      (λ g. more_of (let p = g.1 in let q = g.0 in omega arith) (added-later m (k.waiting m g.0)))
      (next_place (samples_of mode) f heard (le-leb 2 next.place l))

  level-of : heard ≤ highest_level mode → (edges_ms mode f w heard).level ≤ 2
  unfolding edges_ms with_ms
  level-of l =
      either-by (λ (v : Edges). v.level ≤ 2) (is_measured mode && leb 2 next.place)
      (λ t. let q = level-two mode (and_left (is_measured mode) (leb 2 next.place) t) in omega arith)
      (λ t. omega arith)

  pub kept : EdgesOf mode f w → heard ≤ highest_level mode → EdgesOf mode next (edges_ms mode f w heard)
  kept k l =
      record {
        waiting = λ m h.
            subst (λ (v : Edges). ReportOf (next.place - 1 - 1) v.seen) (sym (edges-on m h)) (added_of m k h);
        level_in = level-of l;
        outside = edges-out;
        unmeasured = λ m. (none-counted mode f w heard m).1;
      }

  -- at most 143 edges count at once
  pub counted_of : FrameOf mode f → EdgesOf mode f w → ReportOf 143 (counted_ms mode f w heard)
  counted_of h k =
      by-test (is_measured mode)
      (λ m.
      subst (ReportOf 143) (sym (counted-measured mode f w heard m))
      (either (ReportOf 143) (is_code (frame_step (samples_of mode) f heard).found) added.seen no_edge
      (added-later m (waiting_few mode f w h k)) (none_of 143)))
      (λ m. subst (ReportOf 143) (sym (none-counted mode f w heard m).0) (none_of 143))
