-- Drift: the edges change nothing, each entry keeps the range, displacements, runs that are cut in two, and the rest.
use mathlib.Core.Path.{◌≡◌, ◌∙◌, refl, sym, ap, subst}
use mathlib.Core.Bool.{Bool, true, false, cond, ◌&&◌}
use mathlib.Core.List.{List, [], ◌∷◌, ◌++◌}
use Prim.Native.Nat.{ℕ, zero, suc, ◌+◌, ◌*◌, ◌-◌, ◌/◌, ◌%◌, ◌≤◌, ◌<◌}
use native.Mathlib.Nat.{mod-lt, div-add-mod, mul-le-mul_left, mul-add}
use native.Mathlib.Omega.{arith}
use lib.Dec.{T, eqb, leb}
use lib.IntN.{ℤ, pos, negsuc, ◌-ℤ◌, +ℤ_comm, +ℤ-neg_ℤ_cancel}
use lib.ListN.{length}
use lib.Signed.{◌≤ℤ◌, le_z_yes}
use borrow.Author.Tests.{eqb-true, leb-true, leb-false, le-leb, lt-ltb}
use Rattle.lists.specs.Lists.{all_at_most}
use Rattle.lists.specs.Steps.{state_after, outputs}
use Rattle.lists.proofs.Lists.{either-by, by-test, and_left}
use Rattle.alphabet.specs.declared.Alphabet.TheVariants.{Baudot}
use Rattle.alphabet.specs.declared.Mode.{Mode}
use Rattle.alphabet.specs.declared.Mode.TheVariants.{Baudot45, Baudot50, Dtmf, Edt}
use Rattle.alphabet.specs.Modes.{alphabet_of, highest_level}
use Rattle.edges.specs.declared.Edges.{Edges}
use Rattle.edges.specs.declared.Report.{Report}
use Rattle.edges.specs.Edges.{no_edge, no_edges, joined, displacement, is_measured}
use Rattle.edges.specs.Range.{report_in}
use Rattle.edges.proofs.Range.{report-in, report-is, none_of, none-counted}
use Rattle.edges.proofs.Joining.{joined-none}
use Rattle.half_duplex.specs.Core.{mode_in, inhibited_in, core_from}
use Rattle.station.specs.declared.Measured.{Measured}
use Rattle.station.specs.Station.{mode_of_station, front, station_ms, words_by}
use Rattle.station.specs.Measured.{station_of, waiting_ms, counted_in, measured_ms, measured_after, report_after}
use Rattle.station.specs.Range.{measured_in}
use Rattle.station.specs.Entries.{StationRan, run_answer, ran, ran_of}
use Rattle.station.proofs.Edged.{station-after, measured-in}
use Rattle.station.proofs.Kept.{open_in, offer-in, run_in, runs}
use Rattle.station.proofs.Reports.{report-kept, plain-few, measured-append, report-append, first_runs, second_runs}
use Rattle.station_theorems.specs.Drift.{EdgesChangeNothing, OpenInRange, OfferInRange, RunInRange, ReportInRange, NoEdgeInRange}
use Rattle.station_theorems.specs.Drift.{At22, At20, FromNearest, ToNearest}
use Rattle.station_theorems.specs.Drift.{CutInTwo, RunCutInTwo, OnlyInBaudot, Never18}

-- ---- the edges change nothing

pub edges-change-nothing : EdgesChangeNothing
edges-change-nothing x heard = station-after x heard

-- ---- each entry keeps the range

pub open-in-range : OpenInRange
open-in-range mode = open_in mode

pub offer-in-range : OfferInRange
offer-in-range x text full i = offer-in x text full i

pub run-in-range : RunInRange
run-in-range x r heard sent_room word_room full i = run_in x r heard sent_room word_room full i

-- a run that succeeds gives what its ms do
module _ (x : Measured) (r : Report) (heard : List ℕ) (sent_room word_room : ℕ) where
  pub ran-done : run_answer x r heard sent_room word_room ≡ 0
      → ran_of x r heard sent_room word_room
      ≡ ran (measured_after x heard) (report_after x r heard) 0 (length (words_by (station_of x) heard))
  unfolding ran_of
  ran-done z = rw z refl

pub report-in-range : ReportInRange
unfolding ran_of
report-in-range x r heard sent_room word_room q =
    let answer = run_answer x r heard sent_room word_room in
    either-by (λ (k : StationRan). report_in k.report ≡ true) (eqb answer 0)
    (λ e.
    let k = runs x r heard sent_room word_room (eqb-true answer 0 e) in
    report-kept x r heard k.ranged q (leb-true (report_after x r heard).edges 65_536 k.edges_few))
    (λ e. q)

pub no-edge-in-range : NoEdgeInRange
no-edge-in-range = report-is no_edge (none_of 65_536)

-- ---- how large a displacement is

module _ (e late : ℕ) (l : late < suc e) where
  early-is : pos late -ℤ pos (suc e) ≡ negsuc (e - late)
  early-is = rw (lt-ltb late (suc e) l) (ap negsuc (omega arith))

-- with an element of e + 1 ms: at most `early` + 1 before the multiple, and at most `late` behind it
module _ (e m : ℕ) where
  abbrev behind : ℕ
  behind = m % suc e

  short-of : behind < suc e
  short-of = mod-lt m (omega arith)

  from : (early : ℕ) → e ≤ 2 * early + 3 → negsuc early ≤ℤ displacement (suc e) m
  unfolding displacement
  from early h =
      either-by (λ (z : ℤ). negsuc early ≤ℤ z) (leb (2 * behind) (suc e)) (λ t. le_z_yes tt)
      (λ t.
      let g = leb-false (2 * behind) (suc e) t in
      let s = short-of in
      let few : e - behind ≤ early = omega arith in
      subst (λ (z : ℤ). negsuc early ≤ℤ z) (sym (early-is e behind s))
      (le_z_yes (subst T (sym (le-leb (e - behind) early few)) tt)))

  up-to-late : (late : ℕ) → e ≤ 2 * late → displacement (suc e) m ≤ℤ pos late
  unfolding displacement
  up-to-late late h =
      either-by (λ (z : ℤ). z ≤ℤ pos late) (leb (2 * behind) (suc e))
      (λ t.
      let g = leb-true (2 * behind) (suc e) t in
      let few : behind ≤ late = omega arith in
      le_z_yes (subst T (sym (le-leb behind late few)) tt))
      (λ t. subst (λ (z : ℤ). z ≤ℤ pos late) (sym (early-is e behind short-of)) (le_z_yes tt))

pub at-22 : At22
unfolding displacement
at-22 = record {
  not-below = λ m. from 21 m _ (omega arith);
  not_above = λ m. up-to-late 21 m _ (omega arith);
  lowest_at = 12;
  lowest = refl;
  highest_at = 11;
  highest = refl;
}

pub at-20 : At20
unfolding displacement
at-20 = record {
  not-below = λ m. from 19 m _ (omega arith);
  not_above = λ m. up-to-late 19 m _ (omega arith);
  lowest_at = 11;
  lowest = refl;
  highest_at = 10;
  highest = refl;
}

-- ---- how near it is

-- a sum less a part of it
take-away : (a b : ℕ) → pos (a + b) -ℤ pos a ≡ pos b
take-away a b = ap (λ (z : ℤ). z -ℤ pos a) (+ℤ_comm (pos a) (pos b)) ∙ +ℤ-neg_ℤ_cancel (pos b) (pos a)

-- two differences that are below zero and as large
same-early : (a b c d : ℕ) → a < b → c < d → b - a ≡ d - c → pos a -ℤ pos b ≡ pos c -ℤ pos d
same-early a zero c d h k e = absurd (omega arith)
same-early a (suc b) c zero h k e = absurd (omega arith)
same-early a (suc b) c (suc d) h k e =
    early-is b a h ∙ ap negsuc (omega arith) ∙ sym (early-is d c k)

-- a multiple is up to k times the element, or from the next on
module _ (e k j : ℕ) where
  up_to : j ≤ k → e * j ≤ e * k
  up_to h = mul-le-mul_left e h

  before : j < k → e * j + e ≤ e * k
  before h =
      let l : e * (j + 1) ≤ e * k = mul-le-mul_left e (omega arith) in
      let d = mul-add e j 1 in
      omega arith

module _ (e m : ℕ) (some : 1 ≤ e) where
  abbrev late : ℕ
  late = m % e

  abbrev k : ℕ
  k = m / e

  parts : e * k + late ≡ m
  parts = div-add-mod m e

  short : late < e
  short = mod-lt m some

  next : e * (k + 1) ≡ e * k + e
  next = let d = mul-add e k 1 in omega arith

  -- the multiple before, if it is no farther than the next
  late-from : 2 * late ≤ e → displacement e m ≡ pos late → FromNearest e m
  late-from h is =
      let p = parts in
      record {
        times = k;
        less = is ∙ sym (ap (λ (n : ℕ). pos n -ℤ pos (e * k)) (sym p) ∙ take-away (e * k) late);
        nearest = λ j.
            by-test (leb j k)
            (λ t. let u = up_to e k j (leb-true j k t) in omega arith)
            (λ t. let u = before e j k (leb-false j k t) in omega arith);
        on_a_tie = λ j s.
            by-test (leb k j)
            (λ t. let g = leb-true k j t in omega arith)
            (λ t. let u = before e k j (leb-false k j t) in absurd (omega arith));
      }

  -- else the next
  early-to : e < 2 * late → displacement e m ≡ pos late -ℤ pos e → FromNearest e m
  early-to h is =
      let p = parts in
      let s = short in
      let n = next in
      record {
        times = k + 1;
        less = is ∙ same-early late e m (e * (k + 1)) s (omega arith) (omega arith);
        nearest = λ j.
            by-test (leb j k)
            (λ t. let u = up_to e k j (leb-true j k t) in omega arith)
            (λ t. let g = leb-false j k t in let u = up_to e j (k + 1) (omega arith) in omega arith);
        on_a_tie = λ j q.
            by-test (leb j k)
            (λ t. let u = up_to e k j (leb-true j k t) in absurd (omega arith))
            (λ t. let g = leb-false j k t in omega arith);
      }

pub to-nearest : ToNearest
unfolding displacement
to-nearest e m some =
    by-test (leb (2 * (m % e)) e)
    (λ t. late-from e m some (leb-true (2 * (m % e)) e t) (rw t refl))
    (λ t. early-to e m some (leb-false (2 * (m % e)) e t) (rw t refl))

-- ---- a run that is cut in two

pub cut-in-two : CutInTwo
cut-in-two x r xs ys = record { station = measured-append x xs ys; report = report-append x r xs ys }

pub run-cut-in-two : RunCutInTwo
run-cut-in-two x r xs ys sent_room word_room full z sent1 words1 p q sent2 words2 u v =
    let one = ran-done x r xs sent1 words1 (first_runs x r xs ys sent_room word_room z sent1 words1 p q) in
    let two =
    ap (λ (k : StationRan). ran_of k.station k.report ys sent2 words2) one
    ∙ ran-done (measured_after x xs) (report_after x r xs) ys sent2 words2
    (second_runs x r xs ys sent_room word_room z full sent2 words2 u v) in
    let whole = ran-done x r (xs ++ ys) sent_room word_room z in
    record {
      first_succeeds = ap (λ (k : StationRan). k.answer) one;
      second_succeeds = ap (λ (k : StationRan). k.answer) two;
      station =
          ap (λ (k : StationRan). k.station) two
          ∙ sym (ap (λ (k : StationRan). k.station) whole ∙ measured-append x xs ys);
      report =
          ap (λ (k : StationRan). k.report) two
          ∙ sym (ap (λ (k : StationRan). k.report) whole ∙ report-append x r xs ys);
    }

-- ---- the modes without edges

unmeasured : (mode : Mode) → (alphabet_of mode ≡ Baudot → ⊥) → is_measured mode ≡ false
unmeasured Baudot45 n = absurd (n refl)
unmeasured Baudot50 n = absurd (n refl)
unmeasured Dtmf n = refl
unmeasured Edt n = refl

module _ (x : Measured) (heard : ℕ) (m : is_measured (mode_in x.core) ≡ false) where
  ms-waits : waiting_ms x heard ≡ no_edges
  unfolding waiting_ms
  ms-waits =
      either-by (λ (w : Edges). w ≡ no_edges) (inhibited_in x.core (front (station_of x))) (λ e. refl)
      (λ e. (none-counted (mode_in x.core) x.core.reader.frame x.edges heard m).1)

  ms-counts : counted_in x heard ≡ no_edge
  unfolding counted_in
  ms-counts =
      either-by (λ (r : Report). r ≡ no_edge) (inhibited_in x.core (front (station_of x))) (λ e. refl)
      (λ e. (none-counted (mode_in x.core) x.core.reader.frame x.edges heard m).0)

all-wait : (x : Measured) → is_measured (mode_in x.core) ≡ false → x.edges ≡ no_edges → (heard : List ℕ)
    → (measured_after x heard).edges ≡ no_edges
unfolding state_after measured_ms station_ms core_from
all-wait x m e [] = e
all-wait x m e (h ∷ hs) = all-wait (measured_ms x h) m (ms-waits x h m) hs

all-count : (x : Measured) → is_measured (mode_in x.core) ≡ false → (r : Report) → (r.edges ≡ 0 → r ≡ no_edge)
    → (heard : List ℕ) → report_after x r heard ≡ r
unfolding state_after outputs measured_ms station_ms core_from
all-count x m r n [] = refl
all-count x m r n (h ∷ hs) =
    ap (λ (q : Report). state_after joined q (outputs measured_ms counted_in (measured_ms x h) hs))
    (ap (joined r) (ms-counts x h m) ∙ joined-none r n)
    ∙ all-count (measured_ms x h) m r n hs

pub only-in-baudot : OnlyInBaudot
only-in-baudot x i n =
    let m = unmeasured (mode_in x.core) n in
    record {
      none-waits = λ heard. all-wait x m ((measured-in x i).1.unmeasured m) heard;
      none-counts = λ r heard q. all-count x m r (report-in r q).none heard;
    }

-- ---- a run without a report

pub never-18 : Never18
unfolding run_answer
never-18 x heard sent_room word_room =
    go (measured_in x && report_in no_edge) refl (leb (length heard) 4_096) refl
    (all_at_most (highest_level (mode_of_station (station_of x))) heard) (leb (length heard) sent_room)
    (leb (length heard) word_room) (leb (report_after x no_edge heard).edges 65_536) refl
  where
    go : (a : Bool) → (measured_in x && report_in no_edge) ≡ a → (b : Bool) → leb (length heard) 4_096 ≡ b
        → (c d e f : Bool) → leb (report_after x no_edge heard).edges 65_536 ≡ f
        → ◌≡◌ {A = ℕ} (cond a (cond b (cond c (cond d (cond e (cond f 0 18) 8) 7) 6) 5) 1) 18 → ⊥
    go true p true q true true true true t z = omega arith
    go true p true q true true true false t z =
        let few = leb-true (length heard) 4_096 q in
        let l = plain-few x heard (and_left (measured_in x) (report_in no_edge) p) few in
        let g = leb-false (report_after x no_edge heard).edges 65_536 t in
        omega arith
    go true p true q true true false f t z = omega arith
    go true p true q true false e f t z = omega arith
    go true p true q false d e f t z = omega arith
    go true p false q c d e f t z = omega arith
    go false p b q c d e f t z = omega arith
