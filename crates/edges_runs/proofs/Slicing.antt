-- The loop over a slice: what is left gives what the whole slice gives.
use mathlib.Core.Path.{◌≡◌, ◌∙◌, refl, sym, ap, subst}
use mathlib.Core.List.{List}
use Prim.Native.Nat.{ℕ, ◌+◌, ◌-◌, ◌≤◌, ◌<◌}
use native.Mathlib.Omega.{arith}
use lib.ListN.{length, get_or}
use lib.Seq.{take_all}
use Rattle.lists.specs.code.Places.{Through}
use Rattle.frames_runs.proofs.Walking.{part}
use Rattle.edges.specs.declared.Edges.{Edges}
use Rattle.edges.specs.Edges.{with_ms}
use Rattle.edges.specs.code.Bounds.{ReportOf}
use Rattle.edges.specs.code.Measuring.{with_all}
use Rattle.edges.proofs.Range.{more_of}
use Rattle.edges_runs.specs.code.Latest.{SliceOf}
use Rattle.edges_runs.proofs.Same.{left-turn}
use Rattle.edges.proofs.Bound.{Fine, fine_of, with-more, with-fine}

pub record Along (e m : ℕ) (w : Edges) (heard : List ℕ) (along : Edges) (i : ℕ) : Type 0 where
  pub high : i ≤ length heard
  pub fine : Fine along.seen
  pub count : along.seen.edges ≤ 900_000 + i
  pub rest : with_all e (m + i) along (part heard i (length heard)) ≡ with_all e m w heard

module _ (e m : ℕ) (w : Edges) (heard : List ℕ) (s : SliceOf e m w heard) where
  pub along-start : Along e m w heard w 0
  along-start =
      let z : m + 0 ≡ m = omega arith in
      let n = s.report.few in
      record {
        high = omega arith;
        fine = fine_of s.report;
        count = omega arith;
        rest = rw z (ap (with_all e m w) (take_all (length heard - 0) heard (omega arith)));
      }

  module _ (along : Edges) (i : ℕ) (a : Along e m w heard along i) where
    pub along-few : ReportOf 999_999 along.seen
    along-few =
        let n = a.count in
        let l = a.high in
        let k = s.short in
        more_of (omega arith) a.fine

    pub along-end : length heard ≤ i → along ≡ with_all e m w heard
    unfolding with_all
    along-end l =
        let h = a.high in
        let z : length heard - i ≡ 0 = omega arith in
        (rw z refl) ∙ a.rest

    pub along-turn : i < length heard → (v : Edges) → v ≡ with_ms e (m + i) along (get_or heard i 0) → (j : ℕ)
        → Through heard (i + 1) (length heard) (get_or heard i 0) j → Along e m w heard v j
    along-turn l v ev j t =
        let x = get_or heard i 0 in
        let c = a.count in
        let low = t.low in
        let more = with-more e (m + i) along x in
        let u = with_ms e (m + i) along x in
        let p : Along e m w heard u j
        = record {
          high = t.high;
          fine = with-fine e (m + i) s.some s.few along x a.fine;
          count = omega arith;
          rest = sym (left-turn e m heard (length heard) (omega arith) along i j l t) ∙ a.rest;
        } in
        subst (λ (y : Edges). Along e m w heard y j) (sym ev) p
