-- A reader of frames: its edges over many ms, and a report of those that count.
use mathlib.Core.Path.{◌≡◌, ◌∙◌, refl, ap}
use mathlib.Core.Bool.{Bool, true, false, cond}
use mathlib.Core.List.{List, [], ◌∷◌, ◌++◌}
use mathlib.Core.Logic.{◌⊎◌, inl, inr}
use Prim.Native.Nat.{ℕ, ◌+◌, ◌-◌, ◌≤◌, ◌<◌}
use native.Mathlib.Omega.{arith}
use lib.Dec.{leb}
use borrow.Author.Tests.{leb-false, lt-leb}
use Rattle.lists.specs.Steps.{state_after}
use Rattle.lists.proofs.Lists.{by-test}
use Rattle.alphabet.specs.declared.Mode.{Mode}
use Rattle.alphabet.specs.Modes.{element_of}
use Rattle.frames.specs.declared.Frame.{Frame}
use Rattle.frames.specs.declared.Found.{Found}
use Rattle.frames.specs.declared.Found.TheVariants.{Nothing}
use Rattle.frames.specs.Samples.{samples_of}
use Rattle.frames.specs.Frames.{frame_next, frame_found, frame_after}
use Rattle.frames_runs.specs.code.Passing.{Walks}
use Rattle.edges.specs.declared.Report.{Report}
use Rattle.edges.specs.declared.Edges.{Edges}
use Rattle.edges.specs.Edges.{no_edge, no_edges, joined, with_ms, is_measured, is_code, edges_ms, counted_ms}
use Rattle.edges.specs.code.Measuring.{edges_over, report_over}
use Rattle.edges.proofs.Joining.{joined-none}
use Rattle.edges.proofs.Places.{next_place}
use Rattle.edges.proofs.Range.{edges-measured, counted-measured, none-counted}
use Rattle.edges_runs.specs.code.Latest.{OneMs, Falls, Begins, On, Goes}

-- outside a frame no edges wait
abbrev pub Outside : Frame → Edges → Type 0
Outside f w = f.place < 2 → w ≡ no_edges

-- of a report of no edge all is 0
abbrev pub Plain : Report → Type 0
Plain r = r.edges ≡ 0 → r ≡ no_edge

module _ (mode : Mode) where
  abbrev e : ℕ
  e = element_of mode

  abbrev next : Frame → ℕ → Frame
  next f x = frame_next (samples_of mode) f x

  -- ---- one ms

  module _ (measured : is_measured mode ≡ true) (f : Frame) (w : Edges) (x : ℕ) where
    abbrev q : ℕ
    q = (next f x).place

    abbrev with : Edges
    with = with_ms e (f.place - 1) w x

    goes_on : leb 2 q ≡ true → edges_ms mode f w x ≡ with
    goes_on t = edges-measured mode f w x measured ∙ ap (λ (b : Bool). cond b with no_edges) t

    falls : leb 2 q ≡ false → edges_ms mode f w x ≡ no_edges
    falls t = edges-measured mode f w x measured ∙ ap (λ (b : Bool). cond b with no_edges) t

    step-on : Outside f w → edges_ms mode f w x ≡ with
        → ((f.place ≡ 0) × (q ≡ 2)) ⊎ ((2 ≤ f.place) × (q ≡ f.place + 1))
        → OneMs e f.place w x q (edges_ms mode f w x)
    step-on o g (inl a) =
        let z = a.0 in
        let m : f.place - 1 ≡ 0 = omega arith in
        let n = o (omega arith) in
        Begins z n a.1 (g ∙ ap (λ (k : ℕ). with_ms e k w x) m ∙ ap (λ (u : Edges). with_ms e 0 u x) n)
    step-on o g (inr a) = On a.0 a.1 g

    pub one-ms : Outside f w → OneMs e f.place w x q (edges_ms mode f w x)
    one-ms o = go (leb 2 q) refl
      where
        go : (b : Bool) → leb 2 q ≡ b → OneMs e f.place w x q (edges_ms mode f w x)
        go true t = step-on o (goes_on t) (next_place (samples_of mode) f x t)
        go false t = Falls (leb-false 2 q t) (falls t)

    pub outside-next : Outside (next f x) (edges_ms mode f w x)
    outside-next l = falls (lt-leb 2 q l)

  -- ---- ms behind others

  pub edges-append : (f : Frame) (w : Edges) (xs ys : List ℕ)
      → edges_over mode f w (xs ++ ys) ≡ edges_over mode (frame_after (samples_of mode) f xs) (edges_over mode f w xs)
      ys
  unfolding edges_over state_after
  edges-append f w [] ys = refl
  edges-append f w (x ∷ xs) ys = edges-append (next f x) (edges_ms mode f w x) xs ys

  pub report-append : (f : Frame) (w : Edges) (r : Report) (xs ys : List ℕ)
      → report_over mode f w r (xs ++ ys)
      ≡ report_over mode (frame_after (samples_of mode) f xs) (edges_over mode f w xs) (report_over mode f w r xs) ys
  unfolding edges_over report_over state_after
  report-append f w r [] ys = refl
  report-append f w r (x ∷ xs) ys =
      report-append (next f x) (edges_ms mode f w x) (joined r (counted_ms mode f w x)) xs ys

  -- ---- the edges that wait

  pub goes_over : is_measured mode ≡ true → (f : Frame) (w : Edges) (xs : List ℕ) → Outside f w
      → Goes e f.place w xs (frame_after (samples_of mode) f xs).place (edges_over mode f w xs)
  unfolding Goes edges_over state_after
  goes_over measured f w [] o = (refl, refl)
  goes_over measured f w (x ∷ xs) o =
      let v = edges_ms mode f w x in (
        (next f x).place,
        v,
        one-ms measured f w x o,
        goes_over measured (next f x) v xs (outside-next measured f w x),
      )

  -- ---- ms that find nothing, and modes that are not measured

  counted-nothing : (f : Frame) (w : Edges) (x : ℕ) → frame_found (samples_of mode) f x ≡ Nothing
      → counted_ms mode f w x ≡ no_edge
  counted-nothing f w x n =
      let s = (with_ms e (f.place - 1) w x).seen in
      by-test (is_measured mode)
      (λ m. counted-measured mode f w x m ∙ ap (λ (o : Found). cond (is_code o) s no_edge) n)
      (λ m. (none-counted mode f w x m).0)

  nothing-joined : (f : Frame) (w : Edges) (r : Report) (x : ℕ) → Plain r → counted_ms mode f w x ≡ no_edge
      → joined r (counted_ms mode f w x) ≡ r
  nothing-joined f w r x h n = ap (joined r) n ∙ joined-none r h

  pub walks-after : (f g : Frame) (xs : List ℕ) → Walks (samples_of mode) f xs g → frame_after (samples_of mode) f xs
      ≡ g
  unfolding Walks state_after
  walks-after f g [] s = s
  walks-after f g (x ∷ xs) s = walks-after (next f x) g xs s.1

  pub walks-report : (f g : Frame) (w : Edges) (r : Report) (xs : List ℕ) → Plain r → Walks (samples_of mode) f xs g
      → report_over mode f w r xs ≡ r
  unfolding Walks report_over
  walks-report f g w r [] h s = refl
  walks-report f g w r (x ∷ xs) h s =
      ap (λ (q : Report). report_over mode (next f x) (edges_ms mode f w x) q xs)
      (nothing-joined f w r x h (counted-nothing f w x s.0))
      ∙ walks-report (next f x) g (edges_ms mode f w x) r xs h s.1

  pub unmeasured-report : is_measured mode ≡ false → (f : Frame) (w : Edges) (r : Report) (xs : List ℕ) → Plain r
      → report_over mode f w r xs ≡ r
  unfolding report_over
  unmeasured-report m f w r [] h = refl
  unmeasured-report m f w r (x ∷ xs) h =
      ap (λ (q : Report). report_over mode (next f x) (edges_ms mode f w x) q xs)
      (nothing-joined f w r x h (none-counted mode f w x m).0)
      ∙ unmeasured-report m (next f x) (edges_ms mode f w x) r xs h
