-- From frame to frame: the reader that is reached, and the edges that count there.
use mathlib.Core.Path.{◌≡◌, ◌∙◌, refl, sym, ap, subst}
use mathlib.Core.Bool.{Bool, true, false, cond}
use mathlib.Core.List.{List, [], ◌∷◌, ◌++◌}
use Prim.Native.Nat.{ℕ, zero, suc, ◌+◌, ◌-◌, ◌≤◌, ◌<◌}
use native.Mathlib.Numerals.{add-one}
use native.Mathlib.Omega.{arith}
use lib.Dec.{T, eqb}
use lib.ListN.{length, get_or, take}
use lib.Seq.{take-suc}
use Rattle.lists.proofs.Lists.{either}
use Rattle.alphabet.specs.declared.Mode.{Mode}
use Rattle.signal.specs.Signal.{parity_of}
use Rattle.frames.specs.declared.Cause.TheVariants.{Quiet, StopNotMark, OddParity}
use Rattle.frames.specs.declared.Frame.{Frame}
use Rattle.frames.specs.declared.Found.TheVariants.{Nothing, Code}
use Rattle.frames.specs.declared.FrameRead.{FrameRead}
use Rattle.frames.specs.Samples.{Sample, None, Start, Digit, Parity, Stop, Last, Placed, sample_at, samples_of}
use Rattle.frames.specs.Frames.{in_frame, hunting, waiting, gives, goes_on, faulty, with_digit, parity_heard, sampled, frame_step, frame_next, frame_found}
use Rattle.frames.proofs.Range.{tested}
use Rattle.frames_runs.specs.code.Passing.{frame_at, Walks}
use Rattle.edges.specs.declared.Report.{Report}
use Rattle.edges.specs.declared.Edges.{Edges}
use Rattle.edges.specs.Edges.{no_edge, joined, with_ms, is_code}
use Rattle.edges.specs.code.Bounds.{ReportOf}
use Rattle.edges.proofs.Joining.{joined-none}
use Rattle.edges_runs.specs.code.Latest.{On, Goes}
use Rattle.edges_runs.specs.code.Counting.{Clean, Reached, with_code}
use Rattle.edges_runs.proofs.Going.{goes-append, goes_one}

-- ---- a reader outside a frame has no digits

abbrev Cleans : FrameRead → Type 0
Cleans r = Clean r.frame

clean-on : (m digits : ℕ) → Cleans (goes_on m digits)
clean-on m digits l = absurd (omega arith)

clean-off : Clean hunting
clean-off l = refl

clean-waiting : Clean waiting
clean-waiting l = refl

sampled-clean : (k : Sample) (m digits heard : ℕ) → Cleans (sampled k m digits heard)
unfolding sampled
sampled-clean None m digits heard = clean-on m digits
sampled-clean Start m digits heard =
    either Cleans (eqb heard 2) (goes_on m digits) (gives hunting Nothing) (clean-on m digits) clean-off
sampled-clean (Digit top) m digits heard =
    either Cleans (eqb heard 0) (faulty Quiet m) (goes_on m (with_digit top digits heard)) clean-waiting
    (clean-on m (with_digit top digits heard))
sampled-clean Parity m digits heard =
    tested Cleans m heard (eqb (parity_of digits) (parity_heard heard)) (goes_on m digits) OddParity clean-waiting
    clean-waiting (clean-on m digits)
sampled-clean Stop m digits heard =
    tested Cleans m heard (eqb heard 1) (goes_on m digits) StopNotMark clean-waiting clean-waiting (clean-on m digits)
sampled-clean Last m digits heard =
    tested Cleans m heard (eqb heard 1) (gives hunting (Code (record { 0 = digits }))) StopNotMark clean-waiting
    clean-waiting clean-off

pub clean-next : (samples : List Placed) (f : Frame) (heard : ℕ) → Clean (frame_next samples f heard)
unfolding frame_step
clean-next samples f heard =
    let m = f.place - 1 in
    let s = sampled (sample_at samples m) m f.digits heard in
    let w = gives (cond (eqb heard 2) waiting hunting) Nothing in
    either Cleans (eqb f.place 0) (gives (cond (eqb heard 2) (in_frame 1 0) hunting) Nothing)
    (cond (eqb f.place 1) w s)
    (either Clean (eqb heard 2) (in_frame 1 0) hunting (λ l. absurd (omega arith)) clean-off)
    (either Cleans (eqb f.place 1) w s (either Clean (eqb heard 2) waiting hunting clean-waiting clean-off)
    (sampled-clean (sample_at samples m) m f.digits heard))

clean-walks : (samples : List Placed) (f g : Frame) (xs : List ℕ) → Clean f → Walks samples f xs g → Clean g
unfolding Walks
clean-walks samples f g [] h w = subst Clean w h
clean-walks samples f g (x ∷ xs) h w =
    clean-walks samples (frame_next samples f x) g xs (clean-next samples f x) w.1

pub reached-clean : (mode : Mode) (heard : List ℕ) (f : Frame) (i : ℕ) (g : Frame) (to : ℕ) → Clean f
    → Reached mode heard f i g to → Clean g
reached-clean mode heard f i g to h r = clean-walks (samples_of mode) f g _ h r.walks

-- ---- a code is found in a frame

pub code-in : (samples : List Placed) (place digits heard : ℕ)
    → is_code (frame_found samples (frame_at place digits) heard) ≡ true → 2 ≤ place
unfolding frame_step
code-in samples zero digits heard t = absurd (subst T (sym t) tt)
code-in samples (suc zero) digits heard t = absurd (subst T (sym t) tt)
code-in samples (suc (suc place)) digits heard t = omega arith

-- ---- one ms more of a frame

pub take_next : (heard : List ℕ) (to : ℕ) → to < length heard
    → take (to + 1) heard ≡ take to heard ++ (get_or heard to 0 ∷ [])
take_next heard to l = rw add-one (take-suc heard to 0 l)

pub goes-next : (e before : ℕ) (w : Edges) (heard : List ℕ) (to at : ℕ) (v : Edges) → to < length heard → 2 ≤ at
    → Goes e before w (take to heard) at v
    → Goes e before w (take (to + 1) heard) (at + 1) (with_ms e (at - 1) v (get_or heard to 0))
goes-next e before w heard to at v l h g =
    let x = get_or heard to 0 in
    let u = with_ms e (at - 1) v x in
    rw (take_next heard to l)
    (goes-append e before w (take to heard) at v (x ∷ []) (at + 1) u g (goes_one e at v x (at + 1) u (On h refl refl)))

-- ---- the edges that count

pub count_none : {n : ℕ} (e at : ℕ) (v : Edges) (x : ℕ) (code : Bool) (r : Report) → ReportOf n r → code ≡ false
    → r ≡ with_code e at v x code r
count_none e at v x code r h n =
    sym (ap (λ (b : Bool). joined r (cond b (with_ms e (at - 1) v x).seen no_edge)) n ∙ joined-none r h.none)

module _ (e before : ℕ) (w : Edges) (heard : List ℕ) (to at : ℕ) (code : Bool) (r : Report) (v : Edges) where
  abbrev x : ℕ
  x = get_or heard to 0

  pub count_code : to < length heard → (code ≡ true → 2 ≤ at) → Goes e before w (take to heard) at v
      → (u : Edges) → ((w' : Edges) → Goes e before w (take (to + 1 - 0) heard) (at + 1) w' → u ≡ w')
      → code ≡ true → joined r u.seen ≡ with_code e at v x code r
  count_code l h g u all t =
      let z : to + 1 - 0 ≡ to + 1 = omega arith in
      let a = with_ms e (at - 1) v x in
      let b = all a (rw z (goes-next e before w heard to at v l (h t) g)) in
      ap (λ (k : Edges). joined r k.seen) b ∙ sym (ap (λ (k : Bool). joined r (cond k a.seen no_edge)) t)
