-- The tolerance of a reader of frames: the start's own edge fixes where the samples fall, and at each sample the moved
-- line has the level of the sample's element. The ms between two samples do not matter.
use mathlib.Core.Path.{◌≡◌, ◌∙◌, refl, sym, ap, subst}
use mathlib.Core.Bool.{true}
use mathlib.Core.List.{List, [], ◌∷◌, ◌++◌, append-nil, append_assoc}
use Prim.Native.Nat.{ℕ, zero, suc, ◌+◌, ◌-◌, ◌*◌, ◌/◌, ◌%◌, ◌<◌, ◌≤◌}
use native.Mathlib.Omega.{arith}
use native.Mathlib.Nat.{zero-add, mul-le-mul_left}
use lib.Dec.{eqb, leb}
use lib.ListN.{length, replicate}
use borrow.Author.Tests.{leb-true, leb-false}
use Rattle.lists.proofs.Lists.{either, by-test, at-most-head, at-most-tail}
use Rattle.baudot.specs.Reading.{all_codes}
use Rattle.frames.specs.declared.Frame.{Frame}
use Rattle.signal.specs.Signal.{quiet, mark, space, level_of, digits, held, baudot_signal}
use Rattle.frames.specs.Samples.{Sample, None, Placed, sample_at, baudot_kinds, baudot_place, baudot_samples}
use Rattle.frames.specs.Frames.{in_frame, hunting, goes_on, sampled, frame_step}
use Rattle.frames.proofs.Sampling.{baudot-off, kind-digit}
use Rattle.line_theorems.proofs.FrameRules.{hunting-space}
use Rattle.line_theorems.proofs.AnyElement.{digits-back, on, leads}
use Rattle.tolerance_theorems.specs.Edges.{Edge, edge, edges, EachDisplaced}
use Rattle.tolerance_theorems.specs.Bursts.{on_quiet, codes_at, burst_at, ReadAs}
use Rattle.tolerance_theorems.specs.Tolerance.{Law}
use Rattle.tolerance_theorems.proofs.Edges.{edges_none, edges-on, edges-to, Ends, ends-quiet, ends-append}
use Rattle.tolerance_theorems.proofs.Edges.{jumps, within, no_edges}
use Rattle.tolerance_theorems.proofs.Reading.{nothing, code, behind, hunts, skips}

-- what n digits, rightmost first, make of those in hand: each comes in at the top
unfoldable came : ℕ → ℕ → ℕ → ℕ
came zero dg k = dg
came (suc n) dg k = came n (dg / 2 + 16 * (k % 2)) (k / 2)

came-back : (k : ℕ) → k < 32 → came 5 0 k ≡ k
unfolding came
came-back k h = digits-back k h

level-heard : (b : ℕ) → level_of b ≡ quiet → ⊥
level-heard b = either (λ (x : ℕ). x ≡ quiet → ⊥) (eqb b 1) mark space (λ q. omega arith) (λ q. omega arith)

module _ (e : ℕ) (big : 2 ≤ e) where
  abbrev samples : List Placed
  samples = baudot_samples e

  -- From the reader f the ms ys are read as ks, and then it hunts.
  abbrev Reads : Frame → List ℕ → List ℕ → Type 0
  Reads f ks ys = ReadAs samples f ys ks hunting

  -- no sample between two
  off : (j i : ℕ) → 1 ≤ i → i < e → sample_at samples (baudot_place e j + i) ≡ None
  off j i a b = baudot-off e (omega arith) (baudot_place e j + i) (λ k r. by-test (leb k j)
      (λ t. let m = mul-le-mul_left e (leb-true k j t) in omega arith)
      (λ t. let m = mul-le-mul_left e (leb-false k j t) in omega arith))

  -- from the ms behind a sample up to the next
  up_to : (j dg : ℕ) (xs : List ℕ) → length xs ≡ e - 1
      → ReadAs samples (in_frame (baudot_place e j + 1) dg) xs [] (in_frame (baudot_place e (suc j)) dg)
  up_to j dg xs l =
      let c : baudot_place e j + 1 + length xs ≡ baudot_place e (suc j) = omega arith in
      let none-at : (i : ℕ) → i < length xs → sample_at samples (baudot_place e j + 1 + i) ≡ None =
      λ i h. (let b : baudot_place e j + 1 + i ≡ baudot_place e j + suc i = omega arith in
      rw b (off j (suc i) (omega arith) (omega arith))) in
      rw c at (skips samples xs (baudot_place e j + 1) dg (omega arith) none-at)

  -- the start's ms, from the one behind its first up to its sample
  start-on : {ks : List ℕ} (xs rest : List ℕ) → length xs ≡ e / 2 - 1
      → Reads (in_frame (baudot_place e 0 + 1) 0) ks rest → Reads (in_frame 1 0) ks (xs ++ (space ∷ rest))
  unfolding sampled baudot_kinds
  start-on xs rest l r =
      let c : 1 + length xs ≡ baudot_place e 0 = omega arith in
      let none-at : (i : ℕ) → i < length xs → sample_at samples (1 + i) ≡ None =
      λ i h. baudot-off e (omega arith) (1 + i) (λ k r. omega arith) in
      behind samples (rw c at (skips samples xs 1 0 (omega arith) none-at))
      (nothing samples (on e big 0 0 space (omega arith)) r)

  module _ (d : ℕ) (slack : 4 * d < e) where
    abbrev Near : List Edge → List Edge → Type 0
    Near es fs = EachDisplaced d es fs

    -- A reader that hunts behind a mark reads ks of every line that is zs with its edges moved.
    abbrev Between : List ℕ → List ℕ → Type 0
    Between zs ks =
        (p q : ℕ) (ys : List ℕ) → Near (edges p mark zs) (edges q mark ys) → Reads hunting ks ys

    -- So does the reader g, behind a sample. Unmoved, zs is to come from the ms p on, and on the moved line ys from q:
    -- the next sample, e - 1 ms behind q, is d or more behind p, and more than d ahead of p + e.
    abbrev After : Frame → List ℕ → List ℕ → Type 0
    After g zs ks =
        (p q x : ℕ) (ys : List ℕ) → p + d < q + e → q + d ≤ p → Near (edges p x zs) (edges q x ys) → Reads g ks ys

    -- the element of a digit b
    digit : (j dg b : ℕ) (zs ks : List ℕ) → j < 5 → b < 2 → Ends zs
        → After (in_frame (baudot_place e (suc j) + 1) (dg / 2 + 16 * b)) zs ks
        → After (in_frame (baudot_place e j + 1) dg) (replicate e (level_of b) ++ zs) ks
    digit j dg b zs ks l h end next p q x ys late early near =
        let y = level_of b in
        let place = baudot_place e (suc j) in
        let s : frame_step samples (in_frame place dg) y ≡ goes_on place (dg / 2 + 16 * b) =
        on e big (suc j) dg y (omega arith)
        ∙ ap (λ (o : Sample). sampled o place dg y) (kind-digit (suc j) (λ z. omega arith) (omega arith))
        ∙ leads e big place dg b h in
        let t : suc (q + (e - 1)) ≡ q + e = omega arith in
        within d (Reads (in_frame (baudot_place e j + 1) dg) ks) e p x y q (e - 1) zs ys end (level-heard b)
        (omega arith) (omega arith) (omega arith) near
        (λ ahead rest n later. behind samples (up_to j dg ahead n)
        (nothing samples s (next (p + e) (q + e) y rest (omega arith) (omega arith) (rw t at later))))

    five-digits : (n j k dg : ℕ) (zs ks : List ℕ) → j + n ≡ 5 → Ends zs
        → After (in_frame (baudot_place e 5 + 1) (came n dg k)) zs ks
        → After (in_frame (baudot_place e j + 1) dg) (held e (digits n k) ++ zs) ks
    unfolding held digits came
    five-digits zero j k dg zs ks c end next =
        let f : j ≡ 5 = omega arith in
        rw f next
    five-digits (suc n) j k dg zs ks c end next =
        let ds = held e (digits n (k / 2)) in
        rw (append_assoc (replicate e (level_of (k % 2))) ds zs)
        (digit j dg (k % 2) (ds ++ zs) ks (omega arith) (omega arith) (ends-append ds zs end)
        (five-digits n (suc j) (k / 2) (dg / 2 + 16 * (k % 2)) zs ks (omega arith) end next))

    -- the start: its edge is where the frame begins
    start : (zs ks : List ℕ) → Ends zs → After (in_frame (baudot_place e 0 + 1) 0) zs ks
        → Between (replicate e space ++ zs) ks
    start zs ks end next p q ys near =
        jumps d p mark space (edges (p + e) space zs) (Reads hunting ks) q ys
        (rw (edges-to e p mark space zs (omega arith) (λ z. omega arith)) at near)
        (λ n later early late c. behind samples (hunts samples n mark (λ z. omega arith))
        (nothing samples (hunting-space samples)
        (within d (Reads (in_frame 1 0) ks) e p space space (suc (q + n)) (e / 2 - 1) zs later end (λ z. omega arith)
        (omega arith) (omega arith) (omega arith) (rw (edges-on e p space zs) c)
        (λ ahead rest l f. start-on ahead rest l
        (next (p + e) (suc (suc (q + n) + (e / 2 - 1))) space rest (omega arith) (omega arith) f)))))

    -- the stop, in which the code is found
    stop : (k : ℕ) (zs ks : List ℕ) → Ends zs → Between zs ks
        → After (in_frame (baudot_place e 5 + 1) k) (replicate (3 * e / 2) mark ++ zs) (k ∷ ks)
    unfolding sampled baudot_kinds
    stop k zs ks end next p q x ys late early near =
        within d (Reads (in_frame (baudot_place e 5 + 1) k) (k ∷ ks)) (3 * e / 2) p x mark q (e - 1) zs ys end
        (λ z. omega arith) (omega arith) (omega arith) (omega arith) near
        (λ ahead rest n later. behind samples (up_to 5 k ahead n)
        (code samples (on e big 6 k mark (omega arith)) (next (p + 3 * e / 2) (suc (q + (e - 1))) rest later)))

    one_code : (k : ℕ) (zs ks : List ℕ) → k < 32 → Ends zs → Between zs ks → Between (baudot_signal e k ++ zs) (k ∷ ks)
    unfolding baudot_signal held
    one_code k zs ks h end next =
        let first = replicate e space in
        let ds = held e (digits 5 k) in
        let last = replicate (3 * e / 2) mark in
        let flat : ((first ++ ds) ++ last) ++ zs ≡ first ++ (ds ++ (last ++ zs)) = simp append_assoc in
        let ends = ends-append last zs end in
        let stops =
        subst (λ (dg : ℕ). After (in_frame (baudot_place e 5 + 1) dg) (last ++ zs) (k ∷ ks)) (sym (came-back k h))
        (stop k zs ks end next) in
        rw flat
        (start (ds ++ (last ++ zs)) (k ∷ ks) (ends-append ds (last ++ zs) ends)
        (five-digits 5 0 k 0 (last ++ zs) (k ∷ ks) refl ends stops))

    -- behind the last code: mark, and then quiet for good
    ending : (after : ℕ) → Between (replicate (suc after) quiet) []
    ending after p q ys near =
        jumps d p mark quiet [] (Reads hunting []) q ys (rw last at near)
        (λ n rest early late c. behind samples (hunts samples n mark (λ z. omega arith))
        (subst (λ (l : List ℕ). Reads hunting [] (quiet ∷ l)) (sym (no_edges d (suc (q + n)) quiet rest c))
        (hunts samples (suc (length rest)) quiet (λ z. omega arith))))
      where
        last : edges p mark (replicate (suc after) quiet) ≡ edge p quiet ∷ []
        last =
            ap (edges p mark) (sym (append-nil (replicate (suc after) quiet)))
            ∙ edges-to (suc after) p mark quiet [] (omega arith) (λ z. omega arith)
            ∙ ap (λ (l : List Edge). edge p quiet ∷ l) (edges_none (p + suc after) quiet)

    codes : (ks : List ℕ) (after : ℕ) → all_codes ks ≡ true → Between (codes_at e ks ++ replicate (suc after) quiet) ks
    unfolding codes_at
    codes [] after h = ending after
    codes (k ∷ ks) after h =
        let l = at-most-head 31 k ks h in
        let quiets = replicate (suc after) quiet in
        rw (append_assoc (baudot_signal e k) (codes_at e ks) quiets)
        (one_code k (codes_at e ks ++ quiets) ks (omega arith)
        (ends-append (codes_at e ks) quiets (ends-quiet (replicate after quiet)))
        (codes ks after (at-most-tail 31 k ks h)))

-- the first edge of a burst is that to its preamble
pub first_edge : (e before ms after : ℕ) (ks : List ℕ) → 1 ≤ ms
    → edges 0 quiet (on_quiet before (burst_at e ms ks) after)
    ≡ edge before mark ∷ edges (before + ms) mark (codes_at e ks ++ replicate (suc after) quiet)
first_edge e before ms after ks h =
    let quiets = replicate (suc after) quiet in
    edges-on before 0 quiet (burst_at e ms ks ++ quiets)
    ∙ (λ i. edges (zero-add before i) quiet (append_assoc (replicate ms mark) (codes_at e ks) quiets i))
    ∙ edges-to ms before quiet mark (codes_at e ks ++ quiets) h (λ z. omega arith)

pub law : Law
law e d before ms after ks ys big slack h five near =
    let samples = baudot_samples e in
    let later = edges (before + ms) mark (codes_at e ks ++ replicate (suc after) quiet) in
    jumps d before quiet mark later (Reads e big hunting ks) 0 ys
    (rw (first_edge e before ms after ks h) at near)
    (λ n rest early late c. behind samples (hunts samples n quiet (λ z. omega arith))
    (behind samples (hunts samples 1 mark (λ z. omega arith))
    (codes e big d slack ks after five (before + ms) (suc (0 + n)) rest c)))
