-- Ms that are read as codes, one behind the other.
use mathlib.Core.Path.{◌≡◌, ◌∙◌, refl, ap}
use mathlib.Core.List.{List, [], ◌∷◌, ◌++◌}
use Prim.Native.Nat.{ℕ, zero, suc, ◌+◌, ◌<◌, ◌≤◌}
use native.Mathlib.Nat.{add-zero}
use native.Mathlib.Omega.{arith}
use lib.ListN.{length, replicate}
use Rattle.lists.specs.Steps.{state_after, outputs}
use Rattle.lists.proofs.Steps.{after-append, outputs-append}
use Rattle.frames.specs.declared.Frame.{Frame}
use Rattle.frames.specs.declared.Found.{Found}
use Rattle.frames.specs.declared.Found.TheVariants.{Nothing, Fault, Code}
use Rattle.frames.specs.declared.FrameRead.{FrameRead}
use Rattle.frames.specs.Samples.{None, Placed, sample_at}
use Rattle.frames.specs.Frames.{in_frame, hunting, gives, frame_step, frame_next, frame_found, frame_after, founds}
use Rattle.line_theorems.proofs.FrameRules.{hunting-other, no-sample}
use Rattle.tolerance_theorems.specs.Bursts.{found, codes_found, ReadAs}

found-append : (os ps : List Found) → found (os ++ ps) ≡ found os ++ found ps
unfolding found
found-append [] ps = refl
found-append (Nothing ∷ os) ps = found-append os ps
found-append (Fault c m ∷ os) ps = ap (λ (l : List Found). Fault c m ∷ l) (found-append os ps)
found-append (Code k ∷ os) ps = ap (λ (l : List Found). Code k ∷ l) (found-append os ps)

module _ (samples : List Placed) where
  pub none : (f : Frame) → ReadAs samples f [] [] f
  unfolding state_after outputs found codes_found
  none f = record { after = refl; codes-are = refl }

  -- a ms that ends in nothing, and one that ends in a code
  pub nothing : {f g h : Frame} {x : ℕ} {xs ks : List ℕ} → frame_step samples f x ≡ gives g Nothing
      → ReadAs samples g xs ks h → ReadAs samples f (x ∷ xs) ks h
  unfolding state_after outputs found
  nothing {xs = xs} e r = record {
    after = ap (λ (s : FrameRead). frame_after samples s.frame xs) e ∙ r.after;
    codes-are = ap (λ (s : FrameRead). found (s.found ∷ founds samples s.frame xs)) e ∙ r.codes-are;
  }

  pub code : {f g h : Frame} {x k : ℕ} {xs ks : List ℕ} → frame_step samples f x ≡ gives g (Code (record { 0 = k }))
      → ReadAs samples g xs ks h → ReadAs samples f (x ∷ xs) (k ∷ ks) h
  unfolding state_after outputs found codes_found
  code {k = k} {xs = xs} e r = record {
    after = ap (λ (s : FrameRead). frame_after samples s.frame xs) e ∙ r.after;
    codes-are =
        ap (λ (s : FrameRead). found (s.found ∷ founds samples s.frame xs)) e
        ∙ ap (λ (l : List Found). Code (record { 0 = k }) ∷ l) r.codes-are;
  }

  -- ms that give no code, and then others
  pub behind : {f g h : Frame} {xs ys ks : List ℕ} → ReadAs samples f xs [] g → ReadAs samples g ys ks h
      → ReadAs samples f (xs ++ ys) ks h
  unfolding codes_found
  behind {f} {g} {h} {xs} {ys} a b =
      let next = frame_next samples in
      let out = frame_found samples in
      record {
        after = after-append next out f xs ys ∙ ap (λ (k : Frame). frame_after samples k ys) a.after ∙ b.after;
        codes-are =
            ap found (outputs-append next out f xs ys)
            ∙ found-append (founds samples f xs) (founds samples (frame_after samples f xs) ys)
            ∙ (λ i. a.codes-are i ++ found (founds samples (a.after i) ys))
            ∙ b.codes-are;
      }

  -- hunting, quiet and mark are passed over
  pub hunts : (n x : ℕ) → (x ≡ 2 → ⊥) → ReadAs samples hunting (replicate n x) [] hunting
  hunts zero x h = none hunting
  hunts (suc n) x h = nothing (hunting-other samples x h) (hunts n x h)

  -- in a frame, so are ms without a sample
  pub skips : (xs : List ℕ) (m dg : ℕ) → 1 ≤ m → ((i : ℕ) → i < length xs → sample_at samples (m + i) ≡ None)
      → ReadAs samples (in_frame m dg) xs [] (in_frame (m + length xs) dg)
  skips [] m dg h ok = rw add-zero (none (in_frame m dg))
  skips (x ∷ xs) m dg h ok =
      let a : m + suc (length xs) ≡ m + 1 + length xs = omega arith in
      let o : sample_at samples m ≡ None = rw add-zero at (ok 0 (omega arith)) in
      let later : (i : ℕ) → i < length xs → sample_at samples (m + 1 + i) ≡ None =
      λ i l. (let b : m + 1 + i ≡ m + suc i = omega arith in rw b (ok (suc i) (omega arith))) in
      rw a (nothing (no-sample samples m dg h x o) (skips xs (m + 1) dg (omega arith) later))
