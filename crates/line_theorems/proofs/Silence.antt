-- 40 ms that are quiet or inhibited, in any mixture, settle any reader that is in range.
use mathlib.Core.Path.{◌≡◌, ◌∙◌, refl, ap}
use mathlib.Core.Bool.{Bool, true, false, cond, ◌&&◌}
use mathlib.Core.Logic.{◌⊎◌, inl, inr, ⊎_elim}
use mathlib.Core.List.{List, [], ◌∷◌}
use Prim.Native.Nat.{ℕ, ◌<◌}
use native.Mathlib.Omega.{arith}
use lib.Dec.{T, eqb, eqb→eq}
use lib.ListN.{length, replicate}
use Rattle.lists.specs.Tables.{passes}
use Rattle.lists.proofs.Tables.{both_left, both_right, passes_at}
use Rattle.alphabet.specs.declared.Mode.{Mode}
use Rattle.alphabet.specs.declared.Mode.TheVariants.{Baudot45, Baudot50, Dtmf, Edt}
use Rattle.frames.specs.declared.Frame.{Frame}
use Rattle.keys.specs.declared.Keys.{Keys}
use Rattle.reader.specs.declared.Reader.{Reader}
use Rattle.lists.specs.Steps.{state_after}
use Rattle.frames.specs.Samples.{Placed, placed, sample_at, samples_of, baudot_kinds, edt_kinds}
use Rattle.frames.specs.Frames.{hunting, sampled, frame_step, frame_next, frame_after}
use Rattle.keys.specs.Keys.{ready, key_step, keys_after}
use Rattle.reader.specs.Reader.{hear, inhibited}
use Rattle.frames.specs.Range.{last_ms}
use Rattle.reader.specs.code.Bounds.{ReaderIn}
use Rattle.line_theorems.specs.Silence.{silent_all, Settled}
use Rattle.line_theorems.proofs.EdtReading.{is_hunting, is-hunting}

-- the frame of a reader over silent ms
abbrev frame_silent : List Placed → Frame → Bool → Frame
frame_silent samples f b = cond b hunting (frame_next samples f 0)

frames_silent : List Placed → Frame → List Bool → Frame
frames_silent samples f [] = f
frames_silent samples f (b ∷ bs) = frames_silent samples (frame_silent samples f b) bs

module _ (samples : List Placed) where
  -- hunting stays
  stays : (bs : List Bool) → frames_silent samples hunting bs ≡ hunting
  unfolding frames_silent frame_step
  stays [] = refl
  stays (true ∷ bs) = stays bs
  stays (false ∷ bs) = stays bs

  -- a mixture hunts already, or all of it was quiet
  mixture : (f : Frame) (bs : List Bool)
      → (frames_silent samples f bs ≡ hunting)
      ⊎ (frames_silent samples f bs ≡ frame_after samples f (replicate (length bs) 0))
  unfolding frames_silent state_after
  mixture f [] = inr refl
  mixture f (true ∷ bs) = inl (stays bs)
  mixture f (false ∷ bs) = mixture (frame_next samples f 0) bs

  abbrev quiet_test : ℕ → ℕ → Bool
  quiet_test d p = is_hunting (frame_after samples (record { place = p; digits = d }) (replicate 40 0))

  frames-settle : (n : ℕ) → ((d : ℕ) → T (passes (quiet_test d) n 0)) → (f : Frame) → f.place < n → (bs : List Bool)
      → length bs ≡ 40 → frames_silent samples f bs ≡ hunting
  frames-settle n all f h bs e =
      ⊎_elim (λ p. p)
      (λ p.
      p
      ∙ ap (λ (k : ℕ). frame_after samples f (replicate k 0)) e
      ∙ is-hunting _ (passes_at (quiet_test f.digits) n (all f.digits) f.place h))
      (mixture f bs)

-- every place of a frame, quiet for 40 ms
test-45 : (d : ℕ) → T (passes (quiet_test (samples_of Baudot45) d) 145 0)
unfolding passes state_after frame_step sampled sample_at placed samples_of baudot_kinds
test-45 d = tt

test-50 : (d : ℕ) → T (passes (quiet_test (samples_of Baudot50) d) 132 0)
unfolding passes state_after frame_step sampled sample_at placed samples_of baudot_kinds
test-50 d = tt

test-edt : (d : ℕ) → T (passes (quiet_test (samples_of Edt) d) 97 0)
unfolding passes state_after frame_step sampled sample_at placed samples_of edt_kinds
test-edt d = tt

-- the keys of a reader over silent ms: inhibited is quiet
abbrev is_ready : Keys → Bool
is_ready k = eqb k.key 0 && (eqb k.ms 0 && eqb k.needed 0)

is-ready : (k : Keys) → T (is_ready k) → k ≡ ready
is-ready k t =
    let a = eqb k.key 0 in
    let b = eqb k.ms 0 in
    let c = eqb k.needed 0 in
    let p = eqb→eq k.key 0 (both_left a (b && c) t) in
    let q = eqb→eq k.ms 0 (both_left b c (both_right a (b && c) t)) in
    let s = eqb→eq k.needed 0 (both_right b c (both_right a (b && c) t)) in
    λ i. record { key = p i; ms = q i; needed = s i }

key_test : ℕ → ℕ → ℕ → Bool
key_test k n p = is_ready (keys_after (record { key = k; ms = n; needed = p }) (replicate 40 0))

test-keys : (k n : ℕ) → T (passes (key_test k n) 41 0)
unfolding passes key_test state_after key_step
test-keys k n = tt

keys-settle : (k : Keys) → k.needed < 41 → keys_after k (replicate 40 0) ≡ ready
unfolding key_test
keys-settle k h = is-ready _ (passes_at (key_test k.key k.ms) 41 (test-keys k.key k.ms) k.needed h)

-- the frame of a reader, in a mode that reads frames
frame-silent : (mode : Mode) → ((r : Reader) → (hear mode r 0).reader.frame ≡ frame_next (samples_of mode) r.frame 0)
    → (r : Reader) (bs : List Bool) → (silent_all mode r bs).frame ≡ frames_silent (samples_of mode) r.frame bs
unfolding silent_all frames_silent inhibited
frame-silent mode law r [] = refl
frame-silent mode law r (true ∷ bs) = frame-silent mode law (inhibited r) bs
frame-silent mode law r (false ∷ bs) =
    frame-silent mode law (hear mode r 0).reader bs ∙ ap (λ (f : Frame). frames_silent (samples_of mode) f bs) (law r)

keys-silent : (r : Reader) (bs : List Bool) → (silent_all Dtmf r bs).keys ≡ keys_after r.keys (replicate (length bs) 0)
unfolding silent_all inhibited hear state_after
keys-silent r [] = refl
keys-silent r (true ∷ bs) = keys-silent (inhibited r) bs
keys-silent r (false ∷ bs) = keys-silent (hear Dtmf r 0).reader bs

pub settles : (mode : Mode) (r : Reader) → ReaderIn mode r → (bs : List Bool) → length bs ≡ 40
    → Settled mode (silent_all mode r bs)
unfolding hear last_ms samples_of placed baudot_kinds edt_kinds
settles Baudot45 r h bs e =
    let p = h.frame-in.place_in in
    frame-silent Baudot45 (λ q. refl) r bs
    ∙ frames-settle (samples_of Baudot45) 145 test-45 r.frame (omega arith) bs e
settles Baudot50 r h bs e =
    let p = h.frame-in.place_in in
    frame-silent Baudot50 (λ q. refl) r bs
    ∙ frames-settle (samples_of Baudot50) 132 test-50 r.frame (omega arith) bs e
settles Dtmf r h bs e =
    let p = h.keys_ranged.needed_in in
    keys-silent r bs ∙ ap (λ (n : ℕ). keys_after r.keys (replicate n 0)) e ∙ keys-settle r.keys (omega arith)
settles Edt r h bs e =
    let p = h.frame-in.place_in in
    frame-silent Edt (λ q. refl) r bs ∙ frames-settle (samples_of Edt) 97 test-edt r.frame (omega arith) bs e
