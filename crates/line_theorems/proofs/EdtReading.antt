-- Every EDT character's signal is read as that character, by one computed test.
use mathlib.Core.Path.{◌≡◌, refl}
use mathlib.Core.Bool.{Bool, true, false, ◌&&◌}
use mathlib.Core.List.{List, [], ◌∷◌, ◌++◌}
use Prim.Native.Nat.{ℕ, ◌<◌}
use lib.Dec.{T, eqb, eqb→eq}
use lib.ListN.{replicate}
use Rattle.lists.specs.Tables.{tabulate, passes}
use Rattle.lists.proofs.Tables.{both_left, both_right, passes_at}
use Rattle.alphabet.specs.declared.LineCode.{LineCode}
use Rattle.frames.specs.declared.Frame.{Frame}
use Rattle.frames.specs.declared.Found.{Found}
use Rattle.frames.specs.declared.Found.TheVariants.{Nothing, Fault, Code}
use Rattle.lists.specs.Steps.{state_after, outputs}
use Rattle.signal.specs.Signal.{digits, sum, edt_elements, edt_signal}
use Rattle.frames.specs.Samples.{placed, sample_at, edt_kinds, edt_samples}
use Rattle.frames.specs.Frames.{hunting, sampled, frame_step, frame_after, founds}
use Rattle.line_theorems.proofs.FrameRules.{Hears}

-- two lists of what ms end in, without a fault, compared by a test
abbrev is_nothing : Found → Bool
is_nothing Nothing = true
is_nothing (Fault c m) = false
is_nothing (Code k) = false

abbrev is_code : LineCode → Found → Bool
is_code k Nothing = false
is_code k (Fault c m) = false
is_code k (Code l) = eqb k.0 l.0

abbrev same : Found → Found → Bool
same Nothing g = is_nothing g
same (Fault c m) g = false
same (Code k) g = is_code k g

is-nothing : (g : Found) → T (is_nothing g) → Nothing ≡ g
is-nothing Nothing t = refl
is-nothing (Fault c m) t = absurd t
is-nothing (Code k) t = absurd t

is-code : (k : LineCode) (g : Found) → T (is_code k g) → Code k ≡ g
is-code k Nothing t = absurd t
is-code k (Fault c m) t = absurd t
is-code k (Code l) t = let e = eqb→eq k.0 l.0 t in λ i. Code (record { 0 = e i })

is_same : (f g : Found) → T (same f g) → f ≡ g
is_same Nothing g t = is-nothing g t
is_same (Fault c m) g t = absurd t
is_same (Code k) g t = is-code k g t

abbrev same_founds : List Found → List Found → Bool
same_founds [] [] = true
same_founds [] (g ∷ gs) = false
same_founds (f ∷ fs) [] = false
same_founds (f ∷ fs) (g ∷ gs) = same f g && same_founds fs gs

same-founds : (fs gs : List Found) → T (same_founds fs gs) → fs ≡ gs
same-founds [] [] t = refl
same-founds [] (g ∷ gs) t = absurd t
same-founds (f ∷ fs) [] t = absurd t
same-founds (f ∷ fs) (g ∷ gs) t =
    let p = is_same f g (both_left (same f g) (same_founds fs gs) t) in
    let q = same-founds fs gs (both_right (same f g) (same_founds fs gs) t) in
    λ i. p i ∷ q i

abbrev pub is_hunting : Frame → Bool
is_hunting f = eqb f.place 0 && eqb f.digits 0

pub is-hunting : (f : Frame) → T (is_hunting f) → f ≡ hunting
is-hunting f t =
    let p = eqb→eq f.place 0 (both_left (eqb f.place 0) (eqb f.digits 0) t) in
    let q = eqb→eq f.digits 0 (both_right (eqb f.place 0) (eqb f.digits 0) t) in
    λ i. record { place = p i; digits = q i }

-- nothing up to the last sample, at ms 95; the code there; nothing behind it
abbrev pub one_code : ℕ → List Found
one_code c = replicate 95 Nothing ++ (Code (record { 0 = c }) ∷ replicate 4 Nothing)

abbrev good : ℕ → Bool
good c =
    same_founds (founds edt_samples hunting (edt_signal c)) (one_code c) && is_hunting
    (frame_after edt_samples hunting (edt_signal c))

edt-test : T (passes good 128 0)
unfolding passes state_after outputs frame_step sampled sample_at placed edt_kinds edt_signal edt_elements digits sum
    tabulate
edt-test = tt

pub reads-edt : (c : ℕ) → c < 128 → Hears edt_samples hunting (edt_signal c) (one_code c) hunting
reads-edt c h =
    let t = passes_at good 128 edt-test c h in
    let a = same_founds (founds edt_samples hunting (edt_signal c)) (one_code c) in
    let b = is_hunting (frame_after edt_samples hunting (edt_signal c)) in
    record { after = is-hunting _ (both_right a b t); found = same-founds _ _ (both_left a b t) }
