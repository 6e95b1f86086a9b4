-- Both modes of Baudot bear displacements of up to 4 ms: what the frames give, the reader hears.
use mathlib.Core.Path.{◌≡◌, ◌∙◌, refl, sym, ap}
use mathlib.Core.List.{List, [], ◌∷◌, ◌++◌}
use Prim.Native.Nat.{ℕ, ◌*◌, ◌<◌, ◌≤◌}
use native.Mathlib.Omega.{arith}
use Rattle.lists.specs.code.Passing.{kept}
use Rattle.alphabet.specs.declared.Alphabet.TheVariants.{Baudot}
use Rattle.alphabet.specs.declared.Mode.{Mode}
use Rattle.alphabet.specs.declared.Mode.TheVariants.{Baudot45, Baudot50, Dtmf, Edt}
use Rattle.alphabet.specs.Baudot.{read_baudot}
use Rattle.alphabet.specs.Modes.{alphabet_of, element_of, preamble_of}
use Rattle.alphabet.specs.Normal.{reads}
use Rattle.baudot.specs.Reading.{shift_by, text_of, shift_after}
use Rattle.signal.specs.Signal.{signal, signals, baudot_signal}
use Rattle.frames.specs.declared.Found.{Found}
use Rattle.frames.specs.declared.Found.TheVariants.{Nothing, Fault, Code}
use Rattle.frames.specs.Samples.{samples_of, baudot_samples}
use Rattle.frames.specs.Frames.{hunting, founds}
use Rattle.frames.specs.code.Bounds.{Framed, is_found}
use Rattle.reader.specs.declared.Reader.{Reader}
use Rattle.reader.specs.Reader.{reader}
use Rattle.reader.specs.Words.{words_of}
use Rattle.reader.proofs.Parts.{founds_events, founds_shift, frames-after, frames-events, kept-shift, kept-words}
use Rattle.line_theorems.proofs.BaudotChain.{baudot-word}
use Rattle.tolerance_theorems.specs.Edges.{Moved}
use Rattle.tolerance_theorems.specs.Bursts.{on_quiet, codes_at, burst_at, found, codes_found, ReadAs, HeardAs}
use Rattle.tolerance_theorems.specs.Tolerance.{Bears, Request}
use Rattle.tolerance_theorems.proofs.Frames.{law}

-- ---- from codes to words

-- the codes and faults are what is kept of what was found
kept-found : (os : List Found) → kept is_found os ≡ found os
unfolding kept found
kept-found [] = refl
kept-found (Nothing ∷ os) = kept-found os
kept-found (Fault c m ∷ os) = ap (λ (l : List Found). Fault c m ∷ l) (kept-found os)
kept-found (Code k ∷ os) = ap (λ (l : List Found). Code k ∷ l) (kept-found os)

codes-words : (s : ℕ) (ks : List ℕ) → words_of (founds_events Baudot s (codes_found ks)) ≡ text_of s ks
unfolding founds_events words_of codes_found text_of reads
codes-words s [] = refl
codes-words s (k ∷ ks) = λ i. baudot-word s k i ++ codes-words (shift_by s (read_baudot s k)) ks i

codes-shift : (s : ℕ) (ks : List ℕ) → founds_shift Baudot s (codes_found ks) ≡ shift_after s ks
unfolding founds_shift codes_found shift_after reads
codes-shift s [] = refl
codes-shift s (k ∷ ks) = codes-shift (shift_by s (read_baudot s k)) ks

heard-as : (mode : Mode) → Framed mode → alphabet_of mode ≡ Baudot → (r : Reader) (ys ks : List ℕ) → r.frame ≡ hunting
    → ReadAs (samples_of mode) r.frame ys ks hunting → HeardAs mode r ys ks
heard-as mode framed b r ys ks h a =
    let os = founds (samples_of mode) r.frame ys in
    let only : kept is_found os ≡ codes_found ks = kept-found os ∙ a.codes-are in
    let s = r.shift in
    let shift_is : founds_shift (alphabet_of mode) s os ≡ shift_after s ks =
    sym (kept-shift (alphabet_of mode) s os) ∙ (λ i. founds_shift (b i) s (only i)) ∙ codes-shift s ks in
    record {
      codes = a;
      words_are =
          ap words_of (frames-events mode framed r ys) ∙ sym (kept-words (alphabet_of mode) s os)
          ∙ (λ i. words_of (founds_events (b i) s (only i)))
          ∙ codes-words s ks;
      reader_then =
          frames-after mode framed r ys
          ∙ (λ i. reader ((a.after ∙ sym h) i) r.keys (shift_is i) r.prefix);
    }

-- ---- a mode of Baudot goes by its element

pub record Elements (mode : Mode) : Type 0 where
  pub least : 20 ≤ element_of mode
  pub most : element_of mode ≤ 22
  pub preamble-is : preamble_of mode ≡ 150
  pub framed : Framed mode
  pub samples_are : samples_of mode ≡ baudot_samples (element_of mode)
  pub signal_is : (k : ℕ) → signal mode k ≡ baudot_signal (element_of mode) k

pub elements : (mode : Mode) → alphabet_of mode ≡ Baudot → Elements mode
unfolding samples_of signal
elements Baudot45 b = record {
  least = omega arith;
  most = omega arith;
  preamble-is = refl;
  framed = tt;
  samples_are = refl;
  signal_is = λ k. refl;
}
elements Baudot50 b = record {
  least = omega arith;
  most = omega arith;
  preamble-is = refl;
  framed = tt;
  samples_are = refl;
  signal_is = λ k. refl;
}
elements Dtmf b = absurd (let z : ◌≡◌ {A = ℕ} 0 1 = cc in omega arith)
elements Edt b = absurd (let z : ◌≡◌ {A = ℕ} 0 1 = cc in omega arith)

pub signals-are : (mode : Mode) → Elements mode → (ks : List ℕ) → signals mode ks ≡ codes_at (element_of mode) ks
unfolding signals codes_at
signals-are mode m [] = refl
signals-are mode m (k ∷ ks) = λ i. m.signal_is k i ++ signals-are mode m ks i

pub bears : (mode : Mode) (d : ℕ) → alphabet_of mode ≡ Baudot → 4 * d < element_of mode → Bears mode d
bears mode d b slack before after ks ys r five h moved =
    let m = elements mode b in
    let n : Moved d (on_quiet before (burst_at (element_of mode) (preamble_of mode) ks) after) ys =
    rw (signals-are mode m ks) at moved in
    let a = law (element_of mode) d before (preamble_of mode) after ks ys (omega (arith, m.least)) slack
    (omega (arith, m.preamble-is)) five n in
    heard-as mode m.framed b r ys ks h (rw (m.samples_are, h) a)

pub request : Request
request mode b = bears mode 4 b (omega (arith, (elements mode b).least))
