-- A reader over many ms, by its parts: its frame and what was found, or its keys and those that counted.
use mathlib.Core.Path.{◌≡◌, ◌∙◌, refl, sym, ap}
use mathlib.Core.Bool.{Bool, true, false, not, cond}
use mathlib.Core.List.{List, [], ◌∷◌, ◌++◌}
use Prim.Native.Nat.{ℕ}
use lib.Dec.{eqb}
use Rattle.lists.specs.Steps.{state_after, outputs}
use Rattle.lists.specs.code.Passing.{kept}
use Rattle.alphabet.specs.declared.Alphabet.{Alphabet}
use Rattle.alphabet.specs.declared.Mode.{Mode}
use Rattle.alphabet.specs.declared.Mode.TheVariants.{Baudot45, Baudot50, Dtmf, Edt}
use Rattle.alphabet.specs.Modes.{alphabet_of}
use Rattle.frames.specs.declared.Found.{Found}
use Rattle.frames.specs.declared.Found.TheVariants.{Nothing as nothing, Fault as fault, Code}
use Rattle.frames.specs.Samples.{samples_of}
use Rattle.frames.specs.Frames.{frame_after, founds}
use Rattle.frames.specs.code.Bounds.{Framed, is_found}
use Rattle.keys.specs.Keys.{keys_after, keys_heard}
use Rattle.keys.specs.code.Bounds.{is_key}
use Rattle.reader.specs.declared.Event.{Event}
use Rattle.reader.specs.declared.Event.TheVariants.{Nothing}
use Rattle.reader.specs.declared.Reader.{Reader}
use Rattle.reader.specs.declared.Reading.{Reading}
use Rattle.reader.specs.Reader.{found_event, found_shift, key_event, prefix_after, with_frame, with_keys, with_shift, with_prefix, hear_frame, hear}
use Rattle.reader.specs.Words.{word_of, words_of, reader_after, events}

-- what was found in ms of frames ends in, in a shift that it may change
unfoldable pub founds_events : Alphabet → ℕ → List Found → List Event
founds_events a s [] = []
founds_events a s (o ∷ os) = found_event a s o ∷ founds_events a (found_shift a s o) os

unfoldable pub founds_shift : Alphabet → ℕ → List Found → ℕ
founds_shift a s [] = s
founds_shift a s (o ∷ os) = founds_shift a (found_shift a s o) os

-- what keys that count end in, behind a prefix that they change
unfoldable pub keys_events : ℕ → List ℕ → List Event
keys_events p [] = []
keys_events p (k ∷ ks) = key_event p k ∷ keys_events (prefix_after p k) ks

unfoldable pub keys_prefix : ℕ → List ℕ → ℕ
keys_prefix p [] = p
keys_prefix p (k ∷ ks) = keys_prefix (prefix_after p k) ks

-- a mode that has frames reads them
pub hears-frames : (mode : Mode) → Framed mode → (r : Reader) (x : ℕ) → hear mode r x ≡ hear_frame mode r x
unfolding hear
hears-frames Baudot45 t r x = refl
hears-frames Baudot50 t r x = refl
hears-frames Dtmf t r x = absurd t
hears-frames Edt t r x = refl

module _ (mode : Mode) (t : Framed mode) where
  abbrev found : Reader → List ℕ → List Found
  found r xs = founds (samples_of mode) r.frame xs

  pub frames-after : (r : Reader) (xs : List ℕ)
      → reader_after mode r xs
      ≡ with_shift (with_frame r (frame_after (samples_of mode) r.frame xs))
      (founds_shift (alphabet_of mode) r.shift (found r xs))
  unfolding state_after outputs founds_shift
  frames-after r [] = refl
  frames-after r (x ∷ xs) =
      ap (λ (d : Reading). reader_after mode d.reader xs) (hears-frames mode t r x)
      ∙ frames-after (hear_frame mode r x).reader xs

  pub frames-events : (r : Reader) (xs : List ℕ)
      → events mode r xs ≡ founds_events (alphabet_of mode) r.shift (found r xs)
  unfolding state_after outputs founds_events
  frames-events r [] = refl
  frames-events r (x ∷ xs) =
      ap (λ (d : Reading). d.event ∷ events mode d.reader xs) (hears-frames mode t r x)
      ∙ ap (λ (l : List Event). (hear_frame mode r x).event ∷ l) (frames-events (hear_frame mode r x).reader xs)

pub keys-after : (r : Reader) (xs : List ℕ)
    → reader_after Dtmf r xs
    ≡ with_prefix (with_keys r (keys_after r.keys xs)) (keys_prefix r.prefix (keys_heard r.keys xs))
unfolding state_after outputs keys_prefix hear
keys-after r [] = refl
keys-after r (x ∷ xs) = keys-after (hear Dtmf r x).reader xs

pub keys-events : (r : Reader) (xs : List ℕ) → events Dtmf r xs ≡ keys_events r.prefix (keys_heard r.keys xs)
unfolding state_after outputs keys_events hear
keys-events r [] = refl
keys-events r (x ∷ xs) = ap (λ (l : List Event). (hear Dtmf r x).event ∷ l) (keys-events (hear Dtmf r x).reader xs)

-- ---- what ends in nothing

-- what is nothing changes no shift and gives no word
pub kept-shift : (a : Alphabet) (s : ℕ) (os : List Found) → founds_shift a s (kept is_found os) ≡ founds_shift a s os
unfolding founds_shift kept
kept-shift a s [] = refl
kept-shift a s (nothing ∷ os) = kept-shift a s os
kept-shift a s (fault c m ∷ os) = kept-shift a s os
kept-shift a s (Code k ∷ os) = kept-shift a (found_shift a s (Code k)) os

pub kept-words : (a : Alphabet) (s : ℕ) (os : List Found)
    → words_of (founds_events a s (kept is_found os)) ≡ words_of (founds_events a s os)
unfolding founds_events words_of kept
kept-words a s [] = refl
kept-words a s (nothing ∷ os) = kept-words a s os
kept-words a s (fault c m ∷ os) = ap (λ (l : List ℕ). word_of (found_event a s (fault c m)) ++ l) (kept-words a s os)
kept-words a s (Code k ∷ os) =
    ap (λ (l : List ℕ). word_of (found_event a s (Code k)) ++ l) (kept-words a (found_shift a s (Code k)) os)

-- no key changes no prefix and gives no word
no-prefix : (p k : ℕ) → eqb k 0 ≡ true → prefix_after p k ≡ p
unfolding prefix_after
no-prefix p k e = rw e refl

no-event : (p k : ℕ) → eqb k 0 ≡ true → key_event p k ≡ Nothing
unfolding key_event
no-event p k e = rw e refl

pub kept-prefix : (p : ℕ) (ks : List ℕ) → keys_prefix p (kept is_key ks) ≡ keys_prefix p ks
unfolding keys_prefix kept
kept-prefix p [] = refl
kept-prefix p (k ∷ ks) = go (λ (q : ℕ). kept-prefix q ks) (eqb k 0) refl
  where
    go : ((q : ℕ) → keys_prefix q (kept is_key ks) ≡ keys_prefix q ks) → (b : Bool) → eqb k 0 ≡ b
        → keys_prefix p (cond (not b) (k ∷ kept is_key ks) (kept is_key ks)) ≡ keys_prefix (prefix_after p k) ks
    go rest true e = rest p ∙ ap (λ (q : ℕ). keys_prefix q ks) (sym (no-prefix p k e))
    go rest false e = rest (prefix_after p k)

pub kept-keys : (p : ℕ) (ks : List ℕ) → words_of (keys_events p (kept is_key ks)) ≡ words_of (keys_events p ks)
unfolding keys_events words_of kept
kept-keys p [] = refl
kept-keys p (k ∷ ks) = go (λ (q : ℕ). kept-keys q ks) (eqb k 0) refl
  where
    go : ((q : ℕ) → words_of (keys_events q (kept is_key ks)) ≡ words_of (keys_events q ks)) → (b : Bool) → eqb k 0 ≡ b
        → words_of (keys_events p (cond (not b) (k ∷ kept is_key ks) (kept is_key ks)))
        ≡ word_of (key_event p k) ++ words_of (keys_events (prefix_after p k) ks)
    go rest true e =
        rest p ∙ sym (λ j. word_of (no-event p k e j) ++ words_of (keys_events (no-prefix p k e j) ks))
    go rest false e = ap (λ (l : List ℕ). word_of (key_event p k) ++ l) (rest (prefix_after p k))
