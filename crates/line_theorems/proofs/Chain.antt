-- The whole chain: a text on the line is read as its normal form.
use mathlib.Core.Path.{◌≡◌, ◌∙◌, refl, sym, ap}
use mathlib.Core.Bool.{Bool, true, false}
use mathlib.Core.List.{List, [], ◌∷◌, ◌++◌, append-nil}
use Prim.Native.Nat.{ℕ, zero, suc}
use lib.ListN.{replicate}
use Rattle.alphabet.specs.declared.Alphabet.{Alphabet}
use Rattle.alphabet.specs.declared.Mode.{Mode}
use Rattle.alphabet.specs.Normal.{reads}
use Rattle.alphabet.specs.Modes.{alphabet_of}
use Rattle.baudot.specs.Reading.{shift_by}
use Rattle.frames.specs.declared.Found.{Found}
use Rattle.frames.specs.declared.Found.TheVariants.{Nothing as nothing, Code}
use Rattle.keys.specs.declared.Keys.{Keys}
use Rattle.reader.specs.declared.Reader.{Reader}
use Rattle.reader.specs.declared.Reading.{Reading}
use Rattle.lists.specs.Steps.{state_after, outputs}
use Rattle.lists.specs.code.Passing.{kept}
use Rattle.frames.specs.Samples.{Placed, samples_of}
use Rattle.frames.specs.Frames.{hunting, frame_step}
use Rattle.frames.specs.code.Bounds.{Framed, is_found}
use Rattle.reader.specs.Reader.{reader, event_of, hear_frame, hear}
use Rattle.reader.specs.Words.{word_of, words_of, reader_next, reader_event, reader_after, events, words}
use Rattle.lists.proofs.Steps as steps
use Rattle.reader.proofs.Parts.{founds_events, founds_shift, frames-after, frames-events, kept-shift, kept-words}
use Rattle.reader.proofs.WordLists.{words_append}
use Rattle.line_theorems.proofs.FrameRules.{Hears}

-- from the reader r, the ms xs give the words ws and leave the reader q
pub record Gives (mode : Mode) (r : Reader) (xs ws : List ℕ) (q : Reader) : Type 0 where
  pub after : reader_after mode r xs ≡ q
  pub heard : words mode r xs ≡ ws

pub none : (mode : Mode) (r : Reader) → Gives mode r [] [] r
unfolding state_after outputs words_of
none mode r = record { after = refl; heard = refl }

pub chain : (mode : Mode) {r q p : Reader} {xs ys vs ws : List ℕ} → Gives mode r xs vs q → Gives mode q ys ws p
    → Gives mode r (xs ++ ys) (vs ++ ws) p
chain mode {r} {q} {p} {xs} {ys} {vs} {ws} a b =
    let e = steps.outputs-append (reader_next mode) (reader_event mode) r xs ys in
    record {
      after = rw (steps.after-append (reader_next mode) (reader_event mode), a.after) b.after;
      heard =
          ap words_of e
          ∙ words_append (events mode r xs) (events mode (reader_after mode r xs) ys)
          ∙ (rw a.after (λ i. a.heard i ++ b.heard i));
    }

-- something among nothing
pub kept-one : {O : Type 0} (some : O → Bool) (o p : O) → some o ≡ false → some p ≡ true → (n m : ℕ)
    → kept some (replicate n o ++ (p ∷ replicate m o)) ≡ p ∷ []
unfolding kept
kept-one some o p e f zero m = rw f (ap (λ l. p ∷ l) (none_kept m))
  where
    none_kept : (m : ℕ) → kept some (replicate m o) ≡ []
    none_kept zero = refl
    none_kept (suc m) = rw e (none_kept m)
kept-one some o p e f (suc n) m = rw e (kept-one some o p e f n m)

-- a mode that reads frames
module _ (mode : Mode) (framed : Framed mode) where
  abbrev samples : List Placed
  samples = samples_of mode

  abbrev a : Alphabet
  a = alphabet_of mode

  -- ms that find one code
  pub code_read : (k : Keys) (s p : ℕ) (xs : List ℕ) (n m c : ℕ)
      → Hears samples hunting xs (replicate n nothing ++ (Code (record { 0 = c }) ∷ replicate m nothing)) hunting
      → Gives mode (reader hunting k s p) xs (word_of (event_of (reads a s c)))
      (reader hunting k (shift_by s (reads a s c)) p)
  unfolding founds_shift founds_events words_of
  code_read k s p xs n m c h =
      let os = replicate n nothing ++ (Code (record { 0 = c }) ∷ replicate m nothing) in
      let one = kept-one is_found nothing (Code (record { 0 = c })) refl refl n m in
      record {
        after =
            frames-after mode framed (reader hunting k s p) xs
            ∙ (λ j. reader (h.after j) k (founds_shift a s (h.found j)) p)
            ∙ ap (λ (t : ℕ). reader hunting k t p) (sym (kept-shift a s os) ∙ ap (founds_shift a s) one);
        heard =
            ap words_of (frames-events mode framed (reader hunting k s p) xs)
            ∙ ap (λ (l : List Found). words_of (founds_events a s l)) h.found
            ∙ sym (kept-words a s os)
            ∙ ap (λ (l : List Found). words_of (founds_events a s l)) one
            ∙ append-nil (word_of (event_of (reads a s c)));
      }

-- preamble: marks are passed over
module _ (mode : Mode) (law : (r : Reader) (x : ℕ) → hear mode r x ≡ hear_frame mode r x) where
  pub marks-pass : (k : Keys) (s p n : ℕ) → Gives mode (reader hunting k s p) (replicate n 1) [] (reader hunting k s p)
  unfolding state_after outputs words_of frame_step
  marks-pass k s p zero = record { after = refl; heard = refl }
  marks-pass k s p (suc n) =
      let r = reader hunting k s p in
      let i = marks-pass k s p n in
      let e : hear mode r 1 ≡ hear_frame mode r 1 = law r 1 in
      record {
        after = ap (λ (d : Reading). reader_after mode d.reader (replicate n 1)) e ∙ i.after;
        heard = ap (λ (d : Reading). word_of d.event ++ words mode d.reader (replicate n 1)) e ∙ i.heard;
      }
