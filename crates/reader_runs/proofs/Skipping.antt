-- What a frame may pass over, or keys may, their reader may skip.
use mathlib.Core.Path.{◌≡◌, ◌∙◌, sym, ap}
use mathlib.Core.List.{List}
use Prim.Native.Nat.{ℕ}
use lib.ListN.{drop}
use Rattle.alphabet.specs.declared.Alphabet.{Alphabet}
use Rattle.alphabet.specs.declared.Mode.{Mode}
use Rattle.alphabet.specs.declared.Mode.TheVariants.{Dtmf}
use Rattle.alphabet.specs.Modes.{alphabet_of}
use Rattle.frames.specs.declared.Frame.{Frame}
use Rattle.frames.specs.declared.Found.{Found}
use Rattle.frames.specs.Samples.{samples_of}
use Rattle.frames.specs.Frames.{founds}
use Rattle.frames.specs.code.Bounds.{Framed}
use Rattle.keys.specs.declared.Keys.{Keys}
use Rattle.keys.specs.Keys.{keys_heard}
use Rattle.reader.specs.declared.Reader.{Reader}
use Rattle.reader.specs.Reader.{with_frame, with_keys, with_shift, with_prefix}
use Rattle.reader.specs.Words.{words_of}
use Rattle.reader.specs.code.Bounds.{ReaderIn}
use Rattle.reader.proofs.Parts.{founds_events, founds_shift, frames-after, frames-events, kept-shift, kept-words}
use Rattle.reader.proofs.Parts.{keys_events, keys_prefix, keys-after, keys-events, kept-prefix, kept-keys}
use Rattle.frames_runs.specs.code.Passing.{FramePasses}
use Rattle.keys_runs.specs.code.Passing.{KeysPass}
use Rattle.reader_runs.specs.code.Skipping.{Skips}

-- ---- a reader of frames

module _ (mode : Mode) (framed : Framed mode) (heard : List ℕ) (r : Reader) (h : ReaderIn mode r) (i : ℕ) (g : Frame)
    (to : ℕ)
    (p : FramePasses mode heard r.frame i g to) where
  abbrev a : Alphabet
  a = alphabet_of mode

  abbrev before : List Found
  before = founds (samples_of mode) r.frame (drop i heard)

  abbrev behind : List Found
  behind = founds (samples_of mode) g (drop to heard)

  same-shift : founds_shift a r.shift behind ≡ founds_shift a r.shift before
  same-shift =
      sym (kept-shift a r.shift behind) ∙ ap (founds_shift a r.shift) p.rest ∙ kept-shift a r.shift before

  same-words : words_of (founds_events a r.shift behind) ≡ words_of (founds_events a r.shift before)
  same-words =
      sym (kept-words a r.shift behind)
      ∙ ap (λ (os : List Found). words_of (founds_events a r.shift os)) p.rest
      ∙ kept-words a r.shift before

  pub frame-skips : Skips mode heard r i (record { reader = with_frame r g; to = to })
  frame-skips = record {
    low = p.low;
    high = p.high;
    ranged = record {
      frame-in = p.ranged;
      keys_ranged = h.keys_ranged;
      shift_low = h.shift_low;
      shift_in = h.shift_in;
      prefix_in = h.prefix_in;
    };
    reader =
        frames-after mode framed (with_frame r g) (drop to heard)
        ∙ (λ j. with_shift (with_frame r (p.after j)) (same-shift j))
        ∙ sym (frames-after mode framed r (drop i heard));
    words =
        ap words_of (frames-events mode framed (with_frame r g) (drop to heard))
        ∙ same-words
        ∙ sym (ap words_of (frames-events mode framed r (drop i heard)));
  }

-- ---- a reader of keys

module _ (heard : List ℕ) (r : Reader) (h : ReaderIn Dtmf r) (i : ℕ) (k : Keys) (to : ℕ)
    (p : KeysPass heard r.keys i k to) where
  abbrev counted : List ℕ
  counted = keys_heard r.keys (drop i heard)

  abbrev counting : List ℕ
  counting = keys_heard k (drop to heard)

  same-prefix : keys_prefix r.prefix counting ≡ keys_prefix r.prefix counted
  same-prefix =
      sym (kept-prefix r.prefix counting) ∙ ap (keys_prefix r.prefix) p.rest ∙ kept-prefix r.prefix counted

  same_keys : words_of (keys_events r.prefix counting) ≡ words_of (keys_events r.prefix counted)
  same_keys =
      sym (kept-keys r.prefix counting)
      ∙ ap (λ (ks : List ℕ). words_of (keys_events r.prefix ks)) p.rest
      ∙ kept-keys r.prefix counted

  pub keys-skip : Skips Dtmf heard r i (record { reader = with_keys r k; to = to })
  keys-skip = record {
    low = p.low;
    high = p.high;
    ranged = record {
      frame-in = h.frame-in;
      keys_ranged = p.ranged;
      shift_low = h.shift_low;
      shift_in = h.shift_in;
      prefix_in = h.prefix_in;
    };
    reader =
        keys-after (with_keys r k) (drop to heard)
        ∙ (λ j. with_prefix (with_keys r (p.after j)) (same-prefix j))
        ∙ sym (keys-after r (drop i heard));
    words =
        ap words_of (keys-events (with_keys r k) (drop to heard))
        ∙ same_keys
        ∙ sym (ap words_of (keys-events r (drop i heard)));
  }
