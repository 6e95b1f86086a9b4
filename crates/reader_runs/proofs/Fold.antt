-- The ms of a list, one after the other: what is left at a place of it, for the loop that reads them.
use mathlib.Core.Path.{◌≡◌, ◌∙◌, refl, sym, ap}
use mathlib.Core.List.{List, [], ◌++◌}
use Prim.Native.Nat.{ℕ, ◌+◌, ◌≤◌, ◌<◌}
use native.Mathlib.Nat.{add_assoc}
use native.Mathlib.Numerals.{add-one}
use native.Mathlib.Omega.{arith}
use lib.ListN.{length, get_or, drop, drop_of_length-le, length-append}
use lib.Seq.{sets, drop-cons, length-sets}
use Rattle.lists.specs.Steps.{state_after, outputs}
use Rattle.lists.proofs.Lists.{sets-append}
use Rattle.alphabet.specs.declared.Mode.{Mode}
use Rattle.reader.specs.declared.Reader.{Reader}
use Rattle.reader.specs.declared.Reading.{Reading}
use Rattle.reader.specs.Reader.{hear}
use Rattle.reader.specs.code.Bounds.{ReaderIn}
use Rattle.reader.specs.Words.{word_of, words_of, reader_after, words}
use Rattle.reader.proofs.WordLists.{one_word}
use Rattle.reader_runs.specs.declared.Skipped.{Skipped}
use Rattle.reader_runs.specs.code.Skipping.{Skips}

module _ (mode : Mode) (r : Reader) (heard : List ℕ) (i : ℕ) where
  -- a ms, and then the others
  pub reader-next : i < length heard
      → reader_after mode r (drop i heard) ≡ reader_after mode (hear mode r (get_or heard i 0)).reader
      (drop (i + 1) heard)
  unfolding state_after
  reader-next h = rw (add-one, drop-cons heard i 0 h) refl

  pub words-next : i < length heard
      → words mode r (drop i heard)
      ≡ word_of (hear mode r (get_or heard i 0)).event
      ++ words mode (hear mode r (get_or heard i 0)).reader (drop (i + 1) heard)
  unfolding outputs words_of
  words-next h = rw (add-one, drop-cons heard i 0 h) refl

  pub reader-end : length heard ≤ i → reader_after mode r (drop i heard) ≡ r
  unfolding state_after
  reader-end h = rw (drop_of_length-le heard h) refl

  pub words-end : length heard ≤ i → words mode r (drop i heard) ≡ []
  unfolding outputs words_of
  words-end h = rw (drop_of_length-le heard h) refl

-- From the reader r₀ and the place i₀ on, words go to the slice out₀ from n₀ on; at the place i this is left.
pub record Left (mode : Mode) (heard out₀ : List ℕ) (r₀ : Reader) (i₀ n₀ : ℕ) (out : List ℕ) (r : Reader)
    (i n : ℕ) : Type 0 where
  pub size : length out ≡ length out₀
  pub within : i ≤ length heard
  pub room : n + length heard ≤ length out + i
  pub ranged : ReaderIn mode r
  pub reader : reader_after mode r (drop i heard) ≡ reader_after mode r₀ (drop i₀ heard)
  pub place : n + length (words mode r (drop i heard)) ≡ n₀ + length (words mode r₀ (drop i₀ heard))
  pub slice : sets out n (words mode r (drop i heard)) ≡ sets out₀ n₀ (words mode r₀ (drop i₀ heard))

module _ (mode : Mode) (heard out₀ : List ℕ) (r₀ : Reader) (i₀ n₀ : ℕ) where
  pub left-start : ReaderIn mode r₀ → i₀ ≤ length heard → n₀ + length heard ≤ length out₀ + i₀
      → Left mode heard out₀ r₀ i₀ n₀ out₀ r₀ i₀ n₀
  left-start q w f = record {
    size = refl;
    within = w;
    room = f;
    ranged = q;
    reader = refl;
    place = refl;
    slice = refl;
  }

  module _ (out : List ℕ) (r : Reader) (i n : ℕ) (l : Left mode heard out₀ r₀ i₀ n₀ out r i n) where
    -- ms that are skipped
    pub left-skip : (s : Skipped) → Skips mode heard r i s → Left mode heard out₀ r₀ i₀ n₀ out s.reader s.to n
    left-skip s k =
        let a = k.low in
        let b = l.room in
        record {
          size = l.size;
          within = k.high;
          room = omega arith;
          ranged = k.ranged;
          reader = k.reader ∙ l.reader;
          place = rw k.words l.place;
          slice = rw k.words l.slice;
        }

    -- one ms more
    pub left-hear : i < length heard → (q : Reading) → q ≡ hear mode r (get_or heard i 0) → ReaderIn mode q.reader
        → (n' : ℕ) → n' ≡ n + length (word_of q.event)
        → (out' : List ℕ) → out' ≡ sets out n (word_of q.event)
        → Left mode heard out₀ r₀ i₀ n₀ out' q.reader (i + 1) n'
    left-hear h q e j n' en out' eo =
        let w = word_of q.event in
        let ws = words mode q.reader (drop (i + 1) heard) in
        let z = length-sets out n w in
        let m = ap length eo in
        let o = one_word q.event in
        let b = l.room in
        let x : w ++ ws ≡ words mode r (drop i heard) = rw e (sym (words-next mode r heard i h)) in
        record {
          size = m ∙ z ∙ l.size;
          within = omega arith;
          room = omega arith;
          ranged = j;
          reader =
              ap (λ (p : Reading). reader_after mode p.reader (drop (i + 1) heard)) e
              ∙ sym (reader-next mode r heard i h)
              ∙ l.reader;
          place = rw (en, add_assoc, ← length-append w ws, x) l.place;
          slice = rw (eo, en, ← sets-append out n w ws, x) l.slice;
        }

    pub left-reader : length heard ≤ i → r ≡ reader_after mode r₀ (drop i₀ heard)
    left-reader h = sym (reader-end mode r heard i h) ∙ l.reader

    pub left-place : length heard ≤ i → n ≡ n₀ + length (words mode r₀ (drop i₀ heard))
    left-place h = let z = ap length (words-end mode r heard i h) in let p = l.place in omega arith

    pub left-slice : length heard ≤ i → out ≡ sets out₀ n₀ (words mode r₀ (drop i₀ heard))
    left-slice h = sym (ap (sets out n) (words-end mode r heard i h)) ∙ l.slice
