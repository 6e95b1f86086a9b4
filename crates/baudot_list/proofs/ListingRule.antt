-- Laws of the listing.
use mathlib.Core.Path.{◌≡◌, ◌∙◌, refl, sym, ap}
use mathlib.Core.Bool.{Bool, true, false}
use mathlib.Core.List.{List, [], ◌∷◌, ◌++◌}
use Prim.Native.Nat.{ℕ, ◌+◌, ◌*◌, ◌/◌, ◌≤◌, ◌<◌}
use native.Mathlib.Numerals.{add-one, add-two, add-three, add-four, add_five}
use native.Mathlib.Omega.{arith}
use lib.ListN.{length, get_or, set, take, drop, drop_of_length-le}
use lib.Seq.{sets, drop-cons, length-sets, take_at}
use Rattle.lists.proofs.Lists.{sets-append, sets-front}
use Rattle.refusals.specs.declared.Refusal.{Refusal}
use Rattle.refusals.specs.declared.Refusal.TheVariants as refusal
use Rattle.refusals.specs.Refusals.{number}
use Rattle.alphabet.specs.Normal.{all_chars}
use Rattle.baudot.specs.declared.BaudotSent.{BaudotSent}
use Rattle.baudot.specs.Sending.{fresh, codes_of}
use Rattle.baudot.specs.Entries.{sent_of, codes_after}
use Rattle.baudot_list.specs.Listing.{digit, line_of, lines_of, listing}
use Rattle.baudot.proofs.Fresh.{fresh-bound}
use Rattle.baudot_sending.proofs.Answers.{no-chars, yes}

pub lines-length : (ks : List ℕ) → length (lines_of ks) ≡ 6 * length ks
unfolding lines_of
lines-length [] = refl
lines-length (k ∷ ks) = let e = lines-length ks in omega arith

-- the lines from the index i on
pub record Listed (codes lines₀ lines : List ℕ) (i : ℕ) : Type 0 where
  pub size : length lines ≡ length lines₀
  pub slice : sets lines (6 * i) (lines_of (drop i codes)) ≡ sets lines₀ 0 (lines_of codes)

module _ (codes lines₀ lines : List ℕ) (i : ℕ) (l : Listed codes lines₀ lines i) where
  pub listed-turn : (after : List ℕ) → i < length codes
      → after ≡ sets lines (6 * i) (line_of (get_or codes i 0)) → Listed codes lines₀ after (i + 1)
  unfolding lines_of
  listed-turn after h e =
      let k = line_of (get_or codes i 0) in
      let d : lines_of (drop i codes) ≡ k ++ lines_of (drop (i + 1) codes) = rw (add-one, drop-cons codes i 0 h) in
      let n : 6 * i + length k ≡ 6 * (i + 1) = omega arith in
      record {
        size = ap length e ∙ length-sets lines (6 * i) k ∙ l.size;
        slice =
            ap (λ (x : List ℕ). sets x (6 * (i + 1)) (lines_of (drop (i + 1) codes))) e
            ∙ ap (λ (m : ℕ). sets (sets lines (6 * i) k) m (lines_of (drop (i + 1) codes))) (sym n)
            ∙ sym (sets-append lines (6 * i) k (lines_of (drop (i + 1) codes)))
            ∙ ap (sets lines (6 * i)) (sym d)
            ∙ l.slice;
      }

  pub listed-end : length codes ≤ i → lines ≡ sets lines₀ 0 (lines_of codes)
  unfolding lines_of
  listed-end h = ap (λ (x : List ℕ). sets lines (6 * i) (lines_of x)) (sym (drop_of_length-le codes h)) ∙ l.slice

pub listed_start : (codes lines : List ℕ) → Listed codes lines lines 0
listed_start codes lines = record { size = refl; slice = refl }

-- no refusal has the number 0
pub refusal-some : (r : Refusal) → number r ≡ 0 → ⊥
refusal-some refusal.State e = omega arith
refusal-some refusal.Mode e = omega arith
refusal-some refusal.Character e = omega arith
refusal-some refusal.Full e = omega arith
refusal-some refusal.Duration e = omega arith
refusal-some refusal.Heard e = omega arith
refusal-some refusal.SentSlice e = omega arith
refusal-some refusal.WordSlice e = omega arith
refusal-some refusal.ResultSlice e = omega arith
refusal-some refusal.Code e = omega arith
refusal-some refusal.Tone e = omega arith
refusal-some refusal.CallingState e = omega arith
refusal-some refusal.ReportFull e = omega arith

-- What the listing makes of the answer of a conversion.
module _ (text codes : List ℕ) (room : 2 * length text + 1 ≤ length codes) where
  -- refused: a byte above 127, and nothing is printed
  pub listed-none : (r : BaudotSent) → r ≡ sent_of text 0 0 (length codes) → (r.answer ≡ 0 → ⊥) → listing text ≡ []
  unfolding sent_of listing
  listed-none r e n = go (all_chars text) refl
    where
      go : (b : Bool) → all_chars text ≡ b → listing text ≡ []
      go true f =
          let y = yes text 0 0 codes refl f (omega (arith, fresh-bound text f fresh refl)) in
          absurd (n (ap (λ (x : BaudotSent). x.answer) e ∙ (simp y)))
      go false f = simp f

  -- taken: the front of the slice has the codes
  pub record Taken (r : BaudotSent) : Type 0 where
    pub lists : listing text ≡ lines_of (codes_of fresh text)
    pub count : r.length ≡ length (codes_of fresh text)
    pub within : r.length ≤ length codes
    pub front : take r.length (codes_after text 0 0 codes) ≡ codes_of fresh text

  pub listed-all : (r : BaudotSent) → r ≡ sent_of text 0 0 (length codes) → r.answer ≡ 0 → Taken r
  unfolding sent_of codes_after listing
  listed-all r e z = go (all_chars text) refl
    where
      go : (b : Bool) → all_chars text ≡ b → Taken r
      go true f =
          let h = fresh-bound text f fresh refl in
          let y = yes text 0 0 codes refl f (omega arith) in
          let n : r.length ≡ length (codes_of fresh text) = ap (λ (x : BaudotSent). x.length) e ∙ (simp y) in
          record {
            lists = simp f;
            count = n;
            within = omega arith;
            front = rw y (take_at (codes_of fresh text) (drop (length (codes_of fresh text)) codes) r.length (sym n));
          }
      go false f =
          let w = no-chars text 0 0 codes refl f in
          let q : r.answer ≡ 3 = ap (λ (x : BaudotSent). x.answer) e ∙ (simp w) in
          absurd (omega arith)

-- six stores, one behind the other, are a line
pub six-stores : (l : List ℕ) (at k a b c d e : ℕ)
    → a ≡ digit (k / 16) → b ≡ digit (k / 8) → c ≡ digit (k / 4) → d ≡ digit (k / 2) → e ≡ digit k
    → set (set (set (set (set (set l at a) (at + 1) b) (at + 2) c) (at + 3) d) (at + 4) e) (at + 5) 10
    ≡ sets l at (line_of k)
six-stores l at k a b c d e p q r s t = simp (p, q, r, s, t, add-one, add-two, add-three, add-four, add_five)

-- What the listing leaves: the length, and the lines.
module _ (text lines : List ℕ) where
  pub record Printed (n : ℕ) (after : List ℕ) : Type 0 where
    pub length_is : n ≡ length (listing text)
    pub lines_are : after ≡ listing text ++ drop (length (listing text)) lines

  pub printed-none : listing text ≡ [] → Printed 0 lines
  printed-none e = record { length_is = simp e; lines_are = simp e }

  pub printed-all : (ks part : List ℕ) (m : ℕ) (after : List ℕ)
      → listing text ≡ lines_of ks → m ≡ length ks → part ≡ ks
      → 6 * length ks ≤ length lines → after ≡ sets lines 0 (lines_of part) → Printed (6 * m) after
  printed-all ks part m after e q f h g =
      let n = lines-length ks in
      record {
        length_is = ap (λ (x : ℕ). 6 * x) q ∙ sym n ∙ ap length (sym e);
        lines_are =
            g ∙ ap (λ (x : List ℕ). sets lines 0 (lines_of x)) f
            ∙ sets-front lines (lines_of ks) (omega arith)
            ∙ (rw e);
      }
