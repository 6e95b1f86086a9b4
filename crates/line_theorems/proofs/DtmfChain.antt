-- The whole chain in DTMF: every code that has a row is read as its character.
use mathlib.Core.Path.{◌≡◌, ◌∙◌, refl, sym, ap, subst}
use mathlib.Core.Bool.{Bool, true, false, cond, not, ◌&&◌}
use mathlib.Core.List.{List, [], ◌∷◌, ◌++◌, append-nil, append_assoc}
use Prim.Native.Nat.{ℕ, ◌/◌, ◌≤◌}
use Prim.Native.String.{String}
use native.Mathlib.Omega.{arith}
use lib.Dec.{T, eqb, leb}
use lib.ListN.{length, replicate}
use borrow.Author.Tests.{eqb-true, le-ltb, ne_eqb}
use Rattle.lists.proofs.Lists.{and_left, and_right}
use Rattle.alphabet.specs.declared.Char.{Char}
use Rattle.alphabet.specs.declared.Mode.TheVariants.{Dtmf}
use Rattle.alphabet.specs.declared.Reads.{Reads}
use Rattle.alphabet.specs.declared.Reads.TheVariants.{Character, Shift, NoRow}
use Rattle.alphabet.specs.Print.{Row, keys, rows}
use Rattle.alphabet.specs.Dtmf.{is_digit, is_mark, with_mark, dtmf_code, is_dtmf_code, code_from, code_of_keys, keys_of, marks_then_digit, is_code, among, not_struck, remaining, drawn, read_in, read_dtmf}
use Rattle.alphabet.specs.TableB1.{b1}
use Rattle.alphabet.specs.Normal.{reads}
use Rattle.alphabet.proofs.DtmfCodes.{digit-bounds, mark-bounds, not-mark, prefix-few, keys-code}
use Rattle.alphabet_theorems.proofs.Numbering.{code-keys}
use Rattle.frames.specs.declared.Frame.{Frame}
use Rattle.frames.specs.declared.Cause.TheVariants.{LetterKey, NoRow as WithoutRow}
use Rattle.reader.specs.declared.Event.TheVariants.{Fault, Nothing}
use Rattle.reader.specs.declared.Outcome.{Outcome}
use Rattle.signal.specs.Signal.{held_keys, keys_signal, signal}
use Rattle.keys.specs.Keys.{ready}
use Rattle.keys.specs.code.Bounds.{is_key}
use Rattle.reader.specs.Reader.{reader, event_of, key_event, prefix_after}
use Rattle.reader.specs.Words.{word_of, words_of}
use Rattle.reader.proofs.Parts.{keys_events, keys_prefix, keys-after, keys-events, kept-prefix, kept-keys}
use Rattle.reader.proofs.Outcomes.{digit-outcome, mark-outcome, other-outcome}
use Rattle.line_theorems.proofs.KeyRules.{KeysTake, key_counts-on}
use Rattle.line_theorems.proofs.Chain.{Gives, chain, kept-one}

-- ms in which one key counts
key-read : (f : Frame) (s p k : ℕ) (xs : List ℕ) (n m : ℕ) → (k ≡ 0 → ⊥)
    → KeysTake ready xs (replicate n 0 ++ (k ∷ replicate m 0)) ready
    → Gives Dtmf (reader f ready s p) xs (word_of (key_event p k)) (reader f ready s (prefix_after p k))
unfolding keys_prefix keys_events words_of
key-read f s p k xs n m z h =
    let ks = replicate n 0 ++ (k ∷ replicate m 0) in
    let one = kept-one is_key 0 k refl (ap not (ne_eqb k 0 z)) n m in
    record {
      after =
          keys-after (reader f ready s p) xs
          ∙ (λ j. reader f (h.after j) s (keys_prefix p (h.found j)))
          ∙ ap (reader f ready s) (sym (kept-prefix p ks) ∙ ap (keys_prefix p) one);
      heard =
          ap words_of (keys-events (reader f ready s p) xs)
          ∙ ap (λ (l : List ℕ). words_of (keys_events p l)) h.found
          ∙ sym (kept-keys p ks)
          ∙ ap (λ (l : List ℕ). words_of (keys_events p l)) one
          ∙ append-nil (word_of (key_event p k));
    }

-- a key, 70 ms and 50 quiet
pub key-given : (f : Frame) (s p k : ℕ) → (k ≡ 0 → ⊥)
    → Gives Dtmf (reader f ready s p) (replicate 70 k ++ replicate 50 0) (word_of (key_event p k))
    (reader f ready s (prefix_after p k))
key-given f s p k z = key-read f s p k _ 39 80 z (key_counts-on k 30 10 z)

-- a digit closes a code, whatever the prefix, and empties it
pub digit-event : (p k : ℕ) → is_digit k ≡ true → key_event p k ≡ event_of (read_dtmf (dtmf_code p k))
unfolding reads
digit-event p k t =
    let b = digit-bounds k t in
    sym
    (ap (λ (o : Outcome). o.event)
    (digit-outcome p k (record { 0 = dtmf_code p k }) _ _ (λ e. omega arith) b.1 refl refl refl))

pub digit-empties : (p k : ℕ) → is_digit k ≡ true → prefix_after p k ≡ 0
digit-empties p k t =
    let b = digit-bounds k t in
    sym
    (ap (λ (o : Outcome). o.next)
    (digit-outcome p k (record { 0 = dtmf_code p k }) _ _ (λ e. omega arith) b.1 refl refl refl))

-- a mark gives nothing, and is one more of the prefix
pub mark-event : (p k : ℕ) → is_mark k ≡ true → key_event p k ≡ Nothing
mark-event p k t =
    let b = mark-bounds k t in
    sym (ap (λ (o : Outcome). o.event) (mark-outcome p k (with_mark p k) b.0 b.1 refl))

pub mark-prefix : (p k : ℕ) → is_mark k ≡ true → prefix_after p k ≡ with_mark p k
mark-prefix p k t =
    let b = mark-bounds k t in
    sym (ap (λ (o : Outcome). o.next) (mark-outcome p k (with_mark p k) b.0 b.1 refl))

-- a key from A to D gives a fault of its own, whatever the prefix, and empties it
pub letter-event : (p k : ℕ) → 13 ≤ k → key_event p k ≡ Fault LetterKey 0
letter-event p k h = sym (ap (λ (o : Outcome). o.event) (other-outcome p k (omega arith) h))

pub letter-empties : (p k : ℕ) → 13 ≤ k → prefix_after p k ≡ 0
letter-empties p k h = sym (ap (λ (o : Outcome). o.next) (other-outcome p k (omega arith) h))

-- a fourth mark, and every one behind it, makes the prefix one of more than three
pub fourth-mark : (p k : ℕ) → 7 ≤ p → with_mark p k ≡ 15
unfolding with_mark
fourth-mark p k h = rw (le-ltb p 7 h) refl

no_true : false ≡ true → ⊥
no_true e = subst (λ (b : Bool). T (not b)) e tt

-- marks and a digit, behind any prefix: the character or the fault of the whole code
module _ (f : Frame) (s : ℕ) where
  abbrev Given : ℕ → List ℕ → Type 0
  Given p ks =
      Gives Dtmf (reader f ready s p) (keys_signal ks) (word_of (event_of (read_dtmf (code_from p ks))))
      (reader f ready s 0)

  apart : (k : ℕ) (xs : List ℕ) → (replicate 70 k ++ replicate 50 0) ++ xs ≡ replicate 70 k ++ (replicate 50 0 ++ xs)
  apart k xs = append_assoc (replicate 70 k) (replicate 50 0) xs

  last-key : (p k : ℕ) → is_digit k ≡ true → Given p (k ∷ [])
  unfolding held_keys code_from
  last-key p k t =
      let b = digit-bounds k t in
      let g = key-given f s p k (λ e. omega arith) in
      let w : word_of (key_event p k) ≡ word_of (event_of (read_dtmf (dtmf_code p k))) =
      ap word_of (digit-event p k t) in
      let q : reader f ready s (prefix_after p k) ≡ reader f ready s 0 = ap (reader f ready s) (digit-empties p k t) in
      rw (not-mark k b.1, append-nil (replicate {A = ℕ} 50 0))
      (record { after = g.after ∙ q; heard = g.heard ∙ w })

  one-mark : (p k : ℕ) (ks : List ℕ) → is_mark k ≡ true → Given (with_mark p k) ks → Given p (k ∷ ks)
  unfolding held_keys code_from
  one-mark p k ks t i =
      let b = mark-bounds k t in
      let g = key-given f s p k (λ e. omega arith) in
      let w : word_of (key_event p k) ≡ [] = ap word_of (mark-event p k t) in
      let q : reader f ready s (prefix_after p k) ≡ reader f ready s (with_mark p k) = ap (reader f ready s)
      (mark-prefix p k t) in
      let next = reader f ready s (with_mark p k) in
      let first : Gives Dtmf (reader f ready s p) (replicate 70 k ++ replicate 50 0) [] next =
      record { after = g.after ∙ q; heard = g.heard ∙ w } in
      rw t
      (subst
      (λ (l : List ℕ).
      Gives Dtmf (reader f ready s p) l (word_of (event_of (read_dtmf (code_from (with_mark p k) ks))))
      (reader f ready s 0))
      (apart k (keys_signal ks)) (chain Dtmf first i))

  pub keys-given : (p : ℕ) (ks : List ℕ) → marks_then_digit ks ≡ true → Given p ks
  unfolding marks_then_digit
  keys-given p [] t = absurd (no_true t)
  keys-given p (k ∷ []) t = go (is_digit k) refl t
    where
      go : (b : Bool) → is_digit k ≡ b → cond b true (is_mark k && false) ≡ true → Given p (k ∷ [])
      go true e u = last-key p k e
      go false e u = absurd (no_true (and_right (is_mark k) false u))
  keys-given p (k ∷ (j ∷ js)) t = go (is_digit k) t (λ u. keys-given (with_mark p k) (j ∷ js) u)
    where
      go : (b : Bool) → cond b false (is_mark k && marks_then_digit (j ∷ js)) ≡ true
          → (marks_then_digit (j ∷ js) ≡ true → Given (with_mark p k) (j ∷ js)) → Given p (k ∷ (j ∷ js))
      go true u i = absurd (no_true u)
      go false u i =
          one-mark p k (j ∷ js) (and_left (is_mark k) (marks_then_digit (j ∷ js)) u)
          (i (and_right (is_mark k) (marks_then_digit (j ∷ js)) u))

-- the keys of a code
pub shape-keys : (n : ℕ) → is_dtmf_code n ≡ true → marks_then_digit (keys_of n) ≡ true
shape-keys n e = and_right (leb (length (keys_of n)) 4) (marks_then_digit (keys_of n)) (code-keys n e).0

-- its signal is read as that code, from ready to ready
pub code-dtmf : (f : Frame) (s n : ℕ) → is_dtmf_code n ≡ true
    → Gives Dtmf (reader f ready s 0) (signal Dtmf n) (word_of (event_of (read_dtmf n))) (reader f ready s 0)
unfolding signal
code-dtmf f s n h =
    rw (code-keys n h).1 at (keys-given f s 0 (keys_of n) (shape-keys n h))

-- a number that has a row is a code's
record RowCode (n : ℕ) : Type 0 where
  row : List ℕ
  is-code : is_code row ≡ true
  number_is : code_of_keys row ≡ n

is_character : Reads → Bool
is_character (Character c) = true
is_character (Shift s) = false
is_character NoRow = false

row-code : (n : ℕ) (rs : List Row) (earlier : List String) → is_character (read_in n (not_struck earlier rs)) ≡ true
    → RowCode n
unfolding not_struck read_in is_character
row-code n [] earlier t = absurd (no_true t)
row-code n (r ∷ rs) earlier t =
    go (is_code (keys r.from) && not (among r.from earlier)) refl (eqb (code_of_keys (keys r.from)) n) refl t
    (λ u. row-code n rs (r.from ∷ earlier) u)
  where
    go : (b : Bool) → (is_code (keys r.from) && not (among r.from earlier)) ≡ b → (a : Bool)
        → eqb (code_of_keys (keys r.from)) n ≡ a
        → is_character (read_in n (cond b (r ∷ not_struck (r.from ∷ earlier) rs) (not_struck (r.from ∷ earlier) rs)))
        ≡ true
        → (is_character (read_in n (not_struck (r.from ∷ earlier) rs)) ≡ true → RowCode n) → RowCode n
    go true e true f u i = record {
      row = keys r.from;
      is-code = and_left (is_code (keys r.from)) (not (among r.from earlier)) e;
      number_is = eqb-true _ n f;
    }
    go true e false f u i = i (rw f at u)
    go false e a f u i = i u

row-shaped : (n : ℕ) → is_character (read_dtmf n) ≡ true → is_dtmf_code n ≡ true
unfolding read_dtmf remaining
row-shaped n t =
    let r = row-code n (rows b1) [] t in
    subst (λ (m : ℕ). is_dtmf_code m ≡ true) r.number_is (keys-code r.row r.is-code)

pub row-shape : (n : ℕ) (c : Char) → read_dtmf n ≡ Character c → is_dtmf_code n ≡ true
unfolding is_character
row-shape n c e = row-shaped n (ap is_character e)

-- every code that has a row is read as its character
pub row_read : (f : Frame) (s n : ℕ) (c : Char) → read_dtmf n ≡ Character c
    → Gives Dtmf (reader f ready s 0) (signal Dtmf n) (c.0 ∷ []) (reader f ready s 0)
row_read f s n c e =
    let g = code-dtmf f s n (row-shape n c e) in
    record { after = g.after; heard = g.heard ∙ ap (λ (r : Reads). word_of (event_of r)) e }

-- no code of more than three marks has a row
read-in : (n : ℕ) (rs : List Row) → is_character (read_in n rs) ≡ false → read_in n rs ≡ NoRow
unfolding read_in is_character
read-in n [] t = refl
read-in n (r ∷ rs) t = go (eqb (code_of_keys (keys r.from)) n) t (λ u. read-in n rs u)
  where
    go : (b : Bool) → is_character (cond b (Character (record { 0 = drawn r.sign })) (read_in n rs)) ≡ false
        → (is_character (read_in n rs) ≡ false → read_in n rs ≡ NoRow)
        → cond b (Character (record { 0 = drawn r.sign })) (read_in n rs) ≡ NoRow
    go true u i = absurd (no_true (sym u))
    go false u i = i u

pub no_row : (n : ℕ) → 15 ≤ n / 16 → read_dtmf n ≡ NoRow
unfolding read_dtmf remaining
no_row n h = read-in n (not_struck [] (rows b1)) (go (is_character (read_in n (not_struck [] (rows b1)))) refl)
  where
    go : (b : Bool) → is_character (read_in n (not_struck [] (rows b1))) ≡ b → b ≡ false
    go true e = let s = prefix-few n (row-shaped n e) in absurd (omega arith)
    go false e = refl

-- a code without a row gives a fault of its own
pub no-row-event : (p k : ℕ) → is_digit k ≡ true → read_dtmf (dtmf_code p k) ≡ NoRow → key_event p k
    ≡ Fault WithoutRow 0
no-row-event p k t e = digit-event p k t ∙ ap event_of e

-- and so does every digit behind more than three marks
pub many-marks-event : (p k : ℕ) → is_digit k ≡ true → 15 ≤ p → key_event p k ≡ Fault WithoutRow 0
many-marks-event p k t h = no-row-event p k t (no_row (dtmf_code p k) (omega arith))
