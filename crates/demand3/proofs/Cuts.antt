-- Steps that are told, one behind the other: what they hear, do and end in; and a cut after any of their ms.
use mathlib.Core.Path.{◌≡◌, ◌∙◌, refl, sym, ap, subst}
use mathlib.Core.List.{List, [], ◌∷◌, ◌++◌}
use Prim.Native.Nat.{ℕ, zero, suc, ◌+◌, ◌-◌, ◌≤◌, min}
use native.Mathlib.Omega.{arith}
use lib.ListN.{length, take, drop, take-append-drop, length-append, length-take, length-drop}
use lib.Seq.{drop-drop, take-append_seam, take-append-add, drop-append-add}
use Rattle.alphabet.specs.declared.Mode.{Mode}
use Rattle.reader.specs.declared.Reader.{Reader}
use Rattle.demand3.specs.Model.{Model, Did, offered, sent_in}
use Rattle.demand3.specs.Reading.{NoBurst}
use Rattle.demand3.specs.Demand3.{between}
use Rattle.demand3.proofs.Told.{Told, offer, ms, ms_by, reader_by, told_after, told_does, told_heard, told_ms}
use Rattle.demand3.proofs.Told.{ToldNone, told_reader, told_events}

-- ---- lists

pub behind : {A : Type 0} {x : A} {xs ys : List A} → xs ≡ ys → x ∷ xs ≡ x ∷ ys
behind {x = x} e i = x ∷ e i

pub take-append : {A : Type 0} (n : ℕ) (xs ys : List A) → take n (xs ++ ys) ≡ take n xs ++ take (n - length xs) ys
take-append zero xs ys = let e : zero - length xs ≡ zero = omega arith in rw e refl
take-append (suc n) [] ys = let e : suc n - 0 ≡ suc n = omega arith in rw e refl
take-append (suc n) (x ∷ xs) ys =
    let e : suc n - suc (length xs) ≡ n - length xs = omega arith in
    rw e (behind (take-append n xs ys))

-- of a list in which ps stand before vs, and vs up to `to`: the entries from the k-th of vs on
pub between_is : {A : Type 0} (first from to k : ℕ) (ps vs us : List A) → length ps + k ≡ from - first
    → length ps + length vs ≡ to - first → between first from to (ps ++ (vs ++ us)) ≡ drop k vs
between_is {A = A} first from to k ps vs us p v =
    let front = ap (λ (i : ℕ). take i (ps ++ (vs ++ us))) (sym v) ∙ take-append-add ps (vs ++ us) (length vs)
    ∙ ap (λ (l : List A). ps ++ l) (take-append_seam vs us) in
    ap (drop (from - first)) front ∙ ap (λ (i : ℕ). drop i (ps ++ vs)) (sym p) ∙ drop-append-add ps vs k

-- how many they are
pub between-length : {A : Type 0} (first from to : ℕ) (xs : List A)
    → length (between first from to xs) ≡ min (to - first) (length xs) - (from - first)
between-length first from to xs =
    length-drop (from - first) (take (to - first) xs) ∙ ap (λ (n : ℕ). n - (from - first)) (length-take (to - first) xs)

pub idle-left : (xs ys : List Did) → NoBurst (xs ++ ys) → NoBurst xs
unfolding NoBurst
idle-left [] ys h = tt
idle-left (x ∷ xs) ys h = (h.0, idle-left xs ys h.1)

pub idle-right : (xs ys : List Did) → NoBurst (xs ++ ys) → NoBurst ys
unfolding NoBurst
idle-right [] ys h = h
idle-right (x ∷ xs) ys h = idle-right xs ys h.1

pub idle-later : (i j : ℕ) (ds : List Did) → i ≤ j → NoBurst (drop i ds) → NoBurst (drop j ds)
idle-later i j ds p h =
    let e : i + (j - i) ≡ j = omega arith in
    subst (λ (n : ℕ). NoBurst (drop n ds)) e
    (subst NoBurst (drop-drop (j - i) i ds)
    (idle-right (take (j - i) (drop i ds)) (drop (j - i) (drop i ds))
    (subst NoBurst (sym (take-append-drop (j - i) (drop i ds))) h)))

pub sent-append : (ds es : List Did) → sent_in (ds ++ es) ≡ sent_in ds ++ sent_in es
sent-append [] es = refl
sent-append (d ∷ ds) es = behind (sent-append ds es)

-- ---- what they offer and hear

pub heard-append : (xs ys : List Told) → told_heard (xs ++ ys) ≡ told_heard xs ++ told_heard ys
unfolding told_heard
heard-append [] ys = refl
heard-append (offer cs ∷ xs) ys = heard-append xs ys
heard-append (ms begins ends x ∷ xs) ys = behind (heard-append xs ys)

pub ms-append : (xs ys : List Told) → told_ms (xs ++ ys) ≡ told_ms xs + told_ms ys
ms-append xs ys = ap length (heard-append xs ys) ∙ length-append (told_heard xs) (told_heard ys)

pub none_right : (xs ys : List Told) → ToldNone (xs ++ ys) → ToldNone ys
unfolding ToldNone
none_right [] ys h = h
none_right (offer cs ∷ xs) ys h = none_right xs ys h.1
none_right (ms begins ends x ∷ xs) ys h = none_right xs ys h

-- ---- what the model and the reader make of them

module _ (mode : Mode) where
  pub after-append : (xs ys : List Told) (m : Model)
      → told_after mode m (xs ++ ys) ≡ told_after mode (told_after mode m xs) ys
  unfolding told_after
  after-append [] ys m = refl
  after-append (offer cs ∷ xs) ys m = after-append xs ys (offered mode cs m)
  after-append (ms begins ends x ∷ xs) ys m = after-append xs ys (ms_by mode begins ends m x)

  pub does-append : (xs ys : List Told) (m : Model)
      → told_does mode m (xs ++ ys) ≡ told_does mode m xs ++ told_does mode (told_after mode m xs) ys
  unfolding told_does told_after
  does-append [] ys m = refl
  does-append (offer cs ∷ xs) ys m = does-append xs ys (offered mode cs m)
  does-append (ms begins ends x ∷ xs) ys m = behind (does-append xs ys (ms_by mode begins ends m x))

  pub events-append : (xs ys : List Told) (m : Model) (r : Reader)
      → told_events mode m r (xs ++ ys)
      ≡ told_events mode m r xs ++ told_events mode (told_after mode m xs) (told_reader mode m r xs) ys
  unfolding told_events told_reader told_after
  events-append [] ys m r = refl
  events-append (offer cs ∷ xs) ys m r = events-append xs ys (offered mode cs m) _
  events-append (ms begins ends x ∷ xs) ys m r =
      behind (events-append xs ys (ms_by mode begins ends m x) (reader_by mode begins m r x))

  pub does-length : (steps : List Told) (m : Model) → length (told_does mode m steps) ≡ told_ms steps
  unfolding told_does told_heard
  does-length [] m = refl
  does-length (offer cs ∷ steps) m = does-length steps (offered mode cs m)
  does-length (ms begins ends x ∷ steps) m = ap suc (does-length steps (ms_by mode begins ends m x))

  pub events-length : (steps : List Told) (m : Model) (r : Reader) → length (told_events mode m r steps) ≡ told_ms steps
  unfolding told_events told_heard
  events-length [] m r = refl
  events-length (offer cs ∷ steps) m r = events-length steps (offered mode cs m) _
  events-length (ms begins ends x ∷ steps) m r = ap suc (events-length steps (ms_by mode begins ends m x) _)

-- ---- a cut after n ms

pub record Cut (n : ℕ) (steps : List Told) : Type 0 where
  pub front : List Told
  pub back : List Told
  pub whole : steps ≡ front ++ back
  pub front-ms : told_ms front ≡ n
  pub all_ms : told_ms steps ≡ n + told_ms back

pub cut-after : (n : ℕ) (steps : List Told) → n ≤ told_ms steps → Cut n steps
unfolding told_heard
cut-after zero steps h = record { front = []; back = steps; whole = refl; front-ms = refl; all_ms = omega arith }
cut-after (suc n) [] h = absurd (omega arith)
cut-after (suc n) (offer cs ∷ steps) h =
    let c = cut-after (suc n) steps h in
    record {
      front = offer cs ∷ c.front;
      back = c.back;
      whole = behind c.whole;
      front-ms = c.front-ms;
      all_ms = c.all_ms;
    }
cut-after (suc n) (ms begins ends x ∷ steps) h =
    let c = cut-after n steps (omega arith) in
    record {
      front = ms begins ends x ∷ c.front;
      back = c.back;
      whole = behind c.whole;
      front-ms = ap suc c.front-ms;
      all_ms = omega arith;
    }

-- what a model does in steps that are cut
pub does-cut : (mode : Mode) {n : ℕ} {steps : List Told} (c : Cut n steps) (m : Model)
    → told_does mode m steps ≡ told_does mode m c.front ++ told_does mode (told_after mode m c.front) c.back
does-cut mode c m = ap (told_does mode m) c.whole ∙ does-append mode c.front c.back m
