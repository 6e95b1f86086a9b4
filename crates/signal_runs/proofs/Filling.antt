-- What is written to a slice from its front on, part by part.
use Rattle.std.proofs.Common.{◌≡◌, ◌∙◌, refl, sym, ap, subst, ℕ, zero, suc, ◌+◌, ◌-◌, ◌≤◌, ◌<◌, List, [], ◌∷◌, ◌++◌, length, take, drop, replicate, append_assoc, arith}
use Rattle.std.proofs.lemmas.List.{length-replicate, length-append, length-take, length-drop, drop-drop, replicate-append-replicate, take-replicate, take_all}
use Rattle.std.specs.List.{between}
use Rattle.std.proofs.lemmas.List.Edits.{sets, sets-eq, length-between}
use borrow.Rule.Slice.PartMut.{put_mid}
use Rattle.std.proofs.lemmas.Slice.{take-put_mid}
use mathlib.Core.List.{append-nil}
use native.Mathlib.Nat.{zero-add, le_of_suc-le-suc, not-suc-le-zero}
use Rattle.lists.specs.Tables.{tabulate}
use Rattle.lists.proofs.Tables.{tabulate-append}

take-less : (m n : ℕ) (xs : List ℕ) → m ≤ n → take m (take n xs) ≡ take m xs
take-less zero n xs h = refl
take-less (suc m) zero xs h = absurd (not-suc-le-zero h)
take-less (suc m) (suc n) [] h = refl
take-less (suc m) (suc n) (x ∷ xs) h = ap (λ (l : List ℕ). x ∷ l) (take-less m n xs (le_of_suc-le-suc h))

-- a function with one value from a place on
pub tabulate-level : (f : ℕ → ℕ) (level n i : ℕ) → ((k : ℕ) → i ≤ k → k < i + n → f k ≡ level)
    → tabulate f n i ≡ replicate n level
unfolding tabulate
tabulate-level f level zero i h = refl
tabulate-level f level (suc n) i h =
    let here = h i (omega arith) (omega arith) in
    let rest = tabulate-level f level n (suc i)
    (λ (k : ℕ) (a : suc i ≤ k) (b : k < suc i + n). h k (omega arith) (omega arith)) in
    λ j. here j ∷ rest j

-- the front of one level
pub filled_front : (level i m : ℕ) (sent : List ℕ) → take i sent ≡ replicate i level → m ≤ i
    → take m sent ≡ replicate m level
filled_front level i m sent e h = sym (take-less m i sent h) ∙ ap (take m) e ∙ take-replicate m i level h

module _ (sent : List ℕ) (i to : ℕ) (low : i ≤ to) (high : to ≤ length sent) where
  -- a part more
  part_more : (part new : List ℕ) → length part ≡ to - i → new ≡ part
      → take to (put_mid i (to - i) sent new) ≡ take i sent ++ part
  part_more part new l e =
      let n = ap length e in
      take-put_mid i (to - i) sent new to (omega arith) (omega arith) ∙ ap (λ (p : List ℕ). take i sent ++ p) e

  -- a part, as `sets` tells it
  pub part-set : (part new : List ℕ) → length part ≡ to - i → new ≡ part
      → put_mid i (to - i) sent new ≡ sets sent i part
  part-set part new l e =
      let z : i + (to - i) ≡ i + length part = omega arith in
      ap (λ (p : List ℕ). take i sent ++ (p ++ drop (to - i) (drop i sent))) e
      ∙ ap (λ (p : List ℕ). take i sent ++ (part ++ p)) (drop-drop (to - i) i sent ∙ ap (λ (n : ℕ). drop n sent) z)
      ∙ sym (append_assoc (take i sent) part (drop (i + length part) sent)) ∙ sym (sets-eq part sent i (omega arith))

  -- all ms of a part, of which g tells so many
  pub ms-set : (g : ℕ → List ℕ) → ((n : ℕ) → length (g n) ≡ n) → (new : List ℕ)
      → new ≡ g (length (between i to sent)) → put_mid i (to - i) sent new ≡ sets sent i (g (to - i))
  ms-set g size new e = part-set (g (to - i)) new (size (to - i)) (e ∙ ap g (length-between sent i to high))

  module _ (level : ℕ) (new : List ℕ) (e : new ≡ replicate (length (between i to sent)) level) where
    pub part-length : length (put_mid i (to - i) sent new) ≡ length sent
    part-length =
        let n : length new ≡ to - i = ap length e ∙ length-replicate _ level ∙ length-between sent i to high in
        omega (arith, length-append {A = ℕ}, length-take {A = ℕ}, length-drop {A = ℕ})

    level-part : take to (put_mid i (to - i) sent new) ≡ take i sent ++ replicate (to - i) level
    level-part =
        part_more (replicate (to - i) level) new (length-replicate (to - i) level)
        (e ∙ ap (λ (n : ℕ). replicate n level) (length-between sent i to high))

    -- more of the one level, of which the last ms are not told
    pub filled_more : take i sent ≡ replicate i level → (m : ℕ) → m ≤ to
        → take m (put_mid i (to - i) sent new) ≡ replicate m level
    filled_more before m h =
        let z : i + (to - i) ≡ to = omega arith in
        let all : take to (put_mid i (to - i) sent new) ≡ replicate to level =
        level-part ∙ ap (λ (p : List ℕ). p ++ replicate (to - i) level) before
        ∙ replicate-append-replicate i (to - i) level ∙ ap (λ (n : ℕ). replicate n level) z in
        filled_front level to m _ all h

    -- more of levels that are told by a function
    pub level_more : (f : ℕ → ℕ) → take i sent ≡ tabulate f i 0 → ((k : ℕ) → i ≤ k → k < to → f k ≡ level)
        → take to (put_mid i (to - i) sent new) ≡ tabulate f to 0
    level_more f before same =
        let z : i + (to - i) ≡ to = omega arith in
        let run = tabulate-level f level (to - i) (i + 0) (λ (k : ℕ) (a : i + 0 ≤ k) (b : k < i + 0 + (to - i)).
        same k (omega arith) (omega arith)) in
        level-part ∙ (λ j. before j ++ sym run j) ∙ sym (tabulate-append f i (to - i) 0)
        ∙ ap (λ (n : ℕ). tabulate f n 0) z

-- all of a slice
pub whole : (n : ℕ) (sent all : List ℕ) → length sent ≡ n → take n sent ≡ all → sent ≡ all
whole n sent all z e = sym (take_all n sent (omega arith)) ∙ e

-- Up to the place i all is written; left is left of it.
pub record Writing (all sent : List ℕ) (i : ℕ) (left : List ℕ) : Type 0 where
  pub size : length sent ≡ i + length left
  pub slice : take i sent ++ left ≡ all

pub writing-start : (all sent : List ℕ) → length sent ≡ length all → Writing all sent 0 all
writing-start all sent h = record { size = omega arith; slice = refl }

pub writing-at : {all sent left : List ℕ} {i j : ℕ} → i ≡ j → Writing all sent i left → Writing all sent j left
writing-at {all} {sent} {left} e w = subst (λ (k : ℕ). Writing all sent k left) e w

module _ (all sent : List ℕ) (i : ℕ) (left : List ℕ) (w : Writing all sent i left) where
  -- a part more
  pub writing-part : (to : ℕ) (part rest new : List ℕ) → left ≡ part ++ rest → i + length part ≡ to → new ≡ part
      → Writing all (put_mid i (to - i) sent new) to rest
  writing-part to part rest new p z e =
      let s = w.size in
      let l = ap length p in
      let n = ap length e in
      record {
        size = omega (arith, length-append {A = ℕ}, length-take {A = ℕ}, length-drop {A = ℕ});
        slice =
            ap (λ (front : List ℕ). front ++ rest)
            (part_more sent i to (omega arith) (omega (arith, length-append part rest)) part new (omega arith) e)
            ∙ append_assoc (take i sent) part rest ∙ sym (ap (λ (l : List ℕ). take i sent ++ l) p) ∙ w.slice;
      }

  -- its front is a level
  module _ (n level : ℕ) (rest : List ℕ) (p : left ≡ replicate n level ++ rest) where
    pub level-fits : i + n ≤ length sent
    level-fits =
        let s = w.size in
        omega (arith, ap length p, length-append (replicate n level) rest, length-replicate n level)

    pub level-written : (to : ℕ) → i + n ≡ to → (new : List ℕ) → new ≡ replicate (length (between i to sent)) level
        → Writing all (put_mid i (to - i) sent new) to rest
    level-written to z new e =
        let f = level-fits in
        let l = length-replicate n level in
        let m : length (between i to sent) ≡ n = length-between sent i to (omega arith) ∙ omega arith in
        writing-part to (replicate n level) rest new p (omega arith) (e ∙ ap (λ (k : ℕ). replicate k level) m)

  pub writing-end : left ≡ [] → sent ≡ all
  writing-end e =
      let s = w.size in
      let l = ap length e in
      whole i sent all (omega arith)
      (sym (append-nil (take i sent)) ∙ sym (ap (λ (l : List ℕ). take i sent ++ l) e) ∙ w.slice)

-- the front is a level
pub level-first : (all sent : List ℕ) → length sent ≡ length all → (n level : ℕ) (rest : List ℕ)
    → all ≡ replicate n level ++ rest → (new : List ℕ) → new ≡ replicate (length (take n sent)) level
    → Writing all (new ++ drop n sent) n rest
level-first all sent h n level rest p new e =
    let z : n ≡ n - 0 = omega arith in
    let f = subst (λ (m : ℕ). new ≡ replicate (length (take m sent)) level) z e in
    let w = level-written all sent 0 all (writing-start all sent h) n level rest p n (zero-add n) new f in
    subst (λ (m : ℕ). Writing all (new ++ drop m sent) n rest) (sym z) w
