-- What characters that move up are, place by place.
use mathlib.Core.Path.{◌≡◌, ◌∙◌, refl, sym, ap, subst}
use mathlib.Core.Logic.{⊎_elim}
use mathlib.Core.List.{List, [], ◌∷◌}
use Prim.Native.Nat.{ℕ, zero, suc, ◌+◌, ◌-◌, ◌<◌, ◌≤◌, min}
use native.Mathlib.Omega.{arith}
use native.Mathlib.Nat.{eq-or-lt_of_le}
use lib.ListN.{length, get_or, set, drop, length-append, length-drop, length-set, get_or-append}
use lib.Seq.{get_or-append-add, get_or-drop, get_or-set_same, get_or-set_other, ext_get_or}
use Rattle.queue.specs.Queue.{moved, moved_by}

pub moved_length : (xs : List ℕ) → length (moved xs) ≡ length xs
moved_length xs = simp (length-append, length-drop) (omega arith)

pub moved_at : (xs : List ℕ) (j : ℕ) → j < length xs → get_or (moved xs) j 0 ≡ get_or xs (min (suc j) (length xs - 1)) 0
moved_at [] j h = refl
moved_at (x ∷ xs) j h = ⊎_elim at-end inside (eq-or-lt_of_le {n = j} {m = length xs} (omega arith))
  where
    inside : j < length xs → get_or (moved (x ∷ xs)) j 0 ≡ get_or (x ∷ xs) (min (suc j) (suc (length xs) - 1)) 0
    inside l =
        let e : min (suc j) (suc (length xs) - 1) ≡ suc j = omega arith in
        get_or-append xs (drop (length xs) (x ∷ xs)) 0 j l ∙ ap (λ (k : ℕ). get_or (x ∷ xs) k 0) (sym e)

    at-end : j ≡ length xs → get_or (moved (x ∷ xs)) j 0 ≡ get_or (x ∷ xs) (min (suc j) (suc (length xs) - 1)) 0
    at-end l =
        let e : j ≡ length xs + 0 = omega arith in
        let f : min (suc j) (suc (length xs) - 1) ≡ length xs + 0 = omega arith in
        ap (λ (k : ℕ). get_or (moved (x ∷ xs)) k 0) e
        ∙ get_or-append-add xs (drop (length xs) (x ∷ xs)) 0 0
        ∙ get_or-drop (length xs) (x ∷ xs) 0 0
        ∙ ap (λ (k : ℕ). get_or (x ∷ xs) k 0) (sym f)

pub moved-by-length : (n : ℕ) (xs : List ℕ) → length (moved_by n xs) ≡ length xs
unfolding moved_by
moved-by-length zero xs = refl
moved-by-length (suc n) xs = moved_length (moved_by n xs) ∙ moved-by-length n xs

-- a place has the character n places behind it, or the last one
pub moved-by-at : (n : ℕ) (xs : List ℕ) (j : ℕ) → j < length xs
    → get_or (moved_by n xs) j 0 ≡ get_or xs (min (j + n) (length xs - 1)) 0
unfolding moved_by
moved-by-at zero xs j h =
    let e : j ≡ min (j + 0) (length xs - 1) = omega arith in
    ap (λ (k : ℕ). get_or xs k 0) e
moved-by-at (suc n) xs j h =
    let s = moved-by-length n xs in
    let k = min (suc j) (length xs - 1) in
    let e : min (suc j) (length (moved_by n xs) - 1) ≡ k = ap (λ (m : ℕ). min (suc j) (m - 1)) s in
    let f : min (k + n) (length xs - 1) ≡ min (j + suc n) (length xs - 1) = omega arith in
    moved_at (moved_by n xs) j (omega arith)
    ∙ ap (λ (m : ℕ). get_or (moved_by n xs) m 0) e
    ∙ moved-by-at n xs k (omega arith)
    ∙ ap (λ (m : ℕ). get_or xs m 0) f

-- those taken, and then some more
pub moved-by-more : (m n : ℕ) (xs : List ℕ) → moved_by n (moved_by m xs) ≡ moved_by (m + n) xs
unfolding moved_by
moved-by-more m zero xs = let e : m ≡ m + 0 = omega arith in ap (λ (k : ℕ). moved_by k xs) e
moved-by-more m (suc n) xs =
    let e : suc (m + n) ≡ m + suc n = omega arith in
    ap moved (moved-by-more m n xs) ∙ ap (λ (k : ℕ). moved_by k xs) e

-- the character in front after n are taken
pub front-none : (n : ℕ) (xs : List ℕ) → length xs ≡ 0 → get_or (moved_by n xs) 0 0 ≡ 0
front-none n xs h = none (moved_by n xs) (moved-by-length n xs ∙ h)
  where
    none : (ys : List ℕ) → length ys ≡ 0 → get_or ys 0 0 ≡ 0
    none [] e = refl
    none (y ∷ ys) e = absurd (omega arith)

-- a place has the character that moves to it
pub moved-from : (n : ℕ) (xs : List ℕ) (j k : ℕ) → j < length xs → min (j + n) (length xs - 1) ≡ k
    → get_or (moved_by n xs) j 0 ≡ get_or xs k 0
moved-from n xs j k h e = moved-by-at n xs j h ∙ ap (λ (m : ℕ). get_or xs m 0) e

pub moved-place : (n : ℕ) (xs : List ℕ) (j : ℕ) → n + j < length xs → get_or (moved_by n xs) j 0 ≡ get_or xs (n + j) 0
moved-place n xs j h = moved-from n xs j (n + j) (omega arith) (omega arith)

module _ (n : ℕ) (xs : List ℕ) where
  abbrev last : ℕ
  last = length xs - 1

  abbrev from : ℕ → ℕ
  from j = min (j + n) last

  abbrev Place : List ℕ → ℕ → Type 0
  Place ys j = get_or ys j 0 ≡ get_or xs (from j) 0

  -- one place more
  one_more : (ys : List ℕ) (to : ℕ) → ((j : ℕ) → j < to → Place ys j) → Place ys to → (j : ℕ) → j < to + 1 → Place ys j
  one_more ys to before at j h =
      ⊎_elim (λ e. subst (Place ys) (sym e) at) (before j) (eq-or-lt_of_le {n = j} {m = to} (omega arith))

  -- characters on their way: those before a place have moved up;
  -- the last one, and those that still move, stand as they were
  pub record Slid (ys : List ℕ) (to : ℕ) : Type 0 where
    pub size : length ys ≡ length xs
    pub done : (j : ℕ) → j < to → Place ys j
    pub ahead : (j : ℕ) → to + n ≤ j → get_or ys j 0 ≡ get_or xs j 0
    pub end : get_or ys last 0 ≡ get_or xs last 0

  pub slid-start : Slid xs 0
  slid-start = record { size = refl; done = λ j h. absurd (omega arith); ahead = λ j h. refl; end = refl }

  -- one character more
  pub slid-turn : 1 ≤ n → (ys : List ℕ) (to k : ℕ) → Slid ys to → k < last → k ≡ to + n
      → Slid (set ys to (get_or ys k 0)) (to + 1)
  slid-turn o ys to k s h e =
      let c = get_or ys k 0 in
      let l = s.size in
      let f : k ≡ from to = omega arith in
      let before : (j : ℕ) → j < to → Place (set ys to c) j =
      λ j q. get_or-set_other ys to j c 0 (omega arith) ∙ s.done j q in
      let here : Place (set ys to c) to =
      get_or-set_same ys to c 0 (omega arith) ∙ s.ahead k (omega arith) ∙ (λ i. get_or xs (f i) 0) in
      record {
        size = length-set ys to c ∙ l;
        done = one_more (set ys to c) to before here;
        ahead = λ j q. get_or-set_other ys to j c 0 (omega arith) ∙ s.ahead j (omega arith);
        end = get_or-set_other ys to last c 0 (omega arith) ∙ s.end;
      }

  -- those before a place have moved up, and the last place has the last character
  pub record Filled (ys : List ℕ) (to : ℕ) : Type 0 where
    pub size : length ys ≡ length xs
    pub done : (j : ℕ) → j < to → Place ys j
    pub end : get_or ys last 0 ≡ get_or xs last 0

  pub filled-start : (ys : List ℕ) (to : ℕ) → Slid ys to → Filled ys to
  filled-start ys to s = record { size = s.size; done = s.done; end = s.end }

  -- the last character at a place and at the one behind it
  pub filled-turn : (ys : List ℕ) (to c : ℕ) → Filled ys to → to < last → last ≤ to + n → c ≡ get_or xs last 0
      → Filled (set (set ys to c) (to + 1) c) (to + 1)
  filled-turn ys to c f h m e =
      let l = f.size in
      let zs = set ys to c in
      let k = length-set ys to c in
      let g : last ≡ from to = omega arith in
      let before : (j : ℕ) → j < to → Place (set zs (to + 1) c) j =
      λ j q. get_or-set_other zs (to + 1) j c 0 (omega arith) ∙ get_or-set_other ys to j c 0 (omega arith)
      ∙ f.done j q in
      let here : Place (set zs (to + 1) c) to =
      get_or-set_other zs (to + 1) to c 0 (omega arith)
      ∙ get_or-set_same ys to c 0 (omega arith)
      ∙ e
      ∙ (λ i. get_or xs (g i) 0) in
      let next : to + 1 ≡ last → get_or (set zs (to + 1) c) last 0 ≡ get_or xs last 0 =
      λ q. sym (λ i. get_or (set zs (to + 1) c) (q i) 0) ∙ get_or-set_same zs (to + 1) c 0 (omega arith) ∙ e in
      let later : to + 1 < last → get_or (set zs (to + 1) c) last 0 ≡ get_or xs last 0 =
      λ q. get_or-set_other zs (to + 1) last c 0 (omega arith) ∙ get_or-set_other ys to last c 0 (omega arith)
      ∙ f.end in
      record {
        size = length-set zs (to + 1) c ∙ k ∙ l;
        done = one_more (set zs (to + 1) c) to before here;
        end = ⊎_elim next later (eq-or-lt_of_le {n = to + 1} {m = last} (omega arith));
      }

  pub filled-end : (ys : List ℕ) (to : ℕ) → Filled ys to → last ≤ to → ys ≡ moved_by n xs
  filled-end ys to f h =
      let l = f.size in
      ext_get_or 0 ys (moved_by n xs) (l ∙ sym (moved-by-length n xs))
      (λ j q. at j (omega arith) ∙ sym (moved-by-at n xs j (omega arith)))
    where
      at : (j : ℕ) → j < length xs → Place ys j
      at j q =
          let g : last ≡ from last = omega arith in
          ⊎_elim (λ e. subst (Place ys) (sym e) (f.end ∙ (λ i. get_or xs (g i) 0)))
          (λ p. f.done j (omega arith))
          (eq-or-lt_of_le {n = j} {m = last} (omega arith))

-- the last character in all the places from one on, whatever moved up before it
pub record Filling (n last c : ℕ) (ys₀ : List ℕ) (to₀ : ℕ) (ys : List ℕ) (to : ℕ) : Type 0 where
  pub size : length ys ≡ length ys₀
  pub past : to₀ ≤ to
  pub filled : (xs : List ℕ) → last ≡ length xs - 1 → last ≤ to₀ + n → c ≡ get_or xs last 0
      → Filled n xs ys₀ to₀ → Filled n xs ys to

pub filling-start : (n last c : ℕ) (ys₀ : List ℕ) (to₀ : ℕ) → Filling n last c ys₀ to₀ ys₀ to₀
filling-start n last c ys₀ to₀ = record { size = refl; past = omega arith; filled = λ xs e h g f. f }

pub filling-turn : (n last c : ℕ) (ys₀ : List ℕ) (to₀ : ℕ) (ys : List ℕ) (to : ℕ)
    → Filling n last c ys₀ to₀ ys to → to < last
    → Filling n last c ys₀ to₀ (set (set ys to c) (to + 1) c) (to + 1)
filling-turn n last c ys₀ to₀ ys to f t =
    let p = f.past in
    record {
      size = length-set (set ys to c) (to + 1) c ∙ length-set ys to c ∙ f.size;
      past = omega arith;
      filled =
          λ xs e h g s. filled-turn n xs ys to c (f.filled xs e h g s)
          (omega arith) (omega arith) (g ∙ (λ i. get_or xs (e i) 0));
    }
