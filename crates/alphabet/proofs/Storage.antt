-- The table of sending, as it is stored: what serves a number, and how the table that is lent is laid out from it.
use Rattle.std.specs.Prelude.{Option}
use Rattle.alphabet.specs.declared.CharCode.{CharCode}
use mathlib.Core.Path.{◌≡◌, ◌∙◌, refl, sym, ap}
use mathlib.Core.Bool.{Bool, true, false, cond}
use mathlib.Core.List.{List, ◌++◌, append-nil}
use Prim.Native.Nat.{ℕ, suc, ◌+◌, ◌-◌, ◌<◌, ◌≤◌}
use native.Mathlib.Nat.{zero-add}
use native.Mathlib.Numerals.{add-one}
use native.Mathlib.Omega.{arith}
use lib.Dec.{T, eqb, eqb→eq, ltb}
use lib.ListN.{length, get_or, set, drop_of_length-le}
use lib.Seq.{sets}
use borrow.Author.Tests.{ltb-true, ltb-false, lt-ltb, le-ltb}
use Rattle.lists.specs.Tables.{tabulate, passes}
use Rattle.lists.proofs.Lists.{by-test, either-by, sets-append, sets-front}
use Rattle.lists.proofs.Tables.{passes_at, tabulate-at, tabulate-length, tabulate-append}
use Rattle.alphabet.specs.declared.Alphabet.{Alphabet}
use Rattle.alphabet.specs.declared.Alphabet.TheVariants.{Baudot}
use Rattle.alphabet.specs.Print.{left_rows, right_rows, rows, bits_from, bits}
use Rattle.alphabet.specs.TableA2.{a2}
use Rattle.alphabet.specs.Baudot.{printed_at, send_baudot}
use Rattle.alphabet.specs.Normal.{sends}
use Rattle.alphabet.specs.code.Packing.{packed, unpacked, entry_at, send_table, number_at, stored_table, place_of}
use Rattle.alphabet.proofs.Packing.{asked, number_of, unpacked-packed}

-- a to z of Baudot have the entries of A to Z, computed over the 26
abbrev like_capital : ℕ → Bool
like_capital i = eqb (packed Baudot (sends Baudot (0x41 + i))) (packed Baudot (sends Baudot (0x61 + i)))

capital-test : T (passes like_capital 26 0)
unfolding passes sends bits bits_from left_rows right_rows rows a2 printed_at send_baudot
capital-test = tt

pub capital-sends : (c : ℕ) → 0x61 ≤ c → c < 0x7b → sends Baudot (c - 0x20) ≡ sends Baudot c
capital-sends c l h =
    let t = passes_at like_capital 26 capital-test (c - 0x61) (omega arith) in
    let p : 0x41 + (c - 0x61) ≡ c - 0x20 = omega arith in
    let q : 0x61 + (c - 0x61) ≡ c = omega arith in
    let u : packed Baudot (sends Baudot (c - 0x20)) ≡ packed Baudot (sends Baudot c) = eqb→eq _ _ (simp (p, q) at t) in
    sym (unpacked-packed Baudot (c - 0x20) (omega arith)) ∙ ap (unpacked Baudot) u
    ∙ unpacked-packed Baudot c (omega arith)

pub place-below : (n : ℕ) → n < 384 → place_of n < 358
place-below n h =
    either-by (λ (i : ℕ). i < 358) (ltb n 0x61) (λ e. let l = ltb-true n 0x61 e in omega arith)
    (λ e. either-by (λ (i : ℕ). i < 358) (ltb n 0x7b) (λ g. let l = ltb-true n 0x7b g in omega arith)
    (λ g. omega arith))

-- what stands at a number's place is its own or, for a to z of Baudot, its capital's, which sends the same
pub place-serves : {A : Type 0} (f : Alphabet → Option CharCode → A) (n : ℕ)
    → asked f (number_at (place_of n)) ≡ asked f n
place-serves f n = go (ltb n 0x61) (ltb n 0x7b) refl refl
  where
    small : (m : ℕ) → m < 128 → asked f m ≡ f Baudot (sends Baudot m)
    small m h = ap (asked f) (sym (zero-add m)) ∙ number_of f Baudot m h

    go : (b d : Bool) → ltb n 0x61 ≡ b → ltb n 0x7b ≡ d
        → asked f (number_at (cond b n (cond d (n - 0x20) (n - 26)))) ≡ asked f n
    go true d e g = ap (λ (b : Bool). asked f (cond b n (n + 26))) e
    go false true e g =
        let l = ltb-false n 0x61 e in
        let h = ltb-true n 0x7b g in
        let t = lt-ltb (n - 0x20) 0x61 (omega arith) in
        ap (λ (b : Bool). asked f (cond b (n - 0x20) (n - 0x20 + 26))) t
        ∙ small (n - 0x20) (omega arith) ∙ ap (f Baudot) (capital-sends n l h) ∙ sym (small n (omega arith))
    go false false e g =
        let h = ltb-false n 0x7b g in
        let t = le-ltb (n - 26) 0x61 (omega arith) in
        let p : n - 26 + 26 ≡ n = omega arith in
        ap (λ (b : Bool). asked f (cond b (n - 26) (n - 26 + 26))) t ∙ ap (asked f) p

-- the entry that is stored at a number's place
pub stored-entry : (t : List ℕ) → t ≡ stored_table → (n i : ℕ) → n < 384 → i ≡ place_of n → get_or t i 0 ≡ entry_at n
unfolding stored_table entry_at
stored-entry t is n i h e =
    ap (λ (l : List ℕ). get_or l i 0) is ∙ ap (λ (j : ℕ). get_or stored_table j 0) e
    ∙ tabulate-at (λ j. entry_at (number_at j)) 0 358 (place_of n) (place-below n h) ∙ place-serves packed n

-- how far the places stand ahead of their numbers: before a to z of Baudot, for these, and behind them
pub first-place : (from to ahead : ℕ) → to ≤ 0x61 → ahead ≡ 0
    → (n : ℕ) → from ≤ n → n < to → place_of n + ahead ≡ n
first-place from to ahead m e n l h = rw (lt-ltb n 0x61 (omega arith)) (omega arith)

pub letter-place : (from to ahead : ℕ) → 0x61 ≤ from → to ≤ 0x7b → ahead ≡ 0x20
    → (n : ℕ) → from ≤ n → n < to → place_of n + ahead ≡ n
letter-place from to ahead k m e n l h =
    rw (le-ltb n 0x61 (omega arith), lt-ltb n 0x7b (omega arith)) (omega arith)

pub later-place : (from to ahead : ℕ) → 0x7b ≤ from → ahead ≡ 26
    → (n : ℕ) → from ≤ n → n < to → place_of n + ahead ≡ n
later-place from to ahead k e n l h =
    rw (le-ltb n 0x61 (omega arith), le-ltb n 0x7b (omega arith)) (omega arith)

-- ---- some numbers: what is left of them, written behind what stands there, is the whole

pub record Laid (table₀ : List ℕ) (from to : ℕ) (table : List ℕ) (n : ℕ) : Type 0 where
  pub least : from ≤ n
  pub rest : sets table n (tabulate entry_at (to - n) n) ≡ sets table₀ from (tabulate entry_at (to - from) from)

pub laid-turn : (table₀ : List ℕ) (from to : ℕ) (table : List ℕ) (n x : ℕ) → Laid table₀ from to table n
    → n < to → x ≡ entry_at n → Laid table₀ from to (set table n x) (n + 1)
unfolding tabulate
laid-turn table₀ from to table n x l h e =
    let m = l.least in
    let k = to - (n + 1) in
    let p : to - n ≡ suc k = omega arith in
    record {
      least = omega arith;
      rest = ap (λ (i : ℕ). sets (set table n x) i (tabulate entry_at k i)) (add-one n)
          ∙ ap (λ (v : ℕ). sets (set table n v) (suc n) (tabulate entry_at k (suc n))) e
          ∙ ap (λ (i : ℕ). sets table n (tabulate entry_at i n)) (sym p) ∙ l.rest;
    }

pub laid_end : (table₀ : List ℕ) (from to : ℕ) (table : List ℕ) (n : ℕ) → Laid table₀ from to table n
    → to ≤ n → table ≡ sets table₀ from (tabulate entry_at (to - from) from)
unfolding tabulate
laid_end table₀ from to table n l h =
    let z : 0 ≡ to - n = omega arith in
    ap (λ (i : ℕ). sets table n (tabulate entry_at i n)) z ∙ l.rest

-- ---- the whole table, in parts

-- two runs of entries, one behind the other
in-turn : (f : ℕ → ℕ) (l : List ℕ) (from m n : ℕ) → from ≤ m → m ≤ n
    → sets (sets l from (tabulate f (m - from) from)) m (tabulate f (n - m) m)
    ≡ sets l from (tabulate f (n - from) from)
in-turn f l from m n g h =
    let j = m - from in
    let k = n - m in
    let front = sets l from (tabulate f j from) in
    let s = tabulate-length f j from in
    let p : from + length (tabulate f j from) ≡ m = omega arith in
    let q : j + from ≡ m = omega arith in
    let e : j + k ≡ n - from = omega arith in
    sym (ap (λ (i : ℕ). sets l from (tabulate f i from)) (sym e) ∙ ap (sets l from) (tabulate-append f j k from)
    ∙ sets-append l from (tabulate f j from) (tabulate f k (j + from))
    ∙ ap (λ (i : ℕ). sets front i (tabulate f k (j + from))) p ∙ ap (λ (i : ℕ). sets front m (tabulate f k i)) q)

-- the same where there may be none
pub two-runs : (f : ℕ → ℕ) (l : List ℕ) (from m n : ℕ) → m ≤ n → (from < n → from ≤ m) → (n ≤ from → m ≡ n)
    → sets (sets l from (tabulate f (m - from) from)) m (tabulate f (n - m) m)
    ≡ sets l from (tabulate f (n - from) from)
unfolding tabulate
two-runs f l from m n h some none =
    by-test (ltb from n) (λ e. in-turn f l from m n (some (ltb-true from n e)) h) (λ e.
    let z : m ≡ n = none (ltb-false from n e) in
    let o : n - n ≡ 0 = omega arith in
    rw z (ap (λ (i : ℕ). sets (sets l from (tabulate f (n - from) from)) n (tabulate f i n)) o))

two-parts : (f : ℕ → ℕ) (l : List ℕ) (m n : ℕ) → m ≤ n
    → sets (sets l 0 (tabulate f m 0)) m (tabulate f (n - m) m) ≡ sets l 0 (tabulate f n 0)
two-parts f l m n h =
    let y : m ≡ m - 0 = omega arith in
    let z : n - 0 ≡ n = omega arith in
    ap (λ (i : ℕ). sets (sets l 0 (tabulate f i 0)) m (tabulate f (n - m) m)) y ∙ in-turn f l 0 m n (omega arith) h
    ∙ ap (λ (i : ℕ). sets l 0 (tabulate f i 0)) z

whole : (f : ℕ → ℕ) (l : List ℕ) (n : ℕ) → length l ≡ n → sets l 0 (tabulate f n 0) ≡ tabulate f n 0
whole f l n size =
    let t = tabulate f n 0 in
    let m = tabulate-length f n 0 in
    let h : length l ≤ length t = omega arith in
    sets-front l t (omega arith) ∙ ap (λ (d : List ℕ). t ++ d) (drop_of_length-le l h) ∙ append-nil t

pub all_laid : (l t₁ t₂ t₃ : List ℕ) (m n : ℕ)
    → t₃ ≡ sets t₂ n (tabulate entry_at (384 - n) n)
    → t₂ ≡ sets t₁ m (tabulate entry_at (n - m) m)
    → t₁ ≡ sets l 0 (tabulate entry_at (m - 0) 0)
    → length l ≡ 384 → m ≤ n → n ≤ 384 → t₃ ≡ send_table
unfolding send_table
all_laid l t₁ t₂ t₃ m n e₃ e₂ e₁ size h g =
    let z : m - 0 ≡ m = omega arith in
    let p₁ = e₁ ∙ ap (λ (i : ℕ). sets l 0 (tabulate entry_at i 0)) z in
    let p₂ = e₂ ∙ ap (λ (t : List ℕ). sets t m (tabulate entry_at (n - m) m)) p₁ ∙ two-parts entry_at l m n h in
    e₃ ∙ ap (λ (t : List ℕ). sets t n (tabulate entry_at (384 - n) n)) p₂ ∙ two-parts entry_at l n 384 g
    ∙ whole entry_at l 384 size
