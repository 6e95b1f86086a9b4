-- `char_at` meets its contract.
use mathlib.Core.Path.{◌≡◌, ◌∙◌, sym, ap}
use mathlib.Core.List.{List, [], ◌∷◌, ◌++◌}
use Prim.Native.Nat.{ℕ, zero, suc, ◌-◌, ◌≤◌}
use native.Mathlib.Omega.{arith}
use lib.ListN.{length, get_or, get_or-append}
use Rattle.preview.proofs.char_at.Goals as goal

-- a place behind the first of two lists
behind : (xs ys : List ℕ) (n : ℕ) → length xs ≤ n → get_or (xs ++ ys) n 0 ≡ get_or ys (n - length xs) 0
behind [] ys n h = let e : n - 0 ≡ n = omega arith in sym (ap (λ (k : ℕ). get_or ys k 0) e)
behind (x ∷ xs) ys zero h = absurd (omega arith)
behind (x ∷ xs) ys (suc n) h =
    let e : suc n - suc (length xs) ≡ n - length xs = omega arith in
    behind xs ys n (omega arith) ∙ sym (ap (λ (k : ℕ). get_or ys k 0) e)

pub returns-then-i-own : goal.returns-then-i-own
returns-then-i-own c =
    sym (get_or-append c.args.own.now c.args.text.now 0 c.args.i c.if-i-own.true)

pub returns-else-i-own : goal.returns-else-i-own
returns-else-i-own c =
    sym (behind c.args.own.now c.args.text.now c.args.i c.if-i-own.false)
