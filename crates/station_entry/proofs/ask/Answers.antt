-- `ask` meets its contract: one law for each answer.
use mathlib.Core.Path.{◌≡◌, ◌∙◌, sym, ap}
use mathlib.Core.Bool.{Bool}
use mathlib.Core.List.{List}
use Prim.Native.Nat.{ℕ}
use native.Mathlib.Omega.{arith}
use lib.Dec.{leb}
use borrow.Author.Tests.{le-leb, lt-leb}
use Rattle.lists.specs.Lists.{all_at_most}
use Rattle.alphabet.specs.Modes.{highest_level}
use Rattle.station.proofs.Answers.{run-1, run-5, run-6, run-7, run-8}
use Rattle.station_entry.proofs.ask.Goals as goal

-- the levels, by the highest of them
levels : (heard : List ℕ) (highest most n : ℕ) → n ≡ most → ((m : ℕ) → leb highest m ≡ all_at_most m heard)
    → (b : Bool) → leb highest n ≡ b → all_at_most most heard ≡ b
levels heard highest most n e h b f = ap (λ (m : ℕ). all_at_most m heard) (sym e) ∙ sym (h n) ∙ f

pub returns-then-not-in_range-clause-err : goal.returns-then-not-in_range-clause-err
returns-then-not-in_range-clause-err c = λ q y. run-1 _ q _ _ _ (sym c.in_range.ensures ∙ c.if-not-in_range.true)

pub returns-then-ms-gt-MOST_MS-clause-err : goal.returns-then-ms-gt-MOST_MS-clause-err
returns-then-ms-gt-MOST_MS-clause-err c =
    λ q y. run-5 _ q _ _ _ (sym c.in_range.ensures ∙ c.if-not-in_range.false) y c.if-ms-gt-MOST_MS.true

pub returns-then-highest_level-highest-clause-err : goal.returns-then-highest_level-highest-clause-err
returns-then-highest_level-highest-clause-err c =
    let most = c.highest_level.ensures ∙ ap highest_level c.of.ensures in
    let l = levels _ _ _ _ most c.largest-highest.ensures _ (lt-leb _ _ c.if-highest_level-highest.true) in
    λ q y. run-6 _ q _ _ _ (sym c.in_range.ensures ∙ c.if-not-in_range.false) y c.if-ms-gt-MOST_MS.false l

pub returns-then-sent-ms-clause-err : goal.returns-then-sent-ms-clause-err
returns-then-sent-ms-clause-err c =
    let most = c.highest_level.ensures ∙ ap highest_level c.of.ensures in
    let l = levels _ _ _ _ most c.largest-highest.ensures _ (le-leb _ _ c.if-highest_level-highest.false) in
    λ q y. run-7 _ q _ _ _ (sym c.in_range.ensures ∙ c.if-not-in_range.false) y c.if-ms-gt-MOST_MS.false l
    c.if-sent-ms.true

pub returns-then-words-ms-clause-err : goal.returns-then-words-ms-clause-err
returns-then-words-ms-clause-err c =
    let most = c.highest_level.ensures ∙ ap highest_level c.of.ensures in
    let l = levels _ _ _ _ most c.largest-highest.ensures _ (le-leb _ _ c.if-highest_level-highest.false) in
    λ q y. run-8 _ q _ _ _ (sym c.in_range.ensures ∙ c.if-not-in_range.false) y c.if-ms-gt-MOST_MS.false l
    c.if-sent-ms.false c.if-words-ms.true

pub returns-clause-ok : goal.returns-clause-ok
returns-clause-ok c =
    let most = c.highest_level.ensures ∙ ap highest_level c.of.ensures in
    let b = c.if-highest_level-highest.false in
    record {
      ranged = sym c.in_range.ensures ∙ c.if-not-in_range.false;
      few = c.if-ms-gt-MOST_MS.false;
      levels = sym (c.largest-highest.ensures c.largest-highest.result)
          ∙ le-leb c.largest-highest.result c.largest-highest.result (omega arith);
      low = omega arith;
      sent_fits = c.if-sent-ms.false;
      words_fit = c.if-words-ms.false;
    }
