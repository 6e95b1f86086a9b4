-- Machines over lists that stand one behind the other, at a place of a list, and over lists of calls.
use mathlib.Core.Path.{◌≡◌, ◌∙◌, refl, sym, ap}
use mathlib.Core.Bool.{true}
use mathlib.Core.List.{List, [], ◌∷◌, ◌++◌}
use Prim.Native.Nat.{ℕ, suc, ◌+◌, ◌≤◌, ◌<◌}
use native.Mathlib.Numerals.{add-one}
use lib.ListN.{length, get_or, drop, set, replicate, drop_of_length-le, length-set}
use lib.Seq.{sets, drop-cons}
use Rattle.lists.specs.Lists.{all_at_most}
use Rattle.lists.specs.Steps.{state_after, outputs, joined}
use Rattle.lists.proofs.Lists.{at-most-head, at-most-tail}

-- from the state s, the list xs ends in os, one for each input, and leaves the state t
pub record Takes {S : Type 0} {I : Type 0} {O : Type 0} (step : S → I → S) (out : S → I → O) (s : S) (xs : List I)
    (os : List O) (t : S) : Type 0 where
  pub after : state_after step s xs ≡ t
  pub found : outputs step out s xs ≡ os

-- The list xs is taken from the state s₀ and the slice os₀ on; at its place i this is left.
pub record Left {S : Type 0} {I : Type 0} {O : Type 0} (step : S → I → S) (out : S → I → O) (xs : List I) (s₀ : S)
    (os₀ : List O) (s : S) (os : List O) (i : ℕ) : Type 0 where
  pub size : length os ≡ length os₀
  pub state : state_after step s (drop i xs) ≡ state_after step s₀ xs
  pub slice : sets os i (outputs step out s (drop i xs)) ≡ sets os₀ 0 (outputs step out s₀ xs)

module _ {S : Type 0} {I : Type 0} {O : Type 0} (step : S → I → S) (out : S → I → O) where
  pub after-append : (s : S) (xs ys : List I)
      → state_after step s (xs ++ ys) ≡ state_after step (state_after step s xs) ys
  unfolding state_after
  after-append s [] ys = refl
  after-append s (x ∷ xs) ys = after-append (step s x) xs ys

  pub outputs-append : (s : S) (xs ys : List I)
      → outputs step out s (xs ++ ys) ≡ outputs step out s xs ++ outputs step out (state_after step s xs) ys
  unfolding state_after outputs
  outputs-append s [] ys = refl
  outputs-append s (x ∷ xs) ys = ap (λ (l : List O). out s x ∷ l) (outputs-append (step s x) xs ys)

  pub outputs-length : (s : S) (xs : List I) → length (outputs step out s xs) ≡ length xs
  unfolding outputs
  outputs-length s [] = refl
  outputs-length s (x ∷ xs) = ap suc (outputs-length (step s x) xs)

  pub none : (s : S) → Takes step out s [] [] s
  unfolding state_after outputs
  none s = record { after = refl; found = refl }

  pub chain : {s t u : S} {xs ys : List I} {os ps : List O} → Takes step out s xs os t → Takes step out t ys ps u
      → Takes step out s (xs ++ ys) (os ++ ps) u
  chain a b = record {
    after = rw (after-append, a.after) b.after;
    found = rw (outputs-append, a.after, a.found, b.found);
  }

  pub next : {s t u : S} {x : I} {o : O} {xs : List I} {os : List O} → step s x ≡ t → out s x ≡ o
      → Takes step out t xs os u → Takes step out s (x ∷ xs) (o ∷ os) u
  unfolding state_after outputs
  next {x = x} {o = o} {xs = xs} e f b = record {
    after = ap (λ (d : S). state_after step d xs) e ∙ b.after;
    found = (λ i. f i ∷ outputs step out (e i) xs) ∙ ap (λ (l : List O). o ∷ l) b.found;
  }

  -- a state that no input changes, and in which each gives the same
  pub stays : (s : S) (o : O) → ((x : I) → step s x ≡ s) → ((x : I) → out s x ≡ o) → (xs : List I)
      → Takes step out s xs (replicate (length xs) o) s
  stays s o e f [] = none s
  stays s o e f (x ∷ xs) = next (e x) (f x) (stays s o e f xs)

  -- what is left at a place, for a loop that takes one input in each turn
  module _ (xs : List I) (s₀ : S) (os₀ : List O) where
    pub left-start : Left step out xs s₀ os₀ s₀ os₀ 0
    left-start = record { size = refl; state = refl; slice = refl }

    module _ (s : S) (os : List O) (i : ℕ) (l : Left step out xs s₀ os₀ s os i) where
      pub left-turn : (d : I) → i < length xs → (t : S) (o : O) → t ≡ step s (get_or xs i d) → o ≡ out s (get_or xs i d)
          → Left step out xs s₀ os₀ t (set os i o) (i + 1)
      unfolding state_after outputs
      left-turn d h t o e f =
          let c = drop-cons xs i d h in
          rw (e, f, add-one)
          (record {
            size = length-set os i _ ∙ l.size;
            state = sym (ap (state_after step s) c) ∙ l.state;
            slice = sym (ap (λ (ys : List I). sets os i (outputs step out s ys)) c) ∙ l.slice;
          })

      -- nothing is left
      pub left-state : length xs ≤ i → s ≡ state_after step s₀ xs
      unfolding state_after
      left-state h = sym (ap (state_after step s) (drop_of_length-le xs h)) ∙ l.state

      pub left-slice : length xs ≤ i → os ≡ sets os₀ 0 (outputs step out s₀ xs)
      unfolding outputs
      left-slice h = sym (ap (λ (ys : List I). sets os i (outputs step out s ys)) (drop_of_length-le xs h)) ∙ l.slice

-- what every step keeps is kept; the same where the inputs are numbers up to m
module _ {S : Type 0} (P : S → Type 0) where
  pub after-keeps : {I : Type 0} (step : S → I → S) → ((s : S) (x : I) → P s → P (step s x))
      → (s : S) (xs : List I) → P s → P (state_after step s xs)
  unfolding state_after
  after-keeps step k s [] p = p
  after-keeps step k s (x ∷ xs) p = after-keeps step k (step s x) xs (k s x p)

  pub after-keeps-most : (step : S → ℕ → S) (m : ℕ) → ((s : S) (x : ℕ) → x ≤ m → P s → P (step s x))
      → (s : S) (xs : List ℕ) → all_at_most m xs ≡ true → P s → P (state_after step s xs)
  unfolding state_after
  after-keeps-most step m k s [] e p = p
  after-keeps-most step m k s (x ∷ xs) e p =
      after-keeps-most step m k (step s x) xs (at-most-tail m x xs e) (k s x (at-most-head m x xs e) p)

-- Calls on a machine: each leaves the state after what it hears, and says what the machine gives for that. Calls on the
-- parts of a list then equal one on the whole, and refused calls, which hear nothing, may stand among them.
module _ {S : Type 0} {I : Type 0} {O : Type 0} {C : Type 0} (step : S → I → S) (out : S → I → O)
    (left : S → C → S) (hears : S → C → List I) (says : S → C → List O)
    (left_is : (s : S) (c : C) → left s c ≡ state_after step s (hears s c))
    (says_is : (s : S) (c : C) → says s c ≡ outputs step out s (hears s c)) where
  pub calls-left : (s : S) (cs : List C) → state_after left s cs ≡ state_after step s (joined left hears s cs)
  unfolding state_after joined
  calls-left s [] = refl
  calls-left s (c ∷ cs) =
      let later = joined left hears (left s c) cs in
      calls-left (left s c) cs ∙ ap (λ (t : S). state_after step t later) (left_is s c)
      ∙ sym (after-append step out s (hears s c) later)

  pub calls-said : (s : S) (cs : List C) → joined left says s cs ≡ outputs step out s (joined left hears s cs)
  unfolding outputs joined
  calls-said s [] = refl
  calls-said s (c ∷ cs) =
      let later = joined left hears (left s c) cs in
      ap (λ (l : List O). says s c ++ l) (calls-said (left s c) cs)
      ∙ ap (λ (l : List O). l ++ outputs step out (left s c) later) (says_is s c)
      ∙ ap (λ (t : S). outputs step out s (hears s c) ++ outputs step out t later) (left_is s c)
      ∙ sym (outputs-append step out s (hears s c) later)

  -- two lists of calls that hear the same, however it is cut, leave the same state and say the same
  pub same-heard : (s : S) (cs ds : List C) → joined left hears s cs ≡ joined left hears s ds
      → (state_after left s cs ≡ state_after left s ds) × (joined left says s cs ≡ joined left says s ds)
  same-heard s cs ds e = (
    calls-left s cs ∙ ap (state_after step s) e ∙ sym (calls-left s ds),
    calls-said s cs ∙ ap (outputs step out s) e ∙ sym (calls-said s ds),
  )
