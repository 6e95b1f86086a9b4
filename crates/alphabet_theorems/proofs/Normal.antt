-- The normal form: the theorems that document 01 names.
use Rattle.std.specs.Prelude.{Option, Some, None}
use Rattle.alphabet.specs.declared.CharCode.{CharCode}
use Rattle.alphabet.specs.Codes.{char_code}
use mathlib.Core.Path.{◌≡◌, ◌∙◌, refl, sym, ap}
use mathlib.Core.Bool.{Bool, true, false}
use mathlib.Core.Logic.{◌↔◌, ◌⊎◌, inl, inr}
use mathlib.Core.List.{List, [], ◌∷◌, ◌++◌, append-nil, append_assoc}
use Prim.Native.Nat.{ℕ, ◌<◌}
use lib.Dec.{eqb}
use lib.ListN.{length}
use native.Mathlib.Omega.{arith}
use borrow.Author.Tests.{eqb-true}
use Rattle.lists.proofs.Lists.{at-most-head, at-most-tail}
use Rattle.alphabet.specs.declared.Alphabet.{Alphabet}
use Rattle.alphabet.specs.declared.Alphabet.TheVariants.{Baudot, Dtmf, Edt}
use Rattle.alphabet.specs.declared.LineCode.{LineCode}
use Rattle.alphabet.specs.declared.Reads.TheVariants.{Character}
use Rattle.alphabet.specs.Baudot.{read_baudot}
use Rattle.alphabet.specs.Normal.{sends, reads, normal, normal_form, all_chars}
use Rattle.alphabet_theorems.proofs.Rule.{ReadBack, rule-of}

-- a reader takes a code of both shifts as in letters
any-shift : (a : Alphabet) (n : ℕ) → reads a 3 n ≡ reads a 1 n
unfolding reads read_baudot
any-shift Baudot n = refl
any-shift Dtmf n = refl
any-shift Edt n = refl

-- what a sent code reads as in its own shift
pub own-shift : (a : Alphabet) (s : ℕ) (k : LineCode) (b : ReadBack a s k)
    → reads a s k.0 ≡ Character (record { 0 = b.char })
own-shift a s k b = go (eqb s 3) refl
  where
    go : (t : Bool) → eqb s 3 ≡ t → reads a s k.0 ≡ Character (record { 0 = b.char })
    go true e =
        let z = eqb-true s 3 e in
        ap (λ (n : ℕ). reads a n k.0) z ∙ any-shift a k.0 ∙ (simp e at b.letters)
    go false e = simp e at b.letters

-- what a sent code reads as in each shift that it belongs to
pub reads_in : (a : Alphabet) (s : ℕ) (k : LineCode) (b : ReadBack a s k) (r : ℕ)
    → (r ≡ 1) ⊎ (r ≡ 2) → (s ≡ 3) ⊎ (s ≡ r)
    → reads a r k.0 ≡ Character (record { 0 = b.char })
reads_in a s k b r (inl l) (inl e) = ap (λ (n : ℕ). reads a n k.0) l ∙ (simp e at b.letters)
reads_in a s k b r (inr l) (inl e) = ap (λ (n : ℕ). reads a n k.0) l ∙ (simp e at b.figures)
reads_in a s k b r l (inr e) = ap (λ (n : ℕ). reads a n k.0) (sym e) ∙ own-shift a s k b

-- the normal form of a character that sends a code, and of that normal form
module _ (a : Alphabet) (c : ℕ) (h : c < 128) (s : ℕ) (k : LineCode) (e : sends a c ≡ char_code s k) where
  abbrev back : ReadBack a s k
  back = rule-of a c h s k e

  pub normal-code : normal a c ≡ back.char ∷ []
  normal-code = simp (e, own-shift a s k back)

  pub normal-again : normal a back.char ≡ back.char ∷ []
  normal-again = simp (back.same, own-shift a s k back)

-- a character that has no normal form is exactly one that sends nothing
pub no-normal-form : (a : Alphabet) (c : ℕ) → c < 128 → (normal a c ≡ []) ↔ (sends a c ≡ None)
no-normal-form a c h = (go (sends a c) refl, λ e. simp e)
  where
    go : (x : Option CharCode) → sends a c ≡ x → normal a c ≡ [] → sends a c ≡ None
    go None e n = e
    go (Some o) e n =
        absurd (let z : ◌≡◌ {A = ℕ} 0 1 = ap length (sym n ∙ normal-code a c h o.shift o.code e) in omega arith)

-- the normal form of a character, taken twice
pub normal-twice : (a : Alphabet) (c : ℕ) → c < 128 → normal_form a (normal a c) ≡ normal a c
unfolding normal_form
normal-twice a c h = go (sends a c) refl
  where
    go : (x : Option CharCode) → sends a c ≡ x → normal_form a (normal a c) ≡ normal a c
    go None e = simp e
    go (Some o) e =
        rw (normal-code a c h o.shift o.code e)
        (append-nil (normal a (back a c h o.shift o.code e).char) ∙ normal-again a c h o.shift o.code e)

-- the normal form of a list runs over the end of its front part
pub normal-append : (a : Alphabet) (cs ds : List ℕ) → normal_form a (cs ++ ds) ≡ normal_form a cs ++ normal_form a ds
unfolding normal_form
normal-append a [] ds = refl
normal-append a (c ∷ cs) ds =
    ap (λ (l : List ℕ). normal a c ++ l) (normal-append a cs ds)
    ∙ sym (append_assoc (normal a c) (normal_form a cs) (normal_form a ds))

-- the normal form of a list, taken twice
pub normal-form-twice : (a : Alphabet) (cs : List ℕ) → all_chars cs ≡ true
    → normal_form a (normal_form a cs) ≡ normal_form a cs
unfolding normal_form
normal-form-twice a [] t = refl
normal-form-twice a (c ∷ cs) t =
    let h = at-most-head 0x7f c cs t in
    let r = normal-form-twice a cs (at-most-tail 0x7f c cs t) in
    normal-append a (normal a c) (normal_form a cs) ∙ (rw (normal-twice a c (omega arith), r))
