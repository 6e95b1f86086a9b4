-- An idle reader: quiet ms leave it as it is, and nothing comes of them.
use mathlib.Core.Path.{◌≡◌, ◌∙◌, refl, sym, ap, subst}
use mathlib.Core.Bool.{true, ◌&&◌}
use mathlib.Core.List.{List, [], ◌∷◌, ◌++◌}
use Prim.Native.Nat.{ℕ}
use native.Mathlib.Omega.{arith}
use lib.Dec.{eqb}
use borrow.Author.Tests.{eqb-true}
use Rattle.lists.specs.Lists.{all_at_most}
use Rattle.lists.specs.Steps.{state_after, outputs}
use Rattle.lists.proofs.Lists.{and_left, and_right, at-most-head, at-most-tail}
use Rattle.alphabet.specs.declared.Mode.{Mode}
use Rattle.alphabet.specs.declared.Mode.TheVariants.{Baudot45, Baudot50, Dtmf, Edt}
use Rattle.frames.specs.Frames.{hunting, frame_step}
use Rattle.keys.specs.Keys.{ready, key_step}
use Rattle.reader.specs.declared.Event.TheVariants.{Nothing}
use Rattle.reader.specs.declared.Reader.{Reader}
use Rattle.reader.specs.declared.Reading.{Reading}
use Rattle.reader.specs.Reader.{reader, ends, key_event, prefix_after, hear}
use Rattle.reader.specs.Words.{word_of, words_of, reader_after, words}
use Rattle.half_duplex_runs.specs.code.Cores.{is_idle}

abbrev idle : ℕ → ℕ → Reader
idle shift prefix = reader hunting ready shift prefix

idle-is : (r : Reader) → is_idle r ≡ true → r ≡ idle r.shift r.prefix
unfolding is_idle
idle-is r e =
    let a = eqb r.frame.place 0 in
    let b = eqb r.frame.digits 0 in
    let c = eqb r.keys.key 0 in
    let d = eqb r.keys.ms 0 in
    let g = eqb r.keys.needed 0 in
    let abcd = and_left (a && b && c && d) g e in
    let abc = and_left (a && b && c) d abcd in
    let ab = and_left (a && b) c abc in
    let place = eqb-true r.frame.place 0 (and_left a b ab) in
    let digits = eqb-true r.frame.digits 0 (and_right a b ab) in
    let key = eqb-true r.keys.key 0 (and_right (a && b) c abc) in
    let ms = eqb-true r.keys.ms 0 (and_right (a && b && c) d abcd) in
    let needed = eqb-true r.keys.needed 0 (and_right (a && b && c && d) g e) in
    λ j. record {
      frame = record { place = place j; digits = digits j };
      keys = record { key = key j; ms = ms j; needed = needed j };
      shift = r.shift;
      prefix = r.prefix;
    }

idle-ms : (mode : Mode) (shift prefix : ℕ) → hear mode (idle shift prefix) 0 ≡ ends (idle shift prefix) Nothing
unfolding hear frame_step key_step key_event prefix_after
idle-ms Baudot45 shift prefix = refl
idle-ms Baudot50 shift prefix = refl
idle-ms Dtmf shift prefix = refl
idle-ms Edt shift prefix = refl

pub record Idles (mode : Mode) (r : Reader) (xs : List ℕ) : Type 0 where
  pub after : r ≡ reader_after mode r xs
  pub none : words mode r xs ≡ []

idles-list : (mode : Mode) (shift prefix : ℕ) (xs : List ℕ) → all_at_most 0 xs ≡ true
    → Idles mode (idle shift prefix) xs
unfolding state_after outputs words_of
idles-list mode shift prefix [] e = record { after = refl; none = refl }
idles-list mode shift prefix (x ∷ xs) e =
    let r = idle shift prefix in
    let m = at-most-head 0 x xs e in
    let z : x ≡ 0 = omega arith in
    let h : hear mode r x ≡ ends r Nothing = ap (hear mode r) z ∙ idle-ms mode shift prefix in
    let t = idles-list mode shift prefix xs (at-most-tail 0 x xs e) in
    record {
      after = t.after ∙ sym (ap (λ (q : Reading). reader_after mode q.reader xs) h);
      none = ap (λ (q : Reading). word_of q.event ++ words mode q.reader xs) h ∙ t.none;
    }

pub idles : (mode : Mode) (r : Reader) (xs : List ℕ) → is_idle r ≡ true → all_at_most 0 xs ≡ true → Idles mode r xs
idles mode r xs e q =
    subst (λ (s : Reader). Idles mode s xs) (sym (idle-is r e)) (idles-list mode r.shift r.prefix xs q)
