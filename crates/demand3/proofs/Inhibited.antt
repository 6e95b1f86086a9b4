-- B's side: its inhibited ms run out in an idle period; and in no burst and with no offer its ms are those of a reader
-- that is inhibited at first.
use mathlib.Core.Path.{◌≡◌, ◌∙◌, refl, ap}
use mathlib.Core.Bool.{Bool, true, false}
use mathlib.Core.List.{List, [], ◌∷◌}
use Prim.Native.Nat.{ℕ, zero, suc, ◌+◌, ◌-◌, ◌≤◌}
use native.Mathlib.Omega.{arith}
use lib.Dec.{ltb}
use borrow.Author.Tests.{lt-ltb}
use Rattle.lists.specs.Lists.{all_at_most}
use Rattle.lists.proofs.Lists.{either, at-most-head, at-most-tail}
use Rattle.alphabet.specs.declared.Alphabet.{Alphabet}
use Rattle.alphabet.specs.declared.Alphabet.TheVariants.{Baudot, Dtmf, Edt}
use Rattle.alphabet.specs.declared.Mode.{Mode}
use Rattle.alphabet.specs.Modes.{alphabet_of}
use Rattle.reader.specs.declared.Reader.{Reader}
use Rattle.reader.specs.Reader.{hear, inhibited}
use Rattle.reader.specs.code.Bounds.{ReaderIn}
use Rattle.reader.proofs.Range.{hear-in, inhibited-in}
use Rattle.burst.specs.Rules.{inhibited_after}
use Rattle.station.specs.Station.{has_del, reader_offered}
use Rattle.station.proofs.Range.{reader-offered-in}
use Rattle.demand3.specs.Model.{Model, load_by, in_burst, offered}
use Rattle.demand3.specs.Reading.{NoBurst}
use Rattle.demand3.proofs.Told.{Told, offer, ms, did_by, inhibited_by, ms_by, reader_by, told_after, told_does}
use Rattle.demand3.proofs.Told.{told_heard, told_ms, ToldNone, told_reader, told_events}
use Rattle.demand3.proofs.Cuts.{behind}
use Rattle.demand3.proofs.Core.{events_inhibited}

-- there are never more than 300 inhibited ms to come
after-most : (b : Bool) (n : ℕ) → n ≤ 300 → inhibited_after b n ≤ 300
after-most true n h = omega arith
after-most false n h = omega arith

none-offered : (a : Alphabet) (r : Reader) → reader_offered a [] r ≡ r
unfolding has_del
none-offered Baudot r = refl
none-offered Dtmf r = refl
none-offered Edt r = refl

module _ (mode : Mode) where
  pub inhibited-most : (steps : List Told) (m : Model) → m.inhibited_ms ≤ 300
      → (told_after mode m steps).inhibited_ms ≤ 300
  unfolding told_after offered ms_by
  inhibited-most [] m h = h
  inhibited-most (offer cs ∷ steps) m h = inhibited-most steps (offered mode cs m) h
  inhibited-most (ms begins ends x ∷ steps) m h =
      inhibited-most steps (ms_by mode begins ends m x)
      (after-most (in_burst (load_by begins mode m).on_line) m.inhibited_ms h)

  -- offers change nothing about them
  pub inhibited-same : (steps : List Told) (m : Model) → told_ms steps ≡ 0
      → (told_after mode m steps).inhibited_ms ≡ m.inhibited_ms
  unfolding told_after told_heard offered
  inhibited-same [] m h = refl
  inhibited-same (offer cs ∷ steps) m h = inhibited-same steps (offered mode cs m) h
  inhibited-same (ms begins ends x ∷ steps) m h = absurd (omega arith)

  -- in no burst, the receiver is inhibited while such ms are to come, and each ms takes one of them away
  module _ (begins : Bool) (m : Model) (e : (did_by mode begins m).burst ≡ false) where
    by-ms : inhibited_by mode begins m ≡ ltb 0 m.inhibited_ms
    unfolding did_by inhibited_by
    by-ms = rw e refl

    ms-less : (ends : Bool) (x : ℕ) → (ms_by mode begins ends m x).inhibited_ms ≡ m.inhibited_ms - 1
    unfolding did_by ms_by
    ms-less ends x = rw e refl

  pub inhibited-less : (steps : List Told) (m : Model) (n : ℕ) → NoBurst (told_does mode m steps)
      → m.inhibited_ms ≤ n + told_ms steps → (told_after mode m steps).inhibited_ms ≤ n
  unfolding told_after told_does told_heard NoBurst offered
  inhibited-less [] m n b h = omega arith
  inhibited-less (offer cs ∷ steps) m n b h = inhibited-less steps (offered mode cs m) n b h
  inhibited-less (ms begins ends x ∷ steps) m n b h =
      let e = ms-less begins m b.0 ends x in
      inhibited-less steps (ms_by mode begins ends m x) n b.1 (omega arith)

  -- the reader stays in range
  pub told_in : (steps : List Told) (m : Model) (r : Reader) → all_at_most 16 (told_heard steps) ≡ true
      → ReaderIn mode r
      → ReaderIn mode (told_reader mode m r steps)
  unfolding told_reader told_heard
  told_in [] m r l h = h
  told_in (offer cs ∷ steps) m r l h =
      let a = alphabet_of mode in
      told_in steps (offered mode cs m) (reader_offered a cs r) l (reader-offered-in mode a cs r h)
  told_in (ms begins ends x ∷ steps) m r l h =
      let heard = hear-in mode r x (at-most-head 16 x (told_heard steps) l) h in
      let none = inhibited-in mode r h in
      told_in steps (ms_by mode begins ends m x) (reader_by mode begins m r x) (at-most-tail 16 x (told_heard steps) l)
      (either (ReaderIn mode) (inhibited_by mode begins m) (inhibited r) (hear mode r x).reader none heard)

  -- in no burst and with no offer, its ms are those of a reader that is inhibited at first
  pub events-are : (steps : List Told) (m : Model) (r : Reader) (n : ℕ) → m.inhibited_ms ≡ n
      → NoBurst (told_does mode m steps) → ToldNone steps
      → told_events mode m r steps ≡ events_inhibited mode n r (told_heard steps)
  unfolding told_events events_inhibited told_heard told_does offered NoBurst ToldNone
  events-are [] m r n e b o = refl
  events-are (offer cs ∷ steps) m r n e b o =
      let a = alphabet_of mode in
      let q = ap (λ (ds : List ℕ). reader_offered a ds r) o.0 ∙ none-offered a r in
      ap (λ (p : Reader). told_events mode (offered mode cs m) p steps) q
      ∙ events-are steps (offered mode cs m) r n e b o.1
  events-are (ms begins ends x ∷ steps) m r zero e b o =
      let i : inhibited_by mode begins m ≡ false = by-ms begins m b.0 ∙ ap (ltb 0) e in
      let l = ms-less begins m b.0 ends x in
      rw i (behind (events-are steps (ms_by mode begins ends m x) (hear mode r x).reader zero (omega arith) b.1 o))
  events-are (ms begins ends x ∷ steps) m r (suc n) e b o =
      let i : inhibited_by mode begins m ≡ true = by-ms begins m b.0 ∙ lt-ltb 0 m.inhibited_ms (omega arith) in
      let l = ms-less begins m b.0 ends x in
      rw i (behind (events-are steps (ms_by mode begins ends m x) (inhibited r) n (omega arith) b.1 o))
