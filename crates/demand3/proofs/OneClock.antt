-- Demand 3 on one clock, for two stations that are told, ms by ms, when a burst begins and ends, whoever tells them:
-- the core theorem, with A's steps and B's cut at the ms that the claim names, and B's reader brought to the last 40 ms
-- of the idle period.
use mathlib.Core.Path.{◌≡◌, ◌∙◌, refl, sym, ap, subst}
use mathlib.Core.Bool.{Bool, true, false, cond}
use mathlib.Core.List.{List, [], ◌∷◌, ◌++◌, append_assoc}
use Prim.Native.Nat.{ℕ, suc, ◌+◌, ◌-◌, ◌≤◌, ◌<◌, min}
use native.Mathlib.Nat.{min-eq_left}
use native.Mathlib.Omega.{arith}
use lib.Dec.{ltb}
use lib.ListN.{length, take, drop, take-append-drop, length-drop, length-map}
use lib.Seq.{length-take-le, take-take, drop-drop}
use borrow.Author.Tests.{ltb-true, ltb-false}
use Rattle.lists.specs.Lists.{all_at_most}
use Rattle.lists.proofs.Lists.{either, at-most-front}
use Rattle.alphabet.specs.declared.Mode.{Mode}
use Rattle.alphabet.specs.Modes.{alphabet_of}
use Rattle.alphabet.specs.Normal.{normal_form, all_chars}
use Rattle.reader.specs.declared.Event.{Event}
use Rattle.reader.specs.declared.Reader.{Reader}
use Rattle.reader.specs.Reader.{fresh}
use Rattle.reader.specs.Words.{words_of}
use Rattle.reader.proofs.Range.{fresh_in}
use Rattle.reader.proofs.WordLists.{words_append}
use Rattle.demand3.specs.Model.{Model, Did, fresh_model, sent_in, taken_in}
use Rattle.demand3.specs.Reading.{ends_synchronizing, until_synchronized, synchronized_after, at_once, most_before}
use Rattle.demand3.specs.Reading.{NoBurst, EndsIdle}
use Rattle.demand3.specs.Demand3.{between}
use Rattle.demand3.proofs.Told.{Told, told_after, told_does, told_heard, told_ms, ToldNone, told_reader, told_events}
use Rattle.demand3.proofs.Cuts.{between_is, between-length, idle-left, idle-right, sent-append, heard-append, ms-append}
use Rattle.demand3.proofs.Cuts.{none_right, after-append, events-append, does-length, events-length}
use Rattle.demand3.proofs.Cuts.{Cut, cut-after, does-cut}
use Rattle.demand3.proofs.Bound.{ShiftFirst}
use Rattle.demand3.proofs.Core.{Reads, reads-after-idle}
use Rattle.demand3.proofs.Inhibited.{inhibited-most, inhibited-same, inhibited-less, told_in, events-are}

-- The numbers of the first ms of A and of B, the first ms of the idle period, and the ms asked about.
pub record Clock : Type 0 where
  pub open_a : ℕ
  pub open_b : ℕ
  pub start : ℕ
  pub asked : ℕ

-- The premises, on the steps of A and of B from fresh models on. (`Premises` in specs/Demand3.antt says them of two
-- lists of calls.) Of A's idle period only the last 40 ms are needed.
pub record OneClock (mode : Mode) (t : Clock) (steps_a steps_b : List Told) : Type 0 where
  pub idle-A : NoBurst (between t.open_a (t.start + 260) (t.start + 300) (told_does mode fresh_model steps_a))
  pub later : t.start + 300 ≤ t.asked
  pub opened_B : t.open_b ≤ t.start + 260
  pub past : List Told
  pub since : List Told
  pub beyond : List Told
  pub cut : steps_b ≡ past ++ (since ++ beyond)
  pub ms_past : told_ms past ≡ t.start - t.open_b
  pub ms_since : told_ms (past ++ since) ≡ t.asked + 1 - t.open_b
  pub idle-B : NoBurst (told_does mode (told_after mode fresh_model past) since)
  pub no_offers : ToldNone since
  pub levels : all_at_most 16 (told_heard steps_b) ≡ true
  pub hears : between t.open_b (t.start + 260) (t.asked + 1) (told_heard steps_b)
      ≡ between t.open_a (t.start + 260) (t.asked + 1) (sent_in (told_does mode fresh_model steps_a))

-- What A does after the idle period up to the ms asked about.
abbrev pub follows_in : Mode → Clock → List Told → List Did
follows_in mode t steps_a = between t.open_a (t.start + 300) (t.asked + 1) (told_does mode fresh_model steps_a)

-- The words of B before a ms of the clock.
abbrev pub words_in : Mode → Clock → List Told → ℕ → List ℕ
words_in mode t steps_b now = words_of (take (now - t.open_b) (told_events mode fresh_model fresh steps_b))

-- The conclusion, where A did ds after the idle period.
pub record ReadsOn (mode : Mode) (t : Clock) (steps_b : List Told) (ds : List Did) : Type 0 where
  pub before : length (taken_in (take (synchronized_after mode ds) ds)) ≤ most_before (alphabet_of mode)
  pub shift_first : ShiftFirst mode ds
  pub text : EndsIdle ds
      → words_in mode t steps_b (t.asked + 1)
      ≡ words_in mode t steps_b (t.start + 300 + synchronized_after mode ds)
      ++ normal_form (alphabet_of mode) (taken_in (drop (synchronized_after mode ds) ds))
  pub no_fault : EndsIdle ds
      → all_chars (normal_form (alphabet_of mode) (taken_in (drop (synchronized_after mode ds) ds))) ≡ true

-- the synchronizing code's last ms is among those asked about
until-most : (mode : Mode) (ds : List Did) → until_synchronized mode ds ≤ length ds
unfolding until_synchronized
until-most mode [] = omega arith
until-most mode (d ∷ ds) = go (ends_synchronizing mode d.ended) (until-most mode ds)
  where
    go : (b : Bool) → until_synchronized mode ds ≤ length ds
        → cond b 1 (suc (until_synchronized mode ds)) ≤ suc (length ds)
    go true i = omega arith
    go false i = omega arith

synchronized-most : (mode : Mode) (ds : List Did) → synchronized_after mode ds ≤ length ds
synchronized-most mode ds =
    either (λ (n : ℕ). n ≤ length ds) (at_once (alphabet_of mode)) 0 (until_synchronized mode ds) (omega arith)
    (until-most mode ds)

-- as many ms from `from` on as there are up to `to`: they begin there at the latest, and reach to there
ran-all : (first from to n : ℕ) → from < to → to - from ≡ min (to - first) n - (from - first)
    → (first ≤ from) × (to ≤ first + n)
ran-all first from to n h e = (omega arith, omega arith)

-- B hears what A sends from the 40 ms on, so A has run each of them and each up to the ms asked about
ran : (mode : Mode) (t : Clock) (steps_a steps_b : List Told) → OneClock mode t steps_a steps_b
    → (t.open_a ≤ t.start + 260) × (t.asked + 1 ≤ t.open_a + told_ms steps_a)
ran mode t steps_a steps_b p =
    let from = t.start + 260 in
    let to = t.asked + 1 in
    let ds = told_does mode fresh_model steps_a in
    let later = p.later in
    let opened = p.opened_B in
    let all = p.ms_since in
    let parts = ap told_ms (p.cut ∙ sym (append_assoc p.past p.since p.beyond))
    ∙ ms-append (p.past ++ p.since) p.beyond in
    let run : to - t.open_b ≤ told_ms steps_b = omega arith in
    let heard = between-length t.open_b from to (told_heard steps_b)
    ∙ ap (λ (n : ℕ). n - (from - t.open_b)) (min-eq_left run) in
    let heards : to - t.open_b - (from - t.open_b) ≡ to - from = omega arith in
    let levels = length-map ds (λ (d : Did). d.sent) ∙ does-length mode steps_a fresh_model in
    let sent = between-length t.open_a from to (sent_in ds)
    ∙ ap (λ (n : ℕ). min (to - t.open_a) n - (from - t.open_a)) levels in
    ran-all t.open_a from to (told_ms steps_a) (omega arith) (sym heards ∙ sym heard ∙ ap length p.hears ∙ sent)

-- the ms of B from the start of the idle period, or from its opening, up to the 40
abbrev early_ms : Clock → ℕ
early_ms t = t.start + 260 - t.open_b - (t.start - t.open_b)

-- the ms from the 40 on, up to the one asked about
abbrev on_ms : Clock → ℕ
on_ms t = t.asked + 1 - (t.start + 260)

-- the cuts: of A's steps ahead of the 40 ms, and behind the ms asked about; of B's since the start of the idle period,
-- ahead of the 40 ms
module _ (mode : Mode) (t : Clock) (steps_a steps_b : List Told) (p : OneClock mode t steps_a steps_b)
    (opened : t.open_a ≤ t.start + 260)
    (a : Cut (t.start + 260 - t.open_a) steps_a) (on : Cut (on_ms t) a.back) (b : Cut (early_ms t) p.since) where
  -- ---- A: what it does in each part
  abbrev model_a : Model
  model_a = told_after mode fresh_model a.front

  abbrev past_dids : List Did
  past_dids = told_does mode fresh_model a.front

  abbrev on_dids : List Did
  on_dids = told_does mode model_a on.front

  abbrev beyond_dids : List Did
  beyond_dids = told_does mode (told_after mode model_a on.front) on.back

  dids-are : told_does mode fresh_model steps_a ≡ past_dids ++ (on_dids ++ beyond_dids)
  dids-are = does-cut mode a fresh_model ∙ ap (λ (ds : List Did). past_dids ++ ds) (does-cut mode on model_a)

  past-length : length past_dids ≡ t.start + 260 - t.open_a
  past-length = does-length mode a.front fresh_model ∙ a.front-ms

  on-length : length on_dids ≡ on_ms t
  on-length = does-length mode on.front model_a ∙ on.front-ms

  -- the last 40 ms of the idle period, what follows it, and what is sent from the 40 ms on
  idle-forty : NoBurst (take 40 on_dids)
  idle-forty =
      let later = p.later in
      let n = past-length in
      let m = on-length in
      let forty = length-take-le 40 on_dids (omega arith) in
      let parted = sym (append_assoc (take 40 on_dids) (drop 40 on_dids) beyond_dids)
      ∙ ap (λ (ds : List Did). ds ++ beyond_dids) (take-append-drop 40 on_dids) in
      let parts = dids-are ∙ ap (λ (ds : List Did). past_dids ++ ds) (sym parted) in
      subst NoBurst
      (ap (between t.open_a (t.start + 260) (t.start + 300)) parts
      ∙ between_is t.open_a (t.start + 260) (t.start + 300) 0 past_dids (take 40 on_dids)
      (drop 40 on_dids ++ beyond_dids) (omega arith) (omega arith))
      p.idle-A

  follows_is : follows_in mode t steps_a ≡ drop 40 on_dids
  follows_is =
      let later = p.later in
      let n = past-length in
      let m = on-length in
      ap (between t.open_a (t.start + 300) (t.asked + 1)) dids-are
      ∙ between_is t.open_a (t.start + 300) (t.asked + 1) 40 past_dids on_dids beyond_dids (omega arith) (omega arith)

  sent_is : between t.open_a (t.start + 260) (t.asked + 1) (sent_in (told_does mode fresh_model steps_a))
      ≡ sent_in on_dids
  sent_is =
      let parts = ap sent_in dids-are ∙ sent-append past_dids (on_dids ++ beyond_dids)
      ∙ ap (λ (l : List ℕ). sent_in past_dids ++ l) (sent-append on_dids beyond_dids) in
      let later = p.later in
      let n = length-map past_dids (λ (d : Did). d.sent) ∙ past-length in
      let m = length-map on_dids (λ (d : Did). d.sent) ∙ on-length in
      ap (between t.open_a (t.start + 260) (t.asked + 1)) parts
      ∙ between_is t.open_a (t.start + 260) (t.asked + 1) 0 (sent_in past_dids) (sent_in on_dids) (sent_in beyond_dids)
      (omega arith) (omega arith)

  -- ---- B: before the 40 ms, and from them on
  abbrev front_b : List Told
  front_b = p.past ++ b.front

  abbrev on_b : List Told
  on_b = b.back

  abbrev model_b : Model
  model_b = told_after mode fresh_model front_b

  abbrev reader_b : Reader
  reader_b = told_reader mode fresh_model fresh front_b

  parts-B : steps_b ≡ front_b ++ (on_b ++ p.beyond)
  parts-B =
      let joined : p.past ++ ((b.front ++ on_b) ++ p.beyond) ≡ front_b ++ (on_b ++ p.beyond) = simp append_assoc in
      p.cut ∙ ap (λ (l : List Told). p.past ++ (l ++ p.beyond)) b.whole ∙ joined

  front-ms : told_ms front_b ≡ t.start + 260 - t.open_b
  front-ms =
      let opened = p.opened_B in
      let n = ms-append p.past b.front in
      let early = b.front-ms in
      let past = p.ms_past in
      omega arith

  on-ms : told_ms on_b ≡ on_ms t
  on-ms =
      let later = p.later in
      let opened = p.opened_B in
      let n = ms-append p.past p.since in
      let all = p.ms_since in
      let since = b.all_ms in
      let past = p.ms_past in
      omega arith

  heard-parts : told_heard steps_b ≡ told_heard front_b ++ (told_heard on_b ++ told_heard p.beyond)
  heard-parts =
      ap told_heard parts-B ∙ heard-append front_b (on_b ++ p.beyond)
      ∙ ap (λ (l : List ℕ). told_heard front_b ++ l) (heard-append on_b p.beyond)

  hears-on : told_heard on_b ≡ sent_in on_dids
  hears-on =
      let n = front-ms in
      let m = on-ms in
      sym
      (ap (between t.open_b (t.start + 260) (t.asked + 1)) heard-parts
      ∙ between_is t.open_b (t.start + 260) (t.asked + 1) 0 (told_heard front_b) (told_heard on_b)
      (told_heard p.beyond) (omega arith) (omega arith))
      ∙ p.hears ∙ sent_is

  -- in no burst, up to the 40 ms and from them on
  abbrev past_b : Model
  past_b = told_after mode fresh_model p.past

  abbrev early_dids : List Did
  early_dids = told_does mode past_b b.front

  idle-since : NoBurst (early_dids ++ told_does mode model_b on_b)
  idle-since =
      let joined = sym (after-append mode p.past b.front fresh_model) in
      subst NoBurst (does-cut mode b past_b ∙ ap (λ (m : Model). early_dids ++ told_does mode m on_b) joined) p.idle-B

  idle-early : NoBurst early_dids
  idle-early = idle-left early_dids (told_does mode model_b on_b) idle-since

  -- at most 40 inhibited ms are left to B: 260 have gone, or it was opened in the idle period
  inhibited-40 : model_b.inhibited_ms ≤ 40
  unfolding told_after
  inhibited-40 = rw (after-append mode p.past b.front fresh_model) (by-opening (ltb t.start t.open_b) refl)
    where
      by-opening : (c : Bool) → ltb t.start t.open_b ≡ c → (told_after mode past_b b.front).inhibited_ms ≤ 40
      by-opening true e =
          let k = ltb-true t.start t.open_b e in
          let past = p.ms_past in
          let none = inhibited-same mode p.past fresh_model (omega arith) in
          inhibited-less mode b.front past_b 40 idle-early (omega arith)
      by-opening false e =
          let k = ltb-false t.start t.open_b e in
          let n = b.front-ms in
          let most = inhibited-most mode p.past fresh_model (omega arith) in
          inhibited-less mode b.front past_b 40 idle-early (omega arith)

  -- what its ms end in from the 40 ms on, and its words after a later ms
  abbrev on_events : List Event
  on_events = told_events mode model_b reader_b on_b

  words-after : (k : ℕ) → 40 + k ≤ on_ms t
      → words_in mode t steps_b (t.asked + 1)
      ≡ words_in mode t steps_b (t.start + 300 + k) ++ words_of (drop k (drop 40 on_events))
  words-after k h =
      let es = told_events mode fresh_model fresh steps_b in
      let front_events = told_events mode fresh_model fresh front_b in
      let beyond = told_events mode (told_after mode model_b on_b) (told_reader mode model_b reader_b on_b) p.beyond in
      let from = t.start + 300 + k in
      let parts : es ≡ front_events ++ (on_events ++ beyond) =
      ap (told_events mode fresh_model fresh) parts-B ∙ events-append mode front_b (on_b ++ p.beyond) fresh_model fresh
      ∙ ap (λ (l : List Event). front_events ++ l) (events-append mode on_b p.beyond model_b reader_b) in
      let opened = p.opened_B in
      let n = events-length mode front_b fresh_model fresh ∙ front-ms in
      let m = events-length mode on_b model_b reader_b ∙ on-ms in
      let rest : between t.open_b from (t.asked + 1) es ≡ drop k (drop 40 on_events) =
      ap (between t.open_b from (t.asked + 1)) parts
      ∙ between_is t.open_b from (t.asked + 1) (40 + k) front_events on_events beyond (omega arith) (omega arith)
      ∙ sym (drop-drop k 40 on_events) in
      let to = t.asked + 1 - t.open_b in
      let parted = ap (λ (l : List Event). l ++ between t.open_b from (t.asked + 1) es)
      (sym (take-take (from - t.open_b) to es (omega arith))) ∙ take-append-drop (from - t.open_b) (take to es) in
      ap words_of (sym parted)
      ∙ words_append (take (from - t.open_b) es) (between t.open_b from (t.asked + 1) es)
      ∙ ap (λ (l : List Event). words_of (take (from - t.open_b) es) ++ words_of l) rest

  -- ---- both
  reads : Reads mode (drop 40 on_dids) (drop 40 on_events)
  reads =
      let later = p.later in
      let n = on.front-ms in
      let none = none_right b.front on_b (subst ToldNone b.whole p.no_offers) in
      let idle = idle-right early_dids (told_does mode model_b on_b) idle-since in
      let heard = events-are mode on_b model_b reader_b model_b.inhibited_ms refl idle none in
      rw (heard, hears-on)
      (reads-after-idle mode a.front on.front reader_b model_b.inhibited_ms
      (record {
        forty_ms = omega arith;
        idle = idle-forty;
        reader-in = told_in mode front_b fresh_model fresh front-levels (fresh_in mode);
        inhibited-in = inhibited-40;
      }))
    where
      front-levels : all_at_most 16 (told_heard front_b) ≡ true
      front-levels =
          at-most-front 16 (told_heard front_b) (told_heard on_b ++ told_heard p.beyond)
          (sym (ap (all_at_most 16) heard-parts) ∙ p.levels)

  reads-forty : ReadsOn mode t steps_b (drop 40 on_dids)
  reads-forty =
      let ds = drop 40 on_dids in
      let k = synchronized_after mode ds in
      let most = synchronized-most mode ds in
      let later = p.later in
      let n = on-length in
      let m = length-drop 40 on_dids in
      let r = reads in
      let words = words-after k (omega arith) in
      record {
        before = r.before;
        shift_first = r.shift_first;
        text = λ z. words ∙ ap (λ (l : List ℕ). words_in mode t steps_b (t.start + 300 + k) ++ l) (r.text z);
        no_fault = λ z. subst (λ (l : List ℕ). all_chars l ≡ true) (r.text z) (r.no_fault z);
      }

  reads-cut : ReadsOn mode t steps_b (follows_in mode t steps_a)
  reads-cut = subst (ReadsOn mode t steps_b) (sym follows_is) reads-forty

pub reads_on : (mode : Mode) (t : Clock) (steps_a steps_b : List Told) → OneClock mode t steps_a steps_b
    → ReadsOn mode t steps_b (follows_in mode t steps_a)
reads_on mode t steps_a steps_b p =
    let r = ran mode t steps_a steps_b p in
    let opened = r.0 in
    let later = p.later in
    let run = r.1 in
    let a = cut-after (t.start + 260 - t.open_a) steps_a (omega arith) in
    let rest = a.all_ms in
    let on = cut-after (on_ms t) a.back (omega arith) in
    let opened_b = p.opened_B in
    let n = ms-append p.past p.since in
    let all = p.ms_since in
    let past = p.ms_past in
    let b = cut-after (early_ms t) p.since (omega arith) in
    reads-cut mode t steps_a steps_b p opened a on b
