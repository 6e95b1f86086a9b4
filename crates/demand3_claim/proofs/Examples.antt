-- The instances of demand 3: one computed test of the premises for each. The models of both are computed; which calls
-- succeed is told by them.
use mathlib.Core.Path.{◌≡◌, ◌∙◌, refl, sym, ap, subst}
use mathlib.Core.Bool.{Bool, true, false, not, ◌&&◌, false≢true}
use mathlib.Core.List.{List, [], ◌∷◌, ◌++◌}
use Prim.Native.Nat.{ℕ, zero, suc, ◌+◌, ◌-◌, ◌<◌}
use native.Mathlib.Omega.{arith}
use lib.ListN.{length, get_or, take}
use lib.Dec.{eqb, leb, ltb}
use borrow.Author.Tests.{eqb-true, leb-true, ltb-true, not-true}
use Rattle.lists.specs.Lists.{all_at_most}
use Rattle.lists.specs.Tables.{tabulate}
use Rattle.lists.proofs.Lists.{and_left, and_right}
use Rattle.alphabet.specs.declared.Mode.TheVariants.{Baudot50, Dtmf}
use Rattle.alphabet.specs.Print.{left_rows, right_rows, rows, bits_from, bits, keys}
use Rattle.alphabet.specs.TableA1.{a1}
use Rattle.alphabet.specs.TableA2.{a2}
use Rattle.alphabet.specs.TableB1.{b1}
use Rattle.alphabet.specs.TableB2.{b2}
use Rattle.alphabet.specs.Baudot.{printed_at, read_baudot, send_baudot}
use Rattle.alphabet.specs.Dtmf.{with_mark, code_from, prefixes, keys_of, marks_then_digit, among, not_struck, remaining}
use Rattle.alphabet.specs.Dtmf.{names, first_sign, named, send_in, has_row, send_from, send_dtmf}
use Rattle.alphabet.specs.Normal.{sends, reads}
use Rattle.baudot.specs.Sending.{wanted}
use Rattle.signal.specs.Signal.{digits, held, baudot_signal, sum, edt_elements, edt_signal, held_keys, signal, signals}
use Rattle.frames.specs.Samples.{placed, sample_at, samples_of, baudot_kinds}
use Rattle.frames.specs.Frames.{sampled, frame_step}
use Rattle.reader.specs.declared.Event.{Event}
use Rattle.reader.specs.Reader.{fresh, hear, inhibited}
use Rattle.reader.specs.Words.{words_of}
use Rattle.line_theorems.specs.Examples.{chars}
use Rattle.queue.specs.Queue.{waiters}
use Rattle.burst.specs.Rules.{may_begin, may_end}
use Rattle.station.specs.Station.{has_del}
use Rattle.demand3.specs.Model.{Step, Offer, Ms, Did, fresh_model, offered, begun, code_begins, next_code, load}
use Rattle.demand3.specs.Model.{level_on, one_gone, ended, closed, did, ms_after, model_after, does, sent_in, taken_in}
use Rattle.demand3.specs.Model.{heard_in, ms_in, OffersNone}
use Rattle.demand3.specs.Reading.{synchronizes, until_synchronized, synchronized_after, NoBurst, EndsIdle}
use Rattle.demand3.specs.Demand3.{Lists, the_mode, steps_a, steps_b, dids_a, between, Premises, follows_a}
use Rattle.demand3.specs.Demand3.{synchronized, words_before}
use Rattle.demand3_claim.specs.Examples.{Example, Holds, Inhibited, AllHold, calls_a45, line45, calls_b45, baudot45}
use Rattle.demand3_claim.specs.Examples.{calls_a50, line50, later_line50, last_line50, calls_b50, baudot50}
use Rattle.demand3_claim.specs.Examples.{calls_akeys, calls_bkeys, dtmf, calls_aedt, calls_bedt, edt}
use Rattle.demand3.proofs.Told.{inhibited_by, ms_by, told_events}
use Rattle.demand3.proofs.Cuts.{behind, does-length}
use Rattle.demand3.proofs.OwnRules.{told_of, own-does, own-heard}
use Rattle.demand3.specs.Accepts.{accepts, is_plain}
use Rattle.demand3.proofs.Accepts.{model_steps, all_plain, steps-are}
use Rattle.demand3.proofs.Demand3.{sends-as-model, words_are}
use Rattle.demand3_claim.proofs.ExampleWords.{HandsOut, words-45, words-dtmf, words-edt}

-- ---- tests

unfoldable pub no_burst : List Did → Bool
no_burst [] = true
no_burst (d ∷ ds) = not d.burst && no_burst ds

no-burst-by : (ds : List Did) → no_burst ds ≡ true → NoBurst ds
unfolding no_burst NoBurst
no-burst-by [] t = tt
no-burst-by (d ∷ ds) t =
    let b = not d.burst in
    (not-true d.burst (and_left b (no_burst ds) t), no-burst-by ds (and_right b (no_burst ds) t))

unfoldable pub ends_idle : List Did → Bool
ends_idle [] = true
ends_idle (d ∷ []) = not d.burst
ends_idle (d ∷ (e ∷ ds)) = ends_idle (e ∷ ds)

pub ends_by : (ds : List Did) → ends_idle ds ≡ true → EndsIdle ds
unfolding ends_idle EndsIdle
ends_by [] t = tt
ends_by (d ∷ []) t = not-true d.burst t
ends_by (d ∷ (e ∷ ds)) t = ends_by (e ∷ ds) t

unfoldable pub same : List ℕ → List ℕ → Bool
same [] [] = true
same [] (y ∷ ys) = false
same (x ∷ xs) [] = false
same (x ∷ xs) (y ∷ ys) = eqb x y && same xs ys

same_by : (xs ys : List ℕ) → same xs ys ≡ true → xs ≡ ys
unfolding same
same_by [] [] t = refl
same_by [] (y ∷ ys) t = absurd (false≢true t)
same_by (x ∷ xs) [] t = absurd (false≢true t)
same_by (x ∷ xs) (y ∷ ys) t =
    let e = eqb-true x y (and_left (eqb x y) (same xs ys) t) in
    λ i. e i ∷ same_by xs ys (and_right (eqb x y) (same xs ys) t) i

unfoldable pub offers_none : List Step → Bool
offers_none [] = true
offers_none (Offer cs ∷ steps) = same cs [] && offers_none steps
offers_none (Ms x ∷ steps) = offers_none steps

none-by : (steps : List Step) → offers_none steps ≡ true → OffersNone steps
unfolding offers_none OffersNone
none-by [] t = tt
none-by (Offer cs ∷ steps) t =
    let b = same cs [] in
    (same_by cs [] (and_left b (offers_none steps) t), none-by steps (and_right b (offers_none steps) t))
none-by (Ms x ∷ steps) t = none-by steps t

all_true : List Bool → Bool
all_true [] = true
all_true (b ∷ bs) = b && all_true bs

nth : (n : ℕ) (bs : List Bool) → all_true bs ≡ true → get_or bs n true ≡ true
unfolding all_true
nth n [] t = refl
nth zero (b ∷ bs) t = and_left b (all_true bs) t
nth (suc n) (b ∷ bs) t = nth n bs (and_right b (all_true bs) t)

-- some steps up to their n-th ms, and those after it
unfoldable pub front_ms : ℕ → List Step → List Step
front_ms zero steps = []
front_ms (suc n) [] = []
front_ms (suc n) (Offer cs ∷ steps) = Offer cs ∷ front_ms (suc n) steps
front_ms (suc n) (Ms x ∷ steps) = Ms x ∷ front_ms n steps

unfoldable pub back_ms : ℕ → List Step → List Step
back_ms zero steps = steps
back_ms (suc n) [] = []
back_ms (suc n) (Offer cs ∷ steps) = back_ms (suc n) steps
back_ms (suc n) (Ms x ∷ steps) = back_ms n steps

front-back : (n : ℕ) (steps : List Step) → steps ≡ front_ms n steps ++ back_ms n steps
unfolding front_ms back_ms
front-back zero steps = refl
front-back (suc n) [] = refl
front-back (suc n) (Offer cs ∷ steps) = behind (front-back (suc n) steps)
front-back (suc n) (Ms x ∷ steps) = behind (front-back n steps)

-- ---- what is computed of an example: A does ds, and B has these steps; the synchronizing code ends with the k-th ms
-- after the idle period

abbrev pub past_ms : Lists → ℕ
past_ms d = d.start - d.open_b

abbrev pub since_ms : Lists → ℕ
since_ms d = d.asked + 1 - d.open_b - past_ms d

-- B's steps before the idle period, from its start to the ms asked about, and beyond
abbrev pub past_of : Lists → List Step → List Step
past_of d steps = front_ms (past_ms d) steps

abbrev pub since_of : Lists → List Step → List Step
since_of d steps = front_ms (since_ms d) (back_ms (past_ms d) steps)

abbrev beyond_of : Lists → List Step → List Step
beyond_of d steps = back_ms (since_ms d) (back_ms (past_ms d) steps)

abbrev pub follows : Lists → List Did → List Did
follows d ds = between d.open_a (d.start + 300) (d.asked + 1) ds

-- the premises that are tested, in their order
unfoldable pub premise_tests : Lists → List Did → List Step → List Bool
premise_tests d ds steps =
    let mode = the_mode d in
    let past = past_of d steps in
    let since = since_of d steps in
    let m = model_after mode fresh_model past in
    no_burst (between d.open_a d.start (d.start + 300) ds)
    ∷ leb (d.start + 300) d.asked
    ∷ ltb d.asked (d.open_a + length ds)
    ∷ ltb d.asked (d.open_b + ms_in steps)
    ∷ leb d.open_b (d.start + 260)
    ∷ eqb (ms_in past) (d.start - d.open_b)
    ∷ eqb (ms_in (past ++ since)) (d.asked + 1 - d.open_b)
    ∷ same m.waiting []
    ∷ no_burst (does mode m since)
    ∷ offers_none since
    ∷ same (between d.open_b (d.start + 260) (d.asked + 1) (heard_in steps))
    (between d.open_a (d.start + 260) (d.asked + 1) (sent_in ds))
    ∷ []

-- and behind them, from 11 on, what follows
tests : Example → ℕ → List Did → List Step → List Bool
tests e k ds steps =
    let d = e.lists in
    let fs = follows d ds in
    premise_tests d ds steps
    ++ (ends_idle fs
    ∷ eqb (synchronized_after (the_mode d) fs) k
    ∷ same (taken_in (take k fs)) e.before
    ∷ [])

-- the steps of both, by their models
abbrev pub model_a : Lists → List Step
model_a d = model_steps (the_mode d) fresh_model d.calls_a

abbrev pub model_b : Lists → List Step
model_b d = model_steps (the_mode d) fresh_model d.calls_b

abbrev pub dids_of : Lists → List Did
dids_of d = does (the_mode d) fresh_model (model_a d)

-- no run has a report, so that the models tell which calls succeed
abbrev pub plain : Lists → Bool
plain d = all_plain d.calls_a && all_plain d.calls_b

pub steps_of : (d : Lists) → plain d ≡ true → (steps_a d ≡ model_a d) × (steps_b d ≡ model_b d)
steps_of d p =
    let a = all_plain d.calls_a in
    let b = all_plain d.calls_b in
    (steps-are d.mode d.calls_a (and_left a b p), steps-are d.mode d.calls_b (and_right a b p))

abbrev Passes : Example → ℕ → Type 0
Passes e k = (plain e.lists ≡ true) × (all_true (tests e k (dids_of e.lists) (model_b e.lists)) ≡ true)

module _ (e : Example) (k : ℕ) (c : Passes e k) where
  abbrev d : Lists
  d = e.lists

  fact : (n : ℕ) → get_or (tests e k (dids_a d) (steps_b d)) n true ≡ true
  fact n =
      let are = steps_of d c.0 in
      nth n (tests e k (dids_a d) (steps_b d))
      ((λ i. all_true (tests e k (does (the_mode d) fresh_model (are.0 i)) (are.1 i))) ∙ c.1)

  dids-length : length (dids_a d) ≡ ms_in (steps_a d)
  dids-length =
      let told = told_of (the_mode d) fresh_model (steps_a d) in
      ap length (sym (own-does (the_mode d) (steps_a d) fresh_model)) ∙ does-length (the_mode d) told fresh_model
      ∙ ap length (own-heard (the_mode d) (steps_a d) fresh_model)

  premises : Premises d
  unfolding tests premise_tests front_ms
  premises =
      let steps = steps_b d in
      let since = front-back (since_ms d) (back_ms (past_ms d) steps) in
      record {
        idle-A = no-burst-by _ (fact 0);
        later = leb-true _ _ (fact 1);
        run_A = subst (λ (n : ℕ). d.asked < d.open_a + n) dids-length (ltb-true _ _ (fact 2));
        run_B = ltb-true _ _ (fact 3);
        opened_B = leb-true _ _ (fact 4);
        past = past_of d steps;
        since = since_of d steps;
        beyond = beyond_of d steps;
        cut = front-back (past_ms d) steps ∙ ap (λ (l : List Step). past_of d steps ++ l) since;
        ms_past = eqb-true _ _ (fact 5);
        ms_since = eqb-true _ _ (fact 6);
        from_opening = λ h. let none : past_ms d ≡ 0 = omega arith in ap (λ (n : ℕ). front_ms n steps) none;
        none-waits = same_by _ [] (fact 7);
        idle-B = no-burst-by _ (fact 8);
        no_offers = none-by _ (fact 9);
        hears =
            same_by _ _ (fact 10)
            ∙ ap (between d.open_a (d.start + 260) (d.asked + 1)) (sym (sends-as-model d.mode d.calls_a));
      }

  point : synchronized d ≡ k
  unfolding tests premise_tests
  point = eqb-true _ _ (fact 12)

  holds : HandsOut e k → Holds e
  unfolding tests premise_tests
  holds w = record {
    premises = premises;
    idle_at_end = ends_by (follows_a d) (fact 11);
    before_is = ap (λ (n : ℕ). taken_in (take n (follows_a d))) point ∙ same_by _ _ (fact 13);
    earlier_is = ap (λ (n : ℕ). words_before d (d.start + 300 + n)) point ∙ w.earlier;
    words_are = w.all;
  }

-- ---- the instances

passes-45 : Passes baudot45 315
unfolding all_true tests premise_tests no_burst ends_idle same offers_none front_ms back_ms is_plain all_plain accepts
    model_steps
    baudot45 calls_a45 line45 calls_b45
    chars waiters heard_in offered may_begin may_end begun code_begins next_code load level_on one_gone ended closed did
    ms_after model_after does taken_in all_at_most sends signal signals synchronizes until_synchronized
    wanted send_baudot printed_at left_rows right_rows rows bits bits_from a2 digits held baudot_signal
passes-45 = (refl, refl)

passes-50 : Passes baudot50 300
unfolding all_true tests premise_tests no_burst ends_idle same offers_none front_ms back_ms is_plain all_plain accepts
    model_steps
    baudot50 calls_a50 line50 later_line50 last_line50 calls_b50
    chars waiters heard_in offered may_begin may_end begun code_begins next_code load level_on one_gone ended closed did
    ms_after model_after does taken_in all_at_most sends signal signals synchronizes until_synchronized
    wanted send_baudot printed_at left_rows right_rows rows bits bits_from a2 digits held baudot_signal
passes-50 = (refl, refl)

passes-dtmf : Passes dtmf 120
unfolding all_true tests premise_tests no_burst ends_idle same offers_none front_ms back_ms is_plain all_plain accepts
    model_steps
    dtmf calls_akeys calls_bkeys
    chars waiters heard_in offered may_begin may_end begun code_begins next_code load level_on one_gone ended closed did
    ms_after model_after does taken_in all_at_most sends signal signals synchronizes until_synchronized
    keys prefixes keys_of held_keys with_mark code_from marks_then_digit among not_struck remaining names first_sign
    named
    send_in has_row send_from send_dtmf left_rows right_rows rows b1 b2 printed_at
passes-dtmf = (refl, refl)

passes-edt : Passes edt 0
unfolding all_true tests premise_tests no_burst ends_idle same offers_none front_ms back_ms is_plain all_plain accepts
    model_steps
    edt calls_aedt calls_bedt
    chars waiters heard_in offered may_begin may_end begun code_begins next_code load level_on one_gone ended closed did
    ms_after model_after does taken_in all_at_most sends signal signals synchronizes until_synchronized
    edt_signal edt_elements digits sum tabulate
passes-edt = (refl, refl)

-- ---- B's inhibition in the third

inhibited-model : (all_plain (take 5 calls_bkeys) ≡ true)
    × ((model_after Dtmf fresh_model (model_steps Dtmf fresh_model (take 5 calls_bkeys))).inhibited_ms ≡ 20)
unfolding is_plain all_plain accepts model_steps calls_bkeys
    chars waiters offered may_begin may_end begun code_begins next_code load level_on one_gone ended closed did
    ms_after model_after all_at_most sends signal
    keys prefixes keys_of held_keys with_mark code_from marks_then_digit among not_struck remaining names first_sign
    named
    send_in has_row send_from send_dtmf left_rows right_rows rows b1 b2 printed_at
inhibited-model = (refl, refl)

dtmf-inhibited : Inhibited
dtmf-inhibited =
    ap (λ (l : List Step). (model_after Dtmf fresh_model l).inhibited_ms)
    (steps-are 3 (take 5 calls_bkeys) inhibited-model.0) ∙ inhibited-model.1

-- ---- the words of the longest instance: what B's reader makes of each ms beside B's model is computed

abbrev events_in50 : List Step → List Event
events_in50 steps = told_events Baudot50 fresh_model fresh (told_of Baudot50 fresh_model steps)

reads50 : List Event → Bool
reads50 es =
    same (words_of (take 850 es)) baudot50.earlier
    && same (words_of (take 11_951 es)) (baudot50.earlier ++ baudot50.words)

reads-50 : reads50 (events_in50 (model_steps Baudot50 fresh_model calls_b50)) ≡ true
unfolding reads50 same accepts model_steps baudot50 line50 later_line50 last_line50 calls_b50
    chars waiters has_del offered may_begin may_end begun code_begins next_code load level_on one_gone ended closed did
    ms_after model_after all_at_most sends reads signal signals
    wanted send_baudot read_baudot printed_at left_rows right_rows rows bits bits_from a1 a2 digits held baudot_signal
    told_of told_events ms_by inhibited_by hear inhibited words_of placed sample_at samples_of sampled frame_step
    baudot_kinds
reads-50 = refl

words-50 : HandsOut baudot50 300
unfolding reads50 baudot50
words-50 =
    let d = baudot50.lists in
    let es = events_in50 (steps_b d) in
    let are = steps_of d passes-50.0 in
    let c : reads50 es ≡ true = ap (λ (l : List Step). reads50 (events_in50 l)) are.1 ∙ reads-50 in
    let earlier = same (words_of (take 850 es)) baudot50.earlier in
    let all = same (words_of (take 11_951 es)) (baudot50.earlier ++ baudot50.words) in
    record {
      earlier = words_are d 1_200 ∙ same_by _ _ (and_left earlier all c);
      all = words_are d 12_301 ∙ same_by _ _ (and_right earlier all c);
    }

pub all_hold : AllHold
all_hold = record {
  baudot45_holds = holds baudot45 315 passes-45 words-45;
  baudot50_holds = holds baudot50 300 passes-50 words-50;
  dtmf_holds = holds dtmf 120 passes-dtmf words-dtmf;
  edt_holds = holds edt 0 passes-edt words-edt;
  dtmf-inhibited = dtmf-inhibited;
}
