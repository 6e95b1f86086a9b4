-- The instances of demand 3: the words of B, computed call by call and ms by ms from the definitions of the station's
-- entries. (Of the longest instance in Examples.antt.)
use mathlib.Core.Path.{◌≡◌, refl}
use mathlib.Core.List.{◌++◌}
use Prim.Native.Nat.{ℕ, ◌+◌}
use Rattle.lists.specs.Lists.{all_at_most}
use Rattle.lists.specs.Steps.{state_after, outputs, joined}
use Rattle.lists.specs.Tables.{tabulate}
use Rattle.alphabet.specs.Print.{left_rows, right_rows, rows, bits_from, bits, keys}
use Rattle.alphabet.specs.TableA1.{a1}
use Rattle.alphabet.specs.TableA2.{a2}
use Rattle.alphabet.specs.TableB1.{b1}
use Rattle.alphabet.specs.TableB2.{b2}
use Rattle.alphabet.specs.Baudot.{printed_at, read_baudot, send_baudot}
use Rattle.alphabet.specs.Dtmf.{with_mark, code_from, prefixes, keys_of, marks_then_digit, among, not_struck, remaining}
use Rattle.alphabet.specs.Dtmf.{names, first_sign, named, read_in, read_dtmf, send_in, has_row, send_from, send_dtmf}
use Rattle.alphabet.specs.Normal.{sends, reads}
use Rattle.baudot.specs.Sending.{wanted}
use Rattle.signal.specs.Signal.{digits, held, baudot_signal, sum, edt_elements, edt_signal, held_keys, signal, signals}
use Rattle.frames.specs.Samples.{placed, sample_at, samples_of, baudot_kinds, edt_kinds}
use Rattle.frames.specs.Frames.{sampled, frame_step}
use Rattle.frames.specs.Range.{last_ms}
use Rattle.keys.specs.Keys.{key_step}
use Rattle.reader.specs.Reader.{hear, inhibited, key_event, prefix_after}
use Rattle.reader.specs.Words.{words_of}
use Rattle.line_theorems.specs.Examples.{chars}
use Rattle.burst.specs.Rules.{may_begin, may_end}
use Rattle.burst.specs.Line.{part_ms, is_over, begun, code_begins, next_code, level_on, one_gone, closed}
use Rattle.edges.specs.Edges.{joined as joined_edges, is_edge, with_ms, edges_ms, counted_ms}
use Rattle.edges.specs.Range.{report_in, edges_in}
use Rattle.half_duplex.specs.Core.{silence_after, settled, core_from}
use Rattle.half_duplex.specs.Range.{core_in}
use Rattle.queue.specs.Queue.{waiters, all_wait, room, offered, in_range as queue_in}
use Rattle.station.specs.Station.{fresh_station, has_del, offered_to, station_ms, event_of}
use Rattle.station.specs.Measured.{waiting_ms, counted_in, measured_ms}
use Rattle.station.specs.Range.{in_range, measured_in}
use Rattle.station.specs.Entries.{open_of, offer_answer, offer_of, run_answer, ran_of, words_after}
use Rattle.demand3.specs.Model.{heard_in}
use Rattle.demand3.specs.Calls.{up_to}
use Rattle.demand3.specs.Demand3.{words_before}
use Rattle.demand3_claim.specs.Examples.{Example, line45, calls_b45, baudot45, calls_bkeys, dtmf, calls_bedt, edt}

-- up to k ms after the idle period, and up to the ms asked about
pub record HandsOut (e : Example) (k : ℕ) : Type 0 where
  pub earlier : words_before e.lists (e.lists.start + 300 + k) ≡ e.earlier
  pub all : words_before e.lists (e.lists.asked + 1) ≡ e.earlier ++ e.words

pub words-45 : HandsOut baudot45 315
unfolding baudot45 calls_b45 line45
    chars all_at_most state_after outputs joined sends reads signal signals
    waiters all_wait room offered queue_in may_begin may_end part_ms is_over begun code_begins next_code level_on
    one_gone closed
    silence_after settled core_from core_in fresh_station has_del offered_to station_ms event_of in_range
    waiting_ms counted_in measured_ms measured_in report_in edges_in joined_edges edges_ms counted_ms is_edge with_ms
    open_of offer_answer offer_of run_answer ran_of words_after heard_in up_to
    placed sample_at samples_of sampled frame_step last_ms key_step hear inhibited words_of
    wanted send_baudot read_baudot printed_at left_rows right_rows rows bits bits_from a1 a2 digits held baudot_signal
    baudot_kinds
words-45 = record { earlier = refl; all = refl }

pub words-dtmf : HandsOut dtmf 120
unfolding dtmf calls_bkeys
    chars all_at_most state_after outputs joined sends reads signal signals
    waiters all_wait room offered queue_in may_begin may_end part_ms is_over begun code_begins next_code level_on
    one_gone closed
    silence_after settled core_from core_in fresh_station has_del offered_to station_ms event_of in_range
    waiting_ms counted_in measured_ms measured_in report_in edges_in joined_edges edges_ms counted_ms
    open_of offer_answer offer_of run_answer ran_of words_after heard_in up_to
    placed sample_at samples_of sampled frame_step last_ms key_step hear inhibited words_of
    keys prefixes keys_of held_keys with_mark code_from marks_then_digit among not_struck remaining names first_sign
    named
    read_in read_dtmf send_in has_row send_from send_dtmf left_rows right_rows rows b1 b2 printed_at key_event
    prefix_after
words-dtmf = record { earlier = refl; all = refl }

pub words-edt : HandsOut edt 0
unfolding edt calls_bedt
    chars all_at_most state_after outputs joined sends reads signal signals
    waiters all_wait room offered queue_in may_begin may_end part_ms is_over begun code_begins next_code level_on
    one_gone closed
    silence_after settled core_from core_in fresh_station has_del offered_to station_ms event_of in_range
    waiting_ms counted_in measured_ms measured_in report_in edges_in joined_edges edges_ms counted_ms
    open_of offer_answer offer_of run_answer ran_of words_after heard_in up_to
    placed sample_at samples_of sampled frame_step last_ms key_step hear inhibited words_of
    edt_signal edt_elements digits sum tabulate edt_kinds
words-edt = record { earlier = refl; all = refl }
