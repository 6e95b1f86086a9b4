-- The ends of a state's ranges, as numbers.
use mathlib.Core.Path.{◌≡◌, refl}
use Rattle.calling.specs.Timetable.{timetable, total, period}
use Rattle.calling.specs.Tones.{lengths, length_in, longest}

pub period_is : period ≡ 11_200
unfolding timetable total period
period_is = refl

pub longest_is : longest ≡ 1_700
unfolding lengths length_in
longest_is = refl

pub ruleset ends = (period_is, longest_is)
