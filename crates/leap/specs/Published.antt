-- The published list is accepted, by computation. Assumes nothing.
use Rattle.std.specs.Prelude.{◌≡◌, refl, true}
use Rattle.calendar.specs.Meaning.{leap, month_length, length_of, first_day, day_after, days_to, walk, is_first}
use Rattle.leap.specs.Meaning.{begins, rises_from, rises, counts_from, counts_up, none_later, accepted, published_days, published_offsets, published_last}

pub published : accepted published_days published_offsets published_last ≡ true
unfolding leap month_length length_of first_day day_after days_to walk is_first begins rises_from rises counts_from counts_up none_later accepted
published = refl
