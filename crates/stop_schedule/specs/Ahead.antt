use Rattle.std.specs.Prelude.{◌≡◌, ℕ, ◌-◌, ◌&&◌, nat_le, Bool, true, false, length, Option, Some, None, slice_get, refl}
use Rattle.stop_schedule.specs.declared.stop.Stop.{Stop}
use Rattle.stop_schedule.specs.declared.stop.StopKind.{StopKind}
use Rattle.stop_schedule.specs.declared.stop.StopKind.TheVariants.{Pickup, Dropoff}
use Rattle.stop_schedule.specs.Keeping.{are_in_time}
use Rattle.stop_schedule.specs.Plans.{Plan, Course, course_of}
use Rattle.stop_schedule.specs.Rates.{Rates, usual}
use Rattle.stop_schedule.specs.Samples.{first}
use Rattle.stop_schedule.specs.Times.{departs, left_at, reached_at}

-- each promise is kept and the last stop is left in service
abbrev pub is_kept : (stop until : ℕ) → Course → Bool
is_kept stop until c = are_in_time stop c && nat_le (departs stop c (length c.stops)) until

-- reaching stop i then, for i from 1, keeps each promise from it on and the end of service, with all times reckoned anew
abbrev pub keeps_reaching : Rates → Plan → ℕ → ℕ → Bool
keeps_reaching rates p i arrival = is_kept rates.stop p.until (reached_at (course_of p) (i - 1) arrival)

-- leaving stop i then, for i from 0, keeps each promise after it and the end of service
abbrev pub is_kept_from : Rates → Plan → ℕ → ℕ → Bool
is_kept_from rates p i departure = is_kept rates.stop p.until (left_at (course_of p) i departure)

-- a pickup has to be left by its limit, and a dropoff at no time
abbrev pub is_left_by : Stop → StopKind → ℕ → Bool
is_left_by s Pickup departure = nat_le departure s.limit
is_left_by s Dropoff departure = true

abbrev pub is_left_in_time : Option Stop → ℕ → Bool
is_left_in_time None departure = true
is_left_in_time (Some s) departure = is_left_by s s.kind departure

-- leaving stop i then, for i from 1, keeps its latest pickup, where it is one, each promise after it and the end of service
abbrev pub keeps_leaving : Rates → Plan → ℕ → ℕ → Bool
keeps_leaving rates p i departure = is_left_in_time (slice_get p.stops (i - 1)) departure && is_kept_from rates p i departure

-- the first schedule's pickup may be left by 20, so reached by 18
just_kept : keeps_reaching usual first 1 18 ≡ true
just_kept = refl

just_late : keeps_reaching usual first 1 19 ≡ false
just_late = refl

just_left : keeps_leaving usual first 1 20 ≡ true
just_left = refl

left_late : keeps_leaving usual first 1 21 ≡ false
left_late = refl

-- its dropoff has to be reached by 50, and may be left later
dropped_late : keeps_reaching usual first 2 51 ≡ false
dropped_late = refl

left_after_that : keeps_leaving usual first 2 60 ≡ true
left_after_that = refl

ends_in_service : keeps_leaving usual (record first { until = 50 }) 2 50 ≡ true
ends_in_service = refl

ends_too_late : keeps_leaving usual (record first { until = 49 }) 2 50 ≡ false
ends_too_late = refl

-- left at 20 the pickup lets the dropoff be reached at 40 and left at 42
ends_behind : keeps_leaving usual (record first { until = 42 }) 1 20 ≡ true
ends_behind = refl

ends_too_late_behind : keeps_leaving usual (record first { until = 41 }) 1 20 ≡ false
ends_too_late_behind = refl
