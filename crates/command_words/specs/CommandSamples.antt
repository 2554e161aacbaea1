use Rattle.std.specs.Prelude.{◌≡◌, true, false, [], ◌∷◌, Option, Some, None, codes, refl}
use Rattle.stop_schedule.specs.Rates.{Rates, usual}
use Rattle.command_words.specs.Commands.{Form, Run, Walk, Gen, Live, form_of}

abbrev plain_run : Rates → Option Form
plain_run rates = Some (Run (codes "g") (codes "f") (codes "s") (record { rates = rates; window = None; proof = false }))

three_names : form_of (codes "run" ∷ codes "g" ∷ codes "f" ∷ codes "s" ∷ []) ≡ plain_run usual
three_names = refl

two_names : form_of (codes "run" ∷ codes "g" ∷ codes "f" ∷ []) ≡ None
two_names = refl

between_names : form_of (codes "run" ∷ codes "g" ∷ codes "--stop" ∷ codes "007" ∷ codes "f" ∷ codes "s" ∷ codes "--trip-den=2" ∷ []) ≡ plain_run (record usual { stop = 7; trip_den = 2 })
between_names = refl

option_twice : form_of (codes "run" ∷ codes "--stop" ∷ codes "7" ∷ codes "g" ∷ codes "f" ∷ codes "s" ∷ codes "--stop=7" ∷ []) ≡ None
option_twice = refl

-- after `--` each word is a name
ended : form_of (codes "run" ∷ codes "g" ∷ codes "--" ∷ codes "--stop" ∷ codes "--" ∷ []) ≡ Some (Run (codes "g") (codes "--stop") (codes "--") (record { rates = usual; window = None; proof = false }))
ended = refl

dash_is_a_name : form_of (codes "run" ∷ codes "-" ∷ [] ∷ codes "s" ∷ []) ≡ Some (Run (codes "-") [] (codes "s") (record { rates = usual; window = None; proof = false }))
dash_is_a_name = refl

short_option : form_of (codes "run" ∷ codes "g" ∷ codes "f" ∷ codes "-s" ∷ []) ≡ None
short_option = refl

dashed_value : form_of (codes "run" ∷ codes "g" ∷ codes "f" ∷ codes "s" ∷ codes "--stop" ∷ codes "-1" ∷ []) ≡ None
dashed_value = refl

no_value : form_of (codes "run" ∷ codes "g" ∷ codes "f" ∷ codes "s" ∷ codes "--stop" ∷ []) ≡ None
no_value = refl

past_range : form_of (codes "run" ∷ codes "g" ∷ codes "f" ∷ codes "s" ∷ codes "--stop=65537" ∷ []) ≡ None
past_range = refl

unfair : form_of (codes "run" ∷ codes "g" ∷ codes "f" ∷ codes "s" ∷ codes "--trip-num=17" ∷ []) ≡ None
unfair = refl

window_and_proof : form_of (codes "run" ∷ codes "--proof" ∷ codes "g" ∷ codes "f" ∷ codes "s" ∷ codes "--window=8" ∷ []) ≡ Some (Run (codes "g") (codes "f") (codes "s") (record { rates = usual; window = Some 8; proof = true }))
window_and_proof = refl

value_for_none : form_of (codes "run" ∷ codes "--proof=1" ∷ codes "g" ∷ codes "f" ∷ codes "s" ∷ []) ≡ None
value_for_none = refl

audit_has_no_proof : form_of (codes "audit" ∷ codes "--proof" ∷ codes "g" ∷ codes "f" ∷ codes "j" ∷ []) ≡ None
audit_has_no_proof = refl

walk_of_numbers : form_of (codes "walk" ∷ codes "g" ∷ codes "4" ∷ codes "1" ∷ []) ≡ Some (Walk (codes "g") 4 1)
walk_of_numbers = refl

walk_of_words : form_of (codes "walk" ∷ codes "g" ∷ codes "4" ∷ codes "x" ∷ []) ≡ None
walk_of_words = refl

largest_city : form_of (codes "gen" ∷ codes "18446744073709551615" ∷ []) ≡ Some (Gen 18446744073709551615)
largest_city = refl

past_largest_city : form_of (codes "gen" ∷ codes "18446744073709551616" ∷ []) ≡ None
past_largest_city = refl

usual_workers : form_of (codes "live" ∷ codes "g" ∷ codes "f" ∷ codes "s" ∷ []) ≡ Some (Live (codes "g") (codes "f") (codes "s") usual 2)
usual_workers = refl

help : form_of (codes "run" ∷ codes "--help" ∷ []) ≡ None
help = refl

other_mode : form_of (codes "ride" ∷ codes "g" ∷ codes "f" ∷ codes "s" ∷ []) ≡ None
other_mode = refl
