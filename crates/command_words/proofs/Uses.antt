use Rattle.std.proofs.Common.{◌==◌, ℕ, Bool, cond, false, List, [], ◌∷◌, ◌++◌, map, Option, Some, None, option_map, codes}
use Rattle.clap.specs.Walk.{Row, Rule, has_row}
use Rattle.clap.specs.Simple.{new_rule}
use Rattle.clap.specs.declared.builder.action.ArgAction.TheVariants.{Set, SetTrue}
use Rattle.clap.specs.declared.builder.value_parser.ValueParser.TheVariants as vp
use Rattle.clap.specs.declared.builder.value_parser.Reading.TheVariants as reading
use Rattle.clap.specs.declared.parser.matches.ValueSource.TheVariants.{CommandLine}
use Rattle.command_words.specs.Commands.{Command, Meaning, Ends, Names, Plain, Valued, Awaits, Refused, Word, and_then, meaning_of}

-- What words use, in their order. It differs from what they say in one place: a dash alone may be a value.

pub data Use : Type 0 where
  Name : Word → Use
  Value : Word → Word → Use
  Flag : Word → Use

abbrev pub is_dashed : Word → Bool
is_dashed [] = false
is_dashed (b ∷ []) = false
is_dashed (b ∷ x ∷ bs) = b == 45

abbrev pub uses_by : Meaning → Word → List Word → Option (List Use) → (Word → Option (List Use)) → Option (List Use)
uses_by Ends w ws after waiting = Some (map Name ws)
uses_by Names w ws after waiting = option_map (λ us. Name w ∷ us) after
uses_by (Plain o) w ws after waiting = option_map (λ us. Flag o ∷ us) after
uses_by (Valued o v) w ws after waiting = option_map (λ us. Value o v ∷ us) after
uses_by (Awaits o) w ws after waiting = waiting o
uses_by Refused w ws after waiting = None

abbrev pub uses_from : Command → List Word → Option Word → Option (List Use)
uses_from c [] None = Some []
uses_from c [] (Some o) = None
uses_from c (w ∷ ws) None = uses_by (meaning_of c w) w ws (uses_from c ws None) (λ o. uses_from c ws (Some o))
uses_from c (w ∷ ws) (Some o) = cond (is_dashed w) None (option_map (λ us. Value o w ∷ us) (uses_from c ws None))

-- a row of clap's matches
abbrev pub row_for : Word → Word → Row
row_for id v = record { id = id; values = v ∷ []; count = None; source = Some CommandLine; reading = reading.AsWritten }

-- the rows after one more use
abbrev pub added : Word → Word → List Row → Option (List Row)
added id v rows = cond (has_row id rows) None (Some (rows ++ row_for id v ∷ []))

-- the rows after these uses, where these names are left
abbrev pub taken : List Use → List Word → List Row → Option (List Row)
taken [] left rows = Some rows
taken (Name w ∷ us) [] rows = None
taken (Name w ∷ us) (id ∷ left) rows = and_then (added id w rows) (taken us left)
taken (Value o v ∷ us) left rows = and_then (added o v rows) (taken us left)
taken (Flag o ∷ us) left rows = and_then (added o (codes "true") rows) (taken us left)

-- the rules as clap builds them
abbrev pub built_name : ℕ → Word → Rule
built_name i id = record (new_rule id) { index = Some i; action = Some Set; range = Some (record { start_inclusive = 1; end_inclusive = 1 }); parser = Some vp.String }

abbrev pub built_value : Word → Rule
built_value o = record (new_rule o) { long = Some o; action = Some Set; range = Some (record { start_inclusive = 1; end_inclusive = 1 }); parser = Some vp.String }

abbrev pub built_flag : Word → Rule
built_flag o = record (new_rule o) { long = Some o; action = Some SetTrue; range = Some (record { start_inclusive = 0; end_inclusive = 0 }); defaults = codes "false" ∷ []; missing = codes "true" ∷ []; parser = Some vp.Bool }
