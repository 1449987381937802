-- The simple commands `crypt` and `forward`, and the values of their options.
use Rattle.std.specs.Prelude.{◌==◌, Bool, true, false, List, length, codes, Option, Some, Result, Ok, Err, option_map, if◌then◌else◌}
use Rattle.clap.specs.Words.{App, Row, Rule, Text, fault_of, first_of, matches_of, new_app, new_rule, with_rule}
use Rattle.clap.specs.declared.builder.action.ArgAction.TheVariants.{Set}
use Rattle.command_words.specs.Fault.{Fault, NotLegal}
use Rattle.command_words.specs.declared.options.Options.{Options}

-- an option that takes one value
abbrev pub option_rule : Text → Bool → Rule
option_rule name required = record (new_rule name) { long = Some name; action = Some Set; required = required }

abbrev pub required_app : Text → App
required_app name = with_rule (with_rule (new_app name) (option_rule (codes "vdev") true)) (option_rule (codes "sessions") true)

-- a command of this name with the two options that are required, and with or without a third
unfoldable pub scheduled_app : Text → (has_burst : Bool) → App
scheduled_app name true = with_rule (required_app name) (option_rule (codes "burst") false)
scheduled_app name false = required_app name

abbrev pub crypt_app : App
crypt_app = scheduled_app (codes "crypt") true

abbrev pub forward_app : App
forward_app = scheduled_app (codes "forward") false

-- the command takes the words, of which the first is its name
abbrev pub takes_words : App → List Text → Bool
takes_words app words = length (fault_of app words) == 0

-- the values, as they stand in the words
pub record Values : Type 0 where
  pub vdev : Text
  pub sessions : Text
  pub burst : Option Text

abbrev pub with_both : Option Text → Option Text → Option Text → Result Values Fault
with_both (Some vdev) (Some sessions) burst = Ok (record { vdev = vdev; sessions = sessions; burst = burst })
with_both vdev sessions burst = Err NotLegal

abbrev pub values_in : List Row → Result Values Fault
values_in rows = with_both (first_of (codes "vdev") rows) (first_of (codes "sessions") rows) (first_of (codes "burst") rows)

-- the values in words that the command takes
abbrev pub values_of : App → List Text → Result Values Fault
values_of app words = if takes_words app words then values_in (matches_of app words) else Err NotLegal

-- the code's options, apart from where they lie
abbrev pub options_view : Options → Values
options_view o = record { vdev = o.vdev.now; sessions = o.sessions.now; burst = option_map (λ text. text.now) o.burst }
