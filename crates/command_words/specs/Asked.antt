-- What the words behind the program's name ask for.
use Rattle.std.specs.Prelude.{◌&&◌, ◌-◌, ◌^◌, ℕ, Bool, true, false, List, [], ◌∷◌, length, codes, Option, Some, None, Result, Ok, Err, bytes_eq, nat_le, if◌then◌else◌}
use Rattle.std.specs.Char.{is_ascii_digit}
use Rattle.std.specs.List.{list_all}
use Rattle.std.specs.Str.Parse.{digits_value}
use Rattle.command_words.specs.Quick.{key_of, salt_of}
use Rattle.command_words.specs.Options.{Values, crypt_app, forward_app, values_of}
pub use Rattle.command_words.specs.Fault.{Fault, NotLegal, BadText}
use Rattle.sched_core.specs.Text.{sched_of}
use Rattle.sched_core.specs.declared.mode.Mode.{Mode}
use Rattle.sched_core.specs.declared.mode.Mode.TheVariants.{MultiCore}
use Rattle.sched_core.specs.declared.text.SchedText.{SchedText}

pub data Wanted : Type 0 where
  AsksQuick : (key salt : List ℕ) → Wanted
  AsksCrypt : (scheduler : SchedText) (sessions : List ℕ) (burst : ℕ) → Wanted
  AsksForward : (scheduler : SchedText) (sessions : List ℕ) → Wanted
  AsksGen : (packets number : ℕ) → Wanted

-- ---- `quick KEY SALT`

abbrev pub quick_with : Option (List ℕ) → Option (List ℕ) → Result Wanted Fault
quick_with (Some key) (Some salt) = Ok (AsksQuick key salt)
quick_with _ _ = Err NotLegal

-- the words behind `quick`
abbrev pub quick_asked : List (List ℕ) → Result Wanted Fault
quick_asked (key ∷ salt ∷ []) = quick_with (key_of key) (salt_of salt)
quick_asked _ = Err NotLegal

-- ---- numbers

-- 1 to so many decimal digits
unfoldable pub is_numeral : ℕ → List ℕ → Bool
is_numeral most text = nat_le 1 (length text) && (nat_le (length text) most && list_all is_ascii_digit text)

-- the number of so many digits at most
abbrev pub number_in : ℕ → List ℕ → Option ℕ
number_in most text = if is_numeral most text then Some (digits_value 10 text) else None

abbrev pub if_within : ℕ → ℕ → Option ℕ → Option ℕ
if_within least most None = None
if_within least most (Some n) = if nat_le least n && nat_le n most then Some n else None

-- ---- `gen N NUMBER`

-- N: 1 to 7 digits, from 1 to a million
abbrev pub packets_in : List ℕ → Option ℕ
packets_in text = if_within 1 1000000 (number_in 7 text)

-- NUMBER: 1 to 20 digits, below 2 ^ 64
abbrev pub seed_in : List ℕ → Option ℕ
seed_in text = if_within 0 (2 ^ 64 - 1) (number_in 20 text)

abbrev pub gen_with : Option ℕ → Option ℕ → ℕ → Result Wanted Fault
gen_with (Some packets) (Some number) devices = if nat_le 2 devices then Ok (AsksGen packets number) else Err NotLegal
gen_with _ _ devices = Err NotLegal

-- the words behind `gen`, which uses two devices
abbrev pub gen_asked : List (List ℕ) → ℕ → Result Wanted Fault
gen_asked (packets ∷ number ∷ []) devices = gen_with (packets_in packets) (seed_in number) devices
gen_asked _ devices = Err NotLegal

-- ---- what `crypt` and `forward` share

-- these commands run on one thread
abbrev pub is_on_one_thread : Mode → Bool
is_on_one_thread MultiCore = false
is_on_one_thread mode = true

-- the last rules: the scheduler text, and then its mode, and that there is a device for each worker
abbrev pub if_served : Result SchedText ℕ → ℕ → Result SchedText Fault
if_served (Err at) devices = Err (BadText at)
if_served (Ok text) devices = if is_on_one_thread text.mode && nat_le text.workers devices then Ok text else Err NotLegal

abbrev pub scheduler_in : List ℕ → ℕ → Result SchedText Fault
scheduler_in text devices = if_served (sched_of text) devices

abbrev pub with_scheduler : Result SchedText Fault → (SchedText → Wanted) → Result Wanted Fault
with_scheduler (Err fault) asks = Err fault
with_scheduler (Ok text) asks = Ok (asks text)

abbrev pub with_values : Result Values Fault → (Values → Result Wanted Fault) → Result Wanted Fault
with_values (Err fault) asked = Err fault
with_values (Ok values) asked = asked values

-- ---- `crypt`

-- N: 1 to 10 digits, from 1 to 256
abbrev pub burst_in : List ℕ → Option ℕ
burst_in text = if_within 1 256 (number_in 10 text)

abbrev pub burst_of : Option (List ℕ) → Option ℕ
burst_of None = Some 32
burst_of (Some text) = burst_in text

abbrev pub with_burst : Option ℕ → Values → ℕ → Result Wanted Fault
with_burst None values devices = Err NotLegal
with_burst (Some burst) values devices = with_scheduler (scheduler_in values.vdev devices) (λ text. AsksCrypt text values.sessions burst)

abbrev pub crypt_with : Values → ℕ → Result Wanted Fault
crypt_with values devices = with_burst (burst_of values.burst) values devices

-- the words, of which the first is `crypt`
abbrev pub crypt_asked : List (List ℕ) → ℕ → Result Wanted Fault
crypt_asked words devices = with_values (values_of crypt_app words) (λ values. crypt_with values devices)

-- ---- `forward`

abbrev pub forward_with : Values → ℕ → Result Wanted Fault
forward_with values devices = with_scheduler (scheduler_in values.vdev devices) (λ text. AsksForward text values.sessions)

-- the words, of which the first is `forward`
abbrev pub forward_asked : List (List ℕ) → ℕ → Result Wanted Fault
forward_asked words devices = with_values (values_of forward_app words) (λ values. forward_with values devices)

-- ---- all words

-- what the words ask for, where so many devices are there
unfoldable pub wanted : List (List ℕ) → ℕ → Result Wanted Fault
wanted [] devices = Err NotLegal
wanted (word ∷ rest) devices =
    if bytes_eq word (codes "quick") then quick_asked rest
    else (if bytes_eq word (codes "gen") then gen_asked rest devices
    else (if bytes_eq word (codes "crypt") then crypt_asked (word ∷ rest) devices
    else (if bytes_eq word (codes "forward") then forward_asked (word ∷ rest) devices else Err NotLegal)))

-- the file of the sessions, where legal words name one
abbrev pub sessions_file : Result Wanted Fault → Option (List ℕ)
sessions_file (Ok (AsksCrypt scheduler sessions burst)) = Some sessions
sessions_file (Ok (AsksForward scheduler sessions)) = Some sessions
sessions_file _ = None
