-- The scheduler text.
use Rattle.std.specs.Prelude.{◌≤◌, IfSome, ◌==◌, ◌||◌, ◌&&◌, ◌+◌, ◌≡◌, ℕ, Bool, true, false, not, List, [], ◌∷◌, length, take, drop, codes, Option, Some, None, Result, Ok, Err, is_some, is_none, unwrap_or, option_map, option_and_then, nat_le, nat_lt, bytes_eq, slice_set, if◌then◌else◌}
use Rattle.std.specs.Char.{is_ascii_digit}
use Rattle.std.specs.List.{list_all, slice_split}
use Rattle.std.specs.Option.{option_map_or}
use Rattle.std.specs.Str.Parse.{digits_value}
use Rattle.sched_core.specs.Mode.{least_workers, most_workers}
use Rattle.sched_core.specs.Stopped.{is_threshold}
use Rattle.sched_core.specs.declared.mode.Mode.{Mode}
use Rattle.sched_core.specs.declared.mode.Mode.TheVariants.{RoundRobin, PacketSize, FailOver, MultiCore}
use Rattle.dev_core.specs.declared.driver.Kind.{Kind}
use Rattle.dev_core.specs.declared.driver.Kind.TheVariants.{Plain, Lane}
use Rattle.sched_core.specs.declared.field.Field.{Field}
use Rattle.sched_core.specs.declared.field.Field.TheVariants as field
use Rattle.sched_core.specs.declared.field.Seen.{Seen}
use Rattle.sched_core.specs.declared.text.SchedText.{SchedText}

-- one to six digits, of a threshold
unfoldable pub threshold_of : List ℕ → Option ℕ
threshold_of digits =
    if nat_le 1 (length digits) && (nat_le (length digits) 6 && list_all is_ascii_digit digits) then (
    if is_threshold (digits_value 10 digits) then Some (digits_value 10 digits) else None)
    else None

-- what a field says, if it is one
unfoldable pub field_of : List ℕ → Option Field
field_of text =
    if bytes_eq text (codes "mode=round-robin") then Some (field.Mode RoundRobin)
    else if bytes_eq text (codes "mode=packet-size-distr") then Some (field.Mode PacketSize)
    else if bytes_eq text (codes "mode=fail-over") then Some (field.Mode FailOver)
    else if bytes_eq text (codes "mode=multi-core") then Some (field.Mode MultiCore)
    else if bytes_eq text (codes "worker=plain") then Some (field.Worker Plain)
    else if bytes_eq text (codes "worker=lane") then Some (field.Worker Lane)
    else if bytes_eq text (codes "ordering=enable") then Some (field.Ordering true)
    else if bytes_eq text (codes "ordering=disable") then Some (field.Ordering false)
    else if nat_le 21 (length text) && bytes_eq (take 21 text) (codes "mode_param=threshold:")
    then option_map (λ n. field.Threshold n) (threshold_of (drop 21 text))
    else None

-- What is seen behind one field more, unless a field with the same word stands earlier. Of workers there may be eight.
abbrev pub with_field : Seen → Field → Option Seen
with_field s (field.Mode mode) = if is_some s.mode then None else Some (record s { mode = Some mode })
with_field s (field.Worker kind) =
    if nat_le 8 s.workers then None else Some (record s { kinds = slice_set s.kinds s.workers kind; workers = s.workers + 1 })
with_field s (field.Ordering on) = if is_some s.ordering then None else Some (record s { ordering = Some on })
with_field s (field.Threshold n) = if is_some s.threshold then None else Some (record s { threshold = Some n })

abbrev pub takes_threshold : Mode → Bool
takes_threshold PacketSize = true
takes_threshold mode = false

-- as many workers as the mode may have, and no threshold where it takes none
abbrev pub is_whole : Seen → Mode → Bool
is_whole s mode =
    nat_le (least_workers mode) s.workers && (nat_le s.workers (most_workers mode) && (not (is_some s.threshold) || takes_threshold mode))

abbrev pub said : Seen → Mode → SchedText
said s mode = record {
  mode = mode;
  kinds = s.kinds;
  workers = s.workers;
  ordering = unwrap_or s.ordering false;
  threshold = unwrap_or s.threshold 128;
}

abbrev pub finished : Seen → ℕ → Result SchedText ℕ
finished s len = option_map_or (λ mode. if is_whole s mode then Ok (said s mode) else Err len) s.mode (Err len)

-- the threshold of a field is a legal one
abbrev pub IsLegalField : Field → Type 0
IsLegalField (field.Threshold n) = is_threshold n ≡ true
IsLegalField f = Unit {0}

-- What is seen so far is legal, if not yet whole.
pub record IsLegalSoFar (s : Seen) : Type 0 where
  pub workers : s.workers ≤ 8
  pub threshold : IfSome s.threshold (λ n. is_threshold n ≡ true)

-- A scheduler can be made by it: as many workers as the mode may have, and a legal threshold.
pub record IsSchedulable (x : SchedText) : Type 0 where
  pub least : least_workers x.mode ≤ x.workers
  pub most : x.workers ≤ most_workers x.mode
  pub threshold : is_threshold x.threshold ≡ true

abbrev pub field_then : Option Seen → ℕ → (Seen → Result SchedText ℕ) → Result SchedText ℕ
field_then (Some s) at next = next s
field_then None at next = Err at

-- What the fields from offset `at` on say behind what is seen, or the offset of the first faulty one. The text has len bytes.
unfoldable pub read_fields : ℕ → ℕ → Seen → List (List ℕ) → Result SchedText ℕ
read_fields len at s [] = finished s len
read_fields len at s (text ∷ rest) =
    field_then (option_and_then (with_field s) (field_of text)) at (λ after. read_fields len (at + (length text + 1)) after rest)

abbrev pub nothing_seen : Seen
nothing_seen = record {
  mode = None;
  kinds = Plain ∷ Plain ∷ Plain ∷ Plain ∷ Plain ∷ Plain ∷ Plain ∷ Plain ∷ [];
  workers = 0;
  ordering = None;
  threshold = None;
}

-- the text is cut at each comma
unfoldable pub fields_of : List ℕ → List (List ℕ)
fields_of text = slice_split (λ b. b == 44) text

-- what a text says, or the offset of its fault
unfoldable pub sched_of : List ℕ → Result SchedText ℕ
sched_of text = read_fields (length text) 0 nothing_seen (fields_of text)
