-- The word of a slot: a phase, a number and a worker, packed in one number.
use Rattle.std.specs.Prelude.{ℕ, ◌+◌, ◌*◌, ◌/◌, ◌%◌, ◌==◌, if◌then◌else◌}
use Rattle.flight_table.specs.declared.word.Phase.{Phase}
use Rattle.flight_table.specs.declared.word.Phase.TheVariants.{Free, Held, Ready, Taken, Done, Back}
use Rattle.flight_table.specs.declared.word.Word.{Word}

abbrev pub word : Phase → ℕ → ℕ → Word
word phase number worker = record { phase = phase; number = number; worker = worker }

abbrev pub code : Phase → ℕ
code Free = 0
code Held = 1
code Ready = 2
code Taken = 3
code Done = 4
code Back = 5

abbrev pub phase_of : ℕ → Phase
phase_of n = if n == 1 then Held else if n == 2 then Ready else if n == 3 then Taken else if n == 4 then Done else if n == 5 then Back else Free

-- the phase in the low three bits, the worker in the next three, the number above
abbrev pub packed : Word → ℕ
packed w = w.number * 64 + w.worker * 8 + code w.phase

abbrev pub unpacked : ℕ → Word
unpacked n = word (phase_of (n % 8)) (n / 64) (n / 8 % 8)
