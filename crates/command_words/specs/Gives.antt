-- The code's answers, against what the words ask for.
use Rattle.std.specs.Prelude.{◌≡◌, ◌≢◌, ◌≤◌, Result, Ok, Err}
use Rattle.sched_core.specs.Text.{IsSchedulable}
use Rattle.sched_core.specs.declared.mode.Mode.TheVariants.{MultiCore}
use Rattle.sched_core.specs.declared.text.SchedText.{SchedText}
use Rattle.command_words.specs.declared.quick.Quick.{Quick}
use Rattle.command_words.specs.declared.crypt.Crypt.{Crypt}
use Rattle.command_words.specs.declared.forward.Forward.{Forward}
use Rattle.command_words.specs.declared.generated.Gen.{Gen}
use Rattle.command_words.specs.declared.command.Command.{Command}
use Rattle.command_words.specs.declared.command.Command.TheVariants as command
use Rattle.command_words.specs.declared.refused.WordsRefused.{WordsRefused}
use Rattle.command_words.specs.declared.refused.WordsRefused.TheVariants.{Usage, Vdev, OutOfMemory}
use Rattle.command_words.specs.Asked.{Wanted, AsksQuick, AsksCrypt, AsksForward, AsksGen, Fault, NotLegal, BadText}

abbrev pub quick_view : Quick → Wanted
quick_view q = AsksQuick q.key q.salt

abbrev pub crypt_view : Crypt → Wanted
crypt_view c = AsksCrypt c.scheduler c.sessions.now c.burst

abbrev pub forward_view : Forward → Wanted
forward_view f = AsksForward f.scheduler f.sessions.now

abbrev pub gen_view : Gen → Wanted
gen_view g = AsksGen g.packets g.number

abbrev pub command_view : Command → Wanted
command_view (command.Quick q) = quick_view q
command_view (command.Crypt c) = crypt_view c
command_view (command.Forward f) = forward_view f
command_view (command.Gen g) = gen_view g

-- the words are refused as they should be, or memory was wanting
abbrev pub Refuses : {A : Type 0} → WordsRefused → Result A Fault → Type 0
Refuses Usage said = said ≡ Err NotLegal
Refuses (Vdev at) said = said ≡ Err (BadText at)
Refuses OutOfMemory said = Unit {0}

-- the answer, in this view, is what is said of the words
abbrev pub GivesAs : {T A : Type 0} → (T → A) → Result T WordsRefused → Result A Fault → Type 0
GivesAs view (Ok value) said = said ≡ Ok (view value)
GivesAs view (Err refused) said = Refuses refused said

-- the answer is what the words ask for
abbrev pub Gives : Result Command WordsRefused → Result Wanted Fault → Type 0
Gives answer said = GivesAs command_view answer said

-- a scheduler that can be made, and runs on one thread
pub record RunsOnOneThread (text : SchedText) : Type 0 where
  pub schedulable : IsSchedulable text
  pub mode : text.mode ≢ MultiCore

-- A burst of 1 to 256, and such a scheduler.
pub record IsLegal (c : Crypt) : Type 0 where
  pub burst : (1 ≤ c.burst) × (c.burst ≤ 256)
  pub scheduler : RunsOnOneThread c.scheduler

abbrev pub IsLegalCommand : Command → Type 0
IsLegalCommand (command.Quick q) = Unit {0}
IsLegalCommand (command.Crypt c) = IsLegal c
IsLegalCommand (command.Forward f) = RunsOnOneThread f.scheduler
IsLegalCommand (command.Gen g) = Unit {0}
