-- What the owner and the hands of a flight table know, and how that changes.
use Rattle.std.specs.Prelude.{ℕ, ◌+◌, ◌==◌, if◌then◌else◌, List, [], ◌∷◌, ◌++◌, Option, Some, None}
use Rattle.flight_table.specs.Note.{BookData}
use Rattle.flight_table.specs.Word.{word}
use Rattle.flight_table.specs.declared.word.Phase.TheVariants.{Free}
use Rattle.flight_table.specs.declared.word.Word.{Word}
use Rattle.flight_table.specs.declared.rule.Role.TheVariants.{Owns, Takes, Spent}
use Rattle.flight_table.specs.declared.rule.Sent.{Sent}
use Rattle.flight_table.specs.declared.rule.FlightView.{FlightView}

-- Lists of a key with a value or nothing, the newest first

abbrev pub look : {A : Type 0} → List (ℕ × Option A) → ℕ → Option A
look [] k = None
look (x ∷ xs) k = if k == x.0 then x.1 else look xs k

abbrev pub sent : ℕ → ℕ → Sent
sent number worker = record { number = number; worker = worker }

-- how often w is collected
abbrev pub times : ℕ → List ℕ → ℕ
times w [] = 0
times w (x ∷ xs) = (if w == x then 1 else 0) + times w xs

-- At the beginning

abbrev pub no_word : Word
no_word = word Free 0 0

abbrev pub new_hand : BookData → ℕ → FlightView
new_hand about w = record {
  about = about;
  role = Takes;
  worker = w;
  made = 0;
  looks = [];
  out = None;
  mark = no_word;
  given = [];
  taken = [];
  finished = 0;
  collected = [];
  gathered = [];
}

-- an owner that has made some hands
abbrev pub opened : BookData → ℕ → FlightView
opened about made = record (new_hand about 0) { role = Owns; made = made }

-- After a step

-- a word was found at a slot
abbrev pub looked : FlightView → ℕ → Word → FlightView
looked v k n = record v { looks = v.looks ++ (k, n) ∷ [] }

-- a slot is out, under a word
abbrev pub grabbed : FlightView → ℕ → Word → FlightView
grabbed v k n = record v { out = Some k; mark = n }

-- what was out is at home
abbrev pub at_home : FlightView → FlightView
at_home v = record v { out = None; mark = no_word }

-- the owner gave an operation to a worker
abbrev pub published : FlightView → ℕ → Sent → FlightView
published v k s = record v { out = None; mark = no_word; given = (k, Some s) ∷ v.given }

-- the owner has an operation back that a worker finished
abbrev pub gained : FlightView → ℕ → ℕ → FlightView
gained v k w = record v { out = None; mark = no_word; given = (k, None) ∷ v.given; collected = w ∷ v.collected }

-- the owner has an operation back as it gave it
abbrev pub regained : FlightView → ℕ → FlightView
regained v k = record v { out = None; mark = no_word; given = (k, None) ∷ v.given }

-- a hand took the operation with this number
abbrev pub listed : FlightView → ℕ → ℕ → FlightView
listed v k p = record v { out = None; mark = no_word; taken = (k, Some p) ∷ v.taken }

-- a hand gave back what it took
abbrev pub unlisted : FlightView → ℕ → FlightView
unlisted v k = record v { out = None; mark = no_word; taken = (k, None) ∷ v.taken }

-- a hand finished what it took
abbrev pub ended : FlightView → ℕ → FlightView
ended v k = record v { out = None; mark = no_word; taken = (k, None) ∷ v.taken; finished = v.finished + 1 }

-- Hands are made and joined

abbrev pub made_one : FlightView → FlightView
made_one v = record v { made = v.made + 1 }

-- the owner keeps what the hand finished
abbrev pub joined : FlightView → FlightView → FlightView
joined v w = record v { gathered = (w.worker, Some w.finished) ∷ v.gathered }

abbrev pub no_book : BookData
no_book = record { table = record { words = 0; slots = 0; views_name = 0; atom = 0; block = 0; offset = 0; slot_names = [] }; sessions = []; drawn = [] }

abbrev pub spent : FlightView
spent = record (new_hand no_book 0) { role = Spent }
