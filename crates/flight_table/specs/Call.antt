-- What each step tells the seat that makes it, and what the calls of owner and hands tell.
use Rattle.std.specs.Prelude.{◌≡◌, ◌≢◌, ◌⊎◌, ℕ, zero, suc, ◌<◌, List, [], ◌∷◌, ◌++◌, Option, Some, None}
use Rattle.atomic_table.specs.Seated.{TableId}
use Rattle.atomic_table.specs.Table.{Me, Step, rest}
use Rattle.flight_table.specs.Note.{BookData}
use Rattle.flight_table.specs.Word.{word, packed, unpacked}
use Rattle.flight_table.specs.View.{look, sent, times, new_hand, looked, grabbed, at_home, published, gained, regained, listed, unlisted, ended}
use Rattle.flight_table.specs.Rule.{Flying, Slot, Waiting, Finished}
use Rattle.flight_table.specs.declared.word.Phase.{Phase}
use Rattle.flight_table.specs.declared.word.Phase.TheVariants.{Free, Held, Ready, Taken, Done, Back}
use Rattle.flight_table.specs.declared.word.Word.{Word}
use Rattle.flight_table.specs.declared.rule.Sent.{Sent}
use Rattle.flight_table.specs.declared.rule.FlightView.{FlightView}

-- What contracts see of an owner or a hand

-- its table, the number of slots, and what it knows
pub record Desk : Type 0 where
  pub table : TableId
  pub slots : ℕ
  pub view : FlightView

abbrev pub desk : TableId → ℕ → FlightView → Desk
desk t n v = record { table = t; slots = n; view = v }

abbrev pub with_view : Desk → FlightView → Desk
with_view d v = record { table = d.table; slots = d.slots; view = v }

-- the same table, and a view of the same book
abbrev pub IsSameDesk : Desk → Desk → Type 0
IsSameDesk d e = (e ≡ with_view d e.view) × (e.view.about ≡ d.view.about)

-- the hands of the first workers, in order
abbrev pub hands_of : TableId → ℕ → BookData → ℕ → List Desk
hands_of t n about zero = []
hands_of t n about (suc w) = hands_of t n about w ++ desk t n (new_hand about w) ∷ []

-- Words that are found

-- the operation of such a slot isn't with the owner
abbrev pub IsOut : Phase → Type 0
IsOut Free = ⊥
IsOut Held = ⊥
IsOut Ready = Unit {0}
IsOut Taken = Unit {0}
IsOut Done = Unit {0}
IsOut Back = Unit {0}

abbrev pub ShownAs : Option Sent → Word → Type 0
ShownAs None n = n ≡ word Held 0 0
ShownAs (Some s) n = IsOut n.phase × (n ≡ word n.phase s.number s.worker)

-- a slot that the owner holds has the word HELD. Any other is out, with the number and the worker that the owner gave there
abbrev pub Shown : FlightView → ℕ → Word → Type 0
Shown v k n = ShownAs (look v.given k) n

abbrev pub Holds : FlightView → ℕ → Type 0
Holds v k = look v.given k ≡ None

abbrev pub HoldsAll : FlightView → ℕ → Type 0
HoldsAll v n = (k : ℕ) → k < n → Holds v k

abbrev pub ReadyFor : ℕ → Word → Type 0
ReadyFor w n = (n.phase ≡ Ready) × (n.worker ≡ w)

-- What the owner's calls tell

-- the owner has the operation of the slot k back, with the number that it gave there, processed
pub record Collected (d : Desk) (k : ℕ) (op : Flying) (e : Desk) : Type 0 where
  pub was : Sent
  pub given : look d.view.given k ≡ Some was
  pub finished : Finished d.view.about was.number op
  pub after : e ≡ with_view d (gained (looked d.view k (word Done was.number was.worker)) k was.worker)

-- the word that the call loaded wasn't DONE
pub record NotCollected (d : Desk) (k : ℕ) (n : Word) (e : Desk) : Type 0 where
  pub phase : n.phase ≢ Done
  pub shown : Shown d.view k n
  pub after : e ≡ with_view d (looked d.view k n)

-- the words that the call found: READY, and then its exchange succeeded; BACK; or READY, and BACK in its exchange
abbrev pub FoundOpen : FlightView → ℕ → Sent → FlightView → Type 0
FoundOpen v k s w = (w ≡ looked v k (word Ready s.number s.worker))
    ⊎ ((w ≡ looked v k (word Back s.number s.worker)) ⊎ (w ≡ looked (looked v k (word Ready s.number s.worker)) k (word Back s.number s.worker)))

-- the owner has the operation of the slot k back, with the number that it gave there, unprocessed
pub record Recalled (d : Desk) (k : ℕ) (op : Flying) (e : Desk) : Type 0 where
  pub was : Sent
  pub given : look d.view.given k ≡ Some was
  pub waiting : Waiting d.view.about was.number op
  pub found : FlightView
  pub looks : FoundOpen d.view k was found
  pub after : e ≡ with_view d (regained found k)

-- the word was loaded; or READY was, and the exchange then found the word
abbrev pub FoundBusy : FlightView → ℕ → Word → FlightView → Type 0
FoundBusy v k n w = (w ≡ looked v k n) ⊎ ((s : Sent) × (look v.given k ≡ Some s) × (w ≡ looked (looked v k (word Ready s.number s.worker)) k n))

-- the word that the call loaded, or found in its exchange, was neither READY nor BACK
pub record NotRecalled (d : Desk) (k : ℕ) (n : Word) (e : Desk) : Type 0 where
  pub phase : (n.phase ≢ Ready) × (n.phase ≢ Back)
  pub shown : Shown d.view k n
  pub found : FlightView
  pub looks : FoundBusy d.view k n found
  pub after : e ≡ with_view d found

-- What a hand's calls tell

-- what a hand knows that found the number p ready for it, and took it
abbrev pub took : FlightView → ℕ → ℕ → FlightView
took v k p = listed (looked v k (word Ready p v.worker)) k p

-- the hand has the operation of the slot k, unprocessed, with the number that its load found
pub record Took (d : Desk) (k : ℕ) (op : Flying) (e : Desk) : Type 0 where
  pub number : ℕ
  pub unlisted : look d.view.taken k ≡ None
  pub waiting : Waiting d.view.about number op
  pub after : e ≡ with_view d (took d.view k number)

-- the word that the call loaded wasn't READY for this worker; or it was, and the exchange found another word
abbrev pub Missed : FlightView → ℕ → Word → FlightView → Type 0
Missed v k n w = ((ReadyFor v.worker n → ⊥) × (w ≡ looked v k n))
    ⊎ ((first : Word) × ReadyFor v.worker first × (n ≢ first) × (w ≡ looked (looked v k first) k n))

-- What steps tell

abbrev pub M : Type 0
M = Me Slot FlightView

-- a number that is the packed form of the word that is read from it
abbrev pub IsPacked : ℕ → Type 0
IsPacked n = n ≡ packed (unpacked n)

-- a hand sees a word
abbrev pub looks : Step Slot → M → ℕ → M → Type 0
looks s m n m' = (m' ≡ (looked m.0 s.word (unpacked n), m.1)) × IsPacked n

-- a hand took the operation under the word that it had found, or saw another word
abbrev pub takes_one : Step Slot → M → ℕ → M → Type 0
takes_one s m n m' =
    (n ≡ s.first → (x : Flying) × (m' ≡ (grabbed (listed m.0 s.word (unpacked n).number) s.word (unpacked n), (s.word, Some x) ∷ m.1))
    × Waiting m.0.about (unpacked n).number x × (look m.0.taken s.word ≡ None))
    × (n ≢ s.first → looks s m n m')

-- a slot that was emptied comes home
abbrev pub rests : Step Slot → M → ℕ → M → Type 0
rests s m n m' = m' ≡ (at_home m.0, rest m.1)

-- a seat takes the empty slot that its word says is its own
abbrev pub grabs : Step Slot → M → ℕ → M → Type 0
grabs s m n m' = m' ≡ (grabbed m.0 s.word (unpacked n), (s.word, None) ∷ m.1)

abbrev pub publishes : Step Slot → M → ℕ → M → Type 0
publishes s m n m' = m' ≡ (published m.0 s.word (sent (unpacked s.first).number (unpacked s.first).worker), rest m.1)

abbrev pub finishes : Step Slot → M → ℕ → M → Type 0
finishes s m n m' = m' ≡ (ended m.0 s.word, rest m.1)

abbrev pub gives_back : Step Slot → M → ℕ → M → Type 0
gives_back s m n m' = m' ≡ (unlisted m.0 s.word, rest m.1)

-- the owner sees a word
abbrev pub sees : Step Slot → M → ℕ → M → Type 0
sees s m n m' = Shown m.0 s.word (unpacked n) × IsPacked n × (m' ≡ (looked m.0 s.word (unpacked n), m.1))

-- the owner saw a word, and where it is of this phase took the slot
abbrev pub lifts : Phase → (BookData → ℕ → Flying → Type 0) → Step Slot → M → ℕ → M → Type 0
lifts phase good s m n m' =
    Shown m.0 s.word (unpacked n) × IsPacked n
    × ((unpacked n).phase ≡ phase → (x : Flying) × (w : Sent) × (look m.0.given s.word ≡ Some w)
    × (unpacked n ≡ word phase w.number w.worker) × good m.0.about w.number x
    × (m' ≡ (grabbed (looked m.0 s.word (unpacked n)) s.word (unpacked n), (s.word, Some x) ∷ m.1)))
    × ((unpacked n).phase ≢ phase → m' ≡ (looked m.0 s.word (unpacked n), m.1))

abbrev pub gains : Step Slot → M → ℕ → M → Type 0
gains s m n m' = m' ≡ (gained m.0 s.word m.0.mark.worker, rest m.1)

abbrev pub regains : Step Slot → M → ℕ → M → Type 0
regains s m n m' = m' ≡ (regained m.0 s.word, rest m.1)

-- the owner had its operation back before a worker took it, or looked for one that was given back
abbrev pub recalls : Step Slot → M → ℕ → M → Type 0
recalls s m n m' =
    (n ≡ s.first → (x : Flying) × (w : Sent) × (look m.0.given s.word ≡ Some w) × Waiting m.0.about w.number x
    × (m' ≡ (grabbed (regained m.0 s.word) s.word (word Held 0 0), (s.word, Some x) ∷ m.1)))
    × (n ≢ s.first → lifts Back Waiting s m n m')

-- where the owner holds all slots, each joined hand finished as many as the owner collected of it
abbrev pub settles : Step Slot → M → ℕ → M → Type 0
settles s m n m' = (m' ≡ m) × (HoldsAll m.0 s.slots → (w c : ℕ) → look m.0.gathered w ≡ Some c → c ≡ times w m.0.collected)
