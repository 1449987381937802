-- What the calls of a queue pair do.
use Rattle.std.specs.Prelude.{◌≡◌, ◌≢◌, ℕ, suc, ◌+◌, ◌%◌, ◌<◌, List, [], ◌∷◌, ◌++◌, length, map, Option, Some, None, slice_get, slice_set, slice_index_or, Bool, true, false, if◌then◌else◌}
use Rattle.std.specs.List.{All}
use Rattle.std.specs.List.Sorted.{IsPermutation}
use Rattle.crypto_op.specs.declared.op.Op.{Op}
use Rattle.crypto_op.specs.Op.{entry_of, IsDone}
use Rattle.crypto_op.specs.Burst.{Burst}
use Rattle.dev_core.specs.Burst.{added, with_ops}
use Rattle.flight_table.specs.declared.word.Phase.{Phase}
use Rattle.flight_table.specs.declared.word.Phase.TheVariants.{Free, Held, Ready, Taken, Done, Back}
use Rattle.flight_table.specs.declared.word.Word.{Word}
use Rattle.sched_multicore.specs.declared.place.Place.{Place}
use Rattle.sched_multicore.specs.declared.place.Place.TheVariants.{Answered, Gone}
use Rattle.sched_multicore.specs.declared.dequeue.McStop.{McStop}
use Rattle.sched_multicore.specs.declared.dequeue.McStop.TheVariants.{Max, Empty, NotYet}
use Rattle.sched_multicore.specs.Place.{unreturned, entries_at, span, IsPending, IsAway, BeginsPending}
use Rattle.sched_multicore.specs.Queue.{Queue, setting, spare}

-- Words, by their phase

-- an operation under it may be waited for
abbrev pub IsAwaited : Phase → Type 0
IsAwaited Free = ⊥
IsAwaited Held = ⊥
IsAwaited Ready = Unit {0}
IsAwaited Taken = Unit {0}
IsAwaited Done = ⊥
IsAwaited Back = Unit {0}

-- a worker has the operation, or has answered it
abbrev pub IsBusy : Phase → Type 0
IsBusy Free = ⊥
IsBusy Held = ⊥
IsBusy Ready = ⊥
IsBusy Taken = Unit {0}
IsBusy Done = Unit {0}
IsBusy Back = ⊥

-- the operation wasn't given back
abbrev pub IsNotBack : Phase → Type 0
IsNotBack Free = ⊥
IsNotBack Held = ⊥
IsNotBack Ready = Unit {0}
IsNotBack Taken = Unit {0}
IsNotBack Done = Unit {0}
IsNotBack Back = ⊥

-- no worker has it, or one gave it back
abbrev pub IsIdle : Phase → Type 0
IsIdle Free = ⊥
IsIdle Held = ⊥
IsIdle Ready = Unit {0}
IsIdle Taken = ⊥
IsIdle Done = ⊥
IsIdle Back = Unit {0}

abbrev pub IsBack : Phase → Type 0
IsBack phase = phase ≡ Back

abbrev pub Looks : Type 0
Looks = List (ℕ × Word)

abbrev pub as_count : Bool → ℕ
as_count b = if b then 1 else 0

module _ {C : Type 0} where
  -- What a call saw

  abbrev pub Longer : Queue C → Queue C → Type 0
  Longer q r = (mid : Looks) × (r.desk.view.looks ≡ q.desk.view.looks ++ mid)

  -- between q and r the word w was found at the slot k
  abbrev pub Saw : Queue C → Queue C → ℕ → Word → Type 0
  Saw q r k w = (mid : Looks) × (end : Looks) × (r.desk.view.looks ≡ q.desk.view.looks ++ (mid ++ (k, w) ∷ end))

  -- the slot of the i-th place
  abbrev pub slot_at : Queue C → ℕ → ℕ
  slot_at q i = (q.first + i) % q.desk.slots

  -- for each of the first n places that is of this kind, the call found a word with such a phase
  abbrev pub EachSaw : (Place C → Type 0) → (Phase → Type 0) → Queue C → Queue C → ℕ → Type 0
  EachSaw A P q r n = (i : ℕ) (x : Place C) → i < n → slice_get r.places i ≡ Some x → A x → (w : Word) × P w.phase × Saw q r (slot_at r i) w

  -- each of the first n places that was away and is not any more had a word with such a phase, which the call found
  abbrev pub EachTurned : (Phase → Type 0) → Queue C → Queue C → ℕ → Type 0
  EachTurned P q r n = (i : ℕ) (x y : Place C) → i < n → slice_get q.places i ≡ Some x → IsAway x → slice_get r.places i ≡ Some y → (IsAway y → ⊥)
      → (w : Word) × P w.phase × Saw q r (slot_at r i) w

  -- Enqueue

  -- the operations were accepted, each by a worker
  pub record Enqueued (q : Queue C) (ops : List (Op C)) (r : Queue C) : Type 0 where
    pub pending : unreturned r.places ≡ unreturned q.places ++ map entry_of ops
    pub span : span r.places ≡ span q.places + length ops
    pub drawn : length r.book.drawn ≡ length q.book.drawn + length ops
    pub looks : r.desk.view.looks ≡ q.desk.view.looks
    pub setting : setting r ≡ setting q
    pub helped : r.helped ≡ q.helped

  -- Dequeue

  -- what every dequeue of n operations keeps
  pub record Gave (q : Queue C) (o : Burst (Op C)) (n : ℕ) (r : Queue C) (p : Burst (Op C)) : Type 0 where
    pub kept : p ≡ with_ops (added o p) o
    pub count : length p.ops ≡ length o.ops + n
    pub done : All (IsDone q.book.sessions) (added o p)
    pub looks : Longer q r
    pub drawn : length r.book.drawn ≡ length q.book.drawn
    pub setting : setting r ≡ setting q
    pub helped : r.helped ≡ q.helped
    pub turn : r.turn ≡ q.turn

  -- the first n came back, in order
  pub record Dequeued (q : Queue C) (o : Burst (Op C)) (n : ℕ) (r : Queue C) (p : Burst (Op C)) : Type 0 where
    pub pending : unreturned q.places ≡ map entry_of (added o p) ++ unreturned r.places
    pub gave : Gave q o n r p

  -- n came back, in any order
  pub record Bagged (q : Queue C) (o : Burst (Op C)) (n : ℕ) (r : Queue C) (p : Burst (Op C)) : Type 0 where
    pub pending : IsPermutation (unreturned q.places) (map entry_of (added o p) ++ unreturned r.places)
    pub gave : Gave q o n r p

  -- the word w was found for the first pending operation that is left, which may be waited for
  pub record FirstAwaits (q r : Queue C) (w : Word) : Type 0 where
    pub place : ℕ
    pub what : Place C
    pub before : (j : ℕ) → j < place → slice_get r.places j ≡ Some Gone
    pub there : slice_get r.places place ≡ Some what
    pub pending : IsPending what
    pub phase : IsAwaited w.phase
    pub saw : Saw q r (slot_at r place) w

  -- why a dequeue of at most so many gave n
  abbrev pub Ends : ℕ → ℕ → Queue C → Queue C → McStop → Type 0
  Ends most n q r Max = n ≡ most
  Ends most n q r Empty = (n < most) × (unreturned r.places ≡ [])
  Ends most n q r (NotYet w) = (n < most) × FirstAwaits q r w × (q.ordering ≡ false → EachSaw IsPending IsAwaited q r (length r.places))

  -- Help

  -- n pending operations were answered here
  pub record Helps (q : Queue C) (n : ℕ) (r : Queue C) : Type 0 where
    pub pending : unreturned r.places ≡ unreturned q.places
    pub span : span r.places ≡ span q.places
    pub places : length r.places ≡ length q.places
    pub first : r.first ≡ q.first
    pub book : r.book ≡ q.book
    pub helped : r.helped ≡ q.helped + n
    pub looks : Longer q r
    pub setting : setting r ≡ setting q
    pub turn : r.turn ≡ q.turn

  -- What private steps do

  abbrev pub next : Queue C → ℕ
  next q = q.first + length q.places

  -- the operation was accepted for the worker w
  pub record Accepted (q : Queue C) (op : Op C) (w : ℕ) (r : Queue C) : Type 0 where
    pub pending : unreturned r.places ≡ unreturned q.places ++ entry_of op ∷ []
    pub places : length r.places ≡ suc (length q.places)
    pub begins : BeginsPending q.places → BeginsPending r.places
    pub drawn : length r.book.drawn ≡ suc (length q.book.drawn)
    pub loads : r.loads ≡ slice_set q.loads w (slice_index_or q.loads w 0 + 1)
    pub looks : r.desk.view.looks ≡ q.desk.view.looks
    pub setting : setting r ≡ setting q
    pub helped : r.helped ≡ q.helped
    pub turn : r.turn ≡ q.turn

  -- the operations were accepted for the worker w
  pub record Heaped (q : Queue C) (ops : List (Op C)) (w : ℕ) (r : Queue C) : Type 0 where
    pub pending : unreturned r.places ≡ unreturned q.places ++ map entry_of ops
    pub places : length r.places ≡ length q.places + length ops
    pub begins : BeginsPending q.places → BeginsPending r.places
    pub drawn : length r.book.drawn ≡ length q.book.drawn + length ops
    pub loads : r.loads ≡ slice_set q.loads w (slice_index_or q.loads w 0 + length ops)
    pub looks : r.desk.view.looks ≡ q.desk.view.looks
    pub setting : setting r ≡ setting q
    pub helped : r.helped ≡ q.helped
    pub turn : r.turn ≡ q.turn

  -- the operations were accepted for some workers
  pub record Spread (q : Queue C) (ops : List (Op C)) (r : Queue C) : Type 0 where
    pub pending : unreturned r.places ≡ unreturned q.places ++ map entry_of ops
    pub places : length r.places ≡ length q.places + length ops
    pub begins : BeginsPending q.places → BeginsPending r.places
    pub drawn : length r.book.drawn ≡ length q.book.drawn + length ops
    pub spare : spare r.quota r.loads + length ops ≡ spare q.quota q.loads
    pub looks : r.desk.view.looks ≡ q.desk.view.looks
    pub setting : setting r ≡ setting q
    pub helped : r.helped ≡ q.helped
    pub turn : r.turn ≡ q.turn

  -- none is pending that wasn't, and the span is as it was
  pub record Trimmed (q r : Queue C) : Type 0 where
    pub pending : unreturned r.places ≡ unreturned q.places
    pub span : span r.places ≡ span q.places
    pub same : r ≡ record q { places = r.places; first = r.first }

  -- the first pending operation was returned
  pub record Returned (q : Queue C) (op : Op C) (r : Queue C) : Type 0 where
    pub pending : unreturned q.places ≡ entry_of op ∷ unreturned r.places
    pub done : IsDone q.book.sessions op
    pub looks : Longer q r
    pub book : r.book ≡ q.book
    pub setting : setting r ≡ setting q
    pub helped : r.helped ≡ q.helped
    pub turn : r.turn ≡ q.turn

  -- the word n was found for the i-th place, and nothing was done
  pub record LookedAt (q : Queue C) (i : ℕ) (n : Word) (r : Queue C) : Type 0 where
    pub same : r ≡ record q { desk = r.desk }
    pub setting : setting r ≡ setting q
    pub saw : Saw q r (slot_at q i) n

  -- the other places are as they were
  abbrev pub Others : Queue C → ℕ → Queue C → Type 0
  Others q i r = (j : ℕ) → j ≢ i → slice_get r.places j ≡ slice_get q.places j

  -- the operation of the i-th place was answered here under a word with such a phase; or it isn't away
  pub record Helped (P : Phase → Type 0) (q : Queue C) (i : ℕ) (b : Bool) (r : Queue C) : Type 0 where
    pub helps : Helps q (as_count b) r
    pub others : Others q i r
    pub here : (x : Place C) → slice_get r.places i ≡ Some x → IsAway x → ⊥
    pub word : b ≡ true → (w : Word) × P w.phase × Saw q r (slot_at q i) w
    pub was : b ≡ false → (x : Place C) → slice_get q.places i ≡ Some x → IsAway x → ⊥

  abbrev pub answered_place : Option (Op C) → Place C
  answered_place (Some op) = Answered op
  answered_place None = Gone

  -- the operation of the i-th place was returned
  pub record Brings (q : Queue C) (i : ℕ) (op : Op C) (r : Queue C) : Type 0 where
    pub places : r.places ≡ slice_set q.places i Gone
    pub was : (x : Place C) × (slice_get q.places i ≡ Some x) × (entries_at x ≡ entry_of op ∷ [])
    pub done : IsDone q.book.sessions op
    pub first : r.first ≡ q.first
    pub looks : Longer q r
    pub book : r.book ≡ q.book
    pub setting : setting r ≡ setting q
    pub helped : r.helped ≡ q.helped
    pub turn : r.turn ≡ q.turn

  abbrev pub Brought : Queue C → ℕ → Option (Op C) → Queue C → Type 0
  Brought q i (Some op) r = Brings q i op r
  Brought q i None r = (r ≡ q) × (slice_get q.places i ≡ Some Gone)

  -- the word that the first i places of a dequeue in any order gave
  abbrev pub FirstWord : Queue C → Queue C → ℕ → Option Word → Type 0
  FirstWord q r i None = (j : ℕ) → j < i → slice_get r.places j ≡ Some Gone
  FirstWord q r i (Some w) = (f : FirstAwaits q r w) × (f.place < i)
