-- One call more.
use Rattle.std.proofs.Common.{◌<◌, ℕ, List, ◌∷◌, refl}
use Rattle.dev_core.specs.Calls.{Call, Asks, Ran}
use Rattle.dev_core.specs.Offers.{IsDrained}
use Rattle.packet_flow.specs.Turns.{OnlyAsked}

pub none_more : (past : List Call) → OnlyAsked past past
none_more past = record { taken = refl; rest = refl; flows = λ size ops f. f }

pub one_more : {D : Type 0} (does : D → Call → D → Type 0) (first : D) (past : List Call) (mid new : D) (most n : ℕ) → (now : List Call) × Ran does first now mid × OnlyAsked past now → does mid (Asks most n) new
    → (now : List Call) × Ran does first now new × OnlyAsked past now
one_more does first past mid new most n h step = (Asks most n ∷ h.0, (mid, h.1, step), record { taken = h.2.taken; rest = h.2.rest; flows = h.2.flows })

pub last_more : {D : Type 0} (does : D → Call → D → Type 0) (first : D) (past : List Call) (mid new : D) (most n : ℕ) → (now : List Call) × Ran does first now mid × OnlyAsked past now → n < most → does mid (Asks most n) new
    → (now : List Call) × Ran does first now new × IsDrained now × OnlyAsked past now
last_more does first past mid new most n h fewer step = (Asks most n ∷ h.0, (mid, h.1, step), fewer, record { taken = h.2.taken; rest = h.2.rest; flows = h.2.flows })
