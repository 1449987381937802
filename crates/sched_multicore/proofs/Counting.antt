-- The counts of a turn, step by step.
use Rattle.std.proofs.Common.{◌≡◌, ◌≤◌, ◌<◌, ◌+◌, ◌-◌, ℕ, min, arith}
use native.Mathlib.Decide.{dec_lt}
use Rattle.crypto_model.specs.Counts.{Rose, capped}
use Rattle.sched_multicore.specs.Carry.{Counts}

pub rose_on : (a b c : ℕ) → Rose a b → b ≤ c → Rose a c
rose_on a b c r l = omega (arith, r, l)

pub rose_before : (a b c : ℕ) → a ≤ b → Rose b c → Rose a c
rose_before a b c l r = omega (arith, r, l)

-- all that waited was offered, of which the device took n
pub counts_offered : (limit held stalls waiting left n held' stalls' : ℕ) → n ≤ waiting → left + n ≡ waiting → held' ≡ held + n → stalls ≤ stalls'
    → (n < min waiting (limit - held) → Rose stalls stalls') → Counts limit held stalls waiting left 0 held' stalls'
counts_offered limit held stalls waiting left n held' stalls' within rest more later cause = record {
  total = omega (arith, rest, more);
  few = omega (arith, rest);
  later = later;
  cause = λ l. cause (omega (arith, l, rest, within));
}

-- one step after another
pub counts_then : (limit held stalls taken given waiting held' stalls' given' waiting' held'' stalls'' : ℕ) → held ≤ limit → held' ≤ limit
    → Counts limit held stalls taken given waiting held' stalls' → Counts limit held' stalls' waiting given' waiting' held'' stalls''
    → Counts limit held stalls taken (given + given') waiting' held'' stalls''
counts_then limit held stalls taken given waiting held' stalls' given' waiting' held'' stalls'' fits fits' a b = record {
  total = omega (arith, a.total, b.total);
  few = omega (arith, a.few, b.few);
  later = omega (arith, a.later, b.later);
  cause = λ l. go l (dec_lt (taken - (limit - held)) given);
}
  where
    go : taken - (limit - held) < given + given' → Dec (taken - (limit - held) < given) → Rose stalls stalls''
    go l (yes p) = rose_on stalls stalls' stalls'' (a.cause p) b.later
    go l (no p) = rose_before stalls stalls' stalls'' a.later (b.cause (omega (arith, l, p, a.total, a.few, fits, fits')))

-- so many more were taken
pub counts_taken : (limit held stalls taken given waiting more waiting' held' stalls' : ℕ) → waiting' ≡ waiting + more → Counts limit held stalls taken given waiting held' stalls'
    → Counts limit held stalls (taken + more) given waiting' held' stalls'
counts_taken limit held stalls taken given waiting more waiting' held' stalls' e a = record {
  total = omega (arith, a.total, e);
  few = omega (arith, a.few, e);
  later = a.later;
  cause = λ l. a.cause (omega (arith, l));
}

-- the device took so many more
pub capped_more : (n a b h h' more : ℕ) → b ≡ capped (a + more) → h' ≡ h + more → a ≡ capped (n + h) → b ≡ capped (n + h')
capped_more n a b h h' more e f g = omega (arith, e, f, g)
