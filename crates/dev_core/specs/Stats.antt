-- What the statistics of a driver count. Each stands still at its last value.
use Rattle.std.specs.Prelude.{ℕ, ◌+◌, nat_lt, if◌then◌else◌}
use Rattle.crypto_model.specs.Counts.{capped}
use Rattle.dev_core.specs.declared.stats.Stats.{Stats}

abbrev pub no_stats : Stats
no_stats = record { enqueued = 0; dequeued = 0; enqueue_short = 0; dequeue_short = 0 }

-- after a call that was offered so many and took n
abbrev pub after_enqueue : ℕ → ℕ → Stats → Stats
after_enqueue offered n s = record s {
  enqueued = capped (s.enqueued + n);
  enqueue_short = if nat_lt n offered then capped (s.enqueue_short + 1) else s.enqueue_short;
}

-- after a call that was asked for so many and gave n
abbrev pub after_dequeue : ℕ → ℕ → Stats → Stats
after_dequeue asked n s = record s {
  dequeued = capped (s.dequeued + n);
  dequeue_short = if nat_lt n asked then capped (s.dequeue_short + 1) else s.dequeue_short;
}
