-- What is known of a plain driver.
use Rattle.std.specs.Prelude.{◌≡◌, ℕ, List, [], map}
use Rattle.std.specs.Arc.{arc_value}
use Rattle.crypto_model.specs.Process.{Transform}
use Rattle.crypto_op.specs.Op.{Entry, entry_of}
use Rattle.dev_core.specs.declared.stats.Stats.{Stats}
use Rattle.dev_core.specs.Stats.{no_stats}
use Rattle.sym_engine.specs.declared.plain.PlainDriver.{PlainDriver}

-- the entries of the operations inside, in order
abbrev pub held_of : {C : Type 0} → PlainDriver C → List (Entry C)
held_of d = map entry_of d.queue.items

abbrev pub depth_of : {C : Type 0} → PlainDriver C → ℕ
depth_of d = d.depth

abbrev pub sessions_of : {C : Type 0} → PlainDriver C → List (List Transform)
sessions_of d = arc_value d.sessions

abbrev pub stats_of : {C : Type 0} → PlainDriver C → Stats
stats_of d = d.stats

-- as it was made: with no depth and no sessions, nothing inside and nothing counted
pub record IsNew {C : Type 0} (d : PlainDriver C) : Type 0 where
  pub depth : depth_of d ≡ 0
  pub sessions : sessions_of d ≡ []
  pub held : held_of d ≡ []
  pub stats : stats_of d ≡ no_stats
