-- What a generator will give.
use Rattle.std.specs.Prelude.{ℕ, ◌-◌, List, ◌++◌, take, drop}
use Rattle.capture_io.specs.declared.generator.Generator.{Generator}
use Rattle.capture_io.specs.Generated.{generated_records}

-- what it has ready, and what it will make behind that
abbrev pub still_generated : Generator → List ℕ
still_generated g = drop g.at (take g.end g.ready) ++ generated_records (g.count - g.begun) g.begun g.state

-- no read fails
abbrev pub generating_faults : Generator → ℕ
generating_faults g = 0
