-- A segment with no data.
use Rattle.std.specs.Prelude.{◌≡◌, []}
use Rattle.seg_list.specs.Buffer.{Buffer}

-- offset 0 and no data
abbrev pub IsEmptied : Buffer → Type 0
IsEmptied b = (b.before ≡ []) × (b.body ≡ [])
