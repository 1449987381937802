-- The text of a line.
use Rattle.std.specs.Prelude.{ℕ, List, take}
use Rattle.capcrypt.specs.declared.line.Line.{Line}

abbrev pub line_text : Line → List ℕ
line_text l = take l.len l.bytes
