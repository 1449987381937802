-- KEY and SALT.
use Rattle.std.specs.Prelude.{ℕ, List, Option, Some, None, Result, Ok, Err}
use Rattle.hex.specs.Hex.{decode_sized}
use Rattle.hex.specs.declared.error.FromHexError.{FromHexError}

abbrev pub or_else : Result (List ℕ) FromHexError → Option (List ℕ) → Option (List ℕ)
or_else (Ok bytes) o = Some bytes
or_else (Err e) o = o

-- KEY: the hexadecimal digits of 16, 24 or 32 bytes
abbrev pub key_of : List ℕ → Option (List ℕ)
key_of text = or_else (decode_sized text 16) (or_else (decode_sized text 24) (or_else (decode_sized text 32) None))

-- SALT: the hexadecimal digits of four bytes
abbrev pub salt_of : List ℕ → Option (List ℕ)
salt_of text = or_else (decode_sized text 4) None
