-- The piece of a packet that one segment holds.
use Rattle.std.specs.Prelude.{◌≡◌, ℕ, ◌+◌, ◌-◌, ◌<◌, List, [], ◌∷◌, length, take, min, slice_index_or, nat_lt, if◌then◌else◌}
use Rattle.seg_list.specs.Buffer.{Buffer, relaid_at}
use Rattle.mbuf_chain.specs.Chain.{packet_of}

-- how many of the n bytes from off on lie in the segment that holds the first
abbrev pub piece_len : ℕ → ℕ → List Buffer → ℕ
piece_len off n [] = 0
piece_len off n (b ∷ bs) = if nat_lt off (length b.body) then min n (length b.body - off) else piece_len (off - length b.body) n bs

-- the segments once bytes were laid over that segment's
abbrev pub piece_laid : ℕ → List Buffer → List ℕ → List Buffer
piece_laid off [] bytes = []
piece_laid off (b ∷ bs) bytes = if nat_lt off (length b.body) then relaid_at off b bytes ∷ bs else b ∷ piece_laid (off - length b.body) bs bytes

-- buffer i holds the byte at off, at its place at
pub record LiesAt (c : List Buffer) (off i at : ℕ) (b : Buffer) : Type 0 where
  pub within : i < length c
  pub far : off ≡ length (packet_of (take i c)) + at
  pub buffer : slice_index_or c i b ≡ b
  pub inside : at < length b.body
