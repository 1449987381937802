-- A segment's buffer, as its bytes before, in and behind the data.
use Rattle.std.specs.Prelude.{◌≡◌, ℕ, ◌+◌, List, ◌++◌, length, take, drop}
use Rattle.crypto_model.specs.Chain.{laid_at}
use Rattle.seg_list.specs.declared.seg.TheConstants.{SEG_SIZE}

pub record Buffer : Type 0 where
  pub before : List ℕ
  pub body : List ℕ
  pub after : List ℕ

-- all its bytes
abbrev pub bytes_of : Buffer → List ℕ
bytes_of b = b.before ++ b.body ++ b.after

-- the buffer of these bytes, whose data begins at off and has len bytes
abbrev pub cut_at : ℕ → ℕ → List ℕ → Buffer
cut_at off len bytes = record { before = take off bytes; body = take len (drop off bytes); after = drop len (drop off bytes) }

abbrev pub with_data : Buffer → List ℕ → Buffer
with_data b bytes = record b { body = bytes }

-- as long as a segment's buffer
abbrev pub IsWhole : Buffer → Type 0
IsWhole b = length b.before + length b.body + length b.after ≡ SEG_SIZE

-- the same buffer with bytes laid over it from byte at of the data on
abbrev pub relaid_at : ℕ → Buffer → List ℕ → Buffer
relaid_at at b bytes = cut_at (length b.before) (length b.body) (laid_at (length b.before + at) bytes (bytes_of b))

-- a list that is walked: the segments that are done, and the rest
pub record Walked : Type 0 where
  pub done : List Buffer
  pub rest : List Buffer
