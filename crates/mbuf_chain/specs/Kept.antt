-- What is known of a packet, and of the length that it keeps.
use Rattle.std.specs.Prelude.{◌≡◌, ℕ, ◌-◌, ◌<◌, ◌≤◌, List, [], ◌∷◌, ◌++◌, length}
use Rattle.std.specs.List.{All}
use Rattle.seg_list.specs.Buffer.{Buffer, IsWhole}
use Rattle.seg_list.specs.declared.list.TheConstants.{MAX_SEGS}
use Rattle.mbuf_chain.specs.Chain.{packet_of}
use Rattle.mbuf_chain.specs.Ends.{cut_back, cut_to}

-- at least one segment, and len bytes in them
pub record IsKept (c : List Buffer) (len : ℕ) : Type 0 where
  pub some : 0 < length c
  pub most : length c ≤ MAX_SEGS
  pub whole : All IsWhole c
  pub is : len ≡ length (packet_of c)
  pub short : len ≤ 524288

-- the first len bytes end behind byte n of segment i
pub record EndsIn (c : List Buffer) (len i n : ℕ) : Type 0 where
  pub front : List Buffer
  pub here : Buffer
  pub back : List Buffer
  pub is : c ≡ front ++ here ∷ back
  pub at : i ≡ length front
  pub inside : n ≤ length here.body
  pub cut : cut_to len c ≡ front ++ cut_back (length here.body - n) here ∷ []
