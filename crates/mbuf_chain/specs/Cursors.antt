-- A place in a packet, from which it is written.
use Rattle.std.specs.Prelude.{◌≡◌, ℕ, ◌+◌, ◌<◌, List, [], ◌∷◌, ◌++◌, length}
use Rattle.crypto_model.specs.Chain.{laid_at}
use Rattle.seg_list.specs.Buffer.{Buffer, Walked}
use Rattle.mbuf_chain.specs.Chain.{packet_of, with_packet}

-- a chain, and how many bytes of its packet lie before the place
pub record At : Type 0 where
  pub chain : List Buffer
  pub at : ℕ

-- the place of byte number inside of the rest
abbrev pub at_of : Walked → ℕ → At
at_of w inside = record { chain = w.done ++ w.rest; at = length (packet_of w.done) + inside }

-- a byte of the first segment, or the end
abbrev pub Stands : List Buffer → ℕ → Type 0
Stands [] inside = inside ≡ 0
Stands (b ∷ bs) inside = inside < length b.body

-- n bytes further on
abbrev pub moved : ℕ → At → At
moved n c = record c { at = c.at + n }

-- with these bytes over those from the place on
abbrev pub rewritten : List ℕ → At → At
rewritten bytes c = record c { chain = with_packet c.chain (laid_at c.at bytes (packet_of c.chain)) }
