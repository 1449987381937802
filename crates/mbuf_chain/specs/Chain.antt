-- A packet in segments.
use Rattle.std.specs.Prelude.{ℕ, List, [], ◌∷◌, length, take, drop, map, flat_map}
use Rattle.seg_list.specs.Buffer.{Buffer, with_data}

-- the packet: the segments' data, one after another
abbrev pub packet_of : List Buffer → List ℕ
packet_of = flat_map (λ b. b.body)

-- the offsets and lengths
abbrev pub shape_of : List Buffer → List (ℕ × ℕ)
shape_of = map (λ b. (length b.before, length b.body))

-- the same segments with these bytes as the packet
abbrev pub with_packet : List Buffer → List ℕ → List Buffer
with_packet [] bytes = []
with_packet (b ∷ bs) bytes = with_data b (take (length b.body) bytes) ∷ with_packet bs (drop (length b.body) bytes)
