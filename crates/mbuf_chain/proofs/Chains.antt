-- Writing a packet changes the data alone.
use Rattle.std.proofs.Common.{◌≡◌, ℕ, ◌+◌, List, [], ◌∷◌, ◌++◌, length, take, drop, refl, ap, ◌∙◌, arith, length-append, length-drop}
use Rattle.std.proofs.lemmas.List.{length-take-le, take-append-drop}
use Rattle.seg_list.specs.Buffer.{Buffer}
use Rattle.seg_list.proofs.Cuts.{take-front, drop-front}
use Rattle.mbuf_chain.specs.Chain.{packet_of, shape_of, with_packet}

pub packet_of-with_packet : (c : List Buffer) (bytes : List ℕ) → length bytes ≡ length (packet_of c) → packet_of (with_packet c bytes) ≡ bytes
packet_of-with_packet [] [] e = refl
packet_of-with_packet [] (x ∷ xs) e = (cc)
packet_of-with_packet (b ∷ bs) bytes e =
    let n : length (b.body ++ packet_of bs) ≡ length b.body + length (packet_of bs) = length-append b.body (packet_of bs) in
    ap (λ r. take (length b.body) bytes ++ r) (packet_of-with_packet bs (drop (length b.body) bytes) (omega (arith, length-drop (length b.body) bytes)))
    ∙ take-append-drop (length b.body) bytes

pub shape_of-with_packet : (c : List Buffer) (bytes : List ℕ) → length bytes ≡ length (packet_of c) → shape_of (with_packet c bytes) ≡ shape_of c
shape_of-with_packet [] bytes e = refl
shape_of-with_packet (b ∷ bs) bytes e =
    let n : length (b.body ++ packet_of bs) ≡ length b.body + length (packet_of bs) = length-append b.body (packet_of bs) in
    rw (length-take-le (length b.body) bytes (omega arith), shape_of-with_packet bs (drop (length b.body) bytes) (omega (arith, length-drop (length b.body) bytes))) refl

pub with_packet-own : (c : List Buffer) → with_packet c (packet_of c) ≡ c
with_packet-own [] = refl
with_packet-own (b ∷ bs) = rw (take-front b.body (packet_of bs), drop-front b.body (packet_of bs), with_packet-own bs) refl

pub with_packet-again : (c : List Buffer) (xs ys : List ℕ) → length xs ≡ length (packet_of c) → with_packet (with_packet c xs) ys ≡ with_packet c ys
with_packet-again [] xs ys e = refl
with_packet-again (b ∷ bs) xs ys e =
    let n : length (b.body ++ packet_of bs) ≡ length b.body + length (packet_of bs) = length-append b.body (packet_of bs) in
    rw (length-take-le (length b.body) xs (omega arith), with_packet-again bs (drop (length b.body) xs) (drop (length b.body) ys) (omega (arith, length-drop (length b.body) xs))) refl
