-- The pieces of a range.
use Rattle.std.specs.Prelude.{ℕ, ◌-◌, List, [], ◌∷◌, length, take, drop, flat_map, nat_eq, nat_lt, if◌then◌else◌}
use Rattle.seg_list.specs.Buffer.{Buffer}

-- the n bytes from off on, as they lie in one segment after another
abbrev pub pieces_of : ℕ → ℕ → List Buffer → List (List ℕ)
pieces_of off n [] = []
pieces_of off n (b ∷ bs) = if nat_eq n 0 then [] else if nat_lt off (length b.body) then take n (drop off b.body) ∷ pieces_of 0 (n - (length b.body - off)) bs
    else pieces_of (off - length b.body) n bs

abbrev pub joined : List (List ℕ) → List ℕ
joined = flat_map (λ xs. xs)
