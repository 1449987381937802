-- Packets that grow or shrink at an end.
use Rattle.std.specs.Prelude.{ℕ, ◌-◌, List, [], ◌∷◌, ◌++◌, length, take, drop, replicate, slice_set, slice_index_or, nat_le, if◌then◌else◌}
use Rattle.seg_list.specs.Buffer.{Buffer}

abbrev pub no_buffer : Buffer
no_buffer = record { before = []; body = []; after = [] }

abbrev pub first_of : List Buffer → Buffer
first_of c = slice_index_or c 0 no_buffer

abbrev pub last_of : List Buffer → Buffer
last_of c = slice_index_or c (length c - 1) no_buffer

abbrev pub on_first : (Buffer → Buffer) → List Buffer → List Buffer
on_first f c = slice_set c 0 (f (first_of c))

abbrev pub on_last : (Buffer → Buffer) → List Buffer → List Buffer
on_last f c = slice_set c (length c - 1) (f (last_of c))

-- n bytes less at the front of the data; they stay in the buffer
abbrev pub cut_front : ℕ → Buffer → Buffer
cut_front n b = record { before = b.before ++ take n b.body; body = drop n b.body; after = b.after }

-- n bytes less at its end
abbrev pub cut_back : ℕ → Buffer → Buffer
cut_back n b = record { before = b.before; body = take (length b.body - n) b.body; after = drop (length b.body - n) b.body ++ b.after }

-- n zeros in the place of the last bytes before the data
abbrev pub zeros_before : ℕ → Buffer → Buffer
zeros_before n b = record { before = take (length b.before - n) b.before; body = replicate n 0 ++ b.body; after = b.after }

-- n zeros in the place of the first bytes behind it
abbrev pub zeros_behind : ℕ → Buffer → Buffer
zeros_behind n b = record { before = b.before; body = b.body ++ replicate n 0; after = drop n b.after }

-- as many of the first segments as hold n bytes, but at least one, the last of them cut
abbrev pub cut_to : ℕ → List Buffer → List Buffer
cut_to n [] = []
cut_to n (b ∷ bs) = if nat_le n (length b.body) then cut_back (length b.body - n) b ∷ [] else b ∷ cut_to (n - length b.body) bs
