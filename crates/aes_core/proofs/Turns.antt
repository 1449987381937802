-- Eight vectors lane by lane, and turned into planes.
use Rattle.std.proofs.Common.{◌≡◌, ℕ, zero, suc, ◌*◌, ◌/◌, ◌%◌, ◌^◌, ◌<◌, ◌-◌, List, [], ◌∷◌, length, map, get_or, replicate, refl, ap, sym, ◌∙◌, arith, lit<, bit_and, bit_xor}
use Rattle.std.specs.List.{range_with_len}
use Rattle.std.specs.Simd.Lanes.{Each1, zip2}
use Rattle.std.proofs.lemmas.Simd.{pick_l_whole, zip2_splat, zip2-map, zip2_of_maps, splat_is_map}
use Rattle.aes_core.specs.Planes.{IsVector, lifted, turned, low_kept, high_kept}
use Rattle.aes_core.proofs.Wires.{laid, both_same}
use Rattle.aes_core.proofs.Squares.{number, bit, twice0, placed0, twice1, placed1, twice2, placed2, twice3, placed3, twice4, placed4, twice5, placed5, twice6, placed6, twice7, placed7}

-- ---- the parts of two vectors

zip_maps : (p q : ℕ → ℕ) (a b : List ℕ) → zip2 bit_xor (map p a) (map q b) ≡ zip2 (λ x y. bit_xor (p x) (q y)) a b
zip_maps p q [] b = refl
zip_maps p q (x ∷ a) [] = refl
zip_maps p q (x ∷ a) (y ∷ b) = ap (λ (l : List ℕ). bit_xor (p x) (q y) ∷ l) (zip_maps p q a b)

masked : (p : ℕ → ℕ) (a xs : List ℕ) (m : ℕ) → length a ≡ 32 → xs ≡ map p a → zip2 bit_and xs (replicate 32 m) ≡ map (λ x. bit_and (p x) m) a
masked p a xs m long e = zip2_of_maps bit_and p (λ _. m) a e (splat_is_map a 32 m long)

abbrev up : ℕ → ℕ → ℕ
up x by = x * 2 ^ by % 256

abbrev down : ℕ → ℕ → ℕ
down x by = x / 2 ^ by

as_map : (a : List ℕ) → a ≡ map (λ x. x) a
as_map [] = refl
as_map (x ∷ a) = ap (λ (l : List ℕ). x ∷ l) (as_map a)

pub lower_is : (by mask : ℕ) (a b : List ℕ) → length a ≡ 32 → length b ≡ 32
    → zip2 bit_xor (zip2 bit_and a (replicate 32 mask)) (zip2 bit_and (zip2 up b (replicate 32 by)) (replicate 32 (255 - mask))) ≡ zip2 (low_kept by mask) a b
lower_is by mask a b la lb =
    ap (λ (l : List ℕ). zip2 bit_xor l (zip2 bit_and (zip2 up b (replicate 32 by)) (replicate 32 (255 - mask)))) (masked (λ x. x) a a mask la (as_map a))
    ∙ ap (zip2 bit_xor (map (λ x. bit_and x mask) a)) (masked (λ x. up x by) b _ (255 - mask) lb (zip2_splat up b 32 by lb))
    ∙ zip_maps (λ x. bit_and x mask) (λ x. bit_and (up x by) (255 - mask)) a b

pub upper_is : (by mask : ℕ) (a b : List ℕ) → length a ≡ 32 → length b ≡ 32
    → zip2 bit_xor (zip2 bit_and (zip2 down a (replicate 32 by)) (replicate 32 mask)) (zip2 bit_and b (replicate 32 (255 - mask))) ≡ zip2 (high_kept by mask) a b
upper_is by mask a b la lb =
    ap (λ (l : List ℕ). zip2 bit_xor l (zip2 bit_and b (replicate 32 (255 - mask)))) (masked (λ x. down x by) a _ mask la (zip2_splat down a 32 by la))
    ∙ ap (zip2 bit_xor (map (λ x. bit_and (down x by) mask) a)) (masked (λ x. x) b b (255 - mask) lb (as_map b))
    ∙ zip_maps (λ x. bit_and (down x by) mask) (λ x. bit_and x (255 - mask)) a b

-- ---- a vector by its bytes

abbrev pub places : List ℕ
places = range_with_len 0 32

abbrev pub byte_of : List ℕ → ℕ → ℕ
byte_of v j = get_or v j 0

abbrev pub spread : (ℕ → ℕ) → List ℕ
spread g = map g places

pub spread_is : (v : List ℕ) → IsVector v → spread (byte_of v) ≡ v
spread_is v h = pick_l_whole 0 v 32 h.0

pub byte_below : (v : List ℕ) → Each1 (λ x. x < 256) v → (j : ℕ) → byte_of v j < 256
byte_below [] h j = lit< tt
byte_below (x ∷ v) h zero = h.0
byte_below (x ∷ v) h (suc j) = byte_below v h.1 j

spread_on : (g h : ℕ → ℕ) → ((j : ℕ) → g j ≡ h j) → (js : List ℕ) → map g js ≡ map h js
spread_on g h same [] = refl
spread_on g h same (j ∷ js) = let e = same j in let r = spread_on g h same js in rw (e, r) refl

pub spread_same : (g h : ℕ → ℕ) → ((j : ℕ) → g j ≡ h j) → spread g ≡ spread h
spread_same g h same = spread_on g h same places

-- the bytes at one place
abbrev pub column : List (ℕ → ℕ) → ℕ → List ℕ
column gs j = map (λ g. g j) gs

pub lifted_spread : (f : ℕ → ℕ) (gs : List (ℕ → ℕ)) → lifted f (map spread gs) ≡ spread (λ j. number f (column gs j))
unfolding lifted
lifted_spread f [] = refl
lifted_spread f (g ∷ gs) = ap (zip2 (laid f) (spread g)) (lifted_spread f gs) ∙ zip2-map (laid f) g (λ j. number f (column gs j)) places

-- the planes of vectors at one place
abbrev pub plane_of : List (ℕ → ℕ) → ℕ → ℕ → ℕ
plane_of gs k j = number (bit k) (column gs j)

abbrev planes_of : List (ℕ → ℕ) → List (ℕ → ℕ)
planes_of gs = plane_of gs 0 ∷ plane_of gs 1 ∷ plane_of gs 2 ∷ plane_of gs 3 ∷ plane_of gs 4 ∷ plane_of gs 5 ∷ plane_of gs 6 ∷ plane_of gs 7 ∷ []

turned_spread : (gs : List (ℕ → ℕ)) → turned (map spread gs) ≡ map spread (planes_of gs)
unfolding turned
turned_spread gs =
    both_same (lifted_spread (bit 0) gs)
    (both_same (lifted_spread (bit 1) gs)
    (both_same (lifted_spread (bit 2) gs)
    (both_same (lifted_spread (bit 3) gs)
    (both_same (lifted_spread (bit 4) gs)
    (both_same (lifted_spread (bit 5) gs)
    (both_same (lifted_spread (bit 6) gs)
    (both_same (lifted_spread (bit 7) gs)
    (refl))))))))

twice_spread : (g0 g1 g2 g3 g4 g5 g6 g7 : ℕ → ℕ) → ((j : ℕ) → g0 j < 256) → ((j : ℕ) → g1 j < 256) → ((j : ℕ) → g2 j < 256) → ((j : ℕ) → g3 j < 256) → ((j : ℕ) → g4 j < 256) → ((j : ℕ) → g5 j < 256) → ((j : ℕ) → g6 j < 256) → ((j : ℕ) → g7 j < 256)
    → map spread (planes_of (planes_of (g0 ∷ g1 ∷ g2 ∷ g3 ∷ g4 ∷ g5 ∷ g6 ∷ g7 ∷ []))) ≡ map spread (g0 ∷ g1 ∷ g2 ∷ g3 ∷ g4 ∷ g5 ∷ g6 ∷ g7 ∷ [])
twice_spread g0 g1 g2 g3 g4 g5 g6 g7 l0 l1 l2 l3 l4 l5 l6 l7 =
    both_same (spread_same _ g0 (λ j. twice0 (g0 j) (g1 j) (g2 j) (g3 j) (g4 j) (g5 j) (g6 j) (g7 j) (l0 j)))
    (both_same (spread_same _ g1 (λ j. twice1 (g0 j) (g1 j) (g2 j) (g3 j) (g4 j) (g5 j) (g6 j) (g7 j) (l1 j)))
    (both_same (spread_same _ g2 (λ j. twice2 (g0 j) (g1 j) (g2 j) (g3 j) (g4 j) (g5 j) (g6 j) (g7 j) (l2 j)))
    (both_same (spread_same _ g3 (λ j. twice3 (g0 j) (g1 j) (g2 j) (g3 j) (g4 j) (g5 j) (g6 j) (g7 j) (l3 j)))
    (both_same (spread_same _ g4 (λ j. twice4 (g0 j) (g1 j) (g2 j) (g3 j) (g4 j) (g5 j) (g6 j) (g7 j) (l4 j)))
    (both_same (spread_same _ g5 (λ j. twice5 (g0 j) (g1 j) (g2 j) (g3 j) (g4 j) (g5 j) (g6 j) (g7 j) (l5 j)))
    (both_same (spread_same _ g6 (λ j. twice6 (g0 j) (g1 j) (g2 j) (g3 j) (g4 j) (g5 j) (g6 j) (g7 j) (l6 j)))
    (both_same (spread_same _ g7 (λ j. twice7 (g0 j) (g1 j) (g2 j) (g3 j) (g4 j) (g5 j) (g6 j) (g7 j) (l7 j)))
    (refl))))))))

-- ---- eight vectors

abbrev pub AreVectors : List (List ℕ) → Type 0
AreVectors ws = (length ws ≡ 8) × Each1 IsVector ws

pub vector_at : (ws : List (List ℕ)) → Each1 IsVector ws → (i : ℕ) → i < length ws → IsVector (get_or ws i [])
vector_at [] h i lt = absurd (omega arith)
vector_at (w ∷ ws) h zero lt = h.0
vector_at (w ∷ ws) h (suc i) lt = vector_at ws h.1 i (omega arith)

pub eight : (ws : List (List ℕ)) → length ws ≡ 8 → get_or ws 0 [] ∷ get_or ws 1 [] ∷ get_or ws 2 [] ∷ get_or ws 3 [] ∷ get_or ws 4 [] ∷ get_or ws 5 [] ∷ get_or ws 6 [] ∷ get_or ws 7 [] ∷ [] ≡ ws
eight ws long = pick_l_whole {X = List ℕ} [] ws 8 long

pub spread_all : (ws : List (List ℕ)) → AreVectors ws → map spread (byte_of (get_or ws 0 []) ∷ byte_of (get_or ws 1 []) ∷ byte_of (get_or ws 2 []) ∷ byte_of (get_or ws 3 []) ∷ byte_of (get_or ws 4 []) ∷ byte_of (get_or ws 5 []) ∷ byte_of (get_or ws 6 []) ∷ byte_of (get_or ws 7 []) ∷ []) ≡ ws
spread_all ws h =
    both_same (spread_is _ (vector_at ws h.1 0 (omega (arith, h.0))))
    (both_same (spread_is _ (vector_at ws h.1 1 (omega (arith, h.0))))
    (both_same (spread_is _ (vector_at ws h.1 2 (omega (arith, h.0))))
    (both_same (spread_is _ (vector_at ws h.1 3 (omega (arith, h.0))))
    (both_same (spread_is _ (vector_at ws h.1 4 (omega (arith, h.0))))
    (both_same (spread_is _ (vector_at ws h.1 5 (omega (arith, h.0))))
    (both_same (spread_is _ (vector_at ws h.1 6 (omega (arith, h.0))))
    (both_same (spread_is _ (vector_at ws h.1 7 (omega (arith, h.0))))
    (refl))))))))
    ∙ eight ws h.0

pub turned_twice : (ws : List (List ℕ)) → AreVectors ws → turned (turned ws) ≡ ws
turned_twice ws h =
    let e = spread_all ws h in
    let gs : List (ℕ → ℕ) = byte_of (get_or ws 0 []) ∷ byte_of (get_or ws 1 []) ∷ byte_of (get_or ws 2 []) ∷ byte_of (get_or ws 3 []) ∷ byte_of (get_or ws 4 []) ∷ byte_of (get_or ws 5 []) ∷ byte_of (get_or ws 6 []) ∷ byte_of (get_or ws 7 []) ∷ [] in
    ap (λ (l : List (List ℕ)). turned (turned l)) (sym e)
    ∙ ap turned (turned_spread gs) ∙ turned_spread (planes_of gs)
    ∙ twice_spread (byte_of (get_or ws 0 [])) (byte_of (get_or ws 1 [])) (byte_of (get_or ws 2 [])) (byte_of (get_or ws 3 [])) (byte_of (get_or ws 4 [])) (byte_of (get_or ws 5 [])) (byte_of (get_or ws 6 [])) (byte_of (get_or ws 7 []))
    (λ j. byte_below _ (vector_at ws h.1 0 (omega (arith, h.0))).1 j) (λ j. byte_below _ (vector_at ws h.1 1 (omega (arith, h.0))).1 j) (λ j. byte_below _ (vector_at ws h.1 2 (omega (arith, h.0))).1 j) (λ j. byte_below _ (vector_at ws h.1 3 (omega (arith, h.0))).1 j) (λ j. byte_below _ (vector_at ws h.1 4 (omega (arith, h.0))).1 j) (λ j. byte_below _ (vector_at ws h.1 5 (omega (arith, h.0))).1 j) (λ j. byte_below _ (vector_at ws h.1 6 (omega (arith, h.0))).1 j) (λ j. byte_below _ (vector_at ws h.1 7 (omega (arith, h.0))).1 j)
    ∙ e

spread_eight : (v0 v1 v2 v3 v4 v5 v6 v7 : List ℕ) → IsVector v0 → IsVector v1 → IsVector v2 → IsVector v3 → IsVector v4 → IsVector v5 → IsVector v6 → IsVector v7
    → map spread (byte_of v0 ∷ byte_of v1 ∷ byte_of v2 ∷ byte_of v3 ∷ byte_of v4 ∷ byte_of v5 ∷ byte_of v6 ∷ byte_of v7 ∷ []) ≡ v0 ∷ v1 ∷ v2 ∷ v3 ∷ v4 ∷ v5 ∷ v6 ∷ v7 ∷ []
spread_eight v0 v1 v2 v3 v4 v5 v6 v7 h0 h1 h2 h3 h4 h5 h6 h7 =
    both_same (spread_is v0 h0)
    (both_same (spread_is v1 h1)
    (both_same (spread_is v2 h2)
    (both_same (spread_is v3 h3)
    (both_same (spread_is v4 h4)
    (both_same (spread_is v5 h5)
    (both_same (spread_is v6 h6)
    (both_same (spread_is v7 h7)
    (refl))))))))

-- a tree of parts, at each place
tree : (f g h : ℕ → ℕ → ℕ) (v0 v1 v2 v3 v4 v5 v6 v7 : List ℕ) → IsVector v0 → IsVector v1 → IsVector v2 → IsVector v3 → IsVector v4 → IsVector v5 → IsVector v6 → IsVector v7
    → zip2 h (zip2 g (zip2 f v0 v1) (zip2 f v2 v3)) (zip2 g (zip2 f v4 v5) (zip2 f v6 v7)) ≡ spread (λ j. h (g (f (byte_of v0 j) (byte_of v1 j)) (f (byte_of v2 j) (byte_of v3 j))) (g (f (byte_of v4 j) (byte_of v5 j)) (f (byte_of v6 j) (byte_of v7 j))))
tree f g h v0 v1 v2 v3 v4 v5 v6 v7 h0 h1 h2 h3 h4 h5 h6 h7 =
    zip2_of_maps h (λ j. g (f (byte_of v0 j) (byte_of v1 j)) (f (byte_of v2 j) (byte_of v3 j))) (λ j. g (f (byte_of v4 j) (byte_of v5 j)) (f (byte_of v6 j) (byte_of v7 j))) places
    (zip2_of_maps g (λ j. f (byte_of v0 j) (byte_of v1 j)) (λ j. f (byte_of v2 j) (byte_of v3 j)) places
    (zip2_of_maps f (byte_of v0) (byte_of v1) places (sym (spread_is v0 h0)) (sym (spread_is v1 h1)))
    (zip2_of_maps f (byte_of v2) (byte_of v3) places (sym (spread_is v2 h2)) (sym (spread_is v3 h3))))
    (zip2_of_maps g (λ j. f (byte_of v4 j) (byte_of v5 j)) (λ j. f (byte_of v6 j) (byte_of v7 j)) places
    (zip2_of_maps f (byte_of v4) (byte_of v5) places (sym (spread_is v4 h4)) (sym (spread_is v5 h5)))
    (zip2_of_maps f (byte_of v6) (byte_of v7) places (sym (spread_is v6 h6)) (sym (spread_is v7 h7))))

plane0 : (v0 v1 v2 v3 v4 v5 v6 v7 : List ℕ) → IsVector v0 → IsVector v1 → IsVector v2 → IsVector v3 → IsVector v4 → IsVector v5 → IsVector v6 → IsVector v7
    → zip2 (low_kept 4 0x0f) (zip2 (low_kept 2 0x33) (zip2 (low_kept 1 0x55) v0 v1) (zip2 (low_kept 1 0x55) v2 v3)) (zip2 (low_kept 2 0x33) (zip2 (low_kept 1 0x55) v4 v5) (zip2 (low_kept 1 0x55) v6 v7))
    ≡ lifted (bit 0) (v0 ∷ v1 ∷ v2 ∷ v3 ∷ v4 ∷ v5 ∷ v6 ∷ v7 ∷ [])
plane0 v0 v1 v2 v3 v4 v5 v6 v7 h0 h1 h2 h3 h4 h5 h6 h7 =
    tree (low_kept 1 0x55) (low_kept 2 0x33) (low_kept 4 0x0f) v0 v1 v2 v3 v4 v5 v6 v7 h0 h1 h2 h3 h4 h5 h6 h7
    ∙ spread_same (λ j. (low_kept 4 0x0f) ((low_kept 2 0x33) ((low_kept 1 0x55) (byte_of v0 j) (byte_of v1 j)) ((low_kept 1 0x55) (byte_of v2 j) (byte_of v3 j))) ((low_kept 2 0x33) ((low_kept 1 0x55) (byte_of v4 j) (byte_of v5 j)) ((low_kept 1 0x55) (byte_of v6 j) (byte_of v7 j)))) (plane_of (byte_of v0 ∷ byte_of v1 ∷ byte_of v2 ∷ byte_of v3 ∷ byte_of v4 ∷ byte_of v5 ∷ byte_of v6 ∷ byte_of v7 ∷ []) 0) (λ j. placed0 (byte_of v0 j) (byte_of v1 j) (byte_of v2 j) (byte_of v3 j) (byte_of v4 j) (byte_of v5 j) (byte_of v6 j) (byte_of v7 j)
    (byte_below v0 h0.1 j) (byte_below v1 h1.1 j) (byte_below v2 h2.1 j) (byte_below v3 h3.1 j) (byte_below v4 h4.1 j) (byte_below v5 h5.1 j) (byte_below v6 h6.1 j) (byte_below v7 h7.1 j))
    ∙ sym (lifted_spread (bit 0) (byte_of v0 ∷ byte_of v1 ∷ byte_of v2 ∷ byte_of v3 ∷ byte_of v4 ∷ byte_of v5 ∷ byte_of v6 ∷ byte_of v7 ∷ []))
    ∙ ap (lifted (bit 0)) (spread_eight v0 v1 v2 v3 v4 v5 v6 v7 h0 h1 h2 h3 h4 h5 h6 h7)

plane1 : (v0 v1 v2 v3 v4 v5 v6 v7 : List ℕ) → IsVector v0 → IsVector v1 → IsVector v2 → IsVector v3 → IsVector v4 → IsVector v5 → IsVector v6 → IsVector v7
    → zip2 (low_kept 4 0x0f) (zip2 (low_kept 2 0x33) (zip2 (high_kept 1 0x55) v0 v1) (zip2 (high_kept 1 0x55) v2 v3)) (zip2 (low_kept 2 0x33) (zip2 (high_kept 1 0x55) v4 v5) (zip2 (high_kept 1 0x55) v6 v7))
    ≡ lifted (bit 1) (v0 ∷ v1 ∷ v2 ∷ v3 ∷ v4 ∷ v5 ∷ v6 ∷ v7 ∷ [])
plane1 v0 v1 v2 v3 v4 v5 v6 v7 h0 h1 h2 h3 h4 h5 h6 h7 =
    tree (high_kept 1 0x55) (low_kept 2 0x33) (low_kept 4 0x0f) v0 v1 v2 v3 v4 v5 v6 v7 h0 h1 h2 h3 h4 h5 h6 h7
    ∙ spread_same (λ j. (low_kept 4 0x0f) ((low_kept 2 0x33) ((high_kept 1 0x55) (byte_of v0 j) (byte_of v1 j)) ((high_kept 1 0x55) (byte_of v2 j) (byte_of v3 j))) ((low_kept 2 0x33) ((high_kept 1 0x55) (byte_of v4 j) (byte_of v5 j)) ((high_kept 1 0x55) (byte_of v6 j) (byte_of v7 j)))) (plane_of (byte_of v0 ∷ byte_of v1 ∷ byte_of v2 ∷ byte_of v3 ∷ byte_of v4 ∷ byte_of v5 ∷ byte_of v6 ∷ byte_of v7 ∷ []) 1) (λ j. placed1 (byte_of v0 j) (byte_of v1 j) (byte_of v2 j) (byte_of v3 j) (byte_of v4 j) (byte_of v5 j) (byte_of v6 j) (byte_of v7 j)
    (byte_below v0 h0.1 j) (byte_below v1 h1.1 j) (byte_below v2 h2.1 j) (byte_below v3 h3.1 j) (byte_below v4 h4.1 j) (byte_below v5 h5.1 j) (byte_below v6 h6.1 j) (byte_below v7 h7.1 j))
    ∙ sym (lifted_spread (bit 1) (byte_of v0 ∷ byte_of v1 ∷ byte_of v2 ∷ byte_of v3 ∷ byte_of v4 ∷ byte_of v5 ∷ byte_of v6 ∷ byte_of v7 ∷ []))
    ∙ ap (lifted (bit 1)) (spread_eight v0 v1 v2 v3 v4 v5 v6 v7 h0 h1 h2 h3 h4 h5 h6 h7)

plane2 : (v0 v1 v2 v3 v4 v5 v6 v7 : List ℕ) → IsVector v0 → IsVector v1 → IsVector v2 → IsVector v3 → IsVector v4 → IsVector v5 → IsVector v6 → IsVector v7
    → zip2 (low_kept 4 0x0f) (zip2 (high_kept 2 0x33) (zip2 (low_kept 1 0x55) v0 v1) (zip2 (low_kept 1 0x55) v2 v3)) (zip2 (high_kept 2 0x33) (zip2 (low_kept 1 0x55) v4 v5) (zip2 (low_kept 1 0x55) v6 v7))
    ≡ lifted (bit 2) (v0 ∷ v1 ∷ v2 ∷ v3 ∷ v4 ∷ v5 ∷ v6 ∷ v7 ∷ [])
plane2 v0 v1 v2 v3 v4 v5 v6 v7 h0 h1 h2 h3 h4 h5 h6 h7 =
    tree (low_kept 1 0x55) (high_kept 2 0x33) (low_kept 4 0x0f) v0 v1 v2 v3 v4 v5 v6 v7 h0 h1 h2 h3 h4 h5 h6 h7
    ∙ spread_same (λ j. (low_kept 4 0x0f) ((high_kept 2 0x33) ((low_kept 1 0x55) (byte_of v0 j) (byte_of v1 j)) ((low_kept 1 0x55) (byte_of v2 j) (byte_of v3 j))) ((high_kept 2 0x33) ((low_kept 1 0x55) (byte_of v4 j) (byte_of v5 j)) ((low_kept 1 0x55) (byte_of v6 j) (byte_of v7 j)))) (plane_of (byte_of v0 ∷ byte_of v1 ∷ byte_of v2 ∷ byte_of v3 ∷ byte_of v4 ∷ byte_of v5 ∷ byte_of v6 ∷ byte_of v7 ∷ []) 2) (λ j. placed2 (byte_of v0 j) (byte_of v1 j) (byte_of v2 j) (byte_of v3 j) (byte_of v4 j) (byte_of v5 j) (byte_of v6 j) (byte_of v7 j)
    (byte_below v0 h0.1 j) (byte_below v1 h1.1 j) (byte_below v2 h2.1 j) (byte_below v3 h3.1 j) (byte_below v4 h4.1 j) (byte_below v5 h5.1 j) (byte_below v6 h6.1 j) (byte_below v7 h7.1 j))
    ∙ sym (lifted_spread (bit 2) (byte_of v0 ∷ byte_of v1 ∷ byte_of v2 ∷ byte_of v3 ∷ byte_of v4 ∷ byte_of v5 ∷ byte_of v6 ∷ byte_of v7 ∷ []))
    ∙ ap (lifted (bit 2)) (spread_eight v0 v1 v2 v3 v4 v5 v6 v7 h0 h1 h2 h3 h4 h5 h6 h7)

plane3 : (v0 v1 v2 v3 v4 v5 v6 v7 : List ℕ) → IsVector v0 → IsVector v1 → IsVector v2 → IsVector v3 → IsVector v4 → IsVector v5 → IsVector v6 → IsVector v7
    → zip2 (low_kept 4 0x0f) (zip2 (high_kept 2 0x33) (zip2 (high_kept 1 0x55) v0 v1) (zip2 (high_kept 1 0x55) v2 v3)) (zip2 (high_kept 2 0x33) (zip2 (high_kept 1 0x55) v4 v5) (zip2 (high_kept 1 0x55) v6 v7))
    ≡ lifted (bit 3) (v0 ∷ v1 ∷ v2 ∷ v3 ∷ v4 ∷ v5 ∷ v6 ∷ v7 ∷ [])
plane3 v0 v1 v2 v3 v4 v5 v6 v7 h0 h1 h2 h3 h4 h5 h6 h7 =
    tree (high_kept 1 0x55) (high_kept 2 0x33) (low_kept 4 0x0f) v0 v1 v2 v3 v4 v5 v6 v7 h0 h1 h2 h3 h4 h5 h6 h7
    ∙ spread_same (λ j. (low_kept 4 0x0f) ((high_kept 2 0x33) ((high_kept 1 0x55) (byte_of v0 j) (byte_of v1 j)) ((high_kept 1 0x55) (byte_of v2 j) (byte_of v3 j))) ((high_kept 2 0x33) ((high_kept 1 0x55) (byte_of v4 j) (byte_of v5 j)) ((high_kept 1 0x55) (byte_of v6 j) (byte_of v7 j)))) (plane_of (byte_of v0 ∷ byte_of v1 ∷ byte_of v2 ∷ byte_of v3 ∷ byte_of v4 ∷ byte_of v5 ∷ byte_of v6 ∷ byte_of v7 ∷ []) 3) (λ j. placed3 (byte_of v0 j) (byte_of v1 j) (byte_of v2 j) (byte_of v3 j) (byte_of v4 j) (byte_of v5 j) (byte_of v6 j) (byte_of v7 j)
    (byte_below v0 h0.1 j) (byte_below v1 h1.1 j) (byte_below v2 h2.1 j) (byte_below v3 h3.1 j) (byte_below v4 h4.1 j) (byte_below v5 h5.1 j) (byte_below v6 h6.1 j) (byte_below v7 h7.1 j))
    ∙ sym (lifted_spread (bit 3) (byte_of v0 ∷ byte_of v1 ∷ byte_of v2 ∷ byte_of v3 ∷ byte_of v4 ∷ byte_of v5 ∷ byte_of v6 ∷ byte_of v7 ∷ []))
    ∙ ap (lifted (bit 3)) (spread_eight v0 v1 v2 v3 v4 v5 v6 v7 h0 h1 h2 h3 h4 h5 h6 h7)

plane4 : (v0 v1 v2 v3 v4 v5 v6 v7 : List ℕ) → IsVector v0 → IsVector v1 → IsVector v2 → IsVector v3 → IsVector v4 → IsVector v5 → IsVector v6 → IsVector v7
    → zip2 (high_kept 4 0x0f) (zip2 (low_kept 2 0x33) (zip2 (low_kept 1 0x55) v0 v1) (zip2 (low_kept 1 0x55) v2 v3)) (zip2 (low_kept 2 0x33) (zip2 (low_kept 1 0x55) v4 v5) (zip2 (low_kept 1 0x55) v6 v7))
    ≡ lifted (bit 4) (v0 ∷ v1 ∷ v2 ∷ v3 ∷ v4 ∷ v5 ∷ v6 ∷ v7 ∷ [])
plane4 v0 v1 v2 v3 v4 v5 v6 v7 h0 h1 h2 h3 h4 h5 h6 h7 =
    tree (low_kept 1 0x55) (low_kept 2 0x33) (high_kept 4 0x0f) v0 v1 v2 v3 v4 v5 v6 v7 h0 h1 h2 h3 h4 h5 h6 h7
    ∙ spread_same (λ j. (high_kept 4 0x0f) ((low_kept 2 0x33) ((low_kept 1 0x55) (byte_of v0 j) (byte_of v1 j)) ((low_kept 1 0x55) (byte_of v2 j) (byte_of v3 j))) ((low_kept 2 0x33) ((low_kept 1 0x55) (byte_of v4 j) (byte_of v5 j)) ((low_kept 1 0x55) (byte_of v6 j) (byte_of v7 j)))) (plane_of (byte_of v0 ∷ byte_of v1 ∷ byte_of v2 ∷ byte_of v3 ∷ byte_of v4 ∷ byte_of v5 ∷ byte_of v6 ∷ byte_of v7 ∷ []) 4) (λ j. placed4 (byte_of v0 j) (byte_of v1 j) (byte_of v2 j) (byte_of v3 j) (byte_of v4 j) (byte_of v5 j) (byte_of v6 j) (byte_of v7 j)
    (byte_below v0 h0.1 j) (byte_below v1 h1.1 j) (byte_below v2 h2.1 j) (byte_below v3 h3.1 j) (byte_below v4 h4.1 j) (byte_below v5 h5.1 j) (byte_below v6 h6.1 j) (byte_below v7 h7.1 j))
    ∙ sym (lifted_spread (bit 4) (byte_of v0 ∷ byte_of v1 ∷ byte_of v2 ∷ byte_of v3 ∷ byte_of v4 ∷ byte_of v5 ∷ byte_of v6 ∷ byte_of v7 ∷ []))
    ∙ ap (lifted (bit 4)) (spread_eight v0 v1 v2 v3 v4 v5 v6 v7 h0 h1 h2 h3 h4 h5 h6 h7)

plane5 : (v0 v1 v2 v3 v4 v5 v6 v7 : List ℕ) → IsVector v0 → IsVector v1 → IsVector v2 → IsVector v3 → IsVector v4 → IsVector v5 → IsVector v6 → IsVector v7
    → zip2 (high_kept 4 0x0f) (zip2 (low_kept 2 0x33) (zip2 (high_kept 1 0x55) v0 v1) (zip2 (high_kept 1 0x55) v2 v3)) (zip2 (low_kept 2 0x33) (zip2 (high_kept 1 0x55) v4 v5) (zip2 (high_kept 1 0x55) v6 v7))
    ≡ lifted (bit 5) (v0 ∷ v1 ∷ v2 ∷ v3 ∷ v4 ∷ v5 ∷ v6 ∷ v7 ∷ [])
plane5 v0 v1 v2 v3 v4 v5 v6 v7 h0 h1 h2 h3 h4 h5 h6 h7 =
    tree (high_kept 1 0x55) (low_kept 2 0x33) (high_kept 4 0x0f) v0 v1 v2 v3 v4 v5 v6 v7 h0 h1 h2 h3 h4 h5 h6 h7
    ∙ spread_same (λ j. (high_kept 4 0x0f) ((low_kept 2 0x33) ((high_kept 1 0x55) (byte_of v0 j) (byte_of v1 j)) ((high_kept 1 0x55) (byte_of v2 j) (byte_of v3 j))) ((low_kept 2 0x33) ((high_kept 1 0x55) (byte_of v4 j) (byte_of v5 j)) ((high_kept 1 0x55) (byte_of v6 j) (byte_of v7 j)))) (plane_of (byte_of v0 ∷ byte_of v1 ∷ byte_of v2 ∷ byte_of v3 ∷ byte_of v4 ∷ byte_of v5 ∷ byte_of v6 ∷ byte_of v7 ∷ []) 5) (λ j. placed5 (byte_of v0 j) (byte_of v1 j) (byte_of v2 j) (byte_of v3 j) (byte_of v4 j) (byte_of v5 j) (byte_of v6 j) (byte_of v7 j)
    (byte_below v0 h0.1 j) (byte_below v1 h1.1 j) (byte_below v2 h2.1 j) (byte_below v3 h3.1 j) (byte_below v4 h4.1 j) (byte_below v5 h5.1 j) (byte_below v6 h6.1 j) (byte_below v7 h7.1 j))
    ∙ sym (lifted_spread (bit 5) (byte_of v0 ∷ byte_of v1 ∷ byte_of v2 ∷ byte_of v3 ∷ byte_of v4 ∷ byte_of v5 ∷ byte_of v6 ∷ byte_of v7 ∷ []))
    ∙ ap (lifted (bit 5)) (spread_eight v0 v1 v2 v3 v4 v5 v6 v7 h0 h1 h2 h3 h4 h5 h6 h7)

plane6 : (v0 v1 v2 v3 v4 v5 v6 v7 : List ℕ) → IsVector v0 → IsVector v1 → IsVector v2 → IsVector v3 → IsVector v4 → IsVector v5 → IsVector v6 → IsVector v7
    → zip2 (high_kept 4 0x0f) (zip2 (high_kept 2 0x33) (zip2 (low_kept 1 0x55) v0 v1) (zip2 (low_kept 1 0x55) v2 v3)) (zip2 (high_kept 2 0x33) (zip2 (low_kept 1 0x55) v4 v5) (zip2 (low_kept 1 0x55) v6 v7))
    ≡ lifted (bit 6) (v0 ∷ v1 ∷ v2 ∷ v3 ∷ v4 ∷ v5 ∷ v6 ∷ v7 ∷ [])
plane6 v0 v1 v2 v3 v4 v5 v6 v7 h0 h1 h2 h3 h4 h5 h6 h7 =
    tree (low_kept 1 0x55) (high_kept 2 0x33) (high_kept 4 0x0f) v0 v1 v2 v3 v4 v5 v6 v7 h0 h1 h2 h3 h4 h5 h6 h7
    ∙ spread_same (λ j. (high_kept 4 0x0f) ((high_kept 2 0x33) ((low_kept 1 0x55) (byte_of v0 j) (byte_of v1 j)) ((low_kept 1 0x55) (byte_of v2 j) (byte_of v3 j))) ((high_kept 2 0x33) ((low_kept 1 0x55) (byte_of v4 j) (byte_of v5 j)) ((low_kept 1 0x55) (byte_of v6 j) (byte_of v7 j)))) (plane_of (byte_of v0 ∷ byte_of v1 ∷ byte_of v2 ∷ byte_of v3 ∷ byte_of v4 ∷ byte_of v5 ∷ byte_of v6 ∷ byte_of v7 ∷ []) 6) (λ j. placed6 (byte_of v0 j) (byte_of v1 j) (byte_of v2 j) (byte_of v3 j) (byte_of v4 j) (byte_of v5 j) (byte_of v6 j) (byte_of v7 j)
    (byte_below v0 h0.1 j) (byte_below v1 h1.1 j) (byte_below v2 h2.1 j) (byte_below v3 h3.1 j) (byte_below v4 h4.1 j) (byte_below v5 h5.1 j) (byte_below v6 h6.1 j) (byte_below v7 h7.1 j))
    ∙ sym (lifted_spread (bit 6) (byte_of v0 ∷ byte_of v1 ∷ byte_of v2 ∷ byte_of v3 ∷ byte_of v4 ∷ byte_of v5 ∷ byte_of v6 ∷ byte_of v7 ∷ []))
    ∙ ap (lifted (bit 6)) (spread_eight v0 v1 v2 v3 v4 v5 v6 v7 h0 h1 h2 h3 h4 h5 h6 h7)

plane7 : (v0 v1 v2 v3 v4 v5 v6 v7 : List ℕ) → IsVector v0 → IsVector v1 → IsVector v2 → IsVector v3 → IsVector v4 → IsVector v5 → IsVector v6 → IsVector v7
    → zip2 (high_kept 4 0x0f) (zip2 (high_kept 2 0x33) (zip2 (high_kept 1 0x55) v0 v1) (zip2 (high_kept 1 0x55) v2 v3)) (zip2 (high_kept 2 0x33) (zip2 (high_kept 1 0x55) v4 v5) (zip2 (high_kept 1 0x55) v6 v7))
    ≡ lifted (bit 7) (v0 ∷ v1 ∷ v2 ∷ v3 ∷ v4 ∷ v5 ∷ v6 ∷ v7 ∷ [])
plane7 v0 v1 v2 v3 v4 v5 v6 v7 h0 h1 h2 h3 h4 h5 h6 h7 =
    tree (high_kept 1 0x55) (high_kept 2 0x33) (high_kept 4 0x0f) v0 v1 v2 v3 v4 v5 v6 v7 h0 h1 h2 h3 h4 h5 h6 h7
    ∙ spread_same (λ j. (high_kept 4 0x0f) ((high_kept 2 0x33) ((high_kept 1 0x55) (byte_of v0 j) (byte_of v1 j)) ((high_kept 1 0x55) (byte_of v2 j) (byte_of v3 j))) ((high_kept 2 0x33) ((high_kept 1 0x55) (byte_of v4 j) (byte_of v5 j)) ((high_kept 1 0x55) (byte_of v6 j) (byte_of v7 j)))) (plane_of (byte_of v0 ∷ byte_of v1 ∷ byte_of v2 ∷ byte_of v3 ∷ byte_of v4 ∷ byte_of v5 ∷ byte_of v6 ∷ byte_of v7 ∷ []) 7) (λ j. placed7 (byte_of v0 j) (byte_of v1 j) (byte_of v2 j) (byte_of v3 j) (byte_of v4 j) (byte_of v5 j) (byte_of v6 j) (byte_of v7 j)
    (byte_below v0 h0.1 j) (byte_below v1 h1.1 j) (byte_below v2 h2.1 j) (byte_below v3 h3.1 j) (byte_below v4 h4.1 j) (byte_below v5 h5.1 j) (byte_below v6 h6.1 j) (byte_below v7 h7.1 j))
    ∙ sym (lifted_spread (bit 7) (byte_of v0 ∷ byte_of v1 ∷ byte_of v2 ∷ byte_of v3 ∷ byte_of v4 ∷ byte_of v5 ∷ byte_of v6 ∷ byte_of v7 ∷ []))
    ∙ ap (lifted (bit 7)) (spread_eight v0 v1 v2 v3 v4 v5 v6 v7 h0 h1 h2 h3 h4 h5 h6 h7)

zipped : (f : ℕ → ℕ → ℕ) {a b x y : List ℕ} → a ≡ x → b ≡ y → zip2 f a b ≡ zip2 f x y
zipped f d e = λ i. zip2 f (d i) (e i)

-- what the network of lower and upper parts makes
pub network : (ws : List (List ℕ)) → AreVectors ws → (a0 a1 a2 a3 a4 a5 a6 a7 b0 b1 b2 b3 b4 b5 b6 b7 c0 c1 c2 c3 c4 c5 c6 c7 : List ℕ)
    → a0 ≡ zip2 (low_kept 1 0x55) (get_or ws 0 []) (get_or ws 1 [])
    → a1 ≡ zip2 (high_kept 1 0x55) (get_or ws 0 []) (get_or ws 1 [])
    → a2 ≡ zip2 (low_kept 1 0x55) (get_or ws 2 []) (get_or ws 3 [])
    → a3 ≡ zip2 (high_kept 1 0x55) (get_or ws 2 []) (get_or ws 3 [])
    → a4 ≡ zip2 (low_kept 1 0x55) (get_or ws 4 []) (get_or ws 5 [])
    → a5 ≡ zip2 (high_kept 1 0x55) (get_or ws 4 []) (get_or ws 5 [])
    → a6 ≡ zip2 (low_kept 1 0x55) (get_or ws 6 []) (get_or ws 7 [])
    → a7 ≡ zip2 (high_kept 1 0x55) (get_or ws 6 []) (get_or ws 7 [])
    → b0 ≡ zip2 (low_kept 2 0x33) a0 a2
    → b1 ≡ zip2 (low_kept 2 0x33) a1 a3
    → b2 ≡ zip2 (high_kept 2 0x33) a0 a2
    → b3 ≡ zip2 (high_kept 2 0x33) a1 a3
    → b4 ≡ zip2 (low_kept 2 0x33) a4 a6
    → b5 ≡ zip2 (low_kept 2 0x33) a5 a7
    → b6 ≡ zip2 (high_kept 2 0x33) a4 a6
    → b7 ≡ zip2 (high_kept 2 0x33) a5 a7
    → c0 ≡ zip2 (low_kept 4 0x0f) b0 b4
    → c1 ≡ zip2 (low_kept 4 0x0f) b1 b5
    → c2 ≡ zip2 (low_kept 4 0x0f) b2 b6
    → c3 ≡ zip2 (low_kept 4 0x0f) b3 b7
    → c4 ≡ zip2 (high_kept 4 0x0f) b0 b4
    → c5 ≡ zip2 (high_kept 4 0x0f) b1 b5
    → c6 ≡ zip2 (high_kept 4 0x0f) b2 b6
    → c7 ≡ zip2 (high_kept 4 0x0f) b3 b7
    → c0 ∷ c1 ∷ c2 ∷ c3 ∷ c4 ∷ c5 ∷ c6 ∷ c7 ∷ [] ≡ turned ws
unfolding turned
network ws h a0 a1 a2 a3 a4 a5 a6 a7 b0 b1 b2 b3 b4 b5 b6 b7 c0 c1 c2 c3 c4 c5 c6 c7 ea0 ea1 ea2 ea3 ea4 ea5 ea6 ea7 eb0 eb1 eb2 eb3 eb4 eb5 eb6 eb7 ec0 ec1 ec2 ec3 ec4 ec5 ec6 ec7 =
    let made0 = ec0 ∙ zipped (low_kept 4 0x0f) (eb0 ∙ zipped (low_kept 2 0x33) ea0 ea2) (eb4 ∙ zipped (low_kept 2 0x33) ea4 ea6) in
    let made1 = ec1 ∙ zipped (low_kept 4 0x0f) (eb1 ∙ zipped (low_kept 2 0x33) ea1 ea3) (eb5 ∙ zipped (low_kept 2 0x33) ea5 ea7) in
    let made2 = ec2 ∙ zipped (low_kept 4 0x0f) (eb2 ∙ zipped (high_kept 2 0x33) ea0 ea2) (eb6 ∙ zipped (high_kept 2 0x33) ea4 ea6) in
    let made3 = ec3 ∙ zipped (low_kept 4 0x0f) (eb3 ∙ zipped (high_kept 2 0x33) ea1 ea3) (eb7 ∙ zipped (high_kept 2 0x33) ea5 ea7) in
    let made4 = ec4 ∙ zipped (high_kept 4 0x0f) (eb0 ∙ zipped (low_kept 2 0x33) ea0 ea2) (eb4 ∙ zipped (low_kept 2 0x33) ea4 ea6) in
    let made5 = ec5 ∙ zipped (high_kept 4 0x0f) (eb1 ∙ zipped (low_kept 2 0x33) ea1 ea3) (eb5 ∙ zipped (low_kept 2 0x33) ea5 ea7) in
    let made6 = ec6 ∙ zipped (high_kept 4 0x0f) (eb2 ∙ zipped (high_kept 2 0x33) ea0 ea2) (eb6 ∙ zipped (high_kept 2 0x33) ea4 ea6) in
    let made7 = ec7 ∙ zipped (high_kept 4 0x0f) (eb3 ∙ zipped (high_kept 2 0x33) ea1 ea3) (eb7 ∙ zipped (high_kept 2 0x33) ea5 ea7) in
    both_same (made0 ∙ plane0 (get_or ws 0 []) (get_or ws 1 []) (get_or ws 2 []) (get_or ws 3 []) (get_or ws 4 []) (get_or ws 5 []) (get_or ws 6 []) (get_or ws 7 []) (vector_at ws h.1 0 (omega (arith, h.0))) (vector_at ws h.1 1 (omega (arith, h.0))) (vector_at ws h.1 2 (omega (arith, h.0))) (vector_at ws h.1 3 (omega (arith, h.0))) (vector_at ws h.1 4 (omega (arith, h.0))) (vector_at ws h.1 5 (omega (arith, h.0))) (vector_at ws h.1 6 (omega (arith, h.0))) (vector_at ws h.1 7 (omega (arith, h.0))) ∙ ap (lifted (bit 0)) (eight ws h.0))
    (both_same (made1 ∙ plane1 (get_or ws 0 []) (get_or ws 1 []) (get_or ws 2 []) (get_or ws 3 []) (get_or ws 4 []) (get_or ws 5 []) (get_or ws 6 []) (get_or ws 7 []) (vector_at ws h.1 0 (omega (arith, h.0))) (vector_at ws h.1 1 (omega (arith, h.0))) (vector_at ws h.1 2 (omega (arith, h.0))) (vector_at ws h.1 3 (omega (arith, h.0))) (vector_at ws h.1 4 (omega (arith, h.0))) (vector_at ws h.1 5 (omega (arith, h.0))) (vector_at ws h.1 6 (omega (arith, h.0))) (vector_at ws h.1 7 (omega (arith, h.0))) ∙ ap (lifted (bit 1)) (eight ws h.0))
    (both_same (made2 ∙ plane2 (get_or ws 0 []) (get_or ws 1 []) (get_or ws 2 []) (get_or ws 3 []) (get_or ws 4 []) (get_or ws 5 []) (get_or ws 6 []) (get_or ws 7 []) (vector_at ws h.1 0 (omega (arith, h.0))) (vector_at ws h.1 1 (omega (arith, h.0))) (vector_at ws h.1 2 (omega (arith, h.0))) (vector_at ws h.1 3 (omega (arith, h.0))) (vector_at ws h.1 4 (omega (arith, h.0))) (vector_at ws h.1 5 (omega (arith, h.0))) (vector_at ws h.1 6 (omega (arith, h.0))) (vector_at ws h.1 7 (omega (arith, h.0))) ∙ ap (lifted (bit 2)) (eight ws h.0))
    (both_same (made3 ∙ plane3 (get_or ws 0 []) (get_or ws 1 []) (get_or ws 2 []) (get_or ws 3 []) (get_or ws 4 []) (get_or ws 5 []) (get_or ws 6 []) (get_or ws 7 []) (vector_at ws h.1 0 (omega (arith, h.0))) (vector_at ws h.1 1 (omega (arith, h.0))) (vector_at ws h.1 2 (omega (arith, h.0))) (vector_at ws h.1 3 (omega (arith, h.0))) (vector_at ws h.1 4 (omega (arith, h.0))) (vector_at ws h.1 5 (omega (arith, h.0))) (vector_at ws h.1 6 (omega (arith, h.0))) (vector_at ws h.1 7 (omega (arith, h.0))) ∙ ap (lifted (bit 3)) (eight ws h.0))
    (both_same (made4 ∙ plane4 (get_or ws 0 []) (get_or ws 1 []) (get_or ws 2 []) (get_or ws 3 []) (get_or ws 4 []) (get_or ws 5 []) (get_or ws 6 []) (get_or ws 7 []) (vector_at ws h.1 0 (omega (arith, h.0))) (vector_at ws h.1 1 (omega (arith, h.0))) (vector_at ws h.1 2 (omega (arith, h.0))) (vector_at ws h.1 3 (omega (arith, h.0))) (vector_at ws h.1 4 (omega (arith, h.0))) (vector_at ws h.1 5 (omega (arith, h.0))) (vector_at ws h.1 6 (omega (arith, h.0))) (vector_at ws h.1 7 (omega (arith, h.0))) ∙ ap (lifted (bit 4)) (eight ws h.0))
    (both_same (made5 ∙ plane5 (get_or ws 0 []) (get_or ws 1 []) (get_or ws 2 []) (get_or ws 3 []) (get_or ws 4 []) (get_or ws 5 []) (get_or ws 6 []) (get_or ws 7 []) (vector_at ws h.1 0 (omega (arith, h.0))) (vector_at ws h.1 1 (omega (arith, h.0))) (vector_at ws h.1 2 (omega (arith, h.0))) (vector_at ws h.1 3 (omega (arith, h.0))) (vector_at ws h.1 4 (omega (arith, h.0))) (vector_at ws h.1 5 (omega (arith, h.0))) (vector_at ws h.1 6 (omega (arith, h.0))) (vector_at ws h.1 7 (omega (arith, h.0))) ∙ ap (lifted (bit 5)) (eight ws h.0))
    (both_same (made6 ∙ plane6 (get_or ws 0 []) (get_or ws 1 []) (get_or ws 2 []) (get_or ws 3 []) (get_or ws 4 []) (get_or ws 5 []) (get_or ws 6 []) (get_or ws 7 []) (vector_at ws h.1 0 (omega (arith, h.0))) (vector_at ws h.1 1 (omega (arith, h.0))) (vector_at ws h.1 2 (omega (arith, h.0))) (vector_at ws h.1 3 (omega (arith, h.0))) (vector_at ws h.1 4 (omega (arith, h.0))) (vector_at ws h.1 5 (omega (arith, h.0))) (vector_at ws h.1 6 (omega (arith, h.0))) (vector_at ws h.1 7 (omega (arith, h.0))) ∙ ap (lifted (bit 6)) (eight ws h.0))
    (both_same (made7 ∙ plane7 (get_or ws 0 []) (get_or ws 1 []) (get_or ws 2 []) (get_or ws 3 []) (get_or ws 4 []) (get_or ws 5 []) (get_or ws 6 []) (get_or ws 7 []) (vector_at ws h.1 0 (omega (arith, h.0))) (vector_at ws h.1 1 (omega (arith, h.0))) (vector_at ws h.1 2 (omega (arith, h.0))) (vector_at ws h.1 3 (omega (arith, h.0))) (vector_at ws h.1 4 (omega (arith, h.0))) (vector_at ws h.1 5 (omega (arith, h.0))) (vector_at ws h.1 6 (omega (arith, h.0))) (vector_at ws h.1 7 (omega (arith, h.0))) ∙ ap (lifted (bit 7)) (eight ws h.0))
    (refl))))))))
