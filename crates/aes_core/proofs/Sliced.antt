-- The rounds on pairs of blocks, and their keys in planes.
use Rattle.std.proofs.Common.{◌≡◌, ℕ, zero, suc, ◌+◌, ◌-◌, ◌*◌, ◌/◌, ◌%◌, ◌^◌, ◌≤◌, ◌<◌, Bool, true, eqb, List, [], ◌∷◌, ◌++◌, length, map, get_or, slice_index, take, drop, replicate, refl, ap, sym, subst, ◌∙◌, arith, lit<, bit_and, bit_xor, length-take, length-drop, length-append, inl, inr, eqb-true}
use Rattle.std.proofs.lemmas.Bool.{cases_lt}
use Rattle.std.proofs.lemmas.List.{take_all, length-take-le, length-map, take-append-le, drop-append-le}
use Rattle.std.proofs.lemmas.Nat.{xor_of_8}
use Rattle.std.proofs.lemmas.Simd.{zip2_splat, zip2_of_maps, splat_is_map, map-map, put_chunk_whole, Each1-from_get_or, Each1-chunk}
use Rattle.std.proofs.lemmas.Slice.{take-put_mid}
use Rattle.std.proofs.Math.Seq.{take-append_seam, drop-append_seam}
use Rattle.std.proofs.Math.Path.{fun_ext}
use Rattle.std.specs.Simd.Lanes.{Each1, zip2, pick_l, put_chunk}
use borrow.Rule.Slice.PartMut.{put_mid}
use Rattle.crypto_model.specs.Aes.{sub_bytes, shift_rows, add_round_key, rounds, cipher_with}
use Rattle.crypto_model.proofs.Computed.{all_below, all_below_at}
use Rattle.crypto_model.proofs.Listed.{length-listed}
use Rattle.aes_core.specs.Planes.{IsVector, lifted, turned}
use Rattle.aes_core.specs.Bitslice.{IsSliced, bit_of, pairwise, plane_key, planes_at}
use Rattle.aes_core.proofs.Wires.{both_same}
use Rattle.aes_core.proofs.Squares.{number}
use Rattle.aes_core.proofs.Turns.{AreVectors, spread_is, byte_of, places, lifted_spread, turned_twice}
use Rattle.aes_core.proofs.Steps.{map_below, lifted_vector}
use Rattle.aes_core.proofs.Rows.{named, named_is, key_alone}
use Rattle.aes_core.proofs.Rounds.{round_more}
use Rattle.aes_core.proofs.Pairs.{standard_round, standard_last}

-- ---- the rounds

length-rounds : (w s : List ℕ) (r : ℕ) → length (rounds w s r) ≡ 16
unfolding rounds add_round_key
length-rounds w s zero = length-listed 16 _
length-rounds w s (suc r) = length-listed 16 _

-- f after g, which gives blocks
pub pair_then : (f g : List ℕ → List ℕ) → ((x : List ℕ) → length (g x) ≡ 16) → (v : List ℕ) → pairwise f (pairwise g v) ≡ pairwise (λ x. f (g x)) v
pair_then f g long v =
    let a = g (take 16 v) in
    let b = g (drop 16 v) in
    let first : take 16 (a ++ b) ≡ a = rw (long (take 16 v)) at (take-append_seam a b) in
    let second : drop 16 (a ++ b) ≡ b = rw (long (take 16 v)) at (drop-append_seam a b) in
    rw (first, second) refl

pairs_then : (f g : List ℕ → List ℕ) → ((x : List ℕ) → length (g x) ≡ 16) → (ws : List (List ℕ)) → map (pairwise f) (map (pairwise g) ws) ≡ map (pairwise (λ x. f (g x))) ws
pairs_then f g long [] = refl
pairs_then f g long (w ∷ ws) = both_same (pair_then f g long w) (pairs_then f g long ws)

pub pairs_same : (f g : List ℕ → List ℕ) → ((x : List ℕ) → f x ≡ g x) → (ws : List (List ℕ)) → map (pairwise f) ws ≡ map (pairwise g) ws
pairs_same f g same ws = ap (λ (h : List ℕ → List ℕ). map (pairwise h) ws) (fun_ext same)

abbrev pub key_of : List ℕ → ℕ → List ℕ
key_of w r = take 16 (drop (16 * r) w)

pub length-key_of : (w : List ℕ) (r : ℕ) → length w ≡ 240 → r < 15 → length (key_of w r) ≡ 16
length-key_of w r long lt = length-take-le 16 (drop (16 * r) w) (omega (arith, length-drop (16 * r) w))

pub first_planes : (w keys : List ℕ) (key : List (List ℕ)) → IsSliced w keys → key ≡ planes_at 0 keys → turned key ≡ replicate 8 (key_of w 0 ++ key_of w 0)
unfolding plane_key
first_planes w keys key h e = ap turned e ∙ h 0 (lit< tt)

pub later_planes : (w keys : List ℕ) (key : List (List ℕ)) (r : ℕ) → IsSliced w keys → 1 ≤ r → r < 15 → key ≡ planes_at r keys
    → turned key ≡ replicate 8 (map (λ x. bit_xor x 0x63) (key_of w r ++ key_of w r))
unfolding plane_key
later_planes w keys key zero h l lt e = absurd (omega arith)
later_planes w keys key (suc r) h l lt e = ap turned e ∙ h (suc r) lt

abbrev pub has_rounds : List ℕ → ℕ → List (List ℕ) → List (List ℕ)
has_rounds w r pairs = map (pairwise (λ x. rounds w x (r - 1))) pairs

pub begins : (w : List ℕ) (pairs ts : List (List ℕ)) → ts ≡ map (pairwise (add_round_key (key_of w 0) 0)) pairs → ts ≡ has_rounds w 1 pairs
unfolding rounds
begins w pairs ts e = e ∙ pairs_same _ _ (λ x. key_alone w x 0) pairs

pub goes_on : (w : List ℕ) (pairs ts us : List (List ℕ)) (r : ℕ) → 1 ≤ r → ts ≡ has_rounds w r pairs → us ≡ map (pairwise (standard_round (key_of w r))) ts
    → us ≡ has_rounds w (r + 1) pairs
goes_on w pairs ts us r l e f =
    f ∙ ap (map (pairwise (standard_round (key_of w r)))) e
    ∙ pairs_then (standard_round (key_of w r)) (λ x. rounds w x (r - 1)) (λ x. length-rounds w x (r - 1)) pairs
    ∙ pairs_same _ _ (λ x. key_alone w _ r ∙ round_more w x (rounds w x (r - 1)) r l refl) pairs

pub ends : (w : List ℕ) (pairs ts us : List (List ℕ)) (r n : ℕ) → r ≡ n → ts ≡ has_rounds w r pairs → us ≡ map (pairwise (standard_last (key_of w n))) ts
    → us ≡ map (pairwise (cipher_with w n)) pairs
unfolding cipher_with
ends w pairs ts us r n e h f =
    f ∙ ap (map (pairwise (standard_last (key_of w n)))) (h ∙ ap (λ (i : ℕ). has_rounds w i pairs) e)
    ∙ pairs_then (standard_last (key_of w n)) (λ x. rounds w x (n - 1)) (λ x. length-rounds w x (n - 1)) pairs
    ∙ pairs_same _ _ (λ x. key_alone w (shift_rows (sub_bytes (rounds w x (n - 1)))) n) pairs

-- ---- a key in planes

abbrev twice_over : List ℕ
twice_over = 0 ∷ 1 ∷ 2 ∷ 3 ∷ 4 ∷ 5 ∷ 6 ∷ 7 ∷ 8 ∷ 9 ∷ 10 ∷ 11 ∷ 12 ∷ 13 ∷ 14 ∷ 15 ∷ 0 ∷ 1 ∷ 2 ∷ 3 ∷ 4 ∷ 5 ∷ 6 ∷ 7 ∷ 8 ∷ 9 ∷ 10 ∷ 11 ∷ 12 ∷ 13 ∷ 14 ∷ 15 ∷ []

doubled_named : (k : ℕ → ℕ) → pick_l 0 (named k ++ named k) twice_over ≡ named k ++ named k
doubled_named k = refl

pub doubled_key : (k : List ℕ) → length k ≡ 16 → pick_l 0 (k ++ k) twice_over ≡ k ++ k
doubled_key k long = subst (λ (z : List ℕ). pick_l 0 (z ++ z) twice_over ≡ z ++ z) (named_is k long) (doubled_named (λ i. get_or k i 0))

pub plane_key-first : (k : List ℕ) (r : ℕ) → r ≡ 0 → k ++ k ≡ plane_key r k
unfolding plane_key
plane_key-first k zero e = refl
plane_key-first k (suc r) e = absurd (omega arith)

pub plane_key-later : (k : List ℕ) (r : ℕ) → (r ≡ 0 → ⊥) → length k ≡ 16 → zip2 bit_xor (k ++ k) (replicate 32 0x63) ≡ plane_key r k
unfolding plane_key
plane_key-later k zero h long = absurd (h refl)
plane_key-later k (suc r) h long = zip2_splat bit_xor (k ++ k) 32 0x63 (omega (arith, length-append k k))

abbrev less : ℕ → ℕ → ℕ
less a b = (a + (256 - b)) % 256

-- a bit in eight places
abbrev bit_eight : ℕ → ℕ → ℕ
bit_eight k x = less 0 (bit_and (x / 2 ^ k) 1)

abbrev eight_times : ℕ → ℕ → ℕ
eight_times k x = number (bit_of k) (x ∷ x ∷ x ∷ x ∷ x ∷ x ∷ x ∷ x ∷ [])

abbrev same_eight : ℕ → ℕ → Bool
same_eight k x = eqb (bit_eight k x) (eight_times k x)

eight_all : all_below (λ k. all_below (same_eight k) 256) 8 ≡ true
unfolding all_below
eight_all = refl

eight_is : (k x : ℕ) → k < 8 → x < 256 → bit_eight k x ≡ eight_times k x
eight_is k x lk lx = eqb-true _ _ (all_below_at (same_eight k) 256 (all_below_at (λ n. all_below (same_eight n) 256) 8 eight_all k lk) x lx)

map_bytes : (f g : ℕ → ℕ) (v : List ℕ) → Each1 (λ x. x < 256) v → ((x : ℕ) → x < 256 → f x ≡ g x) → map f v ≡ map g v
map_bytes f g [] fits h = refl
map_bytes f g (x ∷ v) fits h = let e = h x fits.0 in let r = map_bytes f g v fits.1 h in rw (e, r) refl

abbrev down : ℕ → ℕ → ℕ
down x by = x / 2 ^ by

pub bit_plane_is : (k : ℕ) (v : List ℕ) → k < 8 → IsVector v
    → zip2 less (replicate 32 0) (zip2 bit_and (zip2 down v (replicate 32 k)) (replicate 32 1)) ≡ lifted (bit_of k) (replicate 8 v)
bit_plane_is k v lk h =
    let g = byte_of v in
    let one = zip2_of_maps bit_and (λ x. x / 2 ^ k) (λ _. 1) v (zip2_splat down v 32 k h.0) (splat_is_map v 32 1 h.0) in
    zip2_of_maps less (λ _. 0) (λ x. bit_and (x / 2 ^ k) 1) v (splat_is_map v 32 0 h.0) one
    ∙ map_bytes (bit_eight k) (eight_times k) v h.1 (λ x lx. eight_is k x lk lx)
    ∙ ap (map (eight_times k)) (sym (spread_is v h)) ∙ map-map (eight_times k) g places
    ∙ sym (lifted_spread (bit_of k) (g ∷ g ∷ g ∷ g ∷ g ∷ g ∷ g ∷ g ∷ []))
    ∙ ap (λ (z : List ℕ). lifted (bit_of k) (replicate 8 z)) (spread_is v h)

-- ---- all planes, one behind another

abbrev pub plane_at : List ℕ → ℕ → List ℕ
plane_at w i = lifted (bit_of (i % 8)) (replicate 8 (plane_key (i / 8) (key_of w (i / 8))))

unfoldable pub flat : List ℕ → ℕ → List ℕ
flat w zero = []
flat w (suc i) = flat w i ++ plane_at w i

append_below : (a b : List ℕ) → Each1 (λ x. x < 256) a → Each1 (λ x. x < 256) b → Each1 (λ x. x < 256) (a ++ b)
append_below [] b h g = g
append_below (x ∷ a) b h g = (h.0, append_below a b h.1 g)

plane_key_vector : (k : List ℕ) (r : ℕ) → length k ≡ 16 → Each1 (λ x. x < 256) k → IsVector (plane_key r k)
unfolding plane_key
plane_key_vector k zero long fits = (length-append k k ∙ omega arith, append_below k k fits fits)
plane_key_vector k (suc r) long fits = (
  length-map (k ++ k) (λ x. bit_xor x 0x63) ∙ length-append k k ∙ omega arith,
  map_below (λ x. bit_xor x 0x63) (λ x lt. xor_of_8 x 0x63 lt (lit< tt)) (k ++ k) (append_below k k fits fits),
)

pub key_vector : (w : List ℕ) (r : ℕ) → length w ≡ 240 → ((i : ℕ) → slice_index w i < 256) → r < 15 → IsVector (plane_key r (key_of w r))
key_vector w r long fits lt =
    plane_key_vector (key_of w r) r (length-key_of w r long lt)
    (Each1-chunk (λ x. x < 256) (16 * r) 16 w (Each1-from_get_or (λ x. x < 256) w 0 (λ i _. fits i)))

eight_vectors : (v : List ℕ) → IsVector v → AreVectors (replicate 8 v)
eight_vectors v h = (refl, (h, (h, (h, (h, (h, (h, (h, (h, tt)))))))))

module _ (w : List ℕ) (long : length w ≡ 240) (fits : (i : ℕ) → slice_index w i < 256) where
  length-plane_at : (i : ℕ) → i < 120 → length (plane_at w i) ≡ 32
  length-plane_at i lt = (lifted_vector (bit_of (i % 8)) _ (eight_vectors _ (key_vector w (i / 8) long fits (omega arith)))).0

  length-flat : (n : ℕ) → n ≤ 120 → length (flat w n) ≡ 32 * n
  unfolding flat
  length-flat zero le = refl
  length-flat (suc n) le = omega (arith, length-append (flat w n) (plane_at w n), length-flat n (omega arith), length-plane_at n (omega arith))

  -- the write of one plane more
  pub plane_more : (keys plane : List ℕ) (i n : ℕ) → i < 120 → n ≡ 32 → (length keys ≡ 3840) × (take (32 * i) keys ≡ flat w i) → plane ≡ plane_at w i
      → (length (put_mid (32 * i) n keys (put_chunk 0 (take n (drop (32 * i) keys)) plane)) ≡ 3840)
      × (take (32 * (i + 1)) (put_mid (32 * i) n keys (put_chunk 0 (take n (drop (32 * i) keys)) plane)) ≡ flat w (i + 1))
  unfolding flat
  plane_more keys plane i n lt en held e =
      let lp : length plane ≡ 32 = ap length e ∙ length-plane_at i lt in
      let part : length (take n (drop (32 * i) keys)) ≡ length plane = length-take-le n (drop (32 * i) keys) (omega (arith, length-drop (32 * i) keys)) ∙ en ∙ sym lp in
      let same = put_chunk_whole (take n (drop (32 * i) keys)) plane part in
      let next : suc i ≡ i + 1 = omega arith in (
        simp (same, length-append, length-take, length-drop) (omega arith),
        rw same
            (take-put_mid (32 * i) n keys plane (32 * (i + 1)) (omega arith) (omega arith)
            ∙ rw (held.1, e) refl
            ∙ ap (λ (j : ℕ). flat w j) next),
      )

  part_of_flat : (n j : ℕ) → n ≤ 120 → j < n → take 32 (drop (32 * j) (flat w n)) ≡ plane_at w j
  unfolding flat
  part_of_flat zero j le lt = absurd (omega arith)
  part_of_flat (suc n) j le lt =
      let f = flat w n in
      let p = plane_at w n in
      let lf : length f ≡ 32 * n = length-flat n (omega arith) in
      let off = drop-append-le (32 * j) f p (omega arith) in
      elim (cases_lt j n) [
        | inl less ↦ ap (take 32) off ∙ take-append-le 32 (drop (32 * j) f) p (omega (arith, length-drop (32 * j) f)) ∙ part_of_flat n j (omega arith) less
        | inr more ↦
            let e : n ≡ j = omega arith in
            let all : drop (32 * n) (f ++ p) ≡ p = rw lf at (drop-append_seam f p) in
            ap (λ (i : ℕ). take 32 (drop (32 * i) (f ++ p))) (sym e) ∙ ap (take 32) all ∙ take_all 32 p (omega (arith, length-plane_at n (omega arith)))
            ∙ ap (plane_at w) e
      ]

  part_at : (keys : List ℕ) (r k m : ℕ) → take (32 * 120) keys ≡ flat w 120 → length keys ≡ 3840 → r < 15 → k < 8 → m ≡ 256 * r + 32 * k
      → take 32 (drop m keys) ≡ lifted (bit_of k) (replicate 8 (plane_key r (key_of w r)))
  part_at keys r k m e lk lr lt em =
      let place : m ≡ 32 * (8 * r + k) = omega arith in
      let low : (8 * r + k) % 8 ≡ k = omega arith in
      let high : (8 * r + k) / 8 ≡ r = omega arith in
      ap (λ (i : ℕ). take 32 (drop i keys)) place ∙ ap (λ (l : List ℕ). take 32 (drop (32 * (8 * r + k)) l)) (sym (take_all (32 * 120) keys (omega arith)) ∙ e)
      ∙ part_of_flat 120 (8 * r + k) (omega arith) (omega arith)
      ∙ ap (λ (i : ℕ). lifted (bit_of i) (replicate 8 (plane_key ((8 * r + k) / 8) (key_of w ((8 * r + k) / 8))))) low
      ∙ ap (λ (i : ℕ). lifted (bit_of k) (replicate 8 (plane_key i (key_of w i)))) high

  planes_are : (keys : List ℕ) (r : ℕ) → take (32 * 120) keys ≡ flat w 120 → length keys ≡ 3840 → r < 15
      → planes_at r keys ≡ turned (replicate 8 (plane_key r (key_of w r)))
  unfolding turned
  planes_are keys r e lk lr =
      both_same (part_at keys r 0 (256 * r) e lk lr (lit< tt) (omega arith))
      (both_same (part_at keys r 1 (256 * r + 32) e lk lr (lit< tt) (omega arith))
      (both_same (part_at keys r 2 (256 * r + 64) e lk lr (lit< tt) (omega arith))
      (both_same (part_at keys r 3 (256 * r + 96) e lk lr (lit< tt) (omega arith))
      (both_same (part_at keys r 4 (256 * r + 128) e lk lr (lit< tt) (omega arith))
      (both_same (part_at keys r 5 (256 * r + 160) e lk lr (lit< tt) (omega arith))
      (both_same (part_at keys r 6 (256 * r + 192) e lk lr (lit< tt) (omega arith))
      (both_same (part_at keys r 7 (256 * r + 224) e lk lr (lit< tt) (omega arith))
      (refl))))))))

  pub all_planes : (keys : List ℕ) (i : ℕ) → 120 ≤ i → i ≤ 120 → (length keys ≡ 3840) × (take (32 * i) keys ≡ flat w i) → IsSliced w keys
  all_planes keys i ge le held r lr =
      let n : i ≡ 120 = omega arith in
      let e : take (32 * 120) keys ≡ flat w 120 = subst (λ (j : ℕ). take (32 * j) keys ≡ flat w j) n held.1 in
      ap turned (planes_are keys r e held.0 lr) ∙ turned_twice (replicate 8 (plane_key r (key_of w r))) (eight_vectors _ (key_vector w r long fits lr))
