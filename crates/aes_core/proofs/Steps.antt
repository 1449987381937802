-- What is done to planes is done to the bytes.
use Rattle.std.proofs.Common.{◌≡◌, ℕ, ◌+◌, ◌*◌, ◌/◌, ◌%◌, ◌^◌, ◌<◌, List, [], ◌∷◌, true, ltb, lit<, length, map, get_or, replicate, refl, ap, sym, subst, ◌∙◌, arith, bit_xor}
use Rattle.std.proofs.lemmas.List.{length-map}
use Rattle.std.specs.Int.{bit_at}
use Rattle.std.specs.Simd.Lanes.{Each1, zip2, pick_l}
use Rattle.std.proofs.lemmas.Simd.{zip2-map}
use Rattle.std.proofs.lemmas.Nat.{xor_of_8, xor_block, xor_shr, xor_mod}
use Rattle.crypto_model.proofs.Computed.{all_below}
use Rattle.crypto_model.specs.Field.{sub_byte, product, times, remainder}
use Rattle.aes_core.specs.Planes.{IsVector, lifted, turned}
use Rattle.aes_core.specs.Circuit.{IsBytes}
use Rattle.aes_core.proofs.TableFacts.{below_at_byte, sub_byte_below}
use Rattle.aes_core.proofs.Wires.{laid, both_same, gate_xor, wire_at, computed, lifted-map}
use Rattle.aes_core.proofs.Squares.{number, bit}
use Rattle.aes_core.proofs.Turns.{AreVectors, places, spread, spread_all, byte_of, column, eight, turned_twice, lifted_spread}

-- ---- vectors of bytes

each_below : (g : ℕ → ℕ) → ((j : ℕ) → g j < 256) → (js : List ℕ) → Each1 (λ x. x < 256) (map g js)
each_below g h [] = tt
each_below g h (j ∷ js) = (h j, each_below g h js)

row_below : (f : ℕ → ℕ) (x0 x1 x2 x3 x4 x5 x6 x7 : ℕ) → number f (x0 ∷ x1 ∷ x2 ∷ x3 ∷ x4 ∷ x5 ∷ x6 ∷ x7 ∷ []) < 256
row_below f x0 x1 x2 x3 x4 x5 x6 x7 = omega arith

pub lifted_vector : (f : ℕ → ℕ) (ws : List (List ℕ)) → AreVectors ws → IsVector (lifted f ws)
lifted_vector f ws h =
    let gs : List (ℕ → ℕ) = byte_of (get_or ws 0 []) ∷ byte_of (get_or ws 1 []) ∷ byte_of (get_or ws 2 []) ∷ byte_of (get_or ws 3 []) ∷ byte_of (get_or ws 4 []) ∷ byte_of (get_or ws 5 []) ∷ byte_of (get_or ws 6 []) ∷ byte_of (get_or ws 7 []) ∷ [] in
    subst IsVector (sym (lifted_spread f gs) ∙ ap (lifted f) (spread_all ws h))
    (refl, each_below (λ j. number f (column gs j)) (λ j. row_below f (byte_of (get_or ws 0 []) j) (byte_of (get_or ws 1 []) j) (byte_of (get_or ws 2 []) j) (byte_of (get_or ws 3 []) j) (byte_of (get_or ws 4 []) j) (byte_of (get_or ws 5 []) j) (byte_of (get_or ws 6 []) j) (byte_of (get_or ws 7 []) j)) places)

pub turned_vectors : (ws : List (List ℕ)) → AreVectors ws → AreVectors (turned ws)
unfolding turned
turned_vectors ws h = (refl, (lifted_vector (bit 0) ws h, (lifted_vector (bit 1) ws h, (lifted_vector (bit 2) ws h, (lifted_vector (bit 3) ws h, (lifted_vector (bit 4) ws h, (lifted_vector (bit 5) ws h, (lifted_vector (bit 6) ws h, (lifted_vector (bit 7) ws h, tt)))))))))

pub map_below : (g : ℕ → ℕ) → ((x : ℕ) → x < 256 → g x < 256) → (v : List ℕ) → Each1 (λ x. x < 256) v → Each1 (λ x. x < 256) (map g v)
map_below g h [] fits = tt
map_below g h (x ∷ v) fits = (h x fits.0, map_below g h v fits.1)

map_each : (g : ℕ → ℕ) → ((x : ℕ) → x < 256 → g x < 256) → (ws : List (List ℕ)) → Each1 IsVector ws → Each1 IsVector (map (map g) ws)
map_each g h [] fits = tt
map_each g h (w ∷ ws) fits = ((length-map w g ∙ fits.0.0, map_below g h w fits.0.1), map_each g h ws fits.1)

pub map_vectors : (g : ℕ → ℕ) → ((x : ℕ) → x < 256 → g x < 256) → (ws : List (List ℕ)) → AreVectors ws → AreVectors (map (map g) ws)
map_vectors g h ws fits = (length-map ws (map g) ∙ fits.0, map_each g h ws fits.1)

bytes_each : (ws : List (List ℕ)) → Each1 IsVector ws → IsBytes ws
bytes_each [] h = tt
bytes_each (w ∷ ws) h = (h.0.1, bytes_each ws h.1)

pub are_bytes : (ws : List (List ℕ)) → AreVectors ws → IsBytes ws
are_bytes ws h = bytes_each ws h.1

-- planes that are what g makes of the bytes of other planes
pub made_of : (g : ℕ → ℕ) → ((x : ℕ) → x < 256 → g x < 256) → (p r : List (List ℕ)) → AreVectors p → r ≡ turned (map (map g) (turned p)) → turned r ≡ map (map g) (turned p)
made_of g h p r v e = ap turned e ∙ turned_twice (map (map g) (turned p)) (map_vectors g h (turned p) (turned_vectors p v))

-- ---- the double

double_all : all_below (λ x. ltb (product 2 x) 256) 256 ≡ true
unfolding all_below product times remainder
double_all = refl

double_below : (x : ℕ) → x < 256 → product 2 x < 256
double_below = below_at_byte (product 2) double_all

abbrev double_bit : ℕ → ℕ → ℕ
double_bit k x = bit_at (product 2 x) k

doubled_bits : (vs a : List (List ℕ)) → IsBytes vs → a ≡ turned vs
    → get_or a 7 [] ∷ zip2 bit_xor (get_or a 0 []) (get_or a 7 []) ∷ get_or a 1 [] ∷ zip2 bit_xor (get_or a 2 []) (get_or a 7 [])
    ∷ zip2 bit_xor (get_or a 3 []) (get_or a 7 []) ∷ get_or a 4 [] ∷ get_or a 5 [] ∷ get_or a 6 [] ∷ [] ≡ turned (map (map (product 2)) vs)
unfolding turned all_below product times remainder
doubled_bits vs a fits e =
    both_same (wire_at 7 e ∙ computed _ (double_bit 0) vs fits refl ∙ sym (lifted-map (bit 0) (product 2) vs))
    (both_same (gate_xor _ _ vs (wire_at 0 e) (wire_at 7 e) ∙ computed _ (double_bit 1) vs fits refl ∙ sym (lifted-map (bit 1) (product 2) vs))
    (both_same (wire_at 1 e ∙ computed _ (double_bit 2) vs fits refl ∙ sym (lifted-map (bit 2) (product 2) vs))
    (both_same (gate_xor _ _ vs (wire_at 2 e) (wire_at 7 e) ∙ computed _ (double_bit 3) vs fits refl ∙ sym (lifted-map (bit 3) (product 2) vs))
    (both_same (gate_xor _ _ vs (wire_at 3 e) (wire_at 7 e) ∙ computed _ (double_bit 4) vs fits refl ∙ sym (lifted-map (bit 4) (product 2) vs))
    (both_same (wire_at 4 e ∙ computed _ (double_bit 5) vs fits refl ∙ sym (lifted-map (bit 5) (product 2) vs))
    (both_same (wire_at 5 e ∙ computed _ (double_bit 6) vs fits refl ∙ sym (lifted-map (bit 6) (product 2) vs))
    (both_same (wire_at 6 e ∙ computed _ (double_bit 7) vs fits refl ∙ sym (lifted-map (bit 7) (product 2) vs))
    (refl))))))))

pub doubled_is : (a r : List (List ℕ)) → AreVectors a
    → r ≡ get_or a 7 [] ∷ zip2 bit_xor (get_or a 0 []) (get_or a 7 []) ∷ get_or a 1 [] ∷ zip2 bit_xor (get_or a 2 []) (get_or a 7 [])
    ∷ zip2 bit_xor (get_or a 3 []) (get_or a 7 []) ∷ get_or a 4 [] ∷ get_or a 5 [] ∷ get_or a 6 [] ∷ [] → turned r ≡ map (map (product 2)) (turned a)
doubled_is a r h e =
    made_of (product 2) double_below a r h (e ∙ doubled_bits (turned a) a (are_bytes (turned a) (turned_vectors a h)) (sym (turned_twice a h)))

pub bare_below : (x : ℕ) → x < 256 → bit_xor (sub_byte x) 0x63 < 256
bare_below x lt = xor_of_8 (sub_byte x) 0x63 (sub_byte_below x) (lit< tt)

-- ---- sums

bit-sum : (k x y : ℕ) → bit k (bit_xor x y) % 2 ≡ bit_xor (bit k x % 2) (bit k y % 2)
bit-sum k x y =
    ap (λ (q : ℕ). q % 2 % 2) (xor_shr x y k) ∙ ap (λ (q : ℕ). q % 2) (xor_mod (x / 2 ^ k) (y / 2 ^ k) 1) ∙ xor_mod (bit k x) (bit k y) 1

laid-sum : (k x y p q : ℕ) → laid (bit k) (bit_xor x y) (bit_xor p q) ≡ bit_xor (laid (bit k) x p) (laid (bit k) y q)
laid-sum k x y p q =
    ap (λ (r : ℕ). bit_xor p q * 2 + r) (bit-sum k x y) ∙ sym (xor_block 1 p q (bit k x % 2) (bit k y % 2) (omega arith) (omega arith))

sum_step : (k : ℕ) (v w l m : List ℕ) → zip2 (laid (bit k)) (zip2 bit_xor v w) (zip2 bit_xor l m) ≡ zip2 bit_xor (zip2 (laid (bit k)) v l) (zip2 (laid (bit k)) w m)
sum_step k [] w l m = refl
sum_step k (x ∷ v) [] [] m = refl
sum_step k (x ∷ v) [] (p ∷ l) m = refl
sum_step k (x ∷ v) (y ∷ w) [] m = refl
sum_step k (x ∷ v) (y ∷ w) (p ∷ l) [] = refl
sum_step k (x ∷ v) (y ∷ w) (p ∷ l) (q ∷ m) = let e = laid-sum k x y p q in let r = sum_step k v w l m in rw (e, r) refl

lifted-sum : (k : ℕ) (a b : List (List ℕ)) → length a ≡ length b → lifted (bit k) (zip2 (zip2 bit_xor) a b) ≡ zip2 bit_xor (lifted (bit k) a) (lifted (bit k) b)
unfolding lifted
lifted-sum k [] [] h = refl
lifted-sum k [] (y ∷ b) h = absurd (omega arith)
lifted-sum k (x ∷ a) [] h = absurd (omega arith)
lifted-sum k (x ∷ a) (y ∷ b) h =
    ap (zip2 (laid (bit k)) (zip2 bit_xor x y)) (lifted-sum k a b (omega arith)) ∙ sum_step k x y (lifted (bit k) a) (lifted (bit k) b)

pub turned-sum : (a b : List (List ℕ)) → length a ≡ length b → turned (zip2 (zip2 bit_xor) a b) ≡ zip2 (zip2 bit_xor) (turned a) (turned b)
unfolding turned
turned-sum a b h =
    both_same (lifted-sum 0 a b h)
    (both_same (lifted-sum 1 a b h)
    (both_same (lifted-sum 2 a b h)
    (both_same (lifted-sum 3 a b h)
    (both_same (lifted-sum 4 a b h)
    (both_same (lifted-sum 5 a b h)
    (both_same (lifted-sum 6 a b h)
    (both_same (lifted-sum 7 a b h)
    (refl))))))))

pub added_is : (a b r : List (List ℕ)) → length a ≡ 8 → length b ≡ 8
    → r ≡ zip2 (zip2 bit_xor) (get_or a 0 [] ∷ get_or a 1 [] ∷ get_or a 2 [] ∷ get_or a 3 [] ∷ get_or a 4 [] ∷ get_or a 5 [] ∷ get_or a 6 [] ∷ get_or a 7 [] ∷ []) (get_or b 0 [] ∷ get_or b 1 [] ∷ get_or b 2 [] ∷ get_or b 3 [] ∷ get_or b 4 [] ∷ get_or b 5 [] ∷ get_or b 6 [] ∷ get_or b 7 [] ∷ []) → turned r ≡ zip2 (zip2 bit_xor) (turned a) (turned b)
added_is a b r la lb e =
    ap turned e ∙ ap (λ (l : List (List ℕ)). turned (zip2 (zip2 bit_xor) l (get_or b 0 [] ∷ get_or b 1 [] ∷ get_or b 2 [] ∷ get_or b 3 [] ∷ get_or b 4 [] ∷ get_or b 5 [] ∷ get_or b 6 [] ∷ get_or b 7 [] ∷ []))) (eight a la)
    ∙ ap (λ (l : List (List ℕ)). turned (zip2 (zip2 bit_xor) a l)) (eight b lb) ∙ turned-sum a b (la ∙ sym lb)

-- ---- shuffles

abbrev pub moved : List ℕ → List ℕ → List ℕ
moved js v = pick_l 0 v js

lifted_on : (js : List ℕ) → replicate {A = ℕ} 32 0 ≡ map (λ (j : ℕ). 0) js → (f : ℕ → ℕ) (gs : List (ℕ → ℕ)) → lifted f (map (λ g. map g js) gs) ≡ map (λ j. number f (column gs j)) js
unfolding lifted
lifted_on js none f [] = none
lifted_on js none f (g ∷ gs) = ap (zip2 (laid f) (map g js)) (lifted_on js none f gs) ∙ zip2-map (laid f) g (λ j. number f (column gs j)) js

module _ (js : List ℕ) (none : replicate {A = ℕ} 32 0 ≡ map (λ (j : ℕ). 0) js) (picked : (g : ℕ → ℕ) → moved js (spread g) ≡ map g js) where
  picked_all : (gs : List (ℕ → ℕ)) → map (moved js) (map spread gs) ≡ map (λ g. map g js) gs
  picked_all [] = refl
  picked_all (g ∷ gs) = both_same (picked g) (picked_all gs)

  lifted-moved : (f : ℕ → ℕ) (gs : List (ℕ → ℕ)) → lifted f (map (moved js) (map spread gs)) ≡ moved js (lifted f (map spread gs))
  lifted-moved f gs =
      ap (lifted f) (picked_all gs) ∙ lifted_on js none f gs ∙ sym (picked (λ j. number f (column gs j))) ∙ ap (moved js) (sym (lifted_spread f gs))

  turned-spread : (gs : List (ℕ → ℕ)) → turned (map (moved js) (map spread gs)) ≡ map (moved js) (turned (map spread gs))
  unfolding turned
  turned-spread gs =
      both_same (lifted-moved (bit 0) gs)
      (both_same (lifted-moved (bit 1) gs)
      (both_same (lifted-moved (bit 2) gs)
      (both_same (lifted-moved (bit 3) gs)
      (both_same (lifted-moved (bit 4) gs)
      (both_same (lifted-moved (bit 5) gs)
      (both_same (lifted-moved (bit 6) gs)
      (both_same (lifted-moved (bit 7) gs)
      (refl))))))))

  turned-moved : (ws : List (List ℕ)) → AreVectors ws → turned (map (moved js) ws) ≡ map (moved js) (turned ws)
  turned-moved ws h =
      let e = spread_all ws h in
      subst (λ (l : List (List ℕ)). turned (map (moved js) l) ≡ map (moved js) (turned l)) e (turned-spread (byte_of (get_or ws 0 []) ∷ byte_of (get_or ws 1 []) ∷ byte_of (get_or ws 2 []) ∷ byte_of (get_or ws 3 []) ∷ byte_of (get_or ws 4 []) ∷ byte_of (get_or ws 5 []) ∷ byte_of (get_or ws 6 []) ∷ byte_of (get_or ws 7 []) ∷ []))

  pub moved_is : (a : List (List ℕ)) → AreVectors a → (r0 r1 r2 r3 r4 r5 r6 r7 : List ℕ)
      → r0 ≡ moved js (get_or a 0 []) → r1 ≡ moved js (get_or a 1 []) → r2 ≡ moved js (get_or a 2 []) → r3 ≡ moved js (get_or a 3 []) → r4 ≡ moved js (get_or a 4 []) → r5 ≡ moved js (get_or a 5 []) → r6 ≡ moved js (get_or a 6 []) → r7 ≡ moved js (get_or a 7 [])
      → turned (r0 ∷ r1 ∷ r2 ∷ r3 ∷ r4 ∷ r5 ∷ r6 ∷ r7 ∷ []) ≡ map (moved js) (turned a)
  moved_is a h r0 r1 r2 r3 r4 r5 r6 r7 e0 e1 e2 e3 e4 e5 e6 e7 =
      let all : r0 ∷ r1 ∷ r2 ∷ r3 ∷ r4 ∷ r5 ∷ r6 ∷ r7 ∷ [] ≡ map (moved js) (get_or a 0 [] ∷ get_or a 1 [] ∷ get_or a 2 [] ∷ get_or a 3 [] ∷ get_or a 4 [] ∷ get_or a 5 [] ∷ get_or a 6 [] ∷ get_or a 7 [] ∷ []) =
      both_same (e0)
      (both_same (e1)
      (both_same (e2)
      (both_same (e3)
      (both_same (e4)
      (both_same (e5)
      (both_same (e6)
      (both_same (e7)
      (refl)))))))) in
      ap turned (all ∙ ap (map (moved js)) (eight a h.0)) ∙ turned-moved a h
