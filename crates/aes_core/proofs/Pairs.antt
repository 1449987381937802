-- A round on vectors of two blocks.
use Rattle.std.proofs.Common.{◌≡◌, ℕ, List, [], ◌∷◌, ◌++◌, length, map, get_or, take, drop, replicate, refl, ap, sym, subst, ◌∙◌, arith, bit_xor, length-drop}
use Rattle.std.proofs.lemmas.List.{take-append-drop, map-append, length-take-le, length-map}
use Rattle.std.specs.Simd.Lanes.{Each1, zip2}
use Rattle.crypto_model.specs.Field.{product, sub_byte}
use Rattle.crypto_model.specs.Aes.{listed, sub_bytes, shift_rows, mix_columns, add_round_key}
use Rattle.aes_core.specs.Planes.{IsVector, left_rows, left_rows_up, two_down}
use Rattle.aes_core.specs.Bitslice.{pairwise}
use Rattle.aes_core.proofs.Steps.{moved}
use Rattle.aes_core.proofs.Doubles.{row_of_sums, row_of_sums_is, apart}
use Rattle.aes_core.proofs.Keys.{cancelled}
use Rattle.aes_core.proofs.Rows.{named, named_is, bare, row, laid, round_laid}

abbrev pub tinted : List ℕ → List ℕ
tinted k = map (λ x. bit_xor x 0x63) k

untinted : (k : List ℕ) → tinted (tinted k) ≡ k
untinted [] = refl
untinted (x ∷ k) = let e = cancelled x in let r = untinted k in rw (e, r) refl

-- ---- one vector

abbrev sums : List ℕ → List ℕ
sums w = zip2 bit_xor (moved left_rows (map bare w)) (moved left_rows_up (map bare w))

abbrev pub round_of : List ℕ → List ℕ → List ℕ
round_of key w = zip2 bit_xor (map (product 2) (sums w)) (zip2 bit_xor (zip2 bit_xor (moved left_rows_up (map bare w)) (moved two_down (sums w))) key)

abbrev pub last_of : List ℕ → List ℕ → List ℕ
last_of key w = zip2 bit_xor (moved left_rows (map bare w)) key

round_made : (s t k : ℕ → ℕ) → round_of (named k ++ named k) (named s ++ named t) ≡ laid row_of_sums s k ++ laid row_of_sums t k
round_made s t k = refl

round_named : (s k : ℕ → ℕ) → laid row_of_sums s k ≡ add_round_key (tinted (named k)) 0 (mix_columns (shift_rows (sub_bytes (named s))))
round_named s k =
    let e : ◌≡◌ {A = ℕ → ℕ → ℕ → ℕ → ℕ → ℕ} row_of_sums row = λ i a b c d m. row_of_sums_is a b c d m i in
    ap (λ (f : ℕ → ℕ → ℕ → ℕ → ℕ → ℕ). laid f s k) e ∙ round_laid s k

abbrev last_row : ℕ → ℕ → ℕ → ℕ → ℕ → ℕ
last_row a b c d q = bit_xor (bare a) q

abbrev plain_row : ℕ → ℕ → ℕ → ℕ → ℕ → ℕ
plain_row a b c d q = bit_xor (sub_byte a) (bit_xor q 0x63)

last_row_is : (a b c d q : ℕ) → last_row a b c d q ≡ plain_row a b c d q
last_row_is a b c d q = ap (bit_xor (bare a)) (sym (cancelled q)) ∙ apart (sub_byte a) (bit_xor q 0x63) 0x63

last_made : (s t k : ℕ → ℕ) → last_of (named k ++ named k) (named s ++ named t) ≡ laid last_row s k ++ laid last_row t k
last_made s t k = refl

last_laid : (s k : ℕ → ℕ) → laid plain_row s k ≡ add_round_key (tinted (named k)) 0 (shift_rows (sub_bytes (named s)))
unfolding add_round_key shift_rows sub_bytes listed
last_laid s k = refl

last_named : (s k : ℕ → ℕ) → laid last_row s k ≡ add_round_key (tinted (named k)) 0 (shift_rows (sub_bytes (named s)))
last_named s k =
    let e : ◌≡◌ {A = ℕ → ℕ → ℕ → ℕ → ℕ → ℕ} last_row plain_row = λ i a b c d m. last_row_is a b c d m i in
    ap (λ (f : ℕ → ℕ → ℕ → ℕ → ℕ → ℕ). laid f s k) e ∙ last_laid s k

first_laid : (s t k : ℕ → ℕ) → zip2 bit_xor (named s ++ named t) (named k ++ named k) ≡ add_round_key (named k) 0 (named s) ++ add_round_key (named k) 0 (named t)
unfolding add_round_key listed
first_laid s t k = refl

-- a fact on written lists, of any two blocks and any key
pub on_any : (F : List ℕ → List ℕ → List ℕ) (G : List ℕ → List ℕ → List ℕ)
    → ((s t k : ℕ → ℕ) → F (named k ++ named k) (named s ++ named t) ≡ G (named k) (named s) ++ G (named k) (named t))
    → (w q : List ℕ) → length w ≡ 32 → length q ≡ 16 → F (q ++ q) w ≡ pairwise (G q) w
on_any F G h w q lw lq =
    let x = take 16 w in
    let y = drop 16 w in
    let lx : length x ≡ 16 = length-take-le 16 w (omega arith) in
    let ly : length y ≡ 16 = omega (arith, length-drop 16 w) in
    let e : F (named (λ i. get_or q i 0) ++ named (λ i. get_or q i 0)) (named (λ i. get_or x i 0) ++ named (λ i. get_or y i 0))
    ≡ G (named (λ i. get_or q i 0)) (named (λ i. get_or x i 0)) ++ G (named (λ i. get_or q i 0)) (named (λ i. get_or y i 0)) =
    h (λ i. get_or x i 0) (λ i. get_or y i 0) (λ i. get_or q i 0) in
    let eq = named_is q lq in
    let ex = named_is x lx in
    let ey = named_is y ly in
    let f : F (q ++ q) (x ++ y) ≡ G q x ++ G q y =
    subst (λ (z : List ℕ). F (z ++ z) (x ++ y) ≡ G z x ++ G z y) eq
    (subst (λ (z : List ℕ). F (named (λ i. get_or q i 0) ++ named (λ i. get_or q i 0)) (z ++ y) ≡ G (named (λ i. get_or q i 0)) z ++ G (named (λ i. get_or q i 0)) y) ex
    (subst (λ (z : List ℕ). F (named (λ i. get_or q i 0) ++ named (λ i. get_or q i 0)) (named (λ i. get_or x i 0) ++ z)
    ≡ G (named (λ i. get_or q i 0)) (named (λ i. get_or x i 0)) ++ G (named (λ i. get_or q i 0)) z) ey e)) in
    ap (F (q ++ q)) (sym (take-append-drop 16 w)) ∙ f

abbrev pub standard_round : List ℕ → List ℕ → List ℕ
standard_round k s = add_round_key k 0 (mix_columns (shift_rows (sub_bytes s)))

abbrev pub standard_last : List ℕ → List ℕ → List ℕ
standard_last k s = add_round_key k 0 (shift_rows (sub_bytes s))

-- with a key that brings the constant of SubBytes
tinted_key : (F : List ℕ → List ℕ → List ℕ) (G : List ℕ → List ℕ → List ℕ)
    → ((w q : List ℕ) → length w ≡ 32 → length q ≡ 16 → F (q ++ q) w ≡ pairwise (G (tinted q)) w)
    → (k w : List ℕ) → length k ≡ 16 → length w ≡ 32 → F (tinted (k ++ k)) w ≡ pairwise (G k) w
tinted_key F G h k w lk lw =
    ap (λ (q : List ℕ). F q w) (map-append (λ x. bit_xor x 0x63) k k) ∙ h w (tinted k) lw (length-map k (λ x. bit_xor x 0x63) ∙ lk)
    ∙ ap (λ (q : List ℕ). pairwise (G q) w) (untinted k)

pub round_of_is : (k w : List ℕ) → length k ≡ 16 → length w ≡ 32 → round_of (tinted (k ++ k)) w ≡ pairwise (standard_round k) w
round_of_is = tinted_key round_of standard_round (on_any round_of (λ q. standard_round (tinted q)) (λ s t k.
    round_made s t k ∙ ap (λ (l : List ℕ). l ++ laid row_of_sums t k) (round_named s k)
    ∙ ap (λ (l : List ℕ). standard_round (tinted (named k)) (named s) ++ l) (round_named t k)))

pub last_of_is : (k w : List ℕ) → length k ≡ 16 → length w ≡ 32 → last_of (tinted (k ++ k)) w ≡ pairwise (standard_last k) w
last_of_is = tinted_key last_of standard_last (on_any last_of (λ q. standard_last (tinted q)) (λ s t k.
    last_made s t k ∙ ap (λ (l : List ℕ). l ++ laid last_row t k) (last_named s k)
    ∙ ap (λ (l : List ℕ). standard_last (tinted (named k)) (named s) ++ l) (last_named t k)))

pub first_of_is : (k w : List ℕ) → length k ≡ 16 → length w ≡ 32 → zip2 bit_xor w (k ++ k) ≡ pairwise (add_round_key k 0) w
first_of_is k w lk lw = on_any (λ q v. zip2 bit_xor v q) (λ q s. add_round_key q 0 s) first_laid w k lw lk

-- ---- some vectors

abbrev plus : List (List ℕ) → List (List ℕ) → List (List ℕ)
plus = zip2 (zip2 bit_xor)

each_is : (F G : List ℕ → List ℕ) → ((w : List ℕ) → length w ≡ 32 → F w ≡ G w) → (ws : List (List ℕ)) → Each1 IsVector ws → map F ws ≡ map G ws
each_is F G h [] fits = refl
each_is F G h (w ∷ ws) fits = let e = h w fits.0.0 in let r = each_is F G h ws fits.1 in rw (e, r) refl

rounds_each : (key : List ℕ) (ws : List (List ℕ)) → (let b = map (map bare) ws in let s = plus (map (moved left_rows) b) (map (moved left_rows_up) b) in
    plus (map (map (product 2)) s) (plus (plus (map (moved left_rows_up) b) (map (moved two_down) s)) (replicate (length ws) key))) ≡ map (round_of key) ws
rounds_each key [] = refl
rounds_each key (w ∷ ws) = ap (λ (l : List (List ℕ)). round_of key w ∷ l) (rounds_each key ws)

lasts_each : (key : List ℕ) (ws : List (List ℕ)) → plus (map (moved left_rows) (map (map bare) ws)) (replicate (length ws) key) ≡ map (last_of key) ws
lasts_each key [] = refl
lasts_each key (w ∷ ws) = ap (λ (l : List (List ℕ)). last_of key w ∷ l) (lasts_each key ws)

firsts_each : (key : List ℕ) (ws : List (List ℕ)) → plus ws (replicate (length ws) key) ≡ map (λ w. zip2 bit_xor w key) ws
firsts_each key [] = refl
firsts_each key (w ∷ ws) = ap (λ (l : List (List ℕ)). zip2 bit_xor w key ∷ l) (firsts_each key ws)

pub round_is : (k : List ℕ) (ws b up left s half rest key sum double out : List (List ℕ)) → length k ≡ 16 → length ws ≡ 8 → Each1 IsVector ws
    → b ≡ map (map bare) ws → up ≡ map (moved left_rows_up) b → left ≡ map (moved left_rows) b → s ≡ plus left up
    → half ≡ map (moved two_down) s → rest ≡ plus up half → key ≡ replicate 8 (tinted (k ++ k)) → sum ≡ plus rest key
    → double ≡ map (map (product 2)) s → out ≡ plus double sum → out ≡ map (pairwise (standard_round k)) ws
round_is k ws b up left s half rest key sum double out lk lw fits eb eu el es eh er ek em ed eo =
    let n : replicate 8 (tinted (k ++ k)) ≡ replicate (length ws) (tinted (k ++ k)) = ap (λ (i : ℕ). replicate i (tinted (k ++ k))) (sym lw) in
    rw (eo, ed, em, ek, er, eh, es, el, eu, eb, n) (rounds_each (tinted (k ++ k)) ws)
    ∙ each_is (round_of (tinted (k ++ k))) (pairwise (standard_round k)) (λ w l. round_of_is k w lk l) ws fits

pub last_is : (k : List ℕ) (ws b left key out : List (List ℕ)) → length k ≡ 16 → length ws ≡ 8 → Each1 IsVector ws
    → b ≡ map (map bare) ws → left ≡ map (moved left_rows) b → key ≡ replicate 8 (tinted (k ++ k)) → out ≡ plus left key → out ≡ map (pairwise (standard_last k)) ws
last_is k ws b left key out lk lw fits eb el ek eo =
    let n : replicate 8 (tinted (k ++ k)) ≡ replicate (length ws) (tinted (k ++ k)) = ap (λ (i : ℕ). replicate i (tinted (k ++ k))) (sym lw) in
    rw (eo, ek, el, eb, n) (lasts_each (tinted (k ++ k)) ws)
    ∙ each_is (last_of (tinted (k ++ k))) (pairwise (standard_last k)) (λ w l. last_of_is k w lk l) ws fits

pub first_is : (k : List ℕ) (ws key out : List (List ℕ)) → length k ≡ 16 → length ws ≡ 8 → Each1 IsVector ws
    → key ≡ replicate 8 (k ++ k) → out ≡ plus ws key → out ≡ map (pairwise (add_round_key k 0)) ws
first_is k ws key out lk lw fits ek eo =
    let n : replicate 8 (k ++ k) ≡ replicate (length ws) (k ++ k) = ap (λ (i : ℕ). replicate i (k ++ k)) (sym lw) in
    rw (eo, ek, n) (firsts_each (k ++ k) ws)
    ∙ each_is (λ w. zip2 bit_xor w (k ++ k)) (pairwise (add_round_key k 0)) (λ w l. first_of_is k w lk l) ws fits
