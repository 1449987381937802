-- Bits that gates compute at each place of eight vectors.
use Rattle.std.proofs.Common.{◌≡◌, ℕ, ◌+◌, ◌*◌, ◌%◌, ◌<◌, Bool, true, eqb, List, [], ◌∷◌, get_or, map, refl, ap, sym, ◌∙◌, arith, bit_and, bit_xor, eqb-true}
use Rattle.std.proofs.lemmas.Nat.{xor_block, and_block, xor_mod, and_mod}
use Rattle.std.specs.Simd.Lanes.{zip2, Each1}
use Rattle.crypto_model.proofs.Computed.{all_below, all_below_at}
use Rattle.aes_core.specs.Planes.{lifted}
use Rattle.aes_core.specs.Circuit.{IsBytes}

abbrev pub laid : (ℕ → ℕ) → ℕ → ℕ → ℕ
laid f x y = y * 2 + f x % 2

laid-xor : (f g : ℕ → ℕ) (x y z : ℕ) → bit_xor (laid f x y) (laid g x z) ≡ laid (λ q. bit_xor (f q) (g q)) x (bit_xor y z)
laid-xor f g x y z =
    xor_block 1 y z (f x % 2) (g x % 2) (omega arith) (omega arith) ∙ ap (λ (q : ℕ). bit_xor y z * 2 + q) (sym (xor_mod (f x) (g x) 1))

laid-and : (f g : ℕ → ℕ) (x y z : ℕ) → bit_and (laid f x y) (laid g x z) ≡ laid (λ q. bit_and (f q) (g q)) x (bit_and y z)
laid-and f g x y z =
    and_block 1 y z (f x % 2) (g x % 2) (omega arith) (omega arith) ∙ ap (λ (q : ℕ). bit_and y z * 2 + q) (sym (and_mod (f x) (g x) 1))

xor_step : (f g : ℕ → ℕ) (v l m : List ℕ) → zip2 bit_xor (zip2 (laid f) v l) (zip2 (laid g) v m) ≡ zip2 (laid (λ q. bit_xor (f q) (g q))) v (zip2 bit_xor l m)
xor_step f g [] l m = refl
xor_step f g (x ∷ v) [] m = refl
xor_step f g (x ∷ v) (y ∷ l) [] = refl
xor_step f g (x ∷ v) (y ∷ l) (z ∷ m) = rw (laid-xor f g x y z, xor_step f g v l m) refl

and_step : (f g : ℕ → ℕ) (v l m : List ℕ) → zip2 bit_and (zip2 (laid f) v l) (zip2 (laid g) v m) ≡ zip2 (laid (λ q. bit_and (f q) (g q))) v (zip2 bit_and l m)
and_step f g [] l m = refl
and_step f g (x ∷ v) [] m = refl
and_step f g (x ∷ v) (y ∷ l) [] = refl
and_step f g (x ∷ v) (y ∷ l) (z ∷ m) = rw (laid-and f g x y z, and_step f g v l m) refl

lifted-xor : (f g : ℕ → ℕ) (vs : List (List ℕ)) → zip2 bit_xor (lifted f vs) (lifted g vs) ≡ lifted (λ q. bit_xor (f q) (g q)) vs
unfolding lifted
lifted-xor f g [] = refl
lifted-xor f g (v ∷ vs) = xor_step f g v (lifted f vs) (lifted g vs) ∙ ap (zip2 (laid (λ q. bit_xor (f q) (g q))) v) (lifted-xor f g vs)

lifted-and : (f g : ℕ → ℕ) (vs : List (List ℕ)) → zip2 bit_and (lifted f vs) (lifted g vs) ≡ lifted (λ q. bit_and (f q) (g q)) vs
unfolding lifted
lifted-and f g [] = refl
lifted-and f g (v ∷ vs) = and_step f g v (lifted f vs) (lifted g vs) ∙ ap (zip2 (laid (λ q. bit_and (f q) (g q))) v) (lifted-and f g vs)

-- gates at two wires
pub gate_xor : (f g : ℕ → ℕ) (vs : List (List ℕ)) {a b : List ℕ} → a ≡ lifted f vs → b ≡ lifted g vs → zip2 bit_xor a b ≡ lifted (λ q. bit_xor (f q) (g q)) vs
gate_xor f g vs {a} {b} d e = ap (λ (l : List ℕ). zip2 bit_xor l b) d ∙ ap (zip2 bit_xor (lifted f vs)) e ∙ lifted-xor f g vs

pub gate_and : (f g : ℕ → ℕ) (vs : List (List ℕ)) {a b : List ℕ} → a ≡ lifted f vs → b ≡ lifted g vs → zip2 bit_and a b ≡ lifted (λ q. bit_and (f q) (g q)) vs
gate_and f g vs {a} {b} d e = ap (λ (l : List ℕ). zip2 bit_and l b) d ∙ ap (zip2 bit_and (lifted f vs)) e ∙ lifted-and f g vs

-- one of some wires
pub wire_at : {xs ys : List (List ℕ)} → (i : ℕ) → xs ≡ ys → get_or xs i [] ≡ get_or ys i []
wire_at i e = ap (λ (l : List (List ℕ)). get_or l i []) e

pub both_same : {x y : List ℕ} {xs ys : List (List ℕ)} → x ≡ y → xs ≡ ys → x ∷ xs ≡ y ∷ ys
both_same {x} {y} {xs} {ys} d e = ap (λ (l : List ℕ). l ∷ xs) d ∙ ap (λ (l : List (List ℕ)). y ∷ l) e

same_step : (f g : ℕ → ℕ) (v l : List ℕ) → Each1 (λ x. x < 256) v → ((x : ℕ) → x < 256 → f x % 2 ≡ g x % 2) → zip2 (laid f) v l ≡ zip2 (laid g) v l
same_step f g [] l fits h = refl
same_step f g (x ∷ v) [] fits h = refl
same_step f g (x ∷ v) (y ∷ l) fits h = rw (h x fits.0, same_step f g v l fits.1 h) refl

-- two functions that agree at the bytes
pub lifted_same : (f g : ℕ → ℕ) (vs : List (List ℕ)) → IsBytes vs → ((x : ℕ) → x < 256 → f x % 2 ≡ g x % 2) → lifted f vs ≡ lifted g vs
unfolding lifted
lifted_same f g [] fits h = refl
lifted_same f g (v ∷ vs) fits h =
    same_step f g v (lifted f vs) fits.0 h ∙ ap (zip2 (laid g) v) (lifted_same f g vs fits.1 h)

abbrev pub same_bit : (ℕ → ℕ) → (ℕ → ℕ) → ℕ → Bool
same_bit f g x = eqb (f x % 2) (g x % 2)

pub computed : (f g : ℕ → ℕ) (vs : List (List ℕ)) → IsBytes vs → all_below (same_bit f g) 256 ≡ true → lifted f vs ≡ lifted g vs
computed f g vs fits all = lifted_same f g vs fits (λ x lt. eqb-true _ _ (all_below_at (same_bit f g) 256 all x lt))

map_step : (f g : ℕ → ℕ) (v l : List ℕ) → zip2 (laid f) (map g v) l ≡ zip2 (laid (λ x. f (g x))) v l
map_step f g [] l = refl
map_step f g (x ∷ v) [] = refl
map_step f g (x ∷ v) (y ∷ l) = rw (map_step f g v l) refl

-- the bits of what g makes of the bytes
pub lifted-map : (f g : ℕ → ℕ) (vs : List (List ℕ)) → lifted f (map (map g) vs) ≡ lifted (λ x. f (g x)) vs
unfolding lifted
lifted-map f g [] = refl
lifted-map f g (v ∷ vs) = map_step f g v (lifted f (map (map g) vs)) ∙ ap (zip2 (laid (λ x. f (g x))) v) (lifted-map f g vs)
