-- A cut that moves an end.
use Rattle.std.proofs.Common.{◌≡◌, ℕ, ◌+◌, ◌-◌, ◌≤◌, List, [], ◌++◌, length, take, drop, replicate, refl, sym, ap, ◌∙◌, append_assoc, arith, length-append, length-drop}
use mathlib.Core.List.{append-nil}
use Rattle.std.proofs.lemmas.List.{length-take-le, take-append-drop, length-replicate}
use Rattle.seg_list.specs.Buffer.{Buffer, bytes_of, cut_at, with_data, relaid_at}
use Rattle.crypto_model.specs.Chain.{laid_at}
use Rattle.seg_list.proofs.Cuts.{cut_at-bytes_of, laid_at-split}
use Rattle.seg_list.proofs.Laid.{relaid_at-within}
use Rattle.mbuf_chain.specs.Ends.{cut_back, cut_front, zeros_before, zeros_behind}

pub cut-as : (b c : Buffer) (k j : ℕ) → bytes_of c ≡ bytes_of b → length c.before ≡ k → length c.body ≡ j → cut_at k j (bytes_of b) ≡ c
cut-as b c k j e ek ej =
    ap (λ xs. cut_at k j xs) (sym e) ∙ ap (λ i. cut_at i j (bytes_of c)) (sym ek) ∙ ap (λ i. cut_at (length c.before) i (bytes_of c)) (sym ej) ∙ cut_at-bytes_of c

pub cut_front-is : (n : ℕ) (b : Buffer) → n ≤ length b.body → cut_at (length b.before + n) (length b.body - n) (bytes_of b) ≡ cut_front n b
cut_front-is n b fits =
    cut-as b (cut_front n b) (length b.before + n) (length b.body - n)
    (ap (λ ys. ys ++ b.after) (append_assoc b.before (take n b.body) (drop n b.body) ∙ ap (λ ys. b.before ++ ys) (take-append-drop n b.body)))
    (length-append b.before (take n b.body) ∙ ap (λ k. length b.before + k) (length-take-le n b.body fits)) (length-drop n b.body)

pub zeros_behind-is : (n : ℕ) (b : Buffer) → n ≤ length b.after → relaid_at (length b.body) (cut_at (length b.before) (length b.body + n) (bytes_of b)) (replicate n 0) ≡ zeros_behind n b
zeros_behind-is n b fits =
    let zeros : List ℕ = replicate n 0 in
    let few : length (take n b.after) ≡ n = length-take-le n b.after fits in
    let many : length zeros ≡ n = length-replicate {A = ℕ} n 0 in
    let c : Buffer = record { before = b.before; body = b.body ++ take n b.after; after = drop n b.after } in
    let long : length c.body ≡ length b.body + n = length-append b.body (take n b.after) ∙ ap (λ k. length b.body + k) few in
    ap (λ x. relaid_at (length b.body) x zeros)
    (cut-as b c (length b.before) (length b.body + n)
    (append_assoc (b.before) (b.body ++ take n b.after) (drop n b.after) ∙ ap (λ ys. b.before ++ ys) (append_assoc b.body (take n b.after) (drop n b.after) ∙ ap (λ ys. b.body ++ ys) (take-append-drop n b.after)) ∙ sym (append_assoc b.before b.body b.after))
    refl long)
    ∙ relaid_at-within (length b.body) c zeros (omega arith)
    ∙ ap (λ ys. with_data c ys)
    (ap (λ ys. laid_at (length b.body) zeros (b.body ++ ys)) (sym (append-nil (take n b.after))) ∙ laid_at-split b.body (take n b.after) [] zeros (few ∙ sym many) ∙ ap (λ ys. b.body ++ ys) (append-nil zeros))

pub zeros_behind-room : (n : ℕ) (b : Buffer) → n ≤ length b.after → length (cut_at (length b.before) (length b.body + n) (bytes_of b)).body ≡ length b.body + n
zeros_behind-room n b fits =
    length-take-le (length b.body + n) (drop (length b.before) (bytes_of b))
    (omega (arith, length-drop (length b.before) (bytes_of b), length-append (b.before ++ b.body) b.after, length-append b.before b.body))

pub cut_back-is : (n : ℕ) (b : Buffer) → n ≤ length b.body → cut_at (length b.before) (length b.body - n) (bytes_of b) ≡ cut_back n b
cut_back-is n b fits =
    let j = length b.body - n in
    cut-as b (cut_back n b) (length b.before) j
    (sym (append_assoc (b.before ++ take j b.body) (drop j b.body) b.after)
    ∙ ap (λ ys. ys ++ b.after) (append_assoc b.before (take j b.body) (drop j b.body) ∙ ap (λ ys. b.before ++ ys) (take-append-drop j b.body)))
    refl (length-take-le j b.body (omega arith))

pub zeros_before-is : (n : ℕ) (b : Buffer) → n ≤ length b.before
    → relaid_at 0 (cut_at (length b.before - n) (length b.body + n) (bytes_of b)) (replicate n 0) ≡ zeros_before n b
zeros_before-is n b fits =
    let k = length b.before - n in
    let zeros : List ℕ = replicate n 0 in
    let few : length (drop k b.before) ≡ n = length-drop k b.before ∙ omega arith in
    let many : length zeros ≡ n = length-replicate {A = ℕ} n 0 in
    let c : Buffer = record { before = take k b.before; body = drop k b.before ++ b.body; after = b.after } in
    let long : length c.body ≡ length b.body + n = omega (arith, length-append (drop k b.before) b.body) in
    ap (λ x. relaid_at 0 x zeros)
    (cut-as b c k (length b.body + n)
    (ap (λ ys. ys ++ b.after) (sym (append_assoc (take k b.before) (drop k b.before) b.body) ∙ ap (λ ys. ys ++ b.body) (take-append-drop k b.before)))
    (length-take-le k b.before (omega arith)) long)
    ∙ relaid_at-within 0 c zeros (omega (arith, length-append (drop k b.before) b.body))
    ∙ ap (λ ys. with_data c ys) (laid_at-split [] (drop k b.before) b.body zeros (few ∙ sym many))

pub zeros_before-room : (n : ℕ) (b : Buffer) → n ≤ length b.before → length (cut_at (length b.before - n) (length b.body + n) (bytes_of b)).body ≡ length b.body + n
zeros_before-room n b fits =
    length-take-le (length b.body + n) (drop (length b.before - n) (bytes_of b))
    (omega (arith, length-drop (length b.before - n) (bytes_of b), length-append (b.before ++ b.body) b.after, length-append b.before b.body))
