use Rattle.std.proofs.Common.{◌≡◌, ℕ, ◌+◌, ◌-◌, ◌≤◌, List, [], ◌∷◌, ◌++◌, length, sym, ap, ◌∙◌, arith, length-append}
use mathlib.Core.List.{append-nil}
use Rattle.std.specs.Prelude.{map}
use Rattle.std.specs.Map.Iter.{deref}
use Rattle.std.proofs.lemmas.Map.Iter.{rest_so_far}
use Rattle.std.proofs.lemmas.Grind.{flat_map-append}
use Rattle.std.proofs.lemmas.List.{map-append, take_all}
use Rattle.std.proofs.lemmas.Slice.{take-put_mid}
use Rattle.mbuf_chain.specs.Pieces.{joined}
use Rattle.mbuf_chain.proofs.piece_iter.copy_out.Goals as goal

joined-push : (xss : List (List ℕ)) (xs : List ℕ) → joined (xss ++ xs ∷ []) ≡ joined xss ++ xs
joined-push xss xs = flat_map-append (λ (ys : List ℕ). ys) xss (xs ∷ []) ∙ ap (λ (ys : List ℕ). joined xss ++ ys) (append-nil xs)

-- a piece that is left has its room
room : (pieces front back : List (List ℕ)) (xs : List ℕ) (n done : ℕ) → pieces ≡ front ++ xs ∷ back → length (joined pieces) ≡ n → done ≡ length (joined front) → done + length xs ≤ n
room pieces front back xs n done all size far =
    omega (
      arith,
      size,
      far,
      ap (λ (l : List (List ℕ)). length (joined l)) all,
      ap length (flat_map-append (λ (ys : List ℕ). ys) front (xs ∷ back)),
      length-append (joined front) (xs ++ joined back),
      length-append xs (joined back),
    )

pub slice_bounds-copy_from_slice-end : goal.slice_bounds-copy_from_slice-end
slice_bounds-copy_from_slice-end c =
    let so_far = rest_so_far deref _ _ _ c.loop-piece.yielded_by in
    let all = sym c.into_iter-piece-iterator.ensures.into_iter_gives ∙ so_far ∙ ap (λ (l : List (List ℕ)). map deref c.loop-piece.yielded ++ l) c.in-Some.ensures.steps in
    let fits = room c.args.pieces (map deref c.loop-piece.yielded) c.next.new.self c.in-Some.piece.now (length c.args.out.now) c.loop-piece.done all c.requires c.loop-piece.invariant.1 in
    omega (arith, fits, c.loop-piece.auto.out)

pub loop-piece-preserved : goal.loop-piece-preserved
loop-piece-preserved c =
    let so_far = rest_so_far deref _ _ _ c.loop-piece.yielded_by in
    let all = sym c.into_iter-piece-iterator.ensures.into_iter_gives ∙ so_far ∙ ap (λ (l : List (List ℕ)). map deref c.loop-piece.yielded ++ l) c.in-Some.ensures.steps in
    let front : List (List ℕ) = map deref c.loop-piece.yielded in
    let piece = c.in-Some.piece.now in
    let done = c.loop-piece.done in
    let w = c.copy_from_slice.new.self in
    let fits = room c.args.pieces front c.next.new.self piece (length c.args.out.now) done all c.requires c.loop-piece.invariant.1 in
    let more : joined (map deref (c.loop-piece.yielded ++ c.in-Some.piece ∷ [])) ≡ joined front ++ piece =
    ap joined (map-append deref c.loop-piece.yielded (c.in-Some.piece ∷ [])) ∙ joined-push front piece in
    let same : w ≡ piece = c.copy_from_slice.ensures.after in (
      take-put_mid done (done + length piece - done) c.loop-piece.out w (done + length piece) (ap (λ (ys : List ℕ). done + length ys) (sym same)) (omega (arith, fits, c.loop-piece.auto.out))
          ∙ ap (λ (ys : List ℕ). ys ++ w) c.loop-piece.invariant.0 ∙ ap (λ (ys : List ℕ). joined front ++ ys) same ∙ sym more,
      omega (arith, c.loop-piece.invariant.1, length-append (joined front) piece, ap length more),
    )

pub returns : goal.returns
returns c =
    let so_far = rest_so_far deref _ _ _ c.loop-piece.yielded_by in
    let front : List (List ℕ) = map deref c.loop-piece.yielded in
    let all : c.args.pieces ≡ front =
    sym c.into_iter-piece-iterator.ensures.into_iter_gives ∙ so_far ∙ ap (λ (l : List (List ℕ)). front ++ l) c.in-None.ensures.steps.0 ∙ append-nil front in
    sym (take_all c.loop-piece.done c.loop-piece.out (omega (arith, c.loop-piece.invariant.1, ap (λ (l : List (List ℕ)). length (joined l)) all, c.requires, c.loop-piece.auto.out)))
    ∙ c.loop-piece.invariant.0 ∙ ap joined (sym all)
