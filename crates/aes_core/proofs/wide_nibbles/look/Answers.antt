use Rattle.std.proofs.Common.{◌+◌, ◌*◌, ◌/◌, ◌<◌, List, ℕ, get_or, length, cond, leb, refl, sym, ap, ◌∙◌, arith, w8}
use Rattle.std.proofs.lemmas.List.{get_or-map, length-map, ext_get_or}
use Rattle.std.proofs.lemmas.Simd.{SwzOk-from_Each1, length-swz_l, get_or-swz_l, Each1-get_or}
use Rattle.aes_core.specs.Nibbles.{IsPlace, read}
use Rattle.aes_core.proofs.Maps.{half_read}
use Rattle.aes_core.proofs.wide_nibbles.look.Goals as goal

pub swizzle : goal.swizzle
swizzle c = SwzOk-from_Each1 w8 16 2 32 0 c.args.places refl (omega (arith, c.fits-places.0)) c.requires

pub returns : goal.returns
returns c =
    let v = c.args.places in
    let table = c.args.table in
    let wide = c.twice.result in
    let long = c.fits-places.0 in
    ext_get_or 0 _ _ (length-swz_l w8 16 wide 0 v ∙ sym (length-map v (read table))) (λ i h.
    let lt : i < length v = omega (arith, length-swz_l w8 16 wide 0 v) in
    get_or-swz_l w8 16 wide 0 v i lt
    ∙ ap (λ (l : List ℕ). cond (leb 128 (get_or v i 0)) 0 (get_or l (16 * ((0 + i) / 16) + get_or v i 0) 0)) c.twice.ensures
    ∙ half_read table (get_or v i 0) ((0 + i) / 16) c.fits-table.0 (omega (arith, long)) (Each1-get_or IsPlace v i 0 lt c.requires)
    ∙ sym (get_or-map (read table) v i 0 0 lt))
