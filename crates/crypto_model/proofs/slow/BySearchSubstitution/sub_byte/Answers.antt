use Rattle.std.proofs.Common.{rules, refl, ◌<◌}
use Rattle.crypto_model.specs.Field.{sub_byte}
use Rattle.crypto_model.proofs.Computed.{rotated_is_affine}
use Rattle.crypto_model.proofs.slow.BySearchSubstitution.sub_byte.Goals as goal

pub returns : goal.returns
unfolding sub_byte
returns c =
    let l : c.field_inverse-c.result < 256 = search rules in
    let e = rotated_is_affine c.field_inverse-c.result l in
    let f = c.rotate_left.ensures in
    rw (c.rotate_left.ensures, c.rotate_left-2.ensures, c.rotate_left-3.ensures, c.rotate_left-4.ensures, e, c.field_inverse-c.ensures) refl
