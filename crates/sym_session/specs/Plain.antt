-- A step as the transform that it works.
use Rattle.std.specs.Box.{box_value}
use Rattle.crypto_model.specs.Process.{Transform, Cipher, Auth, Aead}
use Rattle.sym_session.specs.declared.step.Step.{Step}
use Rattle.sym_session.specs.declared.step.Step.TheVariants as S

abbrev pub plain : Step → Transform
plain (S.Cipher s) = Cipher s.alg s.dir (box_value s.key)
plain (S.Auth s) = Auth s.hash s.act s.key s.len
plain (S.Aead s) = Aead s.dir s.key s.tag_len s.aad_len
