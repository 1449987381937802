-- What is asked for, as a transform.
use Rattle.crypto_model.specs.Process.{Transform, Cipher, Auth, Aead}
use Rattle.sym_session.specs.declared.xform.Xform.{Xform}
use Rattle.sym_session.specs.declared.xform.Xform.TheVariants as X

abbrev pub transform_of : Xform → Transform
transform_of (X.Cipher alg dir key) = Cipher alg dir key
transform_of (X.Auth hash act key n) = Auth hash act key n
transform_of (X.Aead dir key n aad_len) = Aead dir key n aad_len
