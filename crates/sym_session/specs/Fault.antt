-- Why a list of transforms is no session.
use Rattle.std.specs.Prelude.{List, not, Option, None, Some, if◌then◌else◌}
use Rattle.std.specs.List.{list_all}
use Rattle.crypto_model.specs.Process.{Transform}
use Rattle.crypto_model.specs.Session.{key_fits, digest_fits, aad_len_fits, is_chain}
use Rattle.sym_session.specs.declared.refusal.MakeRefused.{MakeRefused}
use Rattle.sym_session.specs.declared.refusal.MakeRefused.TheVariants.{BadKeyLength, BadDigestLength, BadAadLength, BadChain}

-- the first fault, in this order
abbrev pub fault_of : List Transform → Option MakeRefused
fault_of ts =
    if not (list_all key_fits ts) then Some BadKeyLength
    else if not (list_all digest_fits ts) then Some BadDigestLength
    else if not (list_all aad_len_fits ts) then Some BadAadLength
    else if not (is_chain ts) then Some BadChain
    else None
