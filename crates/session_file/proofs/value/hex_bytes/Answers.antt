use Rattle.session_file.proofs.Values.{hex_read}
use Rattle.session_file.proofs.value.hex_bytes.Goals as goal

pub returns-in-Ok : goal.returns-in-Ok
returns-in-Ok c = hex_read _ _ c.in-Ok.ensures.ok
