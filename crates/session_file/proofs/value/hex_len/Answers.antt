use Rattle.session_file.proofs.Values.{hex_len}
use Rattle.session_file.proofs.value.hex_len.Goals as goal

pub returns : goal.returns
returns c = hex_len c.args.word.now c.requires
