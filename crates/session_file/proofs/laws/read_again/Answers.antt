use Rattle.session_file.proofs.RoundTrip.{read_again}
use Rattle.session_file.proofs.laws.read_again.Goals as goal

pub returns : goal.returns
returns c = read_again
