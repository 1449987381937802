use Rattle.std.proofs.Common.{◌∙◌, sym}
use Rattle.session_file.specs.View.{chain_view}
use Rattle.session_file.proofs.Keys.{long_key}
use Rattle.session_file.proofs.part.Chain.xforms.Goals as goal

pub returns-then-not-has_short_keys : goal.returns-then-not-has_short_keys
returns-then-not-has_short_keys c = long_key (chain_view c.args.self.now) (sym c.has_short_keys.ensures ∙ c.if-not-has_short_keys.true)
