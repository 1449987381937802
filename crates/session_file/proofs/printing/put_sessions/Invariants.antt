use Rattle.std.proofs.Common.{◌≡◌, ◌++◌, drop}
use Rattle.std.specs.List.{flat_map}
use Rattle.session_file.specs.Spelling.{session_text}
use Rattle.session_file.proofs.printing.put_sessions.Given as goal

abbrev pub invariant-loop-session : goal.invariant-loop-session
invariant-loop-session l = l.out.items ++ flat_map session_text (drop l.session-index l.sessions) ≡ l.fn.out.items ++ flat_map session_text l.sessions
