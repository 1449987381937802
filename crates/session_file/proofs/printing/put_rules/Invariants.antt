use Rattle.std.proofs.Common.{◌≡◌, ◌++◌, drop}
use Rattle.std.specs.List.{flat_map}
use Rattle.session_file.specs.Spelling.{rule_text}
use Rattle.session_file.proofs.printing.put_rules.Given as goal

abbrev pub invariant-loop-rule : goal.invariant-loop-rule
invariant-loop-rule l = l.out.items ++ flat_map (rule_text l.sessions) (drop l.rule-index l.rules) ≡ l.fn.out.items ++ flat_map (rule_text l.sessions) l.rules
