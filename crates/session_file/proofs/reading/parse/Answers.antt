use Rattle.std.proofs.Common.{arith, rules, subst}
use Rattle.session_file.specs.View.{GivesPlan}
use Rattle.session_file.proofs.Lines.{begun, ended, go_on, stop}
use Rattle.session_file.proofs.RoundTrip.{read_sound}
use Rattle.session_file.proofs.reading.parse.Goals as goal

pub loop-left-init : goal.loop-left-init
loop-left-init c = record {
  read = begun c.args.bytes.now c.new-draft.result c.new-draft.ensures;
  few = rw c.new-draft.ensures (omega arith);
  small = omega arith;
}

pub loop-left-preserved : goal.loop-left-preserved
loop-left-preserved c = record {
  read = go_on c.loop-left.line c.loop-left.draft c.add_line.new.self _ _ _ _ c.in-Ok.ensures.reads c.split_line.ensures.lines c.loop-left.invariant.read;
  few = c.in-Ok.ensures.few;
  small = omega arith;
}

pub returns-in-Err-clause-gives : goal.returns-in-Err-clause-gives
returns-in-Err-clause-gives c =
    rw c.at_line.ensures (stop c.loop-left.line c.loop-left.draft c.add_line.new.self _ _ _ _ c.in-Err.refused c.in-Err.ensures.reads c.split_line.ensures.lines c.loop-left.invariant.read)

pub returns : goal.returns
returns c =
    let gives = subst (GivesPlan c.finish.result) (ended c.loop-left.line c.loop-left.draft c.loop-left.left.now _ (search rules) c.loop-left.invariant.read) c.finish.ensures in
    record { gives = gives; sound = read_sound c.args.bytes.now c.finish.result gives }
