use Rattle.std.proofs.Common.{rules, ℕ, List, sym, ap}
use Rattle.std.specs.Box.{box_value}
use Rattle.std.specs.Prelude.{Option, Some}
use Rattle.mbuf_chain.specs.Chain.{packet_of}
use Rattle.crypto_model.specs.Process.{Work, crypted, bytes_in}
use Rattle.crypto_op.specs.declared.op.Op.{Op}
use Rattle.sym_engine.proofs.Written.{written_laid}
use Rattle.sym_engine.proofs.work.step_work.Goals as goal

pub returns-in-Cipher : goal.returns-in-Cipher
returns-in-Cipher g c =
    let step = c.in-Cipher.step in
    let op = c.args.op.now in
    let text = crypted step.alg step.dir (box_value step.key) op.spec.iv (bytes_in op.spec.cipher (packet_of op.chain)) in
    let written = written_laid op.chain c.cipher_work.new.op.chain op.spec.cipher.off text (ap (λ (o : Op g.row.C.Denot). o.chain) c.cipher_work.ensures) in
    record {
      works = λ p. rw c.in-Cipher.is (ap (λ (ys : List ℕ). let w : Work = record { packet = ys; digest = c.args.digest.now } in let o : Option Work = Some w in o) (sym written.0));
      kept = search rules;
      written = written.1;
      unless = λ e. (cc);
    }
