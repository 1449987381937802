-- Where there are no sessions, an operation's answer is a refusal.
use Rattle.std.proofs.Common.{[], refl, sym, ◌∙◌}
use Rattle.crypto_model.specs.Process.{processed}
use Rattle.crypto_model.specs.declared.plain.Status.TheVariants.{InvalidSession}
use Rattle.mbuf_chain.proofs.Chains.{with_packet-own}
use Rattle.crypto_op.specs.declared.op.Op.{Op}
use Rattle.crypto_op.specs.Op.{made, IsFresh, IsDone}

pub is_refused : {C : Type 0} (op : Op C) → IsFresh op → IsDone [] record op { status = InvalidSession }
unfolding processed
is_refused op fresh = record {
  status = refl;
  present = fresh.request ∙ (λ i. record { spec = (made op).spec; chain = sym (with_packet-own (made op).chain) i });
}
