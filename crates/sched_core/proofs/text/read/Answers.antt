use Rattle.std.proofs.Common.{◌≡◌, ◌∙◌, ◌+◌, sym, arith, length, rules, refl, zero-add, ap}
use Rattle.sched_core.specs.Text.{IsLegalSoFar, fields_of, read_fields}
use Rattle.sched_core.proofs.Fields.{some_is, at_first, at_none, at_some, begun, ended, some_rest, whole}
use Rattle.sched_core.proofs.text.read.Goals as goal

pub loop-next-init : goal.loop-next-init
loop-next-init c = record { read = begun _; legal = record { workers = search rules; threshold = search rules }; at = search rules }

pub returns-in_default-clause-said : goal.returns-in_default-clause-said
returns-in_default-clause-said c =
    let rest = some_rest c.first_field.result.1 _ _ c.first_field.ensures.fields in
    sym c.loop-next.invariant.read ∙ at_first _ _ _ _ rest.0 _ _ rest.1 (sym c.with_text.ensures.said ∙ c.in_default.is)

pub returns-in_default-more-clause-said : goal.returns-in_default-more-clause-said
returns-in_default-more-clause-said c =
    let fields = at_none _ _ _ c.in_default-more.is c.first_field.ensures.fields in
    whole c.finish.result _ _ (sym (sym c.loop-next.invariant.read ∙ (at_first _ _ _ _ _ _ _ fields (sym c.with_text.ensures.said ∙ c.in-Some.is) ∙ ended _ _ _))) c.finish.ensures.said

pub loop-next-preserved : goal.loop-next-preserved
loop-next-preserved c =
    let fields = at_some _ _ _ _ c.in-Some-more.is c.first_field.ensures.fields in
    let lengths = at_some _ _ _ _ c.in-Some-more.is c.first_field.ensures.lengths in
    record {
      read = sym (at_first _ _ _ _ _ _ _ fields (sym c.with_text.ensures.said ∙ c.in-Some.is)) ∙ c.loop-next.invariant.read;
      legal = some_is IsLegalSoFar c.with_text.result _ c.in-Some.is (c.with_text.ensures.legal c.loop-next.invariant.legal);
      at = omega (arith, lengths, c.loop-next.invariant.at);
    }

pub finish-requires : goal.finish-requires
finish-requires c = some_is IsLegalSoFar c.with_text.result _ c.in-Some.is (c.with_text.ensures.legal c.loop-next.invariant.legal)
