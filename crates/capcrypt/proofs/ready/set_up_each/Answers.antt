use Rattle.std.proofs.Common.{◌≡◌, ◌+◌, ◌<◌, length, get_or, ap, sym, subst, ◌∙◌, arith}
use Rattle.std.proofs.lemmas.List.{length-set, drop-set-lt}
use Rattle.sched_modes.proofs.Held.{same_at, up_to}
use Rattle.capcrypt.specs.Devices.{device_now}
use Rattle.capcrypt.specs.Served.{WasSetUp}
use Rattle.capcrypt.proofs.Lists.{further_behind, same_behind}
use Rattle.capcrypt.proofs.ready.set_up_each.Goals as goal

pub set_up-requires : goal.set_up-requires
set_up-requires g c =
    let i = c.loop-i.i in
    let d = c.index_mut.result.now in
    record { idle = ap g.D.Driver.held (c.index_mut.ensures.value ∙ same_behind i c.loop-i.devs.items c.args.devs.now.items c.loop-i.invariant.others d) ∙ c.requires.idle i d c.loop-i-test.true }

pub loop-i-preserved : goal.loop-i-preserved
loop-i-preserved g c =
    let f = device_now g.D.Device.limit g.D.Driver.sessions g.D.Driver.held g.D.Driver.room g.D.Driver.stalls g.D.Driver.stats g.D.Driver.log in
    let i = c.loop-i.i in
    let old = c.args.devs.now.items in
    let now = c.loop-i.devs.items in
    let d = c.index_mut.result.now in
    let e = c.set_up.new.dev in
    let plan = c.args.plan.now in
    let inside : i < length now = omega (arith, c.loop-i-test.true, c.requires.enough, c.loop-i.invariant.count) in
    let made = c.in_ok-set_up.ensures.ready plan c.in_ok-sessions.ensures in
    record {
      ready = up_to (λ a b. WasSetUp plan (f a) (f b)) old now i e inside c.loop-i.invariant.ready (λ x.
          let was : get_or old i x ≡ d = sym (same_behind i now old c.loop-i.invariant.others x) ∙ same_at now i d x inside c.index_mut.ensures.value in
          subst (λ y. WasSetUp plan (f y) (f e)) (sym was) made);
      others = drop-set-lt (i + 1) now i e (omega arith) ∙ further_behind i (i + 1) now old (omega arith) c.loop-i.invariant.others;
      count = length-set now i e ∙ c.loop-i.invariant.count;
    }
