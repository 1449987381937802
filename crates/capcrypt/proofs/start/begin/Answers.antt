use Rattle.std.proofs.Common.{◌≡◌, map, Ok, ap, refl, subst, ◌∙◌, arith}
use Rattle.std.specs.Prelude.{string_bytes}
use Rattle.command_words.specs.Gives.{IsLegalCommand, RunsOnOneThread, command_view}
use Rattle.command_words.specs.declared.command.Command.{Command}
use Rattle.sched_core.specs.declared.mode.Mode.TheVariants.{MultiCore, RoundRobin}
use Rattle.capcrypt.specs.Start.{stated_scheduler}
use Rattle.capcrypt.proofs.Asked.{few_forwarding, few_workers, least_one, two_devices}
use Rattle.capcrypt.proofs.start.begin.Goals as goal

stated_runs : RunsOnOneThread stated_scheduler
unfolding lib.Count.ones
stated_runs = record { schedulable = record { least = omega arith; most = omega arith; threshold = refl }; mode = λ e. absurd (let no : RoundRobin ≡ MultiCore = e in cc) }

pub returns-in_ok-plan-in-Ok-Crypt-2-clause-legal : goal.returns-in_ok-plan-in-Ok-Crypt-2-clause-legal
returns-in_ok-plan-in-Ok-Crypt-2-clause-legal g c some =
    let crypt = c.in-Ok-Crypt.crypt in
    let legal = subst IsLegalCommand c.in-Ok-Crypt.field-0-is c.in-Ok-Crypt.ensures.legal in
    let said = c.in-Ok-Crypt.ensures.value ∙ ap (λ (x : Command). Ok (command_view x)) c.in-Ok-Crypt.field-0-is in
    let few = few_workers (map string_bytes c.args.words.now) c.args.devices crypt.scheduler crypt.sessions.now crypt.burst said in
    record {
      burst = legal.burst;
      devices = (omega (arith, legal.scheduler.schedulable.least, least_one crypt.scheduler.mode), few);
      legal = legal.scheduler;
    }

pub returns-in_ok-plan-in-Ok-Forward-2-clause-legal : goal.returns-in_ok-plan-in-Ok-Forward-2-clause-legal
returns-in_ok-plan-in-Ok-Forward-2-clause-legal g c some =
    let forward = c.in-Ok-Forward.forward in
    let legal = subst IsLegalCommand c.in-Ok-Forward.field-0-is c.in-Ok-Forward.ensures.legal in
    let said = c.in-Ok-Forward.ensures.value ∙ ap (λ (x : Command). Ok (command_view x)) c.in-Ok-Forward.field-0-is in
    let few = few_forwarding (map string_bytes c.args.words.now) c.args.devices forward.scheduler forward.sessions.now said in
    record {
      burst = (omega arith, omega arith);
      devices = (omega (arith, legal.schedulable.least, least_one forward.scheduler.mode), few);
      legal = legal;
    }

pub returns-in_ok-plan-in-Ok-Gen-2-clause-legal : goal.returns-in_ok-plan-in-Ok-Gen-2-clause-legal
returns-in_ok-plan-in-Ok-Gen-2-clause-legal g c some =
    let gen = c.in-Ok-Gen.generated in
    let said = c.in-Ok-Gen.ensures.value ∙ ap (λ (x : Command). Ok (command_view x)) c.in-Ok-Gen.field-0-is in
    record {
      burst = (omega arith, omega arith);
      devices = (omega arith, two_devices (map string_bytes c.args.words.now) c.args.devices gen.packets gen.number said);
      legal = stated_runs;
    }
