use Rattle.std.proofs.Common.{◌≡◌, ap, ap₂, refl, sym, codes, Bool, true, false, List, [], ◌∷◌, ◌∙◌, arith}
use Rattle.std.specs.Borrow.{Bor}
use Rattle.clap.specs.Words.{IsPlainArg, Text, with_rule}
use Rattle.clap.specs.declared.builder.arg.Arg.{Arg}
use Rattle.command_words.specs.Options.{option_rule, required_app, scheduled_app}
use Rattle.command_words.proofs.Given.{AreOptions, IsOption, option_given}
use Rattle.command_words.proofs.options.scheduled_command.Goals as goal

option : (a : Arg) (name : Bor Text) → IsPlainArg a → a.global ≡ false → a.id ≡ name → IsOption a name.now
option a name plain local named = record { plain = plain; local = local; named = ap (λ (s : Bor Text). s.now) named }

without_burst : (name : Text) (has_burst : Bool) → has_burst ≡ false → required_app name ≡ scheduled_app name has_burst
unfolding scheduled_app
without_burst name has_burst e = ap (scheduled_app name) (sym e)

with_burst : (name : Text) (has_burst : Bool) → has_burst ≡ true
    → with_rule (required_app name) (option_rule (codes "burst") false) ≡ scheduled_app name has_burst
unfolding scheduled_app
with_burst name has_burst e = ap (scheduled_app name) (sym e)

pub returns-then-not-has_burst-clause-app : goal.returns-then-not-has_burst-clause-app
returns-then-not-has_burst-clause-app c =
    c.in_ok-command.ensures.shape c.one_value-2.ensures.local
    ∙ ap₂ with_rule (c.in_ok-arg.ensures.shape c.one_value.ensures.local
    ∙ ap₂ with_rule c.new.ensures.app c.one_value.ensures.rule) c.one_value-2.ensures.rule
    ∙ without_burst c.args.name.now c.args.has_burst c.if-not-has_burst.true

pub returns-then-not-has_burst-clause-required : goal.returns-then-not-has_burst-clause-required
returns-then-not-has_burst-clause-required c = λ m parsed.
    let xs : List Arg = c.one_value.result ∷ c.one_value-2.result ∷ [] in
    let names : List Text = codes "vdev" ∷ codes "sessions" ∷ [] in
    let are : AreOptions xs names = (
      option _ _ c.one_value.ensures.plain c.one_value.ensures.local c.one_value.ensures.name,
      (option _ _ c.one_value-2.ensures.plain c.one_value-2.ensures.local c.one_value-2.ensures.name, tt),
    ) in
    let given = option_given c.new.result c.in_ok-command.command xs names
    (_, c.in_ok-arg.ensures, (_, c.in_ok-command.ensures, refl))
    c.new.ensures.empty.0 c.new.ensures.empty.1 c.new.ensures.local c.new.ensures.negates are refl in (
      given 0 c.one_value.result m (omega arith) (c.one_value.ensures.takes refl) parsed,
      given 1 c.one_value.result m (omega arith) (c.one_value-2.ensures.takes refl) parsed,
    )

pub returns-clause-app : goal.returns-clause-app
returns-clause-app c =
    c.in_ok-command-2.ensures.shape c.one_value-3.ensures.local
    ∙ ap₂ with_rule (c.in_ok-command.ensures.shape c.one_value-2.ensures.local
    ∙ ap₂ with_rule (c.in_ok-arg.ensures.shape c.one_value.ensures.local
    ∙ ap₂ with_rule c.new.ensures.app c.one_value.ensures.rule) c.one_value-2.ensures.rule) c.one_value-3.ensures.rule
    ∙ with_burst c.args.name.now c.args.has_burst c.if-not-has_burst.false

pub returns-clause-required : goal.returns-clause-required
returns-clause-required c = λ m parsed.
    let xs : List Arg = c.one_value.result ∷ c.one_value-2.result ∷ c.one_value-3.result ∷ [] in
    let names : List Text = codes "vdev" ∷ codes "sessions" ∷ codes "burst" ∷ [] in
    let are : AreOptions xs names = (
      option _ _ c.one_value.ensures.plain c.one_value.ensures.local c.one_value.ensures.name,
      (
        option _ _ c.one_value-2.ensures.plain c.one_value-2.ensures.local c.one_value-2.ensures.name,
        (option _ _ c.one_value-3.ensures.plain c.one_value-3.ensures.local c.one_value-3.ensures.name, tt),
      ),
    ) in
    let given = option_given c.new.result c.in_ok-command-2.command xs names
    (_, c.in_ok-arg.ensures, (_, c.in_ok-command.ensures, (_, c.in_ok-command-2.ensures, refl)))
    c.new.ensures.empty.0 c.new.ensures.empty.1 c.new.ensures.local c.new.ensures.negates are refl in (
      given 0 c.one_value.result m (omega arith) (c.one_value.ensures.takes refl) parsed,
      given 1 c.one_value.result m (omega arith) (c.one_value-2.ensures.takes refl) parsed,
    )
