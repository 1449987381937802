use Rattle.aes_core.proofs.Keys.{back_under_key}
use Rattle.aes_core.proofs.key.decrypt_four.Goals as goal

pub returns-clause-first : goal.returns-clause-first
returns-clause-first c =
    let k = c.key.inside in
    back_under_key k.words k.inner c.args.key.now c.args.a _ k.rounds c.key.told.0 c.key.invariant.0 c.key.view_is c.decrypt_four_blocks.ensures.first

pub returns-clause-second : goal.returns-clause-second
returns-clause-second c =
    let k = c.key.inside in
    back_under_key k.words k.inner c.args.key.now c.args.b _ k.rounds c.key.told.0 c.key.invariant.0 c.key.view_is c.decrypt_four_blocks.ensures.second

pub returns-clause-third : goal.returns-clause-third
returns-clause-third c =
    let k = c.key.inside in
    back_under_key k.words k.inner c.args.key.now c.args.c _ k.rounds c.key.told.0 c.key.invariant.0 c.key.view_is c.decrypt_four_blocks.ensures.third

pub returns-clause-fourth : goal.returns-clause-fourth
returns-clause-fourth c =
    let k = c.key.inside in
    back_under_key k.words k.inner c.args.key.now c.args.d _ k.rounds c.key.told.0 c.key.invariant.0 c.key.view_is c.decrypt_four_blocks.ensures.fourth
