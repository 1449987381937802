use Rattle.std.proofs.Common.{◌∙◌}
use Rattle.crypto_model.specs.Aes.{inverse_cipher_with}
use Rattle.aes_core.proofs.WideRounds.{first_half, second_half}
use Rattle.aes_core.proofs.WideInverse.{length-inverse_cipher_with}
use Rattle.aes_core.proofs.decryption.decrypt_four_blocks.Goals as goal

pub returns-clause-first : goal.returns-clause-first
returns-clause-first c =
    c.parted.ensures.first
    ∙ first_half (inverse_cipher_with c.args.words.now c.args.rounds) c.args.a c.args.b _ _ (length-inverse_cipher_with c.args.words.now c.args.rounds) c.fits-a.0 c.paired.ensures c.decrypt_two_pairs.ensures.first

pub returns-clause-second : goal.returns-clause-second
returns-clause-second c =
    c.parted.ensures.second
    ∙ second_half (inverse_cipher_with c.args.words.now c.args.rounds) c.args.a c.args.b _ _ (length-inverse_cipher_with c.args.words.now c.args.rounds) c.fits-a.0 c.paired.ensures c.decrypt_two_pairs.ensures.first

pub returns-clause-third : goal.returns-clause-third
returns-clause-third c =
    c.parted-2.ensures.first
    ∙ first_half (inverse_cipher_with c.args.words.now c.args.rounds) c.args.c c.args.d _ _ (length-inverse_cipher_with c.args.words.now c.args.rounds) c.fits-c.0 c.paired-2.ensures c.decrypt_two_pairs.ensures.second

pub returns-clause-fourth : goal.returns-clause-fourth
returns-clause-fourth c =
    c.parted-2.ensures.second
    ∙ second_half (inverse_cipher_with c.args.words.now c.args.rounds) c.args.c c.args.d _ _ (length-inverse_cipher_with c.args.words.now c.args.rounds) c.fits-c.0 c.paired-2.ensures c.decrypt_two_pairs.ensures.second
