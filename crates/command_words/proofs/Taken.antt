-- What a parse says of its words.
use Rattle.std.proofs.Common.{◌≡◌, ◌==◌, Bool, [], ◌∷◌, length, true, false, refl, ap, inl, inr, arith}
use Rattle.clap.specs.Words.{Kinds, HasKind, Text, is_simple, is_simple_and_free, kind_of}
use Rattle.clap.specs.declared.error.Error.{Error}
use Rattle.clap.specs.declared.error.kind.ErrorKind.TheVariants.{OutOfMemory}
use Rattle.clap.proofs.OnLiterals.{clap_on_literals}
use Rattle.command_words.specs.Options.{scheduled_app}

pub scheduled_is_simple : (name : Text) (has_burst : Bool) → is_simple_and_free (scheduled_app name has_burst) ≡ true
unfolding scheduled_app clap_on_literals
scheduled_is_simple name true = refl
scheduled_is_simple name false = refl

pub no_kinds : (kinds : Kinds) → kinds ≡ [] → (length kinds == 0) ≡ true
no_kinds kinds e = ap (λ (k : Kinds). length k == 0) e

pub some_kinds : (kinds : Kinds) (e : Error) → HasKind kinds e → (kind_of e ≡ OutOfMemory → ⊥) → (length kinds == 0) ≡ false
some_kinds [] e (inl memory) other = absurd (other memory)
some_kinds [] e (inr among) other = absurd among
some_kinds (k ∷ ks) e has other = grind (arith)

pub scheduled_is_plain : (name : Text) (has_burst : Bool) → is_simple (scheduled_app name has_burst) ≡ true
unfolding scheduled_app clap_on_literals
scheduled_is_plain name true = refl
scheduled_is_plain name false = refl
