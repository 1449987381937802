-- How many packets there are, and what became of them.
use Rattle.std.specs.Prelude.{Bool, true, false, List, length, count_by}
use Rattle.crypto_model.specs.declared.plain.Status.TheVariants.{Success, AuthFailed, InvalidArgs}
use Rattle.packet_plan.specs.declared.written.Fate.{Fate}
use Rattle.packet_plan.specs.declared.written.Fate.TheVariants.{Passed, Short, Worked}
use Rattle.packet_plan.specs.Answered.{Answered}
use Rattle.packet_flow.specs.declared.counts.Counts.{Counts}

abbrev pub is_success : Fate → Bool
is_success (Worked Success) = true
is_success _ = false

abbrev pub is_auth_failed : Fate → Bool
is_auth_failed (Worked AuthFailed) = true
is_auth_failed _ = false

abbrev pub is_invalid_args : Fate → Bool
is_invalid_args (Worked InvalidArgs) = true
is_invalid_args _ = false

abbrev pub is_short : Fate → Bool
is_short Short = true
is_short _ = false

abbrev pub is_passed : Fate → Bool
is_passed Passed = true
is_passed _ = false

abbrev pub counts_of : List Answered → Counts
counts_of answers = record {
  packets = length answers;
  success = count_by (λ a. is_success a.fate) answers;
  auth_failed = count_by (λ a. is_auth_failed a.fate) answers;
  invalid_args = count_by (λ a. is_invalid_args a.fate) answers;
  short = count_by (λ a. is_short a.fate) answers;
  passed = count_by (λ a. is_passed a.fate) answers;
}
