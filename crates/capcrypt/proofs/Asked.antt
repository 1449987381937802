-- The words name no more workers than there are devices.
use Rattle.std.proofs.Common.{◌≡◌, ℕ, Bool, true, false, ◌≤◌, List, [], ◌∷◌, Option, None, Some, refl, subst, arith}
use Rattle.std.specs.Prelude.{Result, Ok, Err, nat_le, ◌&&◌, bytes_eq, codes, if◌then◌else◌}
use Rattle.std.proofs.lemmas.Bool.Decides.{nat_tests}
use Rattle.command_words.specs.Asked.{Wanted, AsksCrypt, AsksForward, AsksGen, AsksQuick, Fault, NotLegal, wanted, quick_asked, quick_with, gen_asked, gen_with, packets_in, seed_in, crypt_asked, crypt_with, forward_asked, forward_with, if_served, with_values, with_burst, with_scheduler, is_on_one_thread, burst_of}
use Rattle.command_words.specs.Quick.{key_of, salt_of}
use Rattle.command_words.specs.Options.{Values, crypt_app, forward_app, values_of}
use Rattle.sched_core.specs.Mode.{least_workers}
use Rattle.sched_core.specs.declared.mode.Mode.{Mode}
use Rattle.sched_core.specs.declared.mode.Mode.TheVariants.{RoundRobin, PacketSize, FailOver, MultiCore}
use Rattle.sched_core.specs.Text.{sched_of}
use Rattle.sched_core.specs.declared.text.SchedText.{SchedText}

-- these words ask for no more workers than this
abbrev HasFew : ℕ → Result Wanted Fault → Type 0
HasFew devices (Ok (AsksCrypt text sessions burst)) = text.workers ≤ devices
HasFew devices (Ok (AsksForward text sessions)) = text.workers ≤ devices
HasFew devices (Ok (AsksGen packets number)) = 2 ≤ devices
HasFew devices (Ok (AsksQuick key salt)) = Unit {0}
HasFew devices (Err fault) = Unit {0}

few_where : (devices : ℕ) (b : Bool) (w : Wanted) → (b ≡ true → HasFew devices (Ok w)) → HasFew devices (if b then Ok w else Err NotLegal)
few_where devices true w fits = fits refl
few_where devices false w fits = tt

fits_where : (b : Bool) (n m : ℕ) → b && nat_le n m ≡ true → n ≤ m
fits_where b n m e = grind arith

at_least : (n m : ℕ) → nat_le n m ≡ true → n ≤ m
at_least n m e = grind (arith, nat_tests)

few_served : (devices : ℕ) (b : Bool) (text : SchedText) (asks : SchedText → Wanted) → (b ≡ true → HasFew devices (Ok (asks text))) → HasFew devices (with_scheduler (if b then Ok text else Err NotLegal) asks)
few_served devices true text asks fits = fits refl
few_served devices false text asks fits = tt

few_scheduler : (r : Result SchedText ℕ) (devices : ℕ) (asks : SchedText → Wanted) → ((text : SchedText) → text.workers ≤ devices → HasFew devices (Ok (asks text))) → HasFew devices (with_scheduler (if_served r devices) asks)
few_scheduler (Err at) devices asks fits = tt
few_scheduler (Ok text) devices asks fits =
    few_served devices (is_on_one_thread text.mode && nat_le text.workers devices) text asks (λ is. fits text (fits_where (is_on_one_thread text.mode) text.workers devices is))

few_burst : (b : Option ℕ) (values : Values) (devices : ℕ) → HasFew devices (with_burst b values devices)
few_burst None values devices = tt
few_burst (Some burst) values devices = few_scheduler (sched_of values.vdev) devices (λ text. AsksCrypt text values.sessions burst) (λ text fits. fits)

few_values : (v : Result Values Fault) (devices : ℕ) (asked : Values → Result Wanted Fault) → ((values : Values) → HasFew devices (asked values)) → HasFew devices (with_values v asked)
few_values (Err fault) devices asked each = tt
few_values (Ok values) devices asked each = each values

few_crypt : (words : List (List ℕ)) (devices : ℕ) → HasFew devices (crypt_asked words devices)
few_crypt words devices = few_values (values_of crypt_app words) devices (λ values. crypt_with values devices) (λ values. few_burst (burst_of values.burst) values devices)

few_forward : (words : List (List ℕ)) (devices : ℕ) → HasFew devices (forward_asked words devices)
few_forward words devices =
    few_values (values_of forward_app words) devices (λ values. forward_with values devices) (λ values. few_scheduler (sched_of values.vdev) devices (λ text. AsksForward text values.sessions) (λ text fits. fits))

few_with : (key salt : Option (List ℕ)) (devices : ℕ) → HasFew devices (quick_with key salt)
few_with (Some key) (Some salt) devices = tt
few_with (Some key) None devices = tt
few_with None salt devices = tt

few_quick : (words : List (List ℕ)) (devices : ℕ) → HasFew devices (quick_asked words)
few_quick [] devices = tt
few_quick (a ∷ []) devices = tt
few_quick (key ∷ salt ∷ []) devices = few_with (key_of key) (salt_of salt) devices
few_quick (a ∷ b ∷ c ∷ more) devices = tt

few_numbers : (packets number : Option ℕ) (devices : ℕ) → HasFew devices (gen_with packets number devices)
few_numbers (Some packets) (Some number) devices = few_where devices (nat_le 2 devices) (AsksGen packets number) (at_least 2 devices)
few_numbers (Some packets) None devices = tt
few_numbers None number devices = tt

few_gen : (words : List (List ℕ)) (devices : ℕ) → HasFew devices (gen_asked words devices)
few_gen [] devices = tt
few_gen (a ∷ []) devices = tt
few_gen (packets ∷ number ∷ []) devices = few_numbers (packets_in packets) (seed_in number) devices
few_gen (a ∷ b ∷ c ∷ more) devices = tt

few_first : (quick gen crypt forward : Bool) (rest all : List (List ℕ)) (devices : ℕ)
    → HasFew devices (if quick then quick_asked rest else (if gen then gen_asked rest devices else (if crypt then crypt_asked all devices else (if forward then forward_asked all devices else Err NotLegal))))
few_first true gen crypt forward rest all devices = few_quick rest devices
few_first false true crypt forward rest all devices = few_gen rest devices
few_first false false true forward rest all devices = few_crypt all devices
few_first false false false true rest all devices = few_forward all devices
few_first false false false false rest all devices = tt

few : (words : List (List ℕ)) (devices : ℕ) → HasFew devices (wanted words devices)
unfolding wanted
few [] devices = tt
few (word ∷ rest) devices =
    few_first (bytes_eq word (codes "quick")) (bytes_eq word (codes "gen")) (bytes_eq word (codes "crypt")) (bytes_eq word (codes "forward")) rest (word ∷ rest) devices

pub few_workers : (words : List (List ℕ)) (devices : ℕ) (text : SchedText) (sessions : List ℕ) (burst : ℕ) → wanted words devices ≡ Ok (AsksCrypt text sessions burst) → text.workers ≤ devices
few_workers words devices text sessions burst is = subst (HasFew devices) is (few words devices)

pub few_forwarding : (words : List (List ℕ)) (devices : ℕ) (text : SchedText) (sessions : List ℕ) → wanted words devices ≡ Ok (AsksForward text sessions) → text.workers ≤ devices
few_forwarding words devices text sessions is = subst (HasFew devices) is (few words devices)

pub two_devices : (words : List (List ℕ)) (devices packets number : ℕ) → wanted words devices ≡ Ok (AsksGen packets number) → 2 ≤ devices
two_devices words devices packets number is = subst (HasFew devices) is (few words devices)

-- each mode has a worker
pub least_one : (mode : Mode) → 1 ≤ least_workers mode
least_one RoundRobin = omega arith
least_one PacketSize = omega arith
least_one FailOver = omega arith
least_one MultiCore = omega arith
