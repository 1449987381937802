-- Where a run reads and writes.
use Rattle.std.proofs.Common.{◌≡◌, ℕ, Bool, true, false, List, [], ◌++◌, Option, None, Some, refl, ap, sym, ◌∙◌}
use Rattle.std.specs.Prelude.{◌&&◌, if◌then◌else◌}
use Rattle.sha2.specs.Sha256.{sha256}
use Rattle.command_words.specs.declared.generated.Gen.{Gen}
use Rattle.capcrypt.specs.declared.ending.Outcome.{Outcome}
use Rattle.capcrypt.specs.Place.{HasWorked}
use Rattle.capcrypt.specs.Report.{device_lines, digest_line, first_line, is_counted, last_line, report_of}

-- a run that wrote to the output that was handed in
pub handed_worked : (made : Option Gen) (out_old out_new : List ℕ) (o : Outcome) (digest : Option (List ℕ)) (Did : List ℕ → List ℕ → Type 0) → made ≡ None → digest ≡ None
    → Did out_old out_new → HasWorked made out_old out_new o digest Did
handed_worked None out_old out_new o digest Did is none did = record { old = out_old; new = out_new; place = (refl, refl); told = λ x. none; did = did }
handed_worked (Some g) out_old out_new o digest Did is none did = absurd (let no : Some g ≡ None = is in cc)

-- a run that kept a digest
pub generated_worked : (made : Option Gen) (g : Gen) (out : List ℕ) (o : Outcome) (digest : Option (List ℕ)) (Did : List ℕ → List ℕ → Type 0) → made ≡ Some g
    → (new : List ℕ) × (digest ≡ Some (sha256 new)) × Did [] new → HasWorked made out out o digest Did
generated_worked None g out o digest Did is job = absurd (let no : None ≡ Some g = is in cc)
generated_worked (Some x) g out o digest Did is job = record { old = []; new = job.0; place = (refl, refl); told = λ y. job.1; did = job.2 }

-- a run that ended before the capture's header was read
pub nothing_worked : (made : Option Gen) (out : List ℕ) (o : Outcome) (digest : Option (List ℕ)) (Did : List ℕ → List ℕ → Type 0) → o.header ≡ false
    → ((old : List ℕ) → Did old old) → HasWorked made out out o digest Did
nothing_worked None out o digest Did none did = record {
  old = out;
  new = out;
  place = (refl, refl);
  told = λ x. absurd (let no : false ≡ true = sym none ∙ x in cc);
  did = did out;
}
nothing_worked (Some g) out o digest Did none did = record {
  old = [];
  new = [];
  place = (refl, refl);
  told = λ x. absurd (let no : false ≡ true = sym none ∙ x in cc);
  did = did [];
}

-- the report has a digest only where the header was read
pub same_report : (o : Outcome) (operations : List ℕ) (a b : Option (List ℕ)) → (o.header ≡ true → a ≡ b) → report_of o operations a ≡ report_of o operations b
same_report o operations a b same = ap (λ (l : List ℕ). l ++ last_line o.ending) (by_header o.header same)
  where
    by_header : (h : Bool) → (h ≡ true → a ≡ b)
        → (if h && is_counted o.ending then first_line o.counts ++ device_lines 0 operations ++ digest_line a else [])
        ≡ (if h && is_counted o.ending then first_line o.counts ++ device_lines 0 operations ++ digest_line b else [])
    by_header true same = ap (λ (d : Option (List ℕ)). if is_counted o.ending then first_line o.counts ++ device_lines 0 operations ++ digest_line d else []) (same refl)
    by_header false same = refl
