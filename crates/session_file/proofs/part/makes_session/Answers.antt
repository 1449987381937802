use Rattle.std.proofs.Common.{◌≡◌, ◌≢◌, Bool, Option, Some, None, true, false, refl, is_none, IfOk, Result, Ok, Err}
use Rattle.session_file.specs.Fault.{makes_session}
use Rattle.session_file.proofs.part.makes_session.Goals as goal
use Rattle.session_file.proofs.part.makes_session.Goals.{in-Ok, in-Err}

none_if : {E : Type 0} (o : Option E) → ((e : E) → o ≡ Some e → ⊥) → true ≡ is_none o
none_if None other = refl
none_if (Some e) other = absurd (other e refl)

some_if : {E : Type 0} (o : Option E) → (o ≡ None → ⊥) → is_none o ≡ false
some_if None other = absurd (other refl)
some_if (Some e) other = refl

-- refused for another cause than memory
refused_if : {E F : Type 0} (o : Option E) (e wanting : E) (r : Result Bool F) → (o ≡ None → e ≡ wanting)
    → IfOk r (λ made. (made ≡ false) × (e ≢ wanting)) → IfOk r (λ made. made ≡ is_none o)
refused_if o e wanting (Ok made) accepted is = rw (some_if o (λ none. is.1 (accepted none))) is.0
refused_if o e wanting (Err f) accepted is = tt

pub returns : goal.returns
unfolding makes_session
returns c =
    elim c.match-make.branch [
      | in-Ok w ↦ let is = w.in-Ok.is in rw w.result-is (none_if _ (λ e fault. let refused = c.make.ensures.refused e fault in cc))
      | in-Err w ↦ rw w.result-is (refused_if _ w.in-Err.refused _ _ w.in-Err.ensures.accepted w.no_session.ensures)
    ]
