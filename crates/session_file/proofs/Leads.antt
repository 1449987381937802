-- Texts that lead from a draft to another.
use Rattle.std.proofs.Common.{◌≡◌, ◌∙◌, ◌+◌, ◌++◌, ℕ, List, [], ◌∷◌, false, ap, refl, Ok, append_assoc}
use Rattle.session_file.specs.declared.draft.Draft.{Draft}
use Rattle.session_file.specs.Text.{lines_of}
use Rattle.session_file.specs.Value.{Word}
use Rattle.session_file.specs.Plan.{is_comment, read_from, read_line, read_words}
use Rattle.session_file.proofs.Words.{AreWords, IsWord, line_again, line_of, words_again}

-- behind the text the reading goes on from the second draft
pub record Leads (d : Draft) (text : List ℕ) (e : Draft) : Type 0 where
  pub to : (n : ℕ) (more : List ℕ) → (m : ℕ) × (read_from n d (lines_of (text ++ more)) ≡ read_from m e (lines_of more))

pub Leads-none : (d : Draft) → Leads d [] d
Leads-none d = record { to = λ n more. (n, refl) }

pub Leads-then : (a b c : Draft) (text more : List ℕ) → Leads a text b → Leads b more c → Leads a (text ++ more) c
Leads-then a b c text more first second = record {
  to = λ n rest.
      let one = first.to n (more ++ rest) in
      let two = second.to one.0 rest in
      (two.0, ap (λ (t : List ℕ). read_from n a (lines_of t)) (append_assoc text more rest) ∙ (one.1 ∙ two.1));
}

pub Leads-line : (d e : Draft) (w : Word) (ws : List Word) → IsWord w → AreWords ws → is_comment w ≡ false → read_words d (w ∷ ws) ≡ Ok e
    → Leads d (line_of w ws ++ 10 ∷ []) e
unfolding read_from read_line
Leads-line d e w ws is all significant read = record {
  to = λ n more.
      let cut : lines_of ((line_of w ws ++ 10 ∷ []) ++ more) ≡ line_of w ws ∷ lines_of more =
      ap lines_of (append_assoc (line_of w ws) (10 ∷ []) more) ∙ line_again w ws more is all in
      (n + 1, rw (cut, words_again w ws is all, significant, read) refl);
}
