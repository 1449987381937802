-- One line after another.
use Rattle.std.proofs.Common.{◌≡◌, ◌∙◌, ◌+◌, ℕ, List, [], ◌∷◌, sym, ap, Ok, Err, Result, length, arith}
use Rattle.session_file.specs.declared.draft.Draft.{Draft}
use Rattle.session_file.specs.declared.plan.Plan.{Plan}
use Rattle.session_file.specs.declared.refused.LineRefused.{LineRefused}
use Rattle.session_file.specs.declared.refused.LineRefused.TheVariants.{Fault, OutOfMemory}
use Rattle.session_file.specs.Text.{lines_of}
use Rattle.session_file.specs.View.{GivesPlan, Reads, stop_of}
use Rattle.session_file.specs.Plan.{finished, line_then, no_lines, plan_of, read_from, read_line}

pub begun : (text : List ℕ) (d : Draft) → d ≡ no_lines → read_from 1 d (lines_of text) ≡ plan_of text
unfolding plan_of
begun text d e = ap (λ (x : Draft). read_from 1 x (lines_of text)) e

pub go_on : (n : ℕ) (d new : Draft) (line : List ℕ) (rest all : List (List ℕ)) (plan : Result Plan (ℕ × ℕ)) → read_line d line ≡ Ok new
    → all ≡ line ∷ rest → read_from n d all ≡ plan → read_from (n + 1) new rest ≡ plan
unfolding read_from
go_on n d new line rest all plan read cut so_far =
    sym (ap (λ (r : Result Draft ℕ). line_then r n (λ after. read_from (n + 1) after rest)) read) ∙ (sym (ap (read_from n d) cut) ∙ so_far)

pub stop : (n : ℕ) (d new : Draft) (line : List ℕ) (rest all : List (List ℕ)) (plan : Result Plan (ℕ × ℕ)) (e : LineRefused) → Reads new (Err e) (read_line d line)
    → all ≡ line ∷ rest → read_from n d all ≡ plan → GivesPlan (Err (stop_of n e)) plan
unfolding read_from
stop n d new line rest all plan (Fault k) read cut so_far =
    sym so_far ∙ (ap (read_from n d) cut ∙ ap (λ (r : Result Draft ℕ). line_then r n (λ after. read_from (n + 1) after rest)) read)
stop n d new line rest all plan OutOfMemory read cut so_far = tt

pub ended : (n : ℕ) (d : Draft) (left : List ℕ) (plan : Result Plan (ℕ × ℕ)) → length left ≡ 0 → read_from n d (lines_of left) ≡ plan → finished n d ≡ plan
unfolding read_from lines_of
ended n d [] plan e so_far = so_far
ended n d (b ∷ rest) plan e so_far = absurd (omega arith)
