use Rattle.std.proofs.Common.{◌≡◌, ℕ, ◌-◌, ◌≤◌, [], replicate, ap, ◌∙◌, refl}
use Rattle.std.proofs.lemmas.List.{take-replicate, drop-replicate}
use Rattle.seg_list.specs.Buffer.{cut_at}
use Rattle.seg_list.proofs.seg.Seg.new.Goals as goal

zeros_cut : (off n : ℕ) → off ≤ n → cut_at off 0 (replicate n 0) ≡ record { before = replicate off 0; body = []; after = replicate (n - off) 0 }
zeros_cut off n fits = rw (take-replicate {X = ℕ} off n 0 fits, drop-replicate {X = ℕ} off n 0) refl

pub returns : goal.returns
returns c =
    let zeros : c.in_ok-buf.buf.items ≡ replicate 2048 0 = c.in_ok-buf.ensures.items_if_clones_equal (λ y h. h) in
    ap (λ xs. cut_at c.args.off 0 xs) zeros ∙ zeros_cut c.args.off 2048 c.requires
