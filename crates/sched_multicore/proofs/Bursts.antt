-- Bursts that go in, operation by operation and worker by worker.
use Rattle.std.proofs.Common.{◌≡◌, ◌≢◌, ℕ, zero, suc, ◌+◌, ◌-◌, ◌<◌, ◌≤◌, List, [], ◌∷◌, ◌++◌, length, take, drop, refl, sym, ap, ◌∙◌, subst, arith, min}
use Rattle.std.specs.Prelude.{slice_set, slice_index_or, map}
use Rattle.std.proofs.lemmas.List.{length_push, append_assoc, append-nil, map-append, get_or-set_same, get_or-set_other, length-take-le, length-drop, set-get_or, length-append}
use native.Mathlib.Decide.{ℕ_discrete, dec_lt}
use Rattle.crypto_op.specs.declared.op.Op.{Op}
use Rattle.crypto_op.specs.Op.{entry_of}
use Rattle.sched_multicore.specs.Place.{unreturned}
use Rattle.sched_multicore.specs.Queue.{Queue, setting, spare, AreFull, after_worker, after_workers}
use Rattle.sched_multicore.specs.Step.{Accepted, Heaped, Spread}
use Rattle.sched_multicore.proofs.Lists.{set_again, take_and}

-- What quotas leave

pub spare_set : (quota : ℕ) (ls : List ℕ) (w n : ℕ) → w < length ls → slice_index_or ls w 0 + n ≤ quota → spare quota (slice_set ls w (slice_index_or ls w 0 + n)) + n ≡ spare quota ls
spare_set quota [] w n lt le = absurd (omega (arith, lt))
spare_set quota (l ∷ ls) zero n lt le = omega (arith, le)
spare_set quota (l ∷ ls) (suc w) n lt le = let e = spare_set quota ls w n (omega (arith, lt)) le in omega (arith, e)

pub full_spare : (quota : ℕ) (ls : List ℕ) → AreFull quota ls 0 (length ls) → spare quota ls ≡ 0
full_spare quota [] h = refl
full_spare quota (l ∷ ls) h =
    let e = full_spare quota ls (λ v a b. h (suc v) (omega arith) (omega (arith, b))) in
    let z : quota ≤ l = h 0 (omega arith) (omega arith) in
    omega (arith, e, z)

-- a worker more had its portion
pub deals_next : (quota w to left m : ℕ) (loads loads' : List ℕ) → w < to → m ≡ min left (quota - slice_index_or loads w 0) → loads' ≡ slice_set loads w (slice_index_or loads w 0 + m)
    → after_workers quota (w + 1) (to - (w + 1)) (left - m, loads') ≡ after_workers quota w (to - w) (left, loads)
deals_next quota w to left m loads loads' lt number set =
    let n = to - (w + 1) in
    let count : to - w ≡ suc n = omega (arith, lt) in
    let one : w + 1 ≡ suc w = omega arith in
    let load : loads' ≡ slice_set loads w (slice_index_or loads w 0 + min left (quota - slice_index_or loads w 0)) = set ∙ ap (λ k. slice_set loads w (slice_index_or loads w 0 + k)) number in
    let step : (left - m, loads') ≡ after_worker quota (left, loads) w = λ i. (left - number i, load i) in
    (λ i. after_workers quota (one i) n (step i)) ∙ sym (ap (λ c. after_workers quota w c (left, loads)) count)

pub deals_end : (quota w to : ℕ) (s t : ℕ × List ℕ) → to ≤ w → after_workers quota w (to - w) s ≡ t → s ≡ t
deals_end quota w to s t le e = sym (ap (λ c. after_workers quota w c s) {x = to - w} {y = 0} (omega (arith, le))) ∙ e

module _ {C : Type 0} where
  -- One worker

  pub heaped_none : (q : Queue C) (w : ℕ) → Heaped q [] w q
  heaped_none q w = record {
    pending = sym (append-nil (unreturned q.places));
    places = omega arith;
    begins = λ h. h;
    drawn = omega arith;
    loads = sym (ap (λ n. slice_set q.loads w n) (omega arith) ∙ set-get_or q.loads w 0);
    looks = refl;
    setting = refl;
    helped = refl;
    turn = refl;
  }

  pub heaped_next : (q r s : Queue C) (xs : List (Op C)) (op : Op C) (w : ℕ) → w < length q.loads → Heaped q xs w r → Accepted r op w s → Heaped q (xs ++ op ∷ []) w s
  heaped_next q r s xs op w lt a b =
      let l = length_push xs op in
      let m = slice_index_or q.loads w 0 + length xs in
      let here : slice_index_or r.loads w 0 ≡ m = ap (λ l. slice_index_or l w 0) a.loads ∙ get_or-set_same q.loads w m 0 lt in
      record {
        pending = b.pending ∙ ap (λ l. l ++ entry_of op ∷ []) a.pending ∙ append_assoc (unreturned q.places) (map entry_of xs) (entry_of op ∷ []) ∙ ap (λ l. unreturned q.places ++ l) (sym (map-append entry_of xs (op ∷ [])));
        places = omega (arith, b.places, a.places, l);
        begins = λ h. b.begins (a.begins h);
        drawn = omega (arith, b.drawn, a.drawn, l);
        loads = b.loads ∙ (λ i. slice_set (a.loads i) w (here i + 1)) ∙ set_again q.loads w m (m + 1) ∙ ap (λ n. slice_set q.loads w n) (omega (arith, l));
        looks = b.looks ∙ a.looks;
        setting = b.setting ∙ a.setting;
        helped = b.helped ∙ a.helped;
        turn = b.turn ∙ a.turn;
      }

  pub heaped_here : (q r : Queue C) (xs : List (Op C)) (w : ℕ) → w < length q.loads → Heaped q xs w r → slice_index_or r.loads w 0 ≡ slice_index_or q.loads w 0 + length xs
  heaped_here q r xs w lt a = ap (λ l. slice_index_or l w 0) a.loads ∙ get_or-set_same q.loads w _ 0 lt

  pub heaped_other : (q r : Queue C) (xs : List (Op C)) (w v : ℕ) → v ≢ w → Heaped q xs w r → slice_index_or r.loads v 0 ≡ slice_index_or q.loads v 0
  heaped_other q r xs w v ne a = ap (λ l. slice_index_or l v 0) a.loads ∙ get_or-set_other q.loads w v _ 0 ne

  -- Some workers

  pub spread_on : (q r s : Queue C) (xs ys : List (Op C)) → Spread q xs r → Spread r ys s → Spread q (xs ++ ys) s
  spread_on q r s xs ys a b =
      let l : length (xs ++ ys) ≡ length xs + length ys = length-append xs ys in
      record {
        pending = b.pending ∙ ap (λ l. l ++ map entry_of ys) a.pending ∙ append_assoc (unreturned q.places) (map entry_of xs) (map entry_of ys) ∙ ap (λ l. unreturned q.places ++ l) (sym (map-append entry_of xs ys));
        places = omega (arith, a.places, b.places, l);
        begins = λ h. b.begins (a.begins h);
        drawn = omega (arith, a.drawn, b.drawn, l);
        spare = omega (arith, a.spare, b.spare, l);
        looks = b.looks ∙ a.looks;
        setting = b.setting ∙ a.setting;
        helped = b.helped ∙ a.helped;
        turn = b.turn ∙ a.turn;
      }

  pub spread_heaped : (q r : Queue C) (xs : List (Op C)) (w : ℕ) → w < length q.loads → slice_index_or q.loads w 0 + length xs ≤ q.quota → Heaped q xs w r → Spread q xs r
  spread_heaped q r xs w lt le a =
      let f = spare_set q.quota q.loads w (length xs) lt le in
      let quota : r.quota ≡ q.quota = ap (λ z. z.quota) a.setting in
      let f' : spare r.quota r.loads ≡ spare q.quota (slice_set q.loads w (slice_index_or q.loads w 0 + length xs)) = λ i. spare (quota i) (a.loads i) in
      record { pending = a.pending; places = a.places; begins = a.begins; drawn = a.drawn; spare = omega (arith, f, f'); looks = a.looks; setting = a.setting; helped = a.helped; turn = a.turn }

  workers_same : (q r : Queue C) → setting r ≡ setting q → length r.loads ≡ length q.loads
  workers_same q r e = ap (λ z. z.workers) e

  quota_same : (q r : Queue C) → setting r ≡ setting q → r.quota ≡ q.quota
  quota_same q r e = ap (λ z. z.quota) e

  -- one worker more
  pub spread_next : (q r s : Queue C) (ops : List (Op C)) (n m most w : ℕ) → w < length q.loads → n ≤ most → most ≤ length ops → Spread q (take n ops) r → Heaped r (take m (drop n ops)) w s
      → m ≡ min (most - n) (r.quota - slice_index_or r.loads w 0) → slice_index_or r.loads w 0 ≤ r.quota → Spread q (take (n + m) ops) s
  spread_next q r s ops n m most w lt le long a b number within =
      let d = length-drop n ops in
      let l : length (take m (drop n ops)) ≡ m = length-take-le m (drop n ops) (omega (arith, d, number, long, le)) in
      let ws = workers_same q r a.setting in
      subst (λ (l : List (Op C)). Spread q l s) (sym (take_and ops n m)) (spread_on q r s (take n ops) (take m (drop n ops)) a (spread_heaped r s (take m (drop n ops)) w (omega (arith, ws, lt)) (omega (arith, l, number, within)) b))

  -- the same of loads alone
  pub loads_next : (q r s : Queue C) (ops : List (Op C)) (n m most w to : ℕ) → w < to → n ≤ most → most ≤ length ops → Spread q (take n ops) r → Heaped r (take m (drop n ops)) w s
      → m ≡ min (most - n) (r.quota - slice_index_or r.loads w 0)
      → after_workers q.quota (w + 1) (to - (w + 1)) (most - (n + m), s.loads) ≡ after_workers q.quota w (to - w) (most - n, r.loads)
  loads_next q r s ops n m most w to lt le long a b number =
      let d = length-drop n ops in
      let l : length (take m (drop n ops)) ≡ m = length-take-le m (drop n ops) (omega (arith, d, number, long, le)) in
      let quota = quota_same q r a.setting in
      let left : most - (n + m) ≡ most - n - m = omega arith in
      ap (λ k. after_workers q.quota (w + 1) (to - (w + 1)) (k, s.loads)) left
      ∙ deals_next q.quota w to (most - n) m r.loads s.loads lt (number ∙ ap (λ k. min (most - n) (k - slice_index_or r.loads w 0)) quota) (b.loads ∙ ap (λ k. slice_set r.loads w (slice_index_or r.loads w 0 + k)) l)

  pub full_next : (q r s : Queue C) (ops : List (Op C)) (n m most from w : ℕ) → w < length q.loads → n ≤ most → most ≤ length ops → Spread q (take n ops) r → Heaped r (take m (drop n ops)) w s
      → m ≡ min (most - n) (r.quota - slice_index_or r.loads w 0) → slice_index_or r.loads w 0 ≤ r.quota → (n < most → AreFull r.quota r.loads from w) → n + m < most → AreFull s.quota s.loads from (w + 1)
  full_next q r s ops n m most from w lt le long a b number within full less v ge below = go (ℕ_discrete v w)
    where
      go : Dec (v ≡ w) → s.quota ≤ slice_index_or s.loads v 0
      go (yes e) =
          let d = length-drop n ops in
          let l : length (take m (drop n ops)) ≡ m = length-take-le m (drop n ops) (omega (arith, d, number, long, le)) in
          let ws = workers_same q r a.setting in
          let quota = quota_same r s b.setting in
          let x = heaped_here r s (take m (drop n ops)) w (omega (arith, ws, lt)) b in
          let y : slice_index_or s.loads v 0 ≡ slice_index_or s.loads w 0 = ap (λ u. slice_index_or s.loads u 0) e in
          omega (arith, x, y, l, number, less, within, quota)
      go (no ne) =
          let x = heaped_other r s (take m (drop n ops)) w v ne b in
          let f = full (omega (arith, less)) v ge (omega (arith, below, ne)) in
          let quota = quota_same r s b.setting in
          omega (arith, x, f, quota)

  pub more_next : (r s : Queue C) (xs : List (Op C)) (w v : ℕ) → w < length r.loads → Heaped r xs w s → slice_index_or r.loads v 0 ≤ slice_index_or s.loads v 0
  more_next r s xs w v lt b = go (ℕ_discrete v w)
    where
      go : Dec (v ≡ w) → slice_index_or r.loads v 0 ≤ slice_index_or s.loads v 0
      go (yes e) =
          let x = heaped_here r s xs w lt b in
          let y : slice_index_or s.loads v 0 ≡ slice_index_or s.loads w 0 = ap (λ u. slice_index_or s.loads u 0) e in
          let z : slice_index_or r.loads v 0 ≡ slice_index_or r.loads w 0 = ap (λ u. slice_index_or r.loads u 0) e in
          omega (arith, x, y, z)
      go (no ne) = let x = heaped_other r s xs w v ne b in omega (arith, x)

  -- all workers: the exact number
  pub exact : (q r s : Queue C) (ops : List (Op C)) (n m most turn : ℕ) → Spread q (take n ops) r → Spread r (take m (drop n ops)) s → n ≤ most → m ≤ most - n → most ≤ length ops
      → (n < most → AreFull r.quota r.loads turn (length q.loads)) → (m < most - n → AreFull s.quota s.loads 0 turn) → ((v : ℕ) → slice_index_or r.loads v 0 ≤ slice_index_or s.loads v 0)
      → Spread q (take (n + m) ops) s × (n + m ≡ min most (spare q.quota q.loads))
  exact q r s ops n m most turn a b ln lm long f g more = (all, go (ℕ_discrete (n + m) most))
    where
      all : Spread q (take (n + m) ops) s
      all = subst (λ (l : List (Op C)). Spread q l s) (sym (take_and ops n m)) (spread_on q r s (take n ops) (take m (drop n ops)) a b)

      len : length (take (n + m) ops) ≡ n + m
      len = length-take-le (n + m) ops (omega (arith, ln, lm, long))

      go : Dec (n + m ≡ most) → n + m ≡ min most (spare q.quota q.loads)
      go (yes e) = let x = all.spare in omega (arith, x, e, len)
      go (no ne) =
          let full : AreFull s.quota s.loads 0 (length s.loads) = λ v ge lt. each v lt (dec_lt v turn) in
          let z = full_spare s.quota s.loads full in
          let x = all.spare in omega (arith, x, z, len, ln, lm, ne)
        where
          each : (v : ℕ) → v < length s.loads → Dec (v < turn) → s.quota ≤ slice_index_or s.loads v 0
          each v lt (yes l) = g (omega (arith, ne, ln, lm)) v (omega arith) l
          each v lt (no l) =
              let ws = workers_same q s all.setting in
              let quota = quota_same r s b.setting in
              let y = f (omega (arith, ne, ln, lm)) v (omega (arith, l)) (omega (arith, lt, ws)) in
              let z = more v in
              omega (arith, y, z, quota)
