-- What one call of a worker does, and what that is for all workers.
use Rattle.std.proofs.Common.{◌≡◌, ℕ, ◌+◌, ◌-◌, ◌<◌, ◌≤◌, List, [], ◌++◌, length, get_or, Some, option_map, ap, ◌∙◌, arith, length-append, inl, inr}
use Rattle.std.proofs.Math.ListN.{set}
use Rattle.std.specs.List.Sorted.{IsPermutation}
use Rattle.std.proofs.lemmas.Bool.Decides.{eqb_tells}
use Rattle.std.proofs.lemmas.List.{get_or-set_same, get_or-set_other, length-set, drop-set-lt}
use Rattle.std.proofs.lemmas.List.Sorted.{length_permutation}
use Rattle.crypto_model.specs.Counts.{capped}
use Rattle.dev_core.specs.declared.driver.Driver.{Ghosts}
use Rattle.dev_core.specs.declared.driver.LogEntry.{LogEntry}
use Rattle.dev_core.specs.declared.stats.Stats.{Stats}
use Rattle.dev_core.specs.Stats.{after_dequeue}
use Rattle.sched_modes.specs.Crew.{only_for}
use Rattle.sched_modes.specs.Laws.{each_two, goes_same, log_same}
use Rattle.sched_modes.specs.Workers.{Goes, Serves}
use Rattle.sched_modes.proofs.Held.{each_set, same_at}

-- what an enqueue of n does
pub goes_in : {C D : Type 0} (m : Ghosts D C) (a b : D) (n : ℕ) (xs : List _) (ops : List LogEntry) → m.follows a b → m.stalls a ≤ m.stalls b → m.sessions b ≡ m.sessions a
    → m.room b ≡ option_map (λ r. r - n) (m.room a) → ((r : ℕ) → m.room a ≡ Some r → n ≤ r) → (m.stats b).enqueued ≡ capped ((m.stats a).enqueued + n)
    → m.log b ≡ option_map (λ l. l ++ ops) (m.log a) → IsPermutation (m.held a ++ xs) (m.held b) → length xs ≡ n → length ops ≡ n → Goes m ops a b
goes_in m a b n xs ops f l e r w y g p len count = record {
  on = f;
  sessions = e;
  took = record {
    stalls = l;
    enqueued = omega (arith, y, count);
    log = g;
    room = λ q k. (q - n, r ∙ ap (option_map (λ r. r - n)) k, omega (arith, length_permutation (m.held a ++ xs) (m.held b) p, length-append (m.held a) xs, len, w q k));
  };
}

-- what a dequeue of n does
pub goes_out : {C D : Type 0} (m : Ghosts D C) (a b : D) (n asked : ℕ) (xs : List _) → m.follows a b → m.stalls a ≤ m.stalls b → m.sessions b ≡ m.sessions a
    → m.room b ≡ option_map (λ r. r + n) (m.room a) → m.stats b ≡ after_dequeue asked n (m.stats a) → m.log b ≡ m.log a → IsPermutation (xs ++ m.held b) (m.held a) → length xs ≡ n → Goes m [] a b
goes_out m a b n asked xs f l e r y g p len = record {
  on = f;
  sessions = e;
  took = record {
    stalls = l;
    enqueued = omega (arith, ap (λ (x : Stats). x.enqueued) y);
    log = g ∙ log_same (m.log a);
    room = λ q k. (q + n, r ∙ ap (option_map (λ r. r + n)) k, omega (arith, length_permutation (xs ++ m.held b) (m.held a) p, length-append xs (m.held b), len));
  };
}

-- one worker took these, and the others nothing
pub each_at : {C D : Type 0} (m : Ghosts D C) → ((a : D) → m.follows a a) → (devs : List D) (t : ℕ) (ops : List LogEntry) (d d' : D) → t < length devs → d ≡ get_or devs t d → Goes m ops d d'
    → (k : ℕ) (x : D) → Goes m (only_for t ops k) (get_or devs k x) (get_or (set devs t d') k x)
each_at m same devs t ops d d' h e r k x = elim (eqb_tells k t) [
  | inl i ↦ let old : get_or devs k x ≡ d = ap (λ j. get_or devs j x) i.1 ∙ same_at devs t d x h e in rw (i.0, old, ap (λ j. get_or (set devs t d') j x) i.1 ∙ get_or-set_same devs t d' x h) r
  | inr f ↦ rw (f.0, get_or-set_other devs t k d' x f.1) (goes_same m same (get_or devs k x))
]

-- one worker went on and took nothing, and so did all
pub serves_more : {C D : Type 0} (m : Ghosts D C) → ((a : D) → m.follows a a) → ((a b c : D) → m.follows a b → m.follows b c → m.follows a c) → (w : ℕ) (devs0 devs : List D) (i : ℕ) (d d' : D) → i < w → i < length devs → d ≡ get_or devs i d → Goes m [] d d'
    → Serves m (λ k. []) w devs0 devs → Serves m (λ k. []) w devs0 (set devs i d')
serves_more m same on w devs0 devs i d d' lt h e goes s = record {
  len = length-set devs i d' ∙ s.len;
  each = each_two m on (λ k. []) (λ k. []) devs0 devs (set devs i d') s.each (each_set (Goes m []) (goes_same m same) devs i d d' h e goes);
  others = drop-set-lt w devs i d' lt ∙ s.others;
}
