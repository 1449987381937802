-- Operations that go from the burst to the device and back.
use Rattle.std.proofs.Common.{◌≡◌, ◌≤◌, ◌+◌, ℕ, List, [], ◌∷◌, ◌++◌, length, map, take, drop, refl, ap, sym, subst, true≢false, ◌∙◌, arith, append_assoc, length-append, length-take}
use Rattle.std.specs.Prelude.{Option, None, IsSome, ◌↔◌, ◌<◌}
use Rattle.std.specs.Option.{option_to_list}
use Rattle.std.specs.List.Sorted.{IsPermutation}
use Rattle.std.proofs.lemmas.List.{length-map, map-append, take-append-drop}
use Rattle.std.proofs.lemmas.List.Sorted.{IsPermutation-append, IsPermutation-append_comm, IsPermutation-refl, IsPermutation-trans, length_permutation}

module _ {X E : Type 0} (f : X → E) where
  pub fewer_held : (xs : List X) (held held' : List E) (n : ℕ) → IsPermutation (map f xs ++ held') held → length xs ≡ n → length held' + n ≡ length held
  fewer_held xs held held' n h count =
      omega (arith, length_permutation (map f xs ++ held') held h, length-append (map f xs) held', length-map xs f, count)

  pub more_held : (xs : List X) (held held' : List E) (n : ℕ) → IsPermutation (held ++ map f (take n xs)) held' → n ≤ length xs → length held' ≡ length held + n
  more_held xs held held' n h within =
      omega (arith, length_permutation (held ++ map f (take n xs)) held' h, length-append held (map f (take n xs)), length-map (take n xs) f, length-take n xs, within)

  -- where the burst was empty, all that it has came back
  pub all_back : (old new : List X) (held' held : List E) → old ≡ [] → IsPermutation (map f (drop (length old) new) ++ held') held → IsPermutation (map f new ++ held') held
  all_back old new held' held none h = subst (λ (l : List _). IsPermutation (map f (drop (length l) new) ++ held') held) none h

  -- the first were taken in
  pub went_in : (n : ℕ) (xs : List X) (held held' : List E) → IsPermutation (held ++ map f (take n xs)) held' → IsPermutation (map f xs ++ held) (map f (drop n xs) ++ held')
  went_in n xs held held' h =
      let t = map f (take n xs) in
      let d = map f (drop n xs) in
      let whole : map f xs ≡ t ++ d = ap (map f) (sym (take-append-drop n xs)) ∙ map-append f (take n xs) (drop n xs) in
      let a : IsPermutation ((t ++ d) ++ held) ((d ++ t) ++ held) = IsPermutation-append (t ++ d) (d ++ t) held held (IsPermutation-append_comm t d) (IsPermutation-refl held) in
      let b : IsPermutation (t ++ held) held' = IsPermutation-trans (t ++ held) (held ++ t) held' (IsPermutation-append_comm t held) h in
      let c : IsPermutation (d ++ (t ++ held)) (d ++ held') = IsPermutation-append d d (t ++ held) held' (IsPermutation-refl d) b in
      let e : IsPermutation ((d ++ t) ++ held) (d ++ held') = subst (λ l. IsPermutation l (d ++ held')) (sym (append_assoc d t held)) c in
      subst (λ l. IsPermutation (l ++ held) (d ++ held')) (sym whole) (IsPermutation-trans ((t ++ d) ++ held) ((d ++ t) ++ held) (d ++ held') a e)

-- nothing was there to take
pub none_left : {X : Type 0} (o : Option X) (xs : List X) → o ≡ None → (IsSome o ↔ (0 < length xs)) → xs ≡ []
none_left o [] is found = refl
none_left o (x ∷ xs) is found = absurd (true≢false (sym (subst IsSome is (found.1 (omega arith)))))

pub none_of : {X : Type 0} (o : Option X) (xs ys : List X) → o ≡ None → xs ≡ option_to_list o ++ ys → ys ≡ xs
none_of o xs ys is e = sym (e ∙ ap (λ z. option_to_list z ++ ys) is)
