-- The ways through a left side are all choices, and in which order.
use Rattle.std.proofs.Common.{◌≡◌, ◌∙◌, ◌+◌, ◌*◌, ◌++◌, ◌⊎◌, ℕ, zero, suc, List, [], ◌∷◌, Some, arith, inl, inr, length, option_map, refl, subst, sym, ap}
use Rattle.std.proofs.Math.Nat.{suc-mul, zero-mul}
use Rattle.std.proofs.lemmas.List.{length-map}
use Rattle.std.proofs.lemmas.List.Elements.{Contains-append_cases, Contains-append_left, Contains-append_right, Contains-push_cases}
use Rattle.std.proofs.lemmas.Option.{slice_get-map}
use Rattle.std.specs.List.{Contains, slice_get}
use Rattle.cb_rule_forms.specs.Branches.{combined, ways_through, ways_through_all, ways_through_one}
use Rattle.cb_rule_forms.specs.Choices.{IsLeftOf, IsLeftOfAll, IsLeftOfOne}
use Rattle.cb_rule_forms.specs.WrittenElements.{Written, wrong, written_pattern, written_test, all_of, one_of, written_group, Writtens, none_written, written}
use Rattle.cb_rule_forms.proofs.WayLaws.{led_by}

abbrev Way : Type 0
Way = List Written

-- a list of one
in_none : (z : Way) → Contains [] z → ⊥
in_none z h = let less = h.1 in omega arith

in_alone : (x z : Way) → Contains (x ∷ []) z → z ≡ x
in_alone x z h = by (Contains-push_cases [] x z h)
  where
    by : Contains [] z ⊎ (x ≡ z) → z ≡ x
    by (inl none) = absurd (in_none z none)
    by (inr e) = sym e

alone_in : (x : Way) → Contains (x ∷ []) x
alone_in x = (0, omega arith, refl)

-- one of those that are led by the same elements
in_led : (x : Way) (ys : List Way) (z : Way) → Contains (led_by x ys) z → (y : Way) × Contains ys y × (z ≡ x ++ y)
in_led x [] z h = absurd (in_none z h)
in_led x (y ∷ ys) z h = by (Contains-append_cases ((x ++ y) ∷ []) (led_by x ys) z h) (in_led x ys z)
  where
    by : Contains ((x ++ y) ∷ []) z ⊎ Contains (led_by x ys) z → (Contains (led_by x ys) z → (y' : Way) × Contains ys y' × (z ≡ x ++ y'))
        → (y' : Way) × Contains (y ∷ ys) y' × (z ≡ x ++ y')
    by (inl here) so = (y, Contains-append_left (y ∷ []) ys y (alone_in y), in_alone (x ++ y) z here)
    by (inr more) so = let found = so more in (found.0, Contains-append_right (y ∷ []) ys found.0 found.1, found.2)

led_in : (x : Way) (ys : List Way) (y : Way) → Contains ys y → Contains (led_by x ys) (x ++ y)
led_in x [] y h = absurd (in_none y h)
led_in x (y' ∷ ys) y h = by (Contains-append_cases (y' ∷ []) ys y h) (led_in x ys y)
  where
    by : Contains (y' ∷ []) y ⊎ Contains ys y → (Contains ys y → Contains (led_by x ys) (x ++ y)) → Contains (led_by x (y' ∷ ys)) (x ++ y)
    by (inl here) so = subst (λ it. Contains (led_by x (y' ∷ ys)) (x ++ it)) (sym (in_alone y' y here)) (Contains-append_left ((x ++ y') ∷ []) (led_by x ys) (x ++ y') (alone_in (x ++ y')))
    by (inr more) so = Contains-append_right ((x ++ y') ∷ []) (led_by x ys) (x ++ y) (so more)

-- each of the first with each of the second
in_combined : (xs ys : List Way) (z : Way) → Contains (combined xs ys) z → (x y : Way) × Contains xs x × Contains ys y × (z ≡ x ++ y)
in_combined [] ys z h = absurd (in_none z h)
in_combined (x ∷ xs) ys z h = by (Contains-append_cases (led_by x ys) (combined xs ys) z h) (in_combined xs ys z)
  where
    by : Contains (led_by x ys) z ⊎ Contains (combined xs ys) z → (Contains (combined xs ys) z → (x' y : Way) × Contains xs x' × Contains ys y × (z ≡ x' ++ y))
        → (x' y : Way) × Contains (x ∷ xs) x' × Contains ys y × (z ≡ x' ++ y)
    by (inl here) so = let found = in_led x ys z here in (x, found.0, Contains-append_left (x ∷ []) xs x (alone_in x), found.1, found.2)
    by (inr more) so = let found = so more in (found.0, found.1, Contains-append_right (x ∷ []) xs found.0 found.2, found.3, found.4)

combined_in : (xs ys : List Way) (x y : Way) → Contains xs x → Contains ys y → Contains (combined xs ys) (x ++ y)
combined_in [] ys x y g h = absurd (in_none x g)
combined_in (x' ∷ xs) ys x y g h = by (Contains-append_cases (x' ∷ []) xs x g) (λ more. combined_in xs ys x y more h)
  where
    by : Contains (x' ∷ []) x ⊎ Contains xs x → (Contains xs x → Contains (combined xs ys) (x ++ y)) → Contains (combined (x' ∷ xs) ys) (x ++ y)
    by (inl here) so = subst (λ it. Contains (combined (x' ∷ xs) ys) (it ++ y)) (sym (in_alone x' x here)) (Contains-append_left (led_by x' ys) (combined xs ys) (x' ++ y) (led_in x' ys y h))
    by (inr more) so = Contains-append_right (led_by x' ys) (combined xs ys) (x ++ y) (so more)

mutual
  left_in : (w : Written) (way : Way) → IsLeftOf w way → Contains (ways_through w) way
  left_in (wrong f) way h = subst (Contains ((wrong f ∷ []) ∷ [])) (sym h) (alone_in (wrong f ∷ []))
  left_in (written_pattern x relation ts) way h = subst (Contains ((written_pattern x relation ts ∷ []) ∷ [])) (sym h) (alone_in (written_pattern x relation ts ∷ []))
  left_in (written_test t) way h = subst (Contains ((written_test t ∷ []) ∷ [])) (sym h) (alone_in (written_test t ∷ []))
  left_in (written_group positive ws) way h = subst (Contains ((written_group positive ws ∷ []) ∷ [])) (sym h) (alone_in (written_group positive ws ∷ []))
  left_in (all_of ws) way h = all_in ws way h
  left_in (one_of ws) way h = one_in ws way h

  pub all_in : (ws : Writtens) (way : Way) → IsLeftOfAll ws way → Contains (ways_through_all ws) way
  all_in none_written way h = subst (Contains ([] ∷ [])) (sym h) (alone_in [])
  all_in (written w ws) way h =
      subst (Contains (combined (ways_through w) (ways_through_all ws))) (sym h.2)
      (combined_in (ways_through w) (ways_through_all ws) h.0 h.1 (left_in w h.0 h.3) (all_in ws h.1 h.4))

  one_in : (ws : Writtens) (way : Way) → IsLeftOfOne ws way → Contains (ways_through_one ws) way
  one_in none_written way h = absurd h
  one_in (written w ws) way (inl here) = Contains-append_left (ways_through w) (ways_through_one ws) way (left_in w way here)
  one_in (written w ws) way (inr more) = Contains-append_right (ways_through w) (ways_through_one ws) way (one_in ws way more)

either : {A B C D : Type 0} → A ⊎ B → (A → C) → (B → D) → C ⊎ D
either (inl a) f g = inl (f a)
either (inr b) f g = inr (g b)

mutual
  in_left : (w : Written) (way : Way) → Contains (ways_through w) way → IsLeftOf w way
  in_left (wrong f) way h = in_alone (wrong f ∷ []) way h
  in_left (written_pattern x relation ts) way h = in_alone (written_pattern x relation ts ∷ []) way h
  in_left (written_test t) way h = in_alone (written_test t ∷ []) way h
  in_left (written_group positive ws) way h = in_alone (written_group positive ws ∷ []) way h
  in_left (all_of ws) way h = in_all ws way h
  in_left (one_of ws) way h = in_one ws way h

  pub in_all : (ws : Writtens) (way : Way) → Contains (ways_through_all ws) way → IsLeftOfAll ws way
  in_all none_written way h = in_alone [] way h
  in_all (written w ws) way h =
      let found = in_combined (ways_through w) (ways_through_all ws) way h in
      (found.0, found.1, found.4, in_left w found.0 found.2, in_all ws found.1 found.3)

  in_one : (ws : Writtens) (way : Way) → Contains (ways_through_one ws) way → IsLeftOfOne ws way
  in_one none_written way h = absurd (in_none way h)
  in_one (written w ws) way h = either (Contains-append_cases (ways_through w) (ways_through_one ws) way h) (in_left w way) (in_one ws way)

-- where each stands
first_part : (xs ys : List Way) (i : ℕ) (z : Way) → slice_get xs i ≡ Some z → slice_get (xs ++ ys) i ≡ Some z
first_part [] ys i z h = absurd (cc)
first_part (x ∷ xs) ys zero z h = h
first_part (x ∷ xs) ys (suc i) z h = first_part xs ys i z h

second_part : (xs ys : List Way) (i : ℕ) → slice_get (xs ++ ys) (length xs + i) ≡ slice_get ys i
second_part [] ys i = let same : length {A = Way} [] + i ≡ i = omega arith in ap (slice_get ys) same
second_part (x ∷ xs) ys i = let same : length (x ∷ xs) + i ≡ suc (length xs + i) = omega arith in ap (slice_get ((x ∷ xs) ++ ys)) same ∙ second_part xs ys i

pub in_order : (xs ys : List Way) (i j : ℕ) (x y : Way) → slice_get xs i ≡ Some x → slice_get ys j ≡ Some y → slice_get (combined xs ys) (i * length ys + j) ≡ Some (x ++ y)
in_order [] ys i j x y g h = absurd (cc)
in_order (x' ∷ xs) ys zero j x y g h =
    let none = zero-mul (length ys) in
    let place : zero * length ys + j ≡ j = omega arith in
    let here : slice_get (led_by x' ys) j ≡ Some (x' ++ y) = slice_get-map (λ second. x' ++ second) ys j ∙ ap (option_map (λ second. x' ++ second)) h in
    ap (slice_get (led_by x' ys ++ combined xs ys)) place
    ∙ (first_part (led_by x' ys) (combined xs ys) j (x' ++ y) here ∙ ap (option_map (λ first. first ++ y)) g)
in_order (x' ∷ xs) ys (suc i) j x y g h =
    let more = suc-mul i (length ys) in
    let long = length-map ys (λ second. x' ++ second) in
    let place : suc i * length ys + j ≡ length (led_by x' ys) + (i * length ys + j) = omega arith in
    ap (slice_get (led_by x' ys ++ combined xs ys)) place
    ∙ (second_part (led_by x' ys) (combined xs ys) (i * length ys + j) ∙ in_order xs ys i j x y g h)
