-- The match with a key.
use Rattle.std.proofs.Common.{◌≡◌, ◌∙◌, ℕ, true, List, [], ◌∷◌, Option, Some, None, Bool, ap, ap₂, cond, inl, inr, map, refl, subst, sym}
use Rattle.std.specs.Map.{lookup}
use Rattle.std.specs.Option.{option_map}
use Rattle.cb_beta.specs.BetaMemories.{BetaMemoryValue}
use Rattle.cb_exprs.specs.Bindings.{Bindings}
use Rattle.cb_branch_end.proofs.SameKeys.{key_Decides}
use Rattle.cb_branch_end.specs.Internal.{IsFound, IsMatch}
use Rattle.cb_branch_end.specs.TellingKeys.{AreApart, key_of}
use Rattle.cb_matches.proofs.Lists.{by_test, in_map, map_in}
use Rattle.cb_matches.specs.Chains.{In}
use Rattle.cb_matches.specs.Keys.{KeyValue, PartValue, key_eq}
use Rattle.cb_matches.specs.Matches.{Partial}
use Rattle.cb_matches.specs.Networks.{keyed}
use Rattle.cb_token_lists.specs.Turns.{IsThere, StandFor}

abbrev Match : Type 0
Match = KeyValue × Bindings

abbrev looked : Match → List Match → KeyValue → Bool → Option Bindings
looked x xs k b = cond b (Some x.1) (lookup (key_eq k) xs)

some_is : (e f : Bindings) → Some e ≡ Some f → e ≡ f
some_is e f h = cc

-- what is found is there
found_in : (k : KeyValue) (xs : List Match) (e : Bindings) → lookup (key_eq k) xs ≡ Some e → In (k, e) xs
found_in k [] e h = cc
found_in k (x ∷ xs) e h =
    by_test (key_eq k x.0)
    (λ t. inl (ap₂ (λ (a : KeyValue) (b : Bindings). (a, b)) ((key_Decides k x.0).0 t) (sym (some_is x.1 e (subst (λ b. looked x xs k b ≡ Some e) t h)))))
    (λ t. inr (found_in k xs e (subst (λ b. looked x xs k b ≡ Some e) t h)))

-- and where none is found, none is there
not_in : (k : KeyValue) (xs : List Match) (e : Bindings) → lookup (key_eq k) xs ≡ None → In (k, e) xs → ⊥
not_in k [] e h i = i
not_in k (x ∷ xs) e h (inl i) = let t : key_eq k x.0 ≡ true = (key_Decides k x.0).1 (ap (λ it. it.0) i) in let s : Some x.1 ≡ None = subst (λ b. looked x xs k b ≡ None) t h in cc
not_in k (x ∷ xs) e h (inr i) =
    by_test (key_eq k x.0) (λ t. let s : Some x.1 ≡ None = subst (λ b. looked x xs k b ≡ None) t h in cc) (λ t. not_in k xs e (subst (λ b. looked x xs k b ≡ None) t h) i)

by_answer : (P : Option Bindings → Type 0) (o : Option Bindings) → (o ≡ None → P None) → ((e : Bindings) → o ≡ Some e → P (Some e)) → P o
by_answer P None none some = none refl
by_answer P (Some e) none some = some e refl

make_key : ℕ → ℕ → List PartValue → KeyValue
make_key r b ps = record { rule = r; branch = b; parts = ps }

module _ (rule branch : ℕ) (at : ℕ → Partial) (m : BetaMemoryValue) (ms : List Partial) (stand : StandFor at (IsThere m) ms) (apart : AreApart at m) (k : KeyValue) where
  -- a match of this branch with these parts has the key
  has_key : k.rule ≡ rule → k.branch ≡ branch → (n : ℕ) → (at n).parts ≡ k.parts → key_of rule branch (at n) ≡ k
  unfolding make_key
  has_key of_rule of_branch n e =
      ap (make_key rule branch) e ∙ ap₂ (λ r b. make_key r b k.parts) (sym of_rule) (sym of_branch)

  -- what has the key is a match with these parts
  under_key : (e : Bindings) → In (k, e) (map (keyed rule branch) ms) → (n : ℕ) × IsMatch at m k.parts n × (e ≡ (at n).env)
  under_key e h =
      let x = in_map (keyed rule branch) (k, e) ms h in
      let n = stand.from x.0 x.1 in (
        n.0,
        (n.1, sym (ap (λ (it : Match). it.0.parts) x.2 ∙ ap (λ (it : Partial). it.parts) n.2)),
        ap (λ (it : Match). it.1) x.2 ∙ ap (λ (it : Partial). it.env) n.2,
      )

  -- what is found has what variables have by the first match with the key
  pub looked_up : k.rule ≡ rule → k.branch ≡ branch → (found : Option ℕ) → IsFound at m k.parts found → option_map (λ n. (at n).env) found ≡ lookup (key_eq k) (map (keyed rule branch) ms)
  looked_up of_rule of_branch None none =
      by_answer (λ o. None ≡ o) (lookup (key_eq k) (map (keyed rule branch) ms)) (λ _. refl)
      (λ e s. let n = under_key e (found_in k (map (keyed rule branch) ms) e s) in absurd (none n.0 n.1))
  looked_up of_rule of_branch (Some n) own =
      let there : In (k, (at n).env) (map (keyed rule branch) ms) =
      subst (λ it. In (it, (at n).env) (map (keyed rule branch) ms)) (has_key of_rule of_branch n own.1) (map_in (keyed rule branch) ms (at n) (stand.to n own.0)) in
      by_answer (λ o. Some (at n).env ≡ o) (lookup (key_eq k) (map (keyed rule branch) ms))
      (λ none. absurd (not_in k (map (keyed rule branch) ms) (at n).env none there))
      (λ e s.
      let j = under_key e (found_in k (map (keyed rule branch) ms) e s) in
      ap Some (ap (λ i. (at i).env) (apart n j.0 own.0 j.1.0 (own.1 ∙ sym j.1.1)) ∙ sym j.2))
