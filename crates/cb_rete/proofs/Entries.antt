-- Rules under their numbers: which entries are there when one is changed or taken out.
use Rattle.std.proofs.Common.{◌≡◌, ◌≢◌, ◌∙◌, ◌∷◌, ℕ, true, false, List, [], Some, ap, arith, cond, inl, inr, nat_cmp, subst, sym}
use Rattle.std.specs.BTreeMap.{is_at}
use Rattle.std.specs.List.Sorted.{IsStrictlySortedBy}
use Rattle.std.specs.Map.{keys_of, lookup, remove_entry, set_value}
use Rattle.cb_facts.proofs.MemberLaws.{is_at-Decides}
use Rattle.cb_matches.proofs.Lists.{by_test}
use Rattle.cb_matches.specs.Chains.{In}
use Rattle.cb_rule_keys.proofs.Numbered.{after_first, behind}

is_here : (i j : ℕ) → is_at (nat_cmp i) j ≡ true → i ≡ j
is_here i j t = (is_at-Decides i j).0 t

module _ {V : Type 0} where
  -- a number is that of one entry
  pub entry_once : (es : List (ℕ × V)) → IsStrictlySortedBy nat_cmp (keys_of es) → (e z : ℕ × V) → In e es → In z es → e.0 ≡ z.0 → e ≡ z
  entry_once [] s e z i j same = absurd i
  entry_once (x ∷ es) s e z (inl i) (inl j) same = i ∙ sym j
  entry_once (x ∷ es) s e z (inl i) (inr j) same = absurd (let l = behind x es s z j in let n : e.0 ≡ x.0 = ap (λ (it : ℕ × V). it.0) i in omega (arith, l, n, same))
  entry_once (x ∷ es) s e z (inr i) (inl j) same = absurd (let l = behind x es s e i in let n : z.0 ≡ x.0 = ap (λ (it : ℕ × V). it.0) j in omega (arith, l, n, same))
  entry_once (x ∷ es) s e z (inr i) (inr j) same = entry_once es (after_first x es s) e z i j same

  other_entry : (id : ℕ) (e z : ℕ × V) → z.0 ≢ id → z ≡ e → is_at (nat_cmp id) e.0 ≡ true → ⊥
  other_entry id e z other same t = other (ap (λ (it : ℕ × V). it.0) same ∙ sym (is_here id e.0 t))

  -- the value that is put is there
  pub set_there : (id : ℕ) (w old : V) (es : List (ℕ × V)) → lookup (is_at (nat_cmp id)) es ≡ Some old → In (id, w) (set_value (is_at (nat_cmp id)) es w)
  set_there id w old [] h = cc
  set_there id w old (e ∷ es) h =
      by_test (is_at (nat_cmp id) e.0)
      (λ t. subst (λ b. In (id, w) (cond b ((e.0, w) ∷ es) (e ∷ set_value (is_at (nat_cmp id)) es w))) (sym t) (inl (ap (λ (n : ℕ). (n, w)) (is_here id e.0 t))))
      (λ t. subst (λ b. In (id, w) (cond b ((e.0, w) ∷ es) (e ∷ set_value (is_at (nat_cmp id)) es w))) (sym t)
      (inr (set_there id w old es (subst (λ b. cond b (Some e.1) (lookup (is_at (nat_cmp id)) es) ≡ Some old) t h))))

  -- and so are all others
  pub set_other : (id : ℕ) (w : V) (es : List (ℕ × V)) (z : ℕ × V) → In z es → z.0 ≢ id → In z (set_value (is_at (nat_cmp id)) es w)
  set_other id w [] z i other = absurd i
  set_other id w (e ∷ es) z (inl same) other =
      by_test (is_at (nat_cmp id) e.0)
      (λ t. absurd (other_entry id e z other same t))
      (λ t. subst (λ b. In z (cond b ((e.0, w) ∷ es) (e ∷ set_value (is_at (nat_cmp id)) es w))) (sym t) (inl same))
  set_other id w (e ∷ es) z (inr i) other =
      by_test (is_at (nat_cmp id) e.0)
      (λ t. subst (λ b. In z (cond b ((e.0, w) ∷ es) (e ∷ set_value (is_at (nat_cmp id)) es w))) (sym t) (inr i))
      (λ t. subst (λ b. In z (cond b ((e.0, w) ∷ es) (e ∷ set_value (is_at (nat_cmp id)) es w))) (sym t) (inr (set_other id w es z i other)))

  -- where one is taken out, all others stay
  pub left_other : (id : ℕ) (es : List (ℕ × V)) (z : ℕ × V) → In z es → z.0 ≢ id → In z (remove_entry (is_at (nat_cmp id)) es)
  left_other id [] z i other = absurd i
  left_other id (e ∷ es) z (inl same) other =
      by_test (is_at (nat_cmp id) e.0)
      (λ t. absurd (other_entry id e z other same t))
      (λ t. subst (λ b. In z (cond b es (e ∷ remove_entry (is_at (nat_cmp id)) es))) (sym t) (inl same))
  left_other id (e ∷ es) z (inr i) other =
      by_test (is_at (nat_cmp id) e.0)
      (λ t. subst (λ b. In z (cond b es (e ∷ remove_entry (is_at (nat_cmp id)) es))) (sym t) i)
      (λ t. subst (λ b. In z (cond b es (e ∷ remove_entry (is_at (nat_cmp id)) es))) (sym t) (inr (left_other id es z i other)))
