-- The facts of an alpha memory that can be read: those that are there, that were, and the one that came.
use Rattle.std.proofs.Common.{◌≡◌, ◌≢◌, ◌∙◌, ℕ, Bool, true, false, List, Option, Some, None, ap, arith, cond, nat_eq, refl, slice_get, sym}
use Rattle.std.proofs.lemmas.Bool.{eqb-true, false_from_ne_true}
use Rattle.std.specs.Option.{option_map_or}
use Rattle.cb_alpha.specs.AlphaMemories.{AlphaMemoryValue, AreSameFields, candidate_in, index_of, live, live_in, values_in}
use Rattle.cb_alpha.specs.Turning.{HasJoin, IsApart, came_in, is_number, were_in}
use Rattle.cb_facts.specs.Facts.{FactValue}
use Rattle.cb_facts.specs.declared.value.Value.{Value}
use Rattle.cb_fit.specs.declared.join_fields.JoinField.{JoinField}
use Rattle.cb_matches.proofs.Lists.{by_test}

pub same_some : {A : Type 0} {a b : A} (o : Option A) → o ≡ Some a → o ≡ Some b → a ≡ b
same_some {A} {a} {b} o e f = let both : Some a ≡ Some b = sym e ∙ f in cc

pub some_none : {A P : Type 0} {a : A} (o : Option A) → o ≡ Some a → o ≡ None → P
some_none {A} {P} {a} o e f = absurd (let no : Some a ≡ None = sym e ∙ f in cc)

pub not_both : {P : Type 0} (b : Bool) → b ≡ true → b ≡ false → P
not_both {P} b t f = absurd (let no : true ≡ false = sym t ∙ f in cc)

-- the number that is given
pub number_is : (o : Option ℕ) (n : ℕ) → is_number o n ≡ true → o ≡ Some n
number_is None n h = absurd (let no : false ≡ true = h in cc)
number_is (Some one) n h = ap Some (sym (eqb-true n one h))

pub is_its_number : (o : Option ℕ) (n : ℕ) → o ≡ Some n → is_number o n ≡ true
is_its_number o n e = ap (λ it. is_number it n) e ∙ same_number n
  where
    same_number : (k : ℕ) → nat_eq k k ≡ true
    same_number k = grind arith

pub other_number : (o : Option ℕ) (n k : ℕ) → o ≡ Some k → n ≢ k → is_number o n ≡ false
other_number o n k e d = false_from_ne_true (is_number o n) (λ t. d (same_some o (number_is o n t) e))

-- a number and what it stands for, unless a test holds
unless_read : (b : Bool) (o : Option (ℕ × FactValue)) (f : ℕ × FactValue) → cond b None o ≡ Some f → (o ≡ Some f) × (b ≡ false)
unless_read true o f h = absurd (let no : None ≡ Some f = h in cc)
unless_read false o f h = (h, refl)

module _ (m : AlphaMemoryValue) (n : ℕ) where
  pub gone_test : (o : Option ℕ) → option_map_or (nat_eq n) o false ≡ is_number o n
  gone_test None = refl
  gone_test (Some k) = refl

  -- a fact that is there can be read and isn't gone
  pub live_is : live m n ≡ cond (is_number m.gone n) None (candidate_in m.candidates n)
  live_is = ap (λ b. cond b None (candidate_in m.candidates n)) (gone_test m.gone)

  pub live_read : (f : ℕ × FactValue) → live m n ≡ Some f → (candidate_in m.candidates n ≡ Some f) × (is_number m.gone n ≡ false)
  live_read f h = unless_read (is_number m.gone n) (candidate_in m.candidates n) f (sym live_is ∙ h)

  pub read_live : is_number m.gone n ≡ false → live m n ≡ candidate_in m.candidates n
  read_live t = live_is ∙ ap (λ b. cond b None (candidate_in m.candidates n)) t

  -- where nothing is gone, what can be read is there
  pub all_live : m.gone ≡ None → live m n ≡ candidate_in m.candidates n
  all_live none = ap (λ o. live_in m.candidates o n) none

  -- a fact that was there can be read and didn't come
  pub were_read : (f : ℕ × FactValue) → were_in m n ≡ Some f → (candidate_in m.candidates n ≡ Some f) × (is_number m.come n ≡ false)
  were_read f h = unless_read (is_number m.come n) (candidate_in m.candidates n) f h

  pub read_were : is_number m.come n ≡ false → were_in m n ≡ candidate_in m.candidates n
  read_were t = ap (λ b. cond b None (candidate_in m.candidates n)) t

  -- where nothing came, what can be read was there
  pub all_were : m.come ≡ None → were_in m n ≡ candidate_in m.candidates n
  all_were none = ap (λ o. cond (is_number o n) None (candidate_in m.candidates n)) none

  -- the fact that came
  pub came_read : (f : ℕ × FactValue) → came_in m n ≡ Some f → (candidate_in m.candidates n ≡ Some f) × (is_number m.come n ≡ true)
  came_read f h = by_test (is_number m.come n)
      (λ t. (sym (read_came t) ∙ h, t))
      (λ t. some_none (came_in m n) h (ap (λ b. cond b (candidate_in m.candidates n) None) t))
    where
      read_came : is_number m.come n ≡ true → came_in m n ≡ candidate_in m.candidates n
      read_came t = ap (λ b. cond b (candidate_in m.candidates n) None) t

  pub read_came : is_number m.come n ≡ true → came_in m n ≡ candidate_in m.candidates n
  read_came t = ap (λ b. cond b (candidate_in m.candidates n) None) t

  pub none_came : is_number m.come n ≡ false → came_in m n ≡ None
  none_came t = ap (λ b. cond b (candidate_in m.candidates n) None) t

-- the fact with an index
pub with_index : (o : Option (ℕ × FactValue)) (ix : ℕ) → index_of o ≡ Some ix → (f : ℕ × FactValue) × (o ≡ Some f) × (f.0 ≡ ix)
with_index None ix h = absurd (let no : None ≡ Some ix = h in cc)
with_index (Some f) ix h = (f, refl, (let e : Some f.0 ≡ Some ix = h in cc))

-- where it didn't go too, the fact that came is there
pub came_live : (m : AlphaMemoryValue) (n : ℕ) → m.come ≡ Some n → IsApart m → live m n ≡ candidate_in m.candidates n
came_live m n come apart = read_live m n (false_from_ne_true (is_number m.gone n) (λ t. apart n come (number_is m.gone n t)))

same_values : (fs fields : List JoinField) → AreSameFields fs fields → (o : Option (ℕ × FactValue)) → values_in fs o ≡ values_in fields o
same_values fs fields same None = refl
same_values fs fields same (Some f) = same f.1.content

-- the values by which a fact is found
pub found_values : (m : AlphaMemoryValue) (join n : ℕ) (fields : List JoinField) → HasJoin m join fields → (o : Option (List Value))
    → ((fs : List JoinField) → slice_get m.joins join ≡ Some fs → o ≡ values_in fs (live m n)) → o ≡ values_in fields (live m n)
found_values m join n fields has o is = is has.0 has.1 ∙ same_values has.0 fields has.2 (live m n)
