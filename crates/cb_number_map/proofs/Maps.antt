-- What a change of the table, or of what stands aside, does to the map.
use Rattle.std.proofs.Common.{◌≡◌, ◌≢◌, ◌∙◌, ◌⊎◌, ◌<◌, ℕ, List, [], false, Option, Some, None, Result, Ok, Err, OnErr, ap, ap₂, arith, get_or, inl, inr, length, nat_cmp, refl, sym}
use Rattle.std.proofs.lemmas.Bool.{false_from_ne_true}
use Rattle.std.specs.BTreeMap as tree
use Rattle.std.specs.BTreeMap.{BTreeMap, is_at}
use Rattle.std.specs.Cmp.{unsigned_Decides, unsigned_ties}
use Rattle.std.specs.Map.{lookup}
use Rattle.std.specs.Option.{is_some, option_or}
use Rattle.cb_number_map.proofs.Windows.{found_table, none_of}
use Rattle.cb_number_map.specs.Internal.{AreAmong}
use Rattle.cb_number_map.specs.NumberMaps.{AreSameNumbers, Updates, number_at}
use Rattle.cb_number_map.specs.Slots.{TableUpdates, number_for, number_in, unused}
use Rattle.cb_number_map.specs.declared.number_map.NumberMap.{NumberMap}
use Rattle.cb_number_map.specs.declared.slots.Slot.{Slot}

by_option : {A P : Type 0} (o : Option A) → (o ≡ None → P) → ((a : A) → o ≡ Some a → P) → P
by_option None none some = none refl
by_option (Some a) none some = some a refl

some_none : {A P : Type 0} {a : A} (o : Option A) → o ≡ Some a → o ≡ None → P
some_none {A} {P} {a} o e f = absurd (let no : Some a ≡ None = sym e ∙ f in cc)

or_none : (o p : Option ℕ) → option_or o p ≡ None → (o ≡ None) × (p ≡ None)
or_none None p e = (refl, e)
or_none (Some n) p e = absurd (cc)

-- ---- a map with other slots, or with other keys aside

module _ (m m' : NumberMap) where
  -- no slot, and nothing aside
  pub nothing_at : (key : ℕ) → number_in m.table key ≡ None → m.aside.entries ≡ [] → number_at m key ≡ None
  unfolding number_at
  nothing_at key table aside = ap₂ (λ o (es : List (ℕ × ℕ)). option_or o (lookup (is_at (nat_cmp key)) es)) table aside

  pub absent_table : (key : ℕ) → number_at m key ≡ None → number_in m.table key ≡ None
  unfolding number_at
  absent_table key e = (or_none (number_in m.table key) (tree.get nat_cmp m.aside key) e).0

  pub absent_parts : (key : ℕ) → number_in m.table key ≡ None → is_some (tree.get nat_cmp m.aside key) ≡ false → number_at m key ≡ None
  unfolding number_at
  absent_parts key table aside = ap₂ option_or table (none_of (tree.get nat_cmp m.aside key) aside)

  pub same_parts : m'.table ≡ m.table → m'.aside.entries ≡ m.aside.entries → AreSameNumbers m m'
  unfolding number_at
  same_parts slots aside key = ap₂ (λ (ss : List Slot) (es : List (ℕ × ℕ)). option_or (number_in ss key) (lookup (is_at (nat_cmp key)) es)) slots aside

  pub table_updates : (key n : ℕ) → m'.aside ≡ m.aside → TableUpdates m.table m'.table key (Some n) → Updates m m' key (Some n)
  unfolding number_at
  table_updates key n aside is = record {
    changed = ap (λ o. option_or o (tree.get nat_cmp m'.aside key)) is.changed;
    others = λ k d. ap₂ (λ o (a : BTreeMap ℕ ℕ). option_or o (tree.get nat_cmp a k)) (is.others k d) aside;
  }

  pub aside_updates : (key n : ℕ) → m'.table ≡ m.table → tree.Updates nat_cmp m.aside m'.aside key (Some n) → number_at m key ≡ None → Updates m m' key (Some n)
  unfolding number_at
  aside_updates key n slots is absent = record {
    changed =
        let none : number_in m'.table key ≡ None = ap (λ ss. number_in ss key) slots ∙ absent_table key absent in
        ap (λ o. option_or o (tree.get nat_cmp m'.aside key)) none ∙ is.1;
    others = λ k d. ap₂ option_or (ap (λ ss. number_in ss k) slots)
        (is.2 k (false_from_ne_true (is_at (nat_cmp key) k) (λ t. d (sym ((unsigned_Decides key k).0 (unsigned_ties key k ∙ t))))));
  }

-- a change behind one that changed nothing
pub updates_behind : (old mid new : NumberMap) (key : ℕ) (n : Option ℕ) → AreSameNumbers old mid → Updates mid new key n → Updates old new key n
updates_behind old mid new key n same is = record { changed = is.changed; others = λ k d. is.others k d ∙ same k }

pub same_behind : (old mid new : NumberMap) → AreSameNumbers old mid → AreSameNumbers mid new → AreSameNumbers old new
same_behind old mid new one two key = two key ∙ one key

-- what holds after a refused growth
pub on_err : {T E : Type 0} {P : Type 0} (r : Result T E) → P → OnErr r P
on_err (Ok x) p = tt
on_err (Err e) p = p

-- ---- each slot in turn

abbrev pub AreTaken : NumberMap → NumberMap → List Slot → ℕ → Type 0
AreTaken some all slots i = (key n j : ℕ) → j < i → number_for key (get_or slots j unused) ≡ Some n → number_at some key ≡ number_at all key

pub taken_all : (some all : NumberMap) (slots : List Slot) (i : ℕ) → length slots ≡ i → AreTaken some all slots i → (key : ℕ) → number_in slots key ≢ None → number_at some key ≡ number_at all key
taken_all some all slots i e are key h = by_option (number_in slots key)
    (λ none. absurd (h none))
    (λ n is. let it = found_table key n slots is in are key n it.0 (omega (arith, it.1, e)) it.2)

-- ---- each key that stands aside in turn

abbrev pub AreLeft : NumberMap → NumberMap → List (ℕ × ℕ) → Type 0
AreLeft some all left = (key n : ℕ) → tree.get nat_cmp all.aside key ≡ Some n → (number_at some key ≡ number_at all key) ⊎ (lookup (is_at (nat_cmp key)) left ≡ Some n)

pub none_left : (some all : NumberMap) → AreAmong some all → ((key : ℕ) → number_in all.table key ≢ None → number_at some key ≡ number_at all key) → AreLeft some all [] → AreSameNumbers all some
unfolding number_at
none_left some all among table aside key = by_option (number_in all.table key)
    (λ none. by_option (tree.get nat_cmp all.aside key)
    (λ no. let absent : number_at all key ≡ None = ap₂ option_or none no in
    elim (among key) as (λ _. number_at some key ≡ number_at all key) [ inl e ↦ e ∙ sym absent | inr e ↦ e ])
    (λ n is. elim (aside key n is) as (λ _. number_at some key ≡ number_at all key) [ inl e ↦ e | inr e ↦ absurd (let no : None ≡ Some n = e in cc) ]))
    (λ n is. table key (λ none. some_none (number_in all.table key) is none))
