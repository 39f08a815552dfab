-- What follows where a variable's mark is not among those of some fields.
use Rattle.std.proofs.Common.{◌≡◌, ◌≢◌, ◌∙◌, ◌+◌, ◌++◌, ◌<◌, ℕ, Bool, true, false, List, [], ◌∷◌, None, ap, get_or, inl, inr, length, refl, subst, sym, take}
use Rattle.std.proofs.lemmas.Bool.{cases_eq}
use Rattle.std.proofs.lemmas.List.{take_more}
use Rattle.std.proofs.lemmas.Slice.Eq.{bytes_eq-Decides}
use Rattle.std.specs.Int.{bit_at}
use Rattle.std.specs.Option.{option_or}
use Rattle.std.specs.Str.{bytes_eq}
use Rattle.cb_beta.proofs.Values.{by_way, next_field, other_field}
use Rattle.cb_beta.specs.GivenValues.{values_taken}
use Rattle.cb_beta.specs.Marks.{AreMarked}
use Rattle.cb_facts.specs.NameMarks.{mark_of}
use Rattle.cb_exprs.specs.Bindings.{Bindings, no_bindings, value_at, with_variables}
use Rattle.cb_facts.specs.Facts.{FactContent}
use Rattle.cb_fit.specs.Decided.{taken_by}
use Rattle.cb_fit.specs.declared.join_fields.JoinField.{JoinField}

-- ---- marks are set one by one

-- a mark more
set_more : (old new mark k : ℕ) → bit_at new mark ≡ 1 → ((i : ℕ) → i ≢ mark → bit_at new i ≡ bit_at old i) → bit_at old k ≡ 1 → bit_at new k ≡ 1
set_more old new mark k is others was = elim (cases_eq k mark) as (λ _. bit_at new k ≡ 1) [
  | inl e ↦ ap (bit_at new) e ∙ is
  | inr d ↦ others k d ∙ was
]

still_marked : (old new mark : ℕ) (js : List JoinField) → bit_at new mark ≡ 1 → ((i : ℕ) → i ≢ mark → bit_at new i ≡ bit_at old i) → AreMarked old js → AreMarked new js
still_marked old new mark [] is others was = tt
still_marked old new mark (j ∷ js) is others was = (set_more old new mark (mark_of j.variable) is others was.0, still_marked old new mark js is others was.1)

both_marked : (marks : ℕ) (js : List JoinField) (j : JoinField) → AreMarked marks js → bit_at marks (mark_of j.variable) ≡ 1 → AreMarked marks (js ++ j ∷ [])
both_marked marks [] j all one = (one, tt)
both_marked marks (k ∷ js) j all one = (all.0, both_marked marks js j all.1 one)

pub one_marked : (old new mark : ℕ) (js : List JoinField) (i : ℕ) (j : JoinField) → i < length js → j ≡ get_or js i j → mark ≡ mark_of j.variable
    → bit_at new mark ≡ 1 → ((k : ℕ) → k ≢ mark → bit_at new k ≡ bit_at old k) → AreMarked old (take i js) → AreMarked new (take (i + 1) js)
one_marked old new mark js i j l here own is others was =
    subst (AreMarked new) (sym (take_more js i j l))
    (both_marked new (take i js) (get_or js i j) (still_marked old new mark (take i js) is others was)
    (ap (λ (it : JoinField). bit_at new (mark_of it.variable)) (sym here) ∙ (ap (bit_at new) (sym own) ∙ is)))

-- ---- a variable without its mark gets nothing

other_name : (marks : ℕ) (q x : List ℕ) → bit_at marks (mark_of x) ≡ 1 → bit_at marks (mark_of q) ≢ 1 → bytes_eq q x ≡ false
other_name marks q x is none = by (bytes_eq q x) refl
  where
    by : (t : Bool) → bytes_eq q x ≡ t → t ≡ false
    by false e = refl
    by true e = absurd (none (ap (λ it. bit_at marks (mark_of it)) ((bytes_eq-Decides q x).0 e) ∙ is))

pub none_given : (marks : ℕ) (js : List JoinField) (q : List ℕ) (content : FactContent) → AreMarked marks js → bit_at marks (mark_of q) ≢ 1
    → None ≡ value_at q (with_variables (values_taken js content) no_bindings).variables
none_given marks [] q content all none = refl
none_given marks (j ∷ js) q content all none =
    let one = with_variables (taken_by no_bindings content j) no_bindings in
    let rest = value_at q (with_variables (values_taken js content) no_bindings).variables in
    ap (λ it. option_or it None) (none_given marks js q content all.1 none)
    ∙ (ap (option_or rest) (other_field q j content (other_name marks q j.variable all.0 none))
    ∙ (sym (by_way q (values_taken js content) one)
    ∙ ap (λ (it : Bindings). value_at q it.variables) (sym (next_field js j content no_bindings))))
