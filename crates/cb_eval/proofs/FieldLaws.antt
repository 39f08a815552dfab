-- The law of `member$` and `nth$`.
use Rattle.std.proofs.Common.{◌≡◌, ◌+◌, ℕ, suc, ℤ, pos, Bool, List, [], ◌∷◌, Option, Some, None, Ok, refl, sym, ap, subst, ◌∙◌, add-one, get_or}
use Rattle.std.specs.List.{position}
use Rattle.std.proofs.lemmas.List.Quantifiers.{position-Some}
use Rattle.std.proofs.lemmas.Option.{slice_get-get_or}
use Rattle.cb_eval.specs.Applied.{applied}
use Rattle.cb_eval.specs.Comparison.{same}
use Rattle.cb_eval.specs.Multifields.{field_at, field_or_nil, place_of, place_or_false}
use Rattle.cb_facts.specs.Values.{value_of_field}
use Rattle.cb_facts.proofs.Equality.{value-Decides}
use Rattle.cb_facts.specs.declared.single.Single.{Single}
use Rattle.cb_facts.specs.declared.single.Single.TheVariants as single
use Rattle.cb_facts.specs.declared.value.Value.{Value}
use Rattle.cb_facts.specs.declared.value.Value.TheVariants as value
use Rattle.cb_words.specs.declared.words.Function.TheVariants as function

-- whether a field is a value
abbrev is : Value → Single → Bool
is v field = same (value_of_field field) v

at_place : (v : Value) (fields : List Single) (o : Option ℕ) (n : ℤ) → position (is v) fields ≡ o → place_or_false o ≡ value.Int n → field_at n fields ≡ v
at_place v fields None n at found = absurd (cc)
at_place v fields (Some i) n at found =
    let d : Single = single.Fact 0 in
    let there = position-Some (is v) fields i d at in
    let n_is : pos (i + 1) ≡ n = (cc) in
    let next : pos (suc i) ≡ n = ap pos (sym (add-one i)) ∙ n_is in
    let here : field_at (pos (suc i)) fields ≡ v = ap field_or_nil (slice_get-get_or fields i d there.0) ∙ (value-Decides (value_of_field (get_or fields i d)) v).0 there.1 in
    subst (λ (m : ℤ). field_at m fields ≡ v) next here

found_there : (v : Value) (fields : List Single) (n : ℤ) → place_of v fields ≡ value.Int n → field_at n fields ≡ v
found_there v fields n found = at_place v fields (position (is v) fields) n refl found

pub found_is_there : (v : Value) (fields : List Single) (n : ℤ) → applied function.Member (v ∷ value.Multi fields ∷ []) ≡ Ok (value.Int n)
    → applied function.Nth (value.Int n ∷ value.Multi fields ∷ []) ≡ Ok v
found_is_there (value.Symbol b) fields n h = ap Ok (found_there (value.Symbol b) fields n (cc))
found_is_there (value.Str b) fields n h = ap Ok (found_there (value.Str b) fields n (cc))
found_is_there (value.Int m) fields n h = ap Ok (found_there (value.Int m) fields n (cc))
found_is_there (value.Fact ix) fields n h = ap Ok (found_there (value.Fact ix) fields n (cc))
found_is_there (value.Multi more) fields n h = absurd (cc)
