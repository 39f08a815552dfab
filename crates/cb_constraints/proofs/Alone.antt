-- A value that is no multifield is one field.
use Rattle.std.proofs.Common.{◌≡◌, ◌+◌, ◌<◌, ◌∷◌, [], ℕ, false, drop, refl, rules}
use Rattle.std.proofs.lemmas.List.{drop_all}
use Rattle.cb_facts.specs.Values.{fields_in, is_multifield, value_of_field}
use Rattle.cb_facts.specs.declared.single.Single.{Single}
use Rattle.cb_facts.specs.declared.single.Single.TheVariants as single
use Rattle.cb_facts.specs.declared.value.Value.{Value}
use Rattle.cb_facts.specs.declared.value.Value.TheVariants as value

pub whole : (v : Value) (at : ℕ) → is_multifield v ≡ false → at ≡ 0 → (x : Single) × (drop at (fields_in v) ≡ x ∷ drop (at + 1) (fields_in v)) × (v ≡ value_of_field x)
whole (value.Symbol b) at h e = (single.Symbol b, search rules, refl)
whole (value.Str b) at h e = (single.Str b, search rules, refl)
whole (value.Int n) at h e = (single.Int n, search rules, refl)
whole (value.Fact n) at h e = (single.Fact n, search rules, refl)
whole (value.Multi fs) at h e = search rules

pub after_whole : (v : Value) (at : ℕ) → is_multifield v ≡ false → 0 < at → drop at (fields_in v) ≡ []
after_whole (value.Symbol b) at h e = drop_all at (single.Symbol b ∷ []) e
after_whole (value.Str b) at h e = drop_all at (single.Str b ∷ []) e
after_whole (value.Int n) at h e = drop_all at (single.Int n ∷ []) e
after_whole (value.Fact n) at h e = drop_all at (single.Fact n ∷ []) e
after_whole (value.Multi fs) at h e = search rules
