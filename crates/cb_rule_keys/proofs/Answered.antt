-- What a matcher answers, by the keys of its rules.
use Rattle.std.proofs.Common.{◌≡◌, ◌++◌, List, [], ap, subst, ◌∙◌}
use Rattle.cb_facts.specs.FactLists.{IndexedFacts}
use Rattle.cb_rule_keys.specs.Keys.{Tells, rule_keys}
use Rattle.cb_matches.specs.Changes.{IsDelta, come_of, keys_come, keys_gone}
use Rattle.cb_matches.specs.Keys.{KeyValue}
use Rattle.cb_matches.specs.Networks.{Conditions, Network, all_keys, all_matches}
use Rattle.cb_matches.specs.declared.delta.Delta.{Delta}

abbrev pub over : Conditions → IndexedFacts → Network
over rs fs = record { rules = rs; facts = fs }

pub come_is : (rs ss : Conditions) (fs gs : IndexedFacts) (ks : List KeyValue) → ks ≡ come_of (rule_keys rs fs) (rule_keys ss gs) → ks ≡ keys_come (over rs fs) (over ss gs)
unfolding keys_come all_keys all_matches
come_is rs ss fs gs ks h = h

pub gone_is : (rs ss : Conditions) (fs gs : IndexedFacts) (ks : List KeyValue) → ks ≡ come_of (rule_keys ss gs) (rule_keys rs fs) → ks ≡ keys_gone (over rs fs) (over ss gs)
unfolding keys_gone all_keys all_matches
gone_is rs ss fs gs ks h = h

-- what is told where nothing was told of before
pub delta_is : (rs : Conditions) (fs gs : IndexedFacts) (none delta : Delta) → none.gone.items ≡ [] → none.come.items ≡ [] → Tells none delta (rule_keys rs fs) (rule_keys rs gs) → IsDelta (over rs fs) (over rs gs) delta
delta_is rs fs gs none delta g c told = record {
  gone = gone_is rs rs fs gs delta.gone.items (told.gone ∙ ap (λ it. it ++ come_of (rule_keys rs gs) (rule_keys rs fs)) g);
  come = come_is rs rs fs gs delta.come.items (told.come ∙ ap (λ it. it ++ come_of (rule_keys rs fs) (rule_keys rs gs)) c);
}

-- what holds of three things holds of those that they are equal to
pub in_place : {A B C : Type 0} (P : A → B → C → Type 0) {a b : A} {p q : B} {x y : C} → a ≡ b → p ≡ q → x ≡ y → P a p x → P b q y
in_place P {a} {b} {p} {q} {x} {y} e f g h = subst (λ it. P it q y) e (subst (λ it. P a it y) f (subst (λ it. P a p it) g h))
