-- The order of join values.
use Rattle.std.proofs.Common.{◌≡◌, ◌∙◌, true, List, Equal, ap, is_eq, subst}
use Rattle.std.specs.Cmp.{tied_itself}
use Rattle.std.specs.Cmp.Lexicographic.{lists_ties, lists_total, pointwise, pointwise_decides}
use Rattle.cb_alpha.specs.Buckets.{values_cmp}
use Rattle.cb_eval.specs.Comparison.{same}
use Rattle.cb_facts.proofs.Equality.{value-Decides}
use Rattle.cb_facts.specs.contracts.value.ValueOrd.TheImpl as value_ord
use Rattle.cb_facts.specs.contracts.value.ValueOrd.TheImpl.Laws as value_laws
use Rattle.cb_facts.specs.declared.value.Value.{Value}

pub are_same : (vs ws : List Value) → pointwise same vs ws ≡ true → vs ≡ ws
are_same vs ws = (pointwise_decides value-Decides vs ws).0

pub same_are : (vs ws : List Value) → vs ≡ ws → pointwise same vs ws ≡ true
same_are vs ws = (pointwise_decides value-Decides vs ws).1

pub tied_same : (vs ws : List Value) → pointwise same vs ws ≡ is_eq (values_cmp vs ws)
tied_same vs ws = lists_ties value_ord.ghosts.cmp value_laws.matches_eq-law vs ws

pub values_exact : (vs ws : List Value) → values_cmp vs ws ≡ Equal → vs ≡ ws
values_exact vs ws h = are_same vs ws (tied_same vs ws ∙ ap is_eq h)

pub values_level : (vs ws : List Value) → vs ≡ ws → values_cmp vs ws ≡ Equal
values_level vs ws e = subst (λ it. values_cmp vs it ≡ Equal) e (tied_itself (lists_total value_laws.total-law) vs)
