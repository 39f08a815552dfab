-- The joins that join nodes ask for: none where no field is asked.
use Rattle.std.proofs.Common.{ℕ, List, [], ◌∷◌}
use Rattle.cb_alpha.specs.AlphaMemories.{AlphaMemoryValue}
use Rattle.cb_alpha.specs.Turning.{HasJoin}
use Rattle.cb_branch.specs.Alphas.{HasUsedJoin, join_asked}
use Rattle.cb_fit.specs.declared.join_fields.JoinField.{JoinField}
use Rattle.cb_join_node.specs.Nodes.{FindsFacts}

pub joined : (m : AlphaMemoryValue) (join : ℕ) (js : List JoinField) → HasJoin m join js → FindsFacts m join js
joined m join [] has = tt
joined m join (j ∷ js) has = has

pub found_join : (m : AlphaMemoryValue) (join : ℕ) (js : List JoinField) → FindsFacts m join js → HasUsedJoin m (join_asked join js)
found_join m join [] found = tt
found_join m join (j ∷ js) found = found

pub join_found : (m : AlphaMemoryValue) (join : ℕ) (js : List JoinField) → HasUsedJoin m (join_asked join js) → FindsFacts m join js
join_found m join [] has = tt
join_found m join (j ∷ js) has = has

-- they stay where the joins of the memory do
pub found_still : (m m' : AlphaMemoryValue) (join : ℕ) (js : List JoinField) → ((join : ℕ) (fields : List JoinField) → HasJoin m join fields → HasJoin m' join fields) → FindsFacts m join js → FindsFacts m' join js
found_still m m' join [] joins found = tt
found_still m m' join (j ∷ js) joins found = joins join (j ∷ js) found
