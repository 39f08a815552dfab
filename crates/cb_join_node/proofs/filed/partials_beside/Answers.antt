use Rattle.std.proofs.Common.{◌≡◌, ◌∙◌, ◌==◌, ℕ, false, List, [], ◌∷◌, Some, None, ap, length, option_copied, rules, subst, sym}
use Rattle.cb_alpha.proofs.ReadFacts.{found_values, same_some, some_none}
use Rattle.cb_alpha.specs.AlphaMemories.{AlphaMemoryValue, values_in}
use Rattle.cb_alpha.specs.Buckets.{AreWithValues}
use Rattle.cb_alpha.specs.Turning.{HasJoin}
use Rattle.cb_facts.specs.declared.value.Value.{Value}
use Rattle.cb_fit.specs.declared.join_fields.JoinField.{JoinField}
use Rattle.cb_join_node.proofs.filed.partials_beside.Goals as goal
use Rattle.cb_join_node.specs.Nodes.{FindsFacts}

some_join : (alpha : AlphaMemoryValue) (join : ℕ) (js : List JoinField) → (length js == 0) ≡ false → FindsFacts alpha join js → HasJoin alpha join js
some_join alpha join [] e has = absurd (cc)
some_join alpha join (j ∷ js) e has = has

pub returns-in-Some-clause-some : goal.returns-in-Some-clause-some
returns-in-Some-clause-some c has f vs there e =
    let alpha = c.args.alpha.now in
    let js = c.args.fields.now in
    let o = option_copied c.values_of.result in
    let found : o ≡ Some c.in-Some.values.now = search rules in
    let join = some_join alpha c.args.join js (sym c.is_empty.ensures ∙ c.if-is_empty.false) has in
    let have : o ≡ Some vs = found_values alpha c.args.join c.args.number js join o c.values_of.ensures ∙ (ap (values_in js) there ∙ e) in
    subst (λ (it : List Value). AreWithValues c.args.partials.now it c.members_with-in-Some.result.now) (same_some o found have) c.members_with-in-Some.ensures

pub returns-in-Some-clause-none : goal.returns-in-Some-clause-none
returns-in-Some-clause-none c has f there e =
    let alpha = c.args.alpha.now in
    let js = c.args.fields.now in
    let o = option_copied c.values_of.result in
    let found : o ≡ Some c.in-Some.values.now = search rules in
    let join = some_join alpha c.args.join js (sym c.is_empty.ensures ∙ c.if-is_empty.false) has in
    let have : o ≡ None = found_values alpha c.args.join c.args.number js join o c.values_of.ensures ∙ (ap (values_in js) there ∙ e) in
    some_none o found have

pub returns-in-None-clause-some : goal.returns-in-None-clause-some
returns-in-None-clause-some c has f vs there e =
    let alpha = c.args.alpha.now in
    let js = c.args.fields.now in
    let o = option_copied c.values_of.result in
    let found : o ≡ None = search rules in
    let join = some_join alpha c.args.join js (sym c.is_empty.ensures ∙ c.if-is_empty.false) has in
    let have : o ≡ Some vs = found_values alpha c.args.join c.args.number js join o c.values_of.ensures ∙ (ap (values_in js) there ∙ e) in
    some_none o have found
