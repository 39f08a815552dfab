use Rattle.std.proofs.Common.{◌≡◌, ◌∙◌, ◌==◌, ◌++◌, ℕ, List, None, Some, [], ap, length, refl, rules, subst, sym}
use Rattle.std.specs.Vec.{vec_len}
use Rattle.cb_alpha.specs.AlphaMemories.{candidate_in, values_in}
use Rattle.cb_groups.specs.Groups.{AreMembers}
use Rattle.cb_lookup_node.proofs.Looked.{none_left, some_left}
use Rattle.cb_lookup_node.proofs.Placed.{ok_three}
use Rattle.cb_lookup_node.proofs.Witnessed.{its_facts, lost_so, no_values, nobody_lost}
use Rattle.cb_lookup_node.proofs.witnesses.Witnesses.lose.Goals as goal
use Rattle.cb_token_lists.specs.Partials.{partial_at}

pub returns : goal.returns
returns c =
    let cs = c.args.compared.now in
    let js = c.args.fields.now in
    let alpha = c.args.alpha.now in
    let at = partial_at c.args.lists.now.sources.now c.args.lists.now.lists.now c.args.from in
    let w = c.args.self.now in
    let w₁ = record w { given = c.take.new.self } in
    let w' = c.place_alike.new.self in
    let gone = c.in-Some.gone in
    let is : c.gone-went.result ≡ Some gone = search rules in
    let went = sym c.gone-went.ensures ∙ is in
    let taken = c.in_ok-take.ensures in
    let none : c.new-left.result.items ≡ [] = c.new-left.ensures.items in
    let xs = c.as_slice-numbers.result.now in
    let left : c.take.new.all.items ≡ taken.all.members = taken.all.is ∙ ap (λ (it : List ℕ). it ++ taken.all.members) none in
    let members : AreMembers w.given gone xs = subst (λ (it : List ℕ). AreMembers w.given gone it) (sym (c.as_slice-numbers.ensures.value ∙ left)) taken.all.are in
    let vs = c.in-Some-found.values in
    let found : c.in_ok-found.found ≡ Some vs = search rules in
    let has_values : values_in js (candidate_in alpha.candidates gone) ≡ Some vs = sym c.in_ok-found.ensures ∙ found in
    ok_three c.place_alike.result _ _ _
    (λ lost placed are once has gave.
    let its = its_facts cs js alpha at w gone xs went members gave c.args.join has vs c.facts_with-facts.result.now has_values (c.facts_with-facts.ensures has.0 has.1) in
    lost_so cs js alpha at w w₁ w' gone xs lost.items went members taken.groups refl (placed js its) (are js its) (once js its))
    c.place_alike.ensures.placed c.place_alike.ensures.are c.place_alike.ensures.once

pub returns-then-is_empty : goal.returns-then-is_empty
returns-then-is_empty c has gave =
    let alpha = c.args.alpha.now in
    let at = partial_at c.args.lists.now.sources.now c.args.lists.now.lists.now c.args.from in
    let w = c.args.self.now in
    let gone = c.in-Some.gone in
    let is : c.gone-went.result ≡ Some gone = search rules in
    let taken = c.in_ok-take.ensures in
    let xs = c.take.new.all.items in
    let len : vec_len c.take.new.all ≡ length xs = search rules in
    let tested : c.is_empty.result ≡ (length xs == 0) = c.is_empty.ensures ∙ ap (λ n. n == 0) len in
    let none : c.new-left.result.items ≡ [] = c.new-left.ensures.items in
    let left : xs ≡ taken.all.members = taken.all.is ∙ ap (λ (it : List ℕ). it ++ taken.all.members) none in
    let members : AreMembers w.given gone xs = subst (λ (it : List ℕ). AreMembers w.given gone it) (sym left) taken.all.are in
    nobody_lost c.args.compared.now c.args.fields.now alpha at w (record w { given = c.take.new.self }) gone xs (sym c.gone-went.ensures ∙ is) members taken.groups refl
    (none_left xs c.is_empty.result tested c.if-is_empty.true)

pub returns-in_default-found : goal.returns-in_default-found
returns-in_default-found c has gave =
    let js = c.args.fields.now in
    let alpha = c.args.alpha.now in
    let at = partial_at c.args.lists.now.sources.now c.args.lists.now.lists.now c.args.from in
    let w = c.args.self.now in
    let gone = c.in-Some.gone in
    let is : c.gone-went.result ≡ Some gone = search rules in
    let taken = c.in_ok-take.ensures in
    let xs = c.take.new.all.items in
    let len : vec_len c.take.new.all ≡ length xs = search rules in
    let tested : c.is_empty.result ≡ (length xs == 0) = c.is_empty.ensures ∙ ap (λ n. n == 0) len in
    let none : c.new-left.result.items ≡ [] = c.new-left.ensures.items in
    let left : xs ≡ taken.all.members = taken.all.is ∙ ap (λ (it : List ℕ). it ++ taken.all.members) none in
    let members : AreMembers w.given gone xs = subst (λ (it : List ℕ). AreMembers w.given gone it) (sym left) taken.all.are in
    let found : c.in_ok-found.found ≡ None = search rules in
    let no_value : values_in js (candidate_in alpha.candidates gone) ≡ None = sym c.in_ok-found.ensures ∙ found in
    absurd (no_values c.args.compared.now js alpha at w gone xs (sym c.gone-went.ensures ∙ is) members gave (some_left xs c.is_empty.result tested c.if-is_empty.false) no_value)
