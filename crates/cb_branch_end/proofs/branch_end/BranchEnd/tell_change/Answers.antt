use Rattle.std.proofs.Common.{◌≡◌, ◌∙◌, ℕ, List, Some, ap, refl, slice_get, subst}
use Rattle.std.proofs.lemmas.Result.{on_ok_weaker}
use Rattle.cb_beta.specs.BetaMemories.{BetaMemoryValue}
use Rattle.cb_branch_end.proofs.AtEnd.{same_list}
use Rattle.cb_branch_end.proofs.Pairs.{adds_numbers}
use Rattle.cb_branch_end.proofs.ToldKeys.{adds_keys, tells}
use Rattle.cb_branch_end.specs.Internal.{AddsInOrder, key_at}
use Rattle.cb_branch_end.specs.TellingKeys.{IsTokenOf, at_end}
use Rattle.cb_matches.specs.Chains.{In}
use Rattle.cb_matches.specs.Keys.{KeyValue}
use Rattle.cb_matches.specs.declared.delta.Delta.{Delta}
use Rattle.cb_token_lists.proofs.Down.{got}
use Rattle.cb_branch_end.proofs.branch_end.BranchEnd.tell_change.Goals as goal

pub returns-clause-keys : goal.returns-clause-keys
returns-clause-keys c =
    let end = c.args.self.now in
    let ls = end.lists.lists.now in
    let key : ℕ → KeyValue = key_at end in
    let delta = c.args.delta.now in
    let delta' : Delta = record { gone = c.add_keys.new.told; come = c.add_keys-2.new.told; gone_numbers = c.add_keys.new.told_numbers; come_numbers = c.add_keys-2.new.told_numbers } in
    let l = c.in-Some.ensures.lookup in
    let found : slice_get ls end.last ≡ Some c.in-Some.memory.now = got ls end.last c.in-Some.memory.now l.3.0 (l.3.1 c.in-Some.memory.now) in
    on_ok_weaker c.add_keys-2.result
    (λ (come : AddsInOrder key c.come.result.now delta.come.items c.add_keys-2.new.told.items delta.come_numbers.items c.add_keys-2.new.told_numbers.items) m old new is turns old_sorted new_sorted.
    let same = same_list ls end.last c.in-Some.memory.now m found is in
    tells end.rule end.branch (at_end end) m old new turns old_sorted new_sorted delta delta'
    (adds_keys key m.gone delta.gone.items c.add_keys.new.told.items delta.gone_numbers.items c.add_keys.new.told_numbers.items
    (subst (λ (ns : List ℕ). AddsInOrder key ns delta.gone.items c.add_keys.new.told.items delta.gone_numbers.items c.add_keys.new.told_numbers.items) (c.gone.ensures ∙ ap (λ (it : BetaMemoryValue). it.gone) same) c.in_ok-add_keys.ensures))
    (adds_keys key m.come delta.come.items c.add_keys-2.new.told.items delta.come_numbers.items c.add_keys-2.new.told_numbers.items
    (subst (λ (ns : List ℕ). AddsInOrder key ns delta.come.items c.add_keys-2.new.told.items delta.come_numbers.items c.add_keys-2.new.told_numbers.items) (c.come.ensures ∙ ap (λ (it : BetaMemoryValue). it.come) same) come)))
    c.add_keys-2.ensures

pub returns-clause-numbers : goal.returns-clause-numbers
returns-clause-numbers c =
    let end = c.args.self.now in
    let ls = end.lists.lists.now in
    let key : ℕ → KeyValue = key_at end in
    let delta = c.args.delta.now in
    let l = c.in-Some.ensures.lookup in
    let found : slice_get ls end.last ≡ Some c.in-Some.memory.now = got ls end.last c.in-Some.memory.now l.3.0 (l.3.1 c.in-Some.memory.now) in
    on_ok_weaker c.add_keys-2.result
    (λ (come : AddsInOrder key c.come.result.now delta.come.items c.add_keys-2.new.told.items delta.come_numbers.items c.add_keys-2.new.told_numbers.items) m is.
    let same = same_list ls end.last c.in-Some.memory.now m found is in
    let gone = adds_numbers key (IsTokenOf end (λ n. In n m.gone)) m.gone delta.gone.items c.add_keys.new.told.items delta.gone_numbers.items c.add_keys.new.told_numbers.items
    (subst (λ (ns : List ℕ). AddsInOrder key ns delta.gone.items c.add_keys.new.told.items delta.gone_numbers.items c.add_keys.new.told_numbers.items) (c.gone.ensures ∙ ap (λ (it : BetaMemoryValue). it.gone) same) c.in_ok-add_keys.ensures)
    (λ n i. (i, refl)) in
    let more = adds_numbers key (IsTokenOf end (λ n. In n m.come)) m.come delta.come.items c.add_keys-2.new.told.items delta.come_numbers.items c.add_keys-2.new.told_numbers.items
    (subst (λ (ns : List ℕ). AddsInOrder key ns delta.come.items c.add_keys-2.new.told.items delta.come_numbers.items c.add_keys-2.new.told_numbers.items) (c.come.ensures ∙ ap (λ (it : BetaMemoryValue). it.come) same) come)
    (λ n i. (i, refl)) in
    record { gone = gone.0; come = more.0; went = gone.1 })
    c.add_keys-2.ensures
