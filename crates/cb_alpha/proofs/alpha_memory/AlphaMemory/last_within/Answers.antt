use Rattle.std.proofs.Common.{◌≡◌, List, None, Option, Some, ap, map, option_copied, slice_get, subst, sym}
use Rattle.std.specs.List.{All}
use Rattle.cb_alpha.proofs.FoundInOrder.{is_there, last_in_facts}
use Rattle.cb_alpha.specs.AlphaMemories.{AlphaMemoryValue, AreLastInFacts, live_in}
use Rattle.cb_alpha.specs.Internal.Joined.{IsFiled, JoinIndexValue, fields_of}
use Rattle.cb_facts.specs.declared.value.Value.{Value}
use Rattle.cb_fit.specs.declared.join_fields.JoinField.{JoinField}
use Rattle.cb_alpha.proofs.alpha_memory.AlphaMemory.last_within.Goals as goal

pub returns-in-Some : goal.returns-in-Some
returns-in-Some c =
    let m = c.self.inside in
    let low = c.args.low.now in
    let high = c.args.high.now in
    let value : AlphaMemoryValue = record { candidates = m.candidates.slots; gone = m.gone; come = m.come; joins = map fields_of m.joins.items } in
    let j : JoinIndexValue = c.in-Some.index.now in
    let found : Option (List Value) = option_copied c.last_within.result in
    let js : List JoinIndexValue = c.deref.result.now in
    let look = c.in-Some.ensures.lookup in
    let all : js ≡ m.joins.items = c.deref.ensures.value in
    subst (λ (it : AlphaMemoryValue). (fields : List JoinField) → slice_get it.joins c.args.join ≡ Some fields → AreLastInFacts it fields low high found) c.self.view_is
    (λ fields asked. last_in_facts value js (ap (map fields_of) (sym all)) (subst (All (IsFiled (live_in m.candidates.slots m.gone))) (sym all) c.self.invariant.0.by_values) c.args.join fields asked j look.3.0 look.1 low high found c.last_within.ensures)

pub returns-in-None : goal.returns-in-None
returns-in-None c =
    let m = c.self.inside in
    let low = c.args.low.now in
    let high = c.args.high.now in
    let value : AlphaMemoryValue = record { candidates = m.candidates.slots; gone = m.gone; come = m.come; joins = map fields_of m.joins.items } in
    let js : List JoinIndexValue = c.deref.result.now in
    let all : js ≡ m.joins.items = c.deref.ensures.value in
    subst (λ (it : AlphaMemoryValue). (fields : List JoinField) → slice_get it.joins c.args.join ≡ Some fields → AreLastInFacts it fields low high None) c.self.view_is
    (λ fields asked. is_there value js (ap (map fields_of) (sym all)) (subst (All (IsFiled (live_in m.candidates.slots m.gone))) (sym all) c.self.invariant.0.by_values) c.args.join fields asked c.in-None.ensures.lookup.3)
