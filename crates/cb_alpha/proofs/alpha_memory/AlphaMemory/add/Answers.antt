use Rattle.std.proofs.Common.{rules, ◌≡◌, ◌≢◌, ◌∙◌, ◌<◌, ◌^◌, ℕ, List, Some, ap, length, map, refl, subst, sym}
use Rattle.std.specs.List.{All}
use Rattle.cb_alpha.proofs.FoundFacts.{back, back_live, but_then, found_back, found_more, free_live, others_then, there_then}
use Rattle.cb_alpha.proofs.Joins.{as_long, written}
use Rattle.cb_alpha.proofs.LiveNumbers.{listed_then, no_group}
use Rattle.cb_alpha.proofs.Numbers.{none_found}
use Rattle.cb_alpha.proofs.ReadFacts.{same_some, some_none}
use Rattle.cb_alpha.specs.AlphaMemories.{AlphaMemoryValue, candidate_in, index_of, live_in}
use Rattle.cb_alpha.specs.Internal.FactNumbers.{number_by}
use Rattle.cb_alpha.specs.Internal.Joined.{IsFiled, IsFiledBut, IsFound, IsInserted, JoinIndexValue, fields_of, group_for}
use Rattle.cb_facts.specs.Facts.{FactValue}
use Rattle.cb_number_map.specs.Filed.{ChangesAt}
use Rattle.cb_alpha.proofs.alpha_memory.AlphaMemory.add.Goals as goal

pub invariant_of-self-in-Ok : goal.invariant_of-self-in-Ok
invariant_of-self-in-Ok c =
    let m = c.self.inside in
    let number : ℕ = c.in_ok-number.number in
    let cs' = c.insert.new.candidates.slots in
    let joins' : List JoinIndexValue = c.file-filed.new.joins in
    let is : IsInserted m.candidates.slots cs' number c.args.fact = search rules in
    let fits : number < 2 ^ 32 = search rules in
    let long : m.joins.len ≡ length joins' = search rules in
    let update : ChangesAt (number_by m.numbers) (number_by c.file-filed.new.numbers) c.args.fact.0 (Some number) = c.in-Ok.ensures.by_index c.args.fact is.there in
    let filed : All (IsFiled (live_in cs' m.gone)) joins' =
    c.in-Ok.ensures.by_values (live_in cs' m.gone) c.args.fact is.there (there_then m.candidates.slots m.gone (number_by m.numbers) m.joins.items c.self.invariant.0 cs' number c.args.fact is fits)
    (subst (All (IsFiledBut number (live_in cs' m.gone))) (sym c.as_mut_slice.ensures.value) (but_then m.candidates.slots m.gone (number_by m.numbers) m.joins.items c.self.invariant.0 cs' number c.args.fact is fits)) in
    let absent : (n : ℕ) → index_of (live_in m.candidates.slots m.gone n) ≢ Some c.args.fact.0 = search rules in (
      subst (IsFound cs' m.gone (number_by c.file-filed.new.numbers)) (sym (written m.joins.len joins' m.joins.items long))
          (found_more m.candidates.slots m.gone (number_by m.numbers) m.joins.items c.self.invariant.0 cs' number c.args.fact is fits (number_by c.file-filed.new.numbers) joins' absent update filed),
      λ n e none. some_none (candidate_in cs' number) is.there (ap (candidate_in cs') (same_some (Some number) refl e) ∙ none),
      listed_then m.all (live_in m.candidates.slots m.gone) c.self.invariant.2 (live_in cs' m.gone) c.file-filed.new.all number c.file-filed.ensures.others_listed
          (others_then m.candidates.slots m.gone (number_by m.numbers) m.joins.items c.self.invariant.0 cs' number c.args.fact is fits)
          (c.in-Ok.ensures.listed.changed ∙ sym (ap group_for (there_then m.candidates.slots m.gone (number_by m.numbers) m.joins.items c.self.invariant.0 cs' number c.args.fact is fits))),
    )

pub invariant_of-self-in-Err : goal.invariant_of-self-in-Err
invariant_of-self-in-Err c =
    let m = c.self.inside in
    let number : ℕ = c.in_ok-number.number in
    let cs' = c.insert.new.candidates.slots in
    let cs'' = c.try_remove.new.self.slots in
    let joins' : List JoinIndexValue = c.file-filed.new.joins in
    let joins'' : List JoinIndexValue = c.remove_from_all.new.joins in
    let is : IsInserted m.candidates.slots cs' number c.args.fact = search rules in
    let fits : number < 2 ^ 32 = search rules in
    let long' : m.joins.len ≡ length joins' = search rules in
    let lent : c.as_mut_slice-in-Err.result.now ≡ joins' = c.as_mut_slice-in-Err.ensures.value ∙ written m.joins.len joins' m.joins.items long' in
    let alike : length joins'' ≡ length joins' = as_long joins'' joins' (c.remove_from_all.ensures.fields ∙ ap (map fields_of) lent) in
    let long'' : m.joins.len ≡ length joins'' = long' ∙ sym alike in
    let but : All (IsFiledBut number (live_in cs' m.gone)) joins' = c.file-filed.ensures.others (live_in cs' m.gone)
    (subst (All (IsFiledBut number (live_in cs' m.gone))) (sym c.as_mut_slice.ensures.value) (but_then m.candidates.slots m.gone (number_by m.numbers) m.joins.items c.self.invariant.0 cs' number c.args.fact is fits)) in (
      subst (IsFound cs'' m.gone (number_by c.file-filed.new.numbers)) (sym (written m.joins.len joins'' _ long''))
          (found_back m.candidates.slots m.gone (number_by m.numbers) m.joins.items c.self.invariant.0 cs' number c.args.fact is fits cs'' c.try_remove.ensures.updates.changed c.try_remove.ensures.updates.others
          (number_by c.file-filed.new.numbers) joins' joins'' c.in-Err.ensures.err but
          (λ found none before. c.remove_from_all.ensures.facts found none (subst (All (IsFiledBut number found)) (sym lent) before))),
      λ n e none. c.self.invariant.1 n e (sym (back m.candidates.slots m.gone (number_by m.numbers) m.joins.items c.self.invariant.0 cs' number c.args.fact is fits cs'' c.try_remove.ensures.updates.changed c.try_remove.ensures.updates.others n) ∙ none),
      listed_then m.all (live_in m.candidates.slots m.gone) c.self.invariant.2 (live_in cs'' m.gone) c.remove.new.self number
          (λ n d. c.remove.ensures.others n d ∙ c.file-filed.ensures.others_listed n d)
          (λ n d. back_live m.candidates.slots m.gone (number_by m.numbers) m.joins.items c.self.invariant.0 cs' number c.args.fact is fits cs'' c.try_remove.ensures.updates.changed c.try_remove.ensures.updates.others n)
          (c.remove.ensures.changed ∙ sym (no_group (live_in cs'' m.gone number) (free_live cs'' m.gone number c.try_remove.ensures.updates.changed))),
    )

pub file-filed-requires-clause-absent : goal.file-filed-requires-clause-absent
file-filed-requires-clause-absent c = λ f h.
    let m = c.self.inside in
    let there : candidate_in c.insert.new.candidates.slots c.in_ok-number.number ≡ Some c.args.fact = search rules in
    let same : f ≡ c.args.fact = same_some (candidate_in c.insert.new.candidates.slots c.in_ok-number.number) h there in
    let absent : (n : ℕ) → index_of (live_in m.candidates.slots m.gone n) ≢ Some c.args.fact.0 = search rules in
    ap (λ (it : ℕ × FactValue). number_by m.numbers it.0) same ∙ none_found (number_by m.numbers) (λ n. index_of (live_in m.candidates.slots m.gone n)) c.args.fact.0 c.self.invariant.0.by_index absent

pub returns-in-Err-clause-err : goal.returns-in-Err-clause-err
returns-in-Err-clause-err c =
    let m = c.self.inside in
    let joins' : List JoinIndexValue = c.file-filed.new.joins in
    let joins'' : List JoinIndexValue = c.remove_from_all.new.joins in
    let long' : m.joins.len ≡ length joins' = search rules in
    let lent : c.as_mut_slice-in-Err.result.now ≡ joins' = c.as_mut_slice-in-Err.ensures.value ∙ written m.joins.len joins' m.joins.items long' in
    let fields : map fields_of joins'' ≡ map fields_of joins' = c.remove_from_all.ensures.fields ∙ ap (map fields_of) lent in
    let long'' : m.joins.len ≡ length joins'' = long' ∙ sym (as_long joins'' joins' fields) in
    record {
      candidates = search rules;
      gone = search rules;
      come = search rules;
      joins = ap (map fields_of) (written m.joins.len joins'' _ long'')
          ∙ (fields ∙ (c.file-filed.ensures.fields ∙ (ap (map fields_of) c.as_mut_slice.ensures.value ∙ ap (λ (it : AlphaMemoryValue). it.joins) c.self.view_is)));
    }
