-- What a `retract` does, after its values are checked.
use Rattle.std.proofs.Common.{◌≡◌, ◌⊎◌, inl, inr, Bool, true, false, List, [], Option, None, Result, Ok, Err, refl, sym, ap, subst, if◌then◌else◌}
use Rattle.std.specs.List.{list_all}
use Rattle.cb_actions.specs.Acts.{Effect, each, follow, give, stop, ◌>>=◌}
use Rattle.cb_actions.specs.Effects.{is_retractable, retracted, retracted_one}
use Rattle.cb_actions.specs.Worlds.{World}
use Rattle.cb_actions.specs.declared.act.EarlyEnd.{EarlyEnd}
use Rattle.cb_actions.specs.declared.act.EarlyEnd.TheVariants as ended
use Rattle.cb_actions.specs.declared.act.Limit.TheVariants.{Numbers}
use Rattle.cb_facts.specs.declared.value.Value.{Value}
use Rattle.cb_forms.specs.declared.fault.Fault.TheVariants.{NoSuchFact, WrongType}
use Rattle.cb_laws.proofs.RetractLaws.{EndsSo, Takes, fault, fine, takes_both, takes_none, values_end, values_take}
use Rattle.cb_laws.specs.Memories.{IsSound}
use Rattle.cb_laws.specs.Naming.{LeavesUnnamed, LeavesUpToMissing}

module _ (vs : List Value) (s : World) where
  -- what it comes to where each value can be retracted, and where one can't
  abbrev after_check : Bool → Effect World (Option Value)
  after_check t = if t then (each retracted_one vs >>= (λ _. give None)) s else stop (ended.Fault WrongType) s

  abbrev ended_so : Result (Unit {0}) EarlyEnd → Effect World (Option Value)
  ended_so r = follow (each retracted_one vs s).state (each retracted_one vs s).written r (λ _. give None)

  state_is : (r : Result (Unit {0}) EarlyEnd) → (ended_so r).state ≡ (each retracted_one vs s).state
  state_is (Ok v) = refl
  state_is (Err e) = refl

  is_ok : (r : Result (Unit {0}) EarlyEnd) (answer : Option Value) → (ended_so r).answer ≡ Ok answer → r ≡ Ok tt
  is_ok (Ok v) answer h = refl
  is_ok (Err e) answer h = absurd (cc)

  is_err : (r : Result (Unit {0}) EarlyEnd) (e : EarlyEnd) → (ended_so r).answer ≡ Err e → r ≡ Err e
  is_err (Ok v) e h = absurd (cc)
  is_err (Err x) e h =
      let same : x ≡ e = cc in
      ap Err same

  fine_by : (t : Bool) (answer : Option Value) → IsSound s.memory → list_all is_retractable vs ≡ t → (after_check t).answer ≡ Ok answer → LeavesUnnamed s.memory vs (after_check t).state.memory
  fine_by true answer sound may h =
      subst (λ (u : World). LeavesUnnamed s.memory vs u.memory) (sym (state_is (each retracted_one vs s).answer)) (fine vs s sound may (is_ok (each retracted_one vs s).answer answer h))
  fine_by false answer sound may h = absurd (cc)

  pub fine_left : (answer : Option Value) → IsSound s.memory → (retracted vs s).answer ≡ Ok answer → LeavesUnnamed s.memory vs (retracted vs s).state.memory
  fine_left answer sound h = fine_by (list_all is_retractable vs) answer sound refl h

  missing_by : (t : Bool) → IsSound s.memory → list_all is_retractable vs ≡ t → (after_check t).answer ≡ Err (ended.Fault NoSuchFact) → LeavesUpToMissing s vs (after_check t).state
  missing_by true sound may h = subst (LeavesUpToMissing s vs) (sym (state_is (each retracted_one vs s).answer)) (fault vs s sound may (is_err (each retracted_one vs s).answer (ended.Fault NoSuchFact) h))
  missing_by false sound may h = absurd (cc)

  pub missing_left : IsSound s.memory → (retracted vs s).answer ≡ Err (ended.Fault NoSuchFact) → LeavesUpToMissing s vs (retracted vs s).state
  missing_left sound h = missing_by (list_all is_retractable vs) sound refl h

  not_wrong : (r : Result (Unit {0}) EarlyEnd) → EndsSo r → r ≡ Err (ended.Fault WrongType) → ⊥
  not_wrong r (inl e) h = cc
  not_wrong r (inr (inl e)) h = cc
  not_wrong r (inr (inr e)) h = cc

  wrong_by : (t : Bool) → (after_check t).answer ≡ Err (ended.Fault WrongType) → (after_check t).state ≡ s
  wrong_by true h = absurd (not_wrong (each retracted_one vs s).answer (values_end vs s) (is_err (each retracted_one vs s).answer (ended.Fault WrongType) h))
  wrong_by false h = refl

  pub wrong_stays : (retracted vs s).answer ≡ Err (ended.Fault WrongType) → (retracted vs s).state ≡ s
  wrong_stays h = wrong_by (list_all is_retractable vs) h

  pub wrong_first : list_all is_retractable vs ≡ false → (retracted vs s).answer ≡ Err (ended.Fault WrongType)
  wrong_first h = ap (λ t. (after_check t).answer) h

  answers_by : (r : Result (Unit {0}) EarlyEnd) → EndsSo r → ((ended_so r).answer ≡ Ok None) ⊎ (((ended_so r).answer ≡ Err (ended.Fault NoSuchFact)) ⊎ ((ended_so r).answer ≡ Err (ended.Limit Numbers)))
  answers_by r (inl e) = inl (ap (λ x. (ended_so x).answer) e)
  answers_by r (inr (inl e)) = inr (inl (ap (λ x. (ended_so x).answer) e))
  answers_by r (inr (inr e)) = inr (inr (ap (λ x. (ended_so x).answer) e))

  checked_answers : (t : Bool) → t ≡ true → ((after_check t).answer ≡ Ok None) ⊎ (((after_check t).answer ≡ Err (ended.Fault NoSuchFact)) ⊎ ((after_check t).answer ≡ Err (ended.Limit Numbers)))
  checked_answers true e = answers_by (each retracted_one vs s).answer (values_end vs s)
  checked_answers false e = absurd (cc)

  pub retract_answers : list_all is_retractable vs ≡ true → ((retracted vs s).answer ≡ Ok None) ⊎ (((retracted vs s).answer ≡ Err (ended.Fault NoSuchFact)) ⊎ ((retracted vs s).answer ≡ Err (ended.Limit Numbers)))
  retract_answers h = checked_answers (list_all is_retractable vs) h

  -- what holds however it ends
  takes_so : (r : Result (Unit {0}) EarlyEnd) → Takes s (each retracted_one vs s).state (each retracted_one vs s).written → Takes s (ended_so r).state (ended_so r).written
  takes_so (Ok v) h = takes_both s (each retracted_one vs s).state (each retracted_one vs s).state (each retracted_one vs s).written [] h (takes_none (each retracted_one vs s).state)
  takes_so (Err e) h = h

  takes_by : (t : Bool) → Takes s (after_check t).state (after_check t).written
  takes_by true = takes_so (each retracted_one vs s).answer (values_take vs s)
  takes_by false = takes_none s

  pub retracted_takes : Takes s (retracted vs s).state (retracted vs s).written
  retracted_takes = takes_by (list_all is_retractable vs)
