-- The firings that a run takes.
use Rattle.std.proofs.Common.{◌≡◌, ◌≤◌, ◌+◌, ◌-◌, ◌∙◌, ℕ, zero, suc, Bool, true, false, List, Option, Some, None, Result, Ok, Err, ap, arith, option_map, refl, if◌then◌else◌}
use Rattle.cb_actions.specs.Actions.{carried_all}
use Rattle.cb_actions.specs.Effects.{asserted, retracted}
use Rattle.cb_actions.specs.Acts.{Act, follow, give, stop, ◌>>=◌}
use Rattle.cb_actions.specs.Changes.{moved}
use Rattle.cb_actions.specs.Runs.{actions_of, due_by, ran, run, spent, unless_halted, with_variables_of}
use Rattle.cb_actions.specs.Worlds.{World}
use Rattle.cb_actions.specs.declared.act.EarlyEnd.{EarlyEnd}
use Rattle.cb_actions.specs.declared.act.EarlyEnd.TheVariants as ended
use Rattle.cb_actions.specs.declared.act.Limit.TheVariants.{Firings}
use Rattle.cb_agenda.specs.Agendas.{popped}
use Rattle.cb_eval.specs.Constants.{false_symbol}
use Rattle.cb_facts.specs.declared.value.Value.{Value}
use Rattle.cb_laws.proofs.ActLaws.{asserts_only}
use Rattle.cb_laws.proofs.ExpressionLaws.{IsKept, all_keep}
use Rattle.cb_laws.proofs.Keeping.{after_any, from_any}
use Rattle.cb_laws.proofs.ModifyKeeping.{moves_keep}
use Rattle.cb_laws.proofs.MoveLaws.{moved_so}
use Rattle.cb_laws.proofs.RetractedLaws.{retracted_takes}
use Rattle.cb_rules.specs.RuleTables.{rule_numbered}
use Rattle.cb_matches.specs.Keys.{KeyValue}
use Rattle.cb_matches.specs.Networks.{bindings_of}

-- no expression changes the firings that are left
abbrev Has : ℕ → World → Type 0
Has n s = s.firings ≡ n

has_kept : (n : ℕ) → IsKept (Has n) (Has n)
has_kept n = record {
  weaken = λ s h. h;
  env = λ s env h. h;
  env_limit = λ s env h. h;
  turns = λ s m h. h;
  halted = λ s b h. h;
  asserts = λ shape vs s h. after_any (Has n) (asserted shape vs s).state (asserted shape vs s).answer (ap (λ (w : World). w.firings) (asserts_only shape vs s).only ∙ h);
  retracts = λ vs s h. after_any (Has n) (retracted vs s).state (retracted vs s).answer (ap (λ (w : World). w.firings) (retracted_takes vs s).changes.only ∙ h);
  modifies = moves_keep (Has n) (Has n) (λ next line s h. after_any (Has n) (moved next line s).state (moved next line s).answer (ap (λ (w : World). w.firings) (moved_so s next line).only ∙ h));
}

pub one_spent : (left n : ℕ) (k : KeyValue) (s : World) → (spent left n k s).state.firings ≡ left
one_spent left n k s =
    let before : World = with_variables_of (bindings_of s.memory.network k) (record s { firings = left }) in
    let act : Act World (Option Value) = carried_all (Some false_symbol) (actions_of (rule_numbered k.rule s.rules)) in
    from_any (Has left) (act before).state (act before).answer (all_keep (Has left) (Has left) (has_kept left) (Some false_symbol) (actions_of (rule_numbered k.rule s.rules)) before refl)

-- these firings are left of those, where so many were asked for
abbrev Within : ℕ → Option ℕ → ℕ → Type 0
Within n None r = r ≤ n
Within n (Some m) r = (r ≤ n) × (n ≤ r + m)

abbrev less : Option ℕ → Option ℕ
less asked = option_map (λ m. m - 1) asked

all_left : (n : ℕ) (asked : Option ℕ) (r : ℕ) → r ≡ n → Within n asked r
all_left n None r e = omega arith
all_left n (Some m) r e = (omega arith, omega arith)

-- one is taken
one_less : (n m r : ℕ) → Within n (less (Some (suc m))) r → Within (suc n) (Some (suc m)) r
one_less n m r h =
    let below : r ≤ n = h.0 in
    let above : n ≤ r + (suc m - 1) = h.1 in
    (omega arith, omega arith)

none_less : (n r : ℕ) → Within n None r → Within (suc n) None r
none_less n r h = omega arith

module _ (n : ℕ) (asked : Option ℕ) (done : ℕ) (more : (s : World) → s.firings ≡ n → Within n (less asked) (ran n (less asked) (done + 1) s).state.firings) where
  halted_within : (b : Bool) (s : World) → s.firings ≡ n → Within n (less asked) (if b then give tt s else ran n (less asked) (done + 1) s).state.firings
  halted_within true s e = all_left n (less asked) s.firings e
  halted_within false s e = more s e

  fired_within : (t : World) (w : List ℕ) (r : Result (Option Value) EarlyEnd) → t.firings ≡ n → Within n (less asked) (follow t w r (λ _. unless_halted (ran n (less asked) (done + 1)))).state.firings
  fired_within t w (Ok v) e = halted_within t.is_halted t e
  fired_within t w (Err x) e = all_left n (less asked) t.firings e

  spent_within : (k : KeyValue) (s : World)
      → Within n (less asked) (follow (spent n (done + 1) k s).state (spent n (done + 1) k s).written (spent n (done + 1) k s).answer (λ _. unless_halted (ran n (less asked) (done + 1)))).state.firings
  spent_within k s = fired_within (spent n (done + 1) k s).state (spent n (done + 1) k s).written (spent n (done + 1) k s).answer (one_spent n (done + 1) k s)

ran_within : (n : ℕ) (asked : Option ℕ) (done : ℕ) (s : World) → s.firings ≡ n → Within n asked (ran n asked done s).state.firings
ran_within zero (Some zero) done s e = all_left 0 (Some 0) s.firings e
ran_within zero (Some (suc m)) done s e = by (popped s.agenda).1
  where
    by : (o : Option KeyValue) → Within 0 (Some (suc m)) (due_by o (λ k. stop (ended.Limit Firings)) (record s { agenda = (popped s.agenda).0 })).state.firings
    by None = all_left 0 (Some (suc m)) s.firings e
    by (Some k) = all_left 0 (Some (suc m)) s.firings e
ran_within zero None done s e = by (popped s.agenda).1
  where
    by : (o : Option KeyValue) → Within 0 None (due_by o (λ k. stop (ended.Limit Firings)) (record s { agenda = (popped s.agenda).0 })).state.firings
    by None = all_left 0 None s.firings e
    by (Some k) = all_left 0 None s.firings e
ran_within (suc n) (Some zero) done s e = all_left (suc n) (Some 0) s.firings e
ran_within (suc n) (Some (suc m)) done s e = by (popped s.agenda).1 (λ t d. ran_within n (less (Some (suc m))) (done + 1) t d)
  where
    by : (o : Option KeyValue) → ((t : World) → t.firings ≡ n → Within n (less (Some (suc m))) (ran n (less (Some (suc m))) (done + 1) t).state.firings)
        → Within (suc n) (Some (suc m)) (due_by o (λ k. spent n (done + 1) k >>= (λ _. unless_halted (ran n (less (Some (suc m))) (done + 1)))) (record s { agenda = (popped s.agenda).0 })).state.firings
    by None more = all_left (suc n) (Some (suc m)) s.firings e
    by (Some k) more = one_less n m _ (spent_within n (Some (suc m)) done more k (record s { agenda = (popped s.agenda).0 }))
ran_within (suc n) None done s e = by (popped s.agenda).1 (λ t d. ran_within n None (done + 1) t d)
  where
    by : (o : Option KeyValue) → ((t : World) → t.firings ≡ n → Within n None (ran n None (done + 1) t).state.firings)
        → Within (suc n) None (due_by o (λ k. spent n (done + 1) k >>= (λ _. unless_halted (ran n None (done + 1)))) (record s { agenda = (popped s.agenda).0 })).state.firings
    by None more = all_left (suc n) None s.firings e
    by (Some k) more = none_less n _ (spent_within n None done more k (record s { agenda = (popped s.agenda).0 }))

run_within : (asked : Option ℕ) (s : World) → Within s.firings asked (run asked s).state.firings
run_within asked s = ran_within s.firings asked 0 (record s { is_halted = false }) refl

pub never_rise : (asked : Option ℕ) (s : World) → (run asked s).state.firings ≤ s.firings
never_rise None s = run_within None s
never_rise (Some n) s = (run_within (Some n) s).0

pub at_most : (n : ℕ) (s : World) → s.firings ≤ (run (Some n) s).state.firings + n
at_most n s = (run_within (Some n) s).1

limit_by : (n : ℕ) (s : World) (k : KeyValue) → n ≡ 0 → (popped s.agenda).1 ≡ Some k → (ran n None 0 s).answer ≡ Err (ended.Limit Firings)
limit_by zero s k e h = ap (λ o. (due_by o (λ l. stop (ended.Limit Firings)) (record s { agenda = (popped s.agenda).0 })).answer) h
limit_by (suc n) s k e h = absurd (omega arith)

pub none_left : (s : World) (k : KeyValue) → s.firings ≡ 0 → (popped s.agenda).1 ≡ Some k → (run None s).answer ≡ Err (ended.Limit Firings)
none_left s k e h = limit_by s.firings (record s { is_halted = false }) k e h
