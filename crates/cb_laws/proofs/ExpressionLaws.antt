-- What holds of a world however an expression is carried out, where values, turns and `halt` don't matter to it, and what changes facts keeps it.
use Rattle.std.proofs.Common.{ℕ, zero, suc, Bool, true, false, List, [], ◌∷◌, ◌++◌, Option, Some, None, Result, Ok, Err}
use Rattle.cb_actions.specs.Actions.{carried, carried_all, carried_values, round, rounds}
use Rattle.cb_actions.specs.Acts.{Act, become, give, give_or_fault, ◌>>=◌}
use Rattle.cb_actions.specs.Definitions.{all_asserted, all_evaluated, globals_after, globals_defined, one_evaluated}
use Rattle.cb_actions.specs.Effects.{asserted, bound, called, chosen, effected, ends, found, global_bound, joined, modified, retracted, truth_of, turn, turn_of, valued, wanted}
use Rattle.cb_actions.specs.Worlds.{World}
use Rattle.cb_eval.specs.Applied.{applied}
use Rattle.cb_eval.specs.Constants.{false_symbol}
use Rattle.cb_eval.specs.Evaluation.{value_of}
use Rattle.cb_eval.specs.Logic.{is_true}
use Rattle.cb_exprs.specs.Bindings.{Bindings, value_at, with_global, with_variable}
use Rattle.cb_exprs.specs.FactTerms.{FactTerm}
use Rattle.cb_exprs.specs.GlobalTerms.{GlobalTerm}
use Rattle.cb_exprs.specs.Shapes.{Shape, SlotCounts}
use Rattle.cb_exprs.specs.Terms.{Term, constant, variable, global, call, effect, choose, repeat, actions, Terms, no_terms, term}
use Rattle.cb_facts.specs.declared.value.Value.{Value}
use Rattle.cb_forms.specs.declared.fault.Fault.{Fault}
use Rattle.cb_forms.specs.declared.fault.Fault.TheVariants.{UnboundVariable, UnknownGlobal}
use Rattle.cb_laws.proofs.Keeping.{After, Keeps, keeps_then}
use Rattle.cb_words.specs.declared.words.Function.{Function}
use Rattle.cb_words.specs.declared.words.Function.TheVariants as function
use Rattle.cb_exprs.specs.declared.effect.Effect.{Effect}
use Rattle.cb_exprs.specs.declared.effect.Effect.TheVariants as kind

pub record IsKept (P Q : World → Type 0) : Type 0 where
  pub weaken : (s : World) → P s → Q s
  pub env : (s : World) (env : Bindings) → P s → P (record s { env = env })
  pub env_limit : (s : World) (env : Bindings) → Q s → Q (record s { env = env })
  pub turns : (s : World) (n : ℕ) → P s → P (record s { turns = n })
  pub halted : (s : World) (b : Bool) → P s → P (record s { is_halted = b })
  pub asserts : (shape : Shape) (vs : List Value) → Keeps P Q (asserted shape vs)
  pub retracts : (vs : List Value) → Keeps P Q (retracted vs)
  pub modifies : (slots : SlotCounts) (vs : List Value) → Keeps P Q (modified slots vs)

module _ (P Q : World → Type 0) (kept : IsKept P Q) where
  chosen_keeps : {A : Type 0} (b : Bool) (p q : Act World A) → Keeps P Q p → Keeps P Q q → Keeps P Q (chosen b p q)
  chosen_keeps true p q f g s h = f s h
  chosen_keeps false p q f g s h = g s h

  turn_keeps : (n : ℕ) (s : World) → P s → After P Q (turn_of n s).state (turn_of n s).answer
  turn_keeps zero s h = h
  turn_keeps (suc n) s h = kept.turns s n h

  wanted_keeps : (v : Option Value) → Keeps P Q (wanted v)
  wanted_keeps None s h = h
  wanted_keeps (Some v) s h = h

  found_keeps : (f : Fault) (o : Option Value) → Keeps P Q (found f o)
  found_keeps f None s h = h
  found_keeps f (Some v) s h = h

  read_keeps : {A : Type 0} (r : Result A Fault) → Keeps P Q (give_or_fault r)
  read_keeps (Ok a) s h = h
  read_keeps (Err f) s h = h

  pub valued_keeps : (act : Act World (Option Value)) → Keeps P Q act → Keeps P Q (valued act)
  valued_keeps act f = keeps_then P Q act wanted f wanted_keeps

  tested_keeps : (act : Act World (Option Value)) → Keeps P Q act → Keeps P Q (truth_of act)
  tested_keeps act f = keeps_then P Q (valued act) (λ v. give (is_true v)) (valued_keeps act f) (λ v s h. h)

  called_keeps : (f : Function) (vs : List Value) → Keeps P Q (called f vs)
  called_keeps f vs = keeps_then P Q (give_or_fault (applied f vs)) (λ v. give (Some v)) (read_keeps (applied f vs)) (λ v s h. h)

  joined_keeps : (vs : List Value) → Keeps P Q (joined vs)
  joined_keeps [] s h = read_keeps (applied function.Create []) s h
  joined_keeps (v ∷ []) s h = h
  joined_keeps (v ∷ w ∷ vs) s h = read_keeps (applied function.Create (v ∷ w ∷ vs)) s h

  effected_keeps : (e : Effect) (vs : List Value) → Keeps P Q (effected e vs)
  effected_keeps (kind.Assert shape) vs s h = kept.asserts shape vs s h
  effected_keeps kind.Retract vs s h = kept.retracts vs s h
  effected_keeps (kind.Modify slots) vs s h = kept.modifies slots vs s h
  effected_keeps (kind.Bind x) vs s h = keeps_then P Q (joined vs) (bound x) (joined_keeps vs) (λ v u k. kept.env u (with_variable x v u.env) k) s h
  effected_keeps (kind.BindGlobal x) vs s h = keeps_then P Q (joined vs) (global_bound x) (joined_keeps vs) (λ v u k. kept.env u (with_global x v u.env) k) s h
  effected_keeps kind.Halt vs s h = kept.halted s true h
  effected_keeps e vs s h = h

  -- rounds of a loop
  round_keeps : (test : Act World Bool) (action next : Act World (Option Value)) → Keeps P Q test → Keeps P Q action → Keeps P Q next → Keeps P Q (round test action next)
  round_keeps test action next f g k =
      keeps_then P Q test (λ b. chosen b (turn >>= (λ _. action >>= (λ _. next))) (give (Some false_symbol))) f
      (λ b. chosen_keeps b (turn >>= (λ _. action >>= (λ _. next))) (give (Some false_symbol))
      (keeps_then P Q turn (λ _. action >>= (λ _. next)) (λ s h. turn_keeps s.turns s h) (λ _. keeps_then P Q action (λ _. next) g (λ _. k))) (λ s h. h))

  rounds_keep : (n : ℕ) (test : Act World Bool) (action : Act World (Option Value)) → Keeps P Q test → Keeps P Q action → Keeps P Q (rounds n test action)
  rounds_keep zero test action f g s h = h
  rounds_keep (suc n) test action f g s h = round_keeps test action (rounds n test action) f g (rounds_keep n test action f g) s h

  mutual
    pub expression_keeps : (t : Term) → Keeps P Q (carried t)
    expression_keeps (constant v) s h = h
    expression_keeps (variable x) s h = found_keeps UnboundVariable (value_at x s.env.variables) s h
    expression_keeps (global x) s h = found_keeps UnknownGlobal (value_at x s.env.globals) s h
    expression_keeps (call f ts) s h = keeps_then P Q (carried_values (Some f) [] ts) (called f) (values_keep (Some f) [] ts) (called_keeps f) s h
    expression_keeps (effect e ts) s h = keeps_then P Q (carried_values None [] ts) (effected e) (values_keep None [] ts) (effected_keeps e) s h
    expression_keeps (choose t u w) s h =
        keeps_then P Q (truth_of (carried t)) (λ b. chosen b (carried u) (carried w)) (tested_keeps (carried t) (expression_keeps t))
        (λ b. chosen_keeps b (carried u) (carried w) (expression_keeps u) (expression_keeps w)) s h
    expression_keeps (repeat t u) s h = rounds_keep (suc s.turns) (truth_of (carried t)) (carried u) (tested_keeps (carried t) (expression_keeps t)) (expression_keeps u) s h
    expression_keeps (actions ts) s h = all_keep (Some false_symbol) ts s h

    pub values_keep : (f : Option Function) (vs : List Value) (ts : Terms) → Keeps P Q (carried_values f vs ts)
    values_keep f vs no_terms s h = h
    values_keep f vs (term t ts) s h =
        keeps_then P Q (valued (carried t)) (λ v. chosen (ends f v) (give (vs ++ v ∷ [])) (carried_values f (vs ++ v ∷ []) ts)) (valued_keeps (carried t) (expression_keeps t))
        (λ v. chosen_keeps (ends f v) (give (vs ++ v ∷ [])) (carried_values f (vs ++ v ∷ []) ts) (λ u k. k) (values_keep f (vs ++ v ∷ []) ts)) s h

    pub all_keep : (last : Option Value) (ts : Terms) → Keeps P Q (carried_all last ts)
    all_keep last no_terms s h = h
    all_keep last (term t ts) s h = keeps_then P Q (carried t) (λ v. carried_all v ts) (expression_keeps t) (λ v. all_keep v ts) s h

  -- globals, and the facts of a `reset`
  globals_put : (r : Result Bindings Fault) (s : World) → P s → After P Q ((give_or_fault r >>= (λ env. become (record s { env = env }))) s).state ((give_or_fault r >>= (λ env. become (record s { env = env }))) s).answer
  globals_put (Ok env) s h = kept.env s env h
  globals_put (Err f) s h = h

  pub globals_keep : (gs : List GlobalTerm) → Keeps P Q (globals_defined gs)
  globals_keep gs s h = globals_put (globals_after s.env gs) s h

  one_keeps : (g : GlobalTerm) → Keeps P Q (one_evaluated g)
  one_keeps g s h = keeps_then P Q (give_or_fault (value_of g.1 s.env)) (global_bound g.0) (read_keeps (value_of g.1 s.env)) (λ v u k. kept.env u (with_global g.0 v u.env) k) s h

  pub anew_keeps : (gs : List GlobalTerm) → Keeps P Q (all_evaluated gs)
  anew_keeps [] s h = h
  anew_keeps (g ∷ gs) s h = keeps_then P Q (one_evaluated g) (λ _. all_evaluated gs) (one_keeps g) (λ _. anew_keeps gs) s h

  pub facts_keep : (fs : List FactTerm) → Keeps P Q (all_asserted fs)
  facts_keep [] s h = h
  facts_keep (f ∷ fs) s h = keeps_then P Q (carried (effect (kind.Assert f.shape) f.values)) (λ _. all_asserted fs) (expression_keeps (effect (kind.Assert f.shape) f.values)) (λ _. facts_keep fs) s h
