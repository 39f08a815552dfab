-- What an item asks for, by what a state shows of itself; and a request that is this one.
use Rattle.std.proofs.Common.{◌≡◌, ◌∙◌, List, Option, Result, Err, refl, sym, ap}
use Rattle.cb_actions.specs.Went.{Went}
use Rattle.cb_actions.proofs.ActLaws.{went_as}
use Rattle.cb_actions.specs.declared.act.Break.{Break}
use Rattle.cb_exprs.specs.Bindings.{Bindings}
use Rattle.cb_facts.specs.Results.{Reports}
use Rattle.cb_facts.specs.declared.refused.Refused.{Refused}
use Rattle.cb_facts.specs.declared.refused.Refused.TheVariants as refused
use Rattle.cb_forms.specs.Trees.{Reading}
use Rattle.cb_facts.specs.declared.value.Value.{Value}
use Rattle.cb_forms.specs.declared.fault.Fault.{Fault}
use Rattle.cb_io.specs.Histories.{PastWrites}
use Rattle.cb_io.specs.Output.{OutState}
use Rattle.cb_knowledge_base.specs.Deffacts.{DeffactsTable}
use Rattle.cb_knowledge_base.specs.KnowledgeBase.{Memory}
use Rattle.cb_requests.specs.Requests.{Request, request_by, request_of}
use Rattle.cb_requests.specs.Uses.{is_in_use}
use Rattle.cb_requests.specs.declared.request.Request as program
use Rattle.cb_rules.specs.RuleInfos.{RuleInfo}
use Rattle.cb_session.specs.Actions.{performed, requested}
use Rattle.cb_session.specs.States.{State}
use Rattle.cb_templates.specs.Templates.{Templates}

module _ (s : State) (r : Reading) (templates : Templates) (env : Bindings) (memory : Memory) (rules : List RuleInfo) (deffacts : DeffactsTable)
    (a : templates ≡ s.world.templates) (b : env ≡ s.world.env) (c : memory ≡ s.world.memory) (d : rules ≡ s.world.rules) (e : deffacts ≡ s.deffacts) where
  pub requested_so : (told : Result Request Fault) → request_of templates env (is_in_use memory rules deffacts) r ≡ told → requested s r ≡ told
  requested_so told h =
      sym (ap (λ it. request_of it env (is_in_use memory rules deffacts) r) a
      ∙ ap (λ it. request_of s.world.templates it (is_in_use memory rules deffacts) r) b
      ∙ ap (λ it. request_of s.world.templates s.world.env (is_in_use it rules deffacts) r) c
      ∙ ap (λ it. request_of s.world.templates s.world.env (is_in_use s.world.memory it deffacts) r) d
      ∙ ap (λ it. request_of s.world.templates s.world.env (is_in_use s.world.memory s.world.rules it) r) e)
      ∙ h

  pub refused_so : (refusal : Refused) → Reports refusal (λ f. request_of templates env (is_in_use memory rules deffacts) r ≡ Err f) → Reports refusal (λ f. requested s r ≡ Err f)
  refused_so (refused.Fault f) h = requested_so (Err f) h
  refused_so refused.NoMemory h = tt

pub performed_so : {K : Type 0} (writes : K → PastWrites) (o o1 : OutState K) (s t : State) (result : Result (Option Value) Break) (request this : program.Request) → request ≡ this
    → Went writes o o1 t result (performed (request_by this) s) → Went writes o o1 t result (performed (request_by request) s)
performed_so writes o o1 s t result request this is h = went_as writes o o1 t _ _ _ _ refl (ap (λ it. performed (request_by it) s) is) h
