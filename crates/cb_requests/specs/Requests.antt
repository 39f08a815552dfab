-- What an item of a script asks for, or its first fault.
use Rattle.std.specs.Prelude.{ℕ, Bool, true, false, List, [], Option, Some, None, Result, Ok, Err, option_map}
use Rattle.cb_agenda.specs.declared.strategy.Strategy.{Strategy}
use Rattle.cb_expr_forms.specs.Scopes.{Scope, plain_scope}
use Rattle.cb_exprs.specs.Bindings.{Bindings}
use Rattle.cb_exprs.specs.FactTerms.{FactTerm}
use Rattle.cb_exprs.specs.GlobalTerms.{GlobalTerm}
use Rattle.cb_exprs.specs.Terms.{Term, term_of}
use Rattle.cb_facts.specs.Results.{ok_then}
use Rattle.cb_forms.specs.Members.{call_of, head_and_rest}
use Rattle.cb_forms.specs.Trees.{Tree, Trees, Reading}
use Rattle.cb_forms.specs.declared.fault.Fault.{Fault}
use Rattle.cb_forms.specs.declared.fault.Fault.TheVariants.{MalformedForm}
use Rattle.cb_requests.specs.Arguments.{alone, item_in, optional_in, rule_name_in, strategy_in}
use Rattle.cb_requests.specs.Reads.{top_scope, expr_in, facts_in, globals_in, rule_in}
use Rattle.cb_requests.specs.declared.request.Request as asked
use Rattle.cb_requests.specs.declared.request.Request.TheVariants as program
use Rattle.cb_rules.specs.RuleValues.{RuleValue, rule_value}
use Rattle.cb_facts.specs.FaultLists.{unless_faulty}
use Rattle.cb_templates.specs.Slots.{SlotShape}
use Rattle.cb_templates.specs.TemplateFaults.{template_faults}
use Rattle.cb_templates.specs.TemplateShapes.{template_shape}
use Rattle.cb_templates.specs.Templates.{Templates, without_comment}
use Rattle.cb_words.specs.Words.{head_of}
use Rattle.cb_words.specs.declared.words.Command.{Command}
use Rattle.cb_words.specs.declared.words.Command.TheVariants as word
use Rattle.cb_words.specs.declared.words.Construct.{Construct}
use Rattle.cb_words.specs.declared.words.Construct.TheVariants as construct
use Rattle.cb_words.specs.declared.words.Head.{Head}
use Rattle.cb_words.specs.declared.words.Head.TheVariants as head
use Rattle.cb_words.specs.declared.watch_item.WatchItem.{WatchItem}

-- what an item asks for: an expression to carry out, a construct to define, or a command
pub data Request : Type 0 where
  -- to carry out an expression, and to show its value
  act : Term → Request
  -- to define a template: its relation's name, and its slots
  define_template : List ℕ × List SlotShape → Request
  -- to keep facts under a name for `reset`
  define_deffacts : List ℕ → List FactTerm → Request
  -- to define globals, one after another
  define_globals : List GlobalTerm → Request
  -- to define a rule, in place of one with its name
  define_rule : RuleValue → Request
  list_facts : Request
  list_agenda : Request
  list_rules : Request
  reset : Request
  clear : Request
  -- to fire rules: as many as the expression says, or all without one
  run : Option Term → Request
  -- to end the script, with the status that the expression says, if there is one
  exit : Option Term → Request
  -- to drop the rule with a name, or without one all rules
  undefine : Option (List ℕ) → Request
  -- to watch an item from now on, or no more
  watch : WatchItem → Bool → Request
  set_strategy : Strategy → Request

-- what a `Request` of the program asks for
abbrev pub request_by : asked.Request → Request
request_by (program.Act expr) = act (term_of expr)
request_by (program.DefineTemplate name template) = define_template (name, template)
request_by (program.DefineDeffacts name facts) = define_deffacts name facts.items
request_by (program.DefineGlobals globals) = define_globals globals.items
request_by (program.DefineRule rule) = define_rule (rule_value rule)
request_by program.ListFacts = list_facts
request_by program.ListAgenda = list_agenda
request_by program.ListRules = list_rules
request_by program.Reset = reset
request_by program.Clear = clear
request_by (program.Run count) = run (option_map term_of count)
request_by (program.Exit status) = exit (option_map term_of status)
request_by (program.Undefine name) = undefine name
request_by (program.Watch item on) = watch item on
request_by (program.SetStrategy strategy) = set_strategy strategy

-- a form that is no construct and no command
abbrev pub act_request : Templates → Bindings → Tree → Result Request Fault
act_request templates env t = ok_then act (expr_in (top_scope templates env t) t)

-- `(deffacts name "comment" fact ..)`, by its name and what follows
abbrev pub deffacts_request : Templates → Bindings → Option (List ℕ × Trees) → Result Request Fault
deffacts_request templates env None = Err MalformedForm
deffacts_request templates env (Some (name, ts)) = ok_then (define_deffacts name) (facts_in (plain_scope templates env []) (without_comment ts))

-- `(defglobal ?*name* = expression ..)`, by what follows its head: any number of globals, or none
abbrev pub globals_request : Templates → Bindings → Trees → Result Request Fault
globals_request templates env ts = ok_then define_globals (globals_in templates env [] ts)

-- `(deftemplate name "comment" slot ..)`, by what follows its head
abbrev pub template_request : (List ℕ → Bool) → Trees → Result Request Fault
template_request in_use ts = ok_then define_template (unless_faulty (template_faults in_use ts) (template_shape ts))

-- `(defrule name "comment" .. => ..)`, by what follows its head
abbrev pub rule_request : Templates → Bindings → Trees → Result Request Fault
rule_request templates env ts = ok_then define_rule (rule_in templates env ts)

-- a construct, by what follows its head
abbrev pub construct_request : Templates → Bindings → (List ℕ → Bool) → Construct → Trees → Result Request Fault
construct_request templates env in_use construct.Deftemplate ts = template_request in_use ts
construct_request templates env in_use construct.Deffacts ts = deffacts_request templates env (head_and_rest ts)
construct_request templates env in_use construct.Defglobal ts = globals_request templates env ts
construct_request templates env in_use construct.Defrule ts = rule_request templates env ts

-- a command by its arguments, which stand in this scope
abbrev pub command_request : Scope → Command → Trees → Result Request Fault
command_request s word.Facts ts = alone list_facts ts
command_request s word.Agenda ts = alone list_agenda ts
command_request s word.Rules ts = alone list_rules ts
command_request s word.Reset ts = alone reset ts
command_request s word.Clear ts = alone clear ts
command_request s word.Run ts = ok_then run (optional_in s ts)
command_request s word.Exit ts = ok_then exit (optional_in s ts)
command_request s word.Undefrule ts = ok_then undefine (rule_name_in ts)
command_request s word.Watch ts = ok_then (λ item. watch item true) (item_in ts)
command_request s word.Unwatch ts = ok_then (λ item. watch item false) (item_in ts)
command_request s word.SetStrategy ts = ok_then set_strategy (strategy_in ts)

-- a list that begins with a symbol, by what that symbol names and what follows it
abbrev pub headed_request : Templates → Bindings → (List ℕ → Bool) → Tree → Option Head → Trees → Result Request Fault
headed_request templates env in_use t (Some (head.Construct name)) ts = construct_request templates env in_use name ts
headed_request templates env in_use t (Some (head.Command name)) ts = command_request (top_scope templates env t) name ts
headed_request templates env in_use t h ts = act_request templates env t

-- a form, by the symbol that it begins with if it is a list with one
abbrev pub called_request : Templates → Bindings → (List ℕ → Bool) → Tree → Option (List ℕ × Trees) → Result Request Fault
called_request templates env in_use t None = act_request templates env t
called_request templates env in_use t (Some (name, ts)) = headed_request templates env in_use t (head_of name) ts

-- a construct, a command or an expression
abbrev pub form_request : Templates → Bindings → (List ℕ → Bool) → Tree → Result Request Fault
form_request templates env in_use t = called_request templates env in_use t (call_of t)

-- an item, where these relations have a template, these variables and globals a value, and these relations are in use
abbrev pub request_of : Templates → Bindings → (List ℕ → Bool) → Reading → Result Request Fault
request_of templates env in_use (Ok t) = form_request templates env in_use t
request_of templates env in_use (Err f) = Err f
