-- A list is none of the expressions that an atom is.
use Rattle.std.proofs.Common.{◌≡◌, ℕ, Bool, true, false, List, [], ◌∷◌, Option, Some, None, codes, refl, option_map, if◌then◌else◌}
use Rattle.std.specs.List.{list_any}
use Rattle.std.specs.Option.{unwrap_or}
use Rattle.cb_expr_forms.specs.Actions.{is_this_word, branches, after_else, is_else, bind_of, if_of, while_of, retract_of, printout_of, halt_of, named_channel, action_of}
use Rattle.cb_expr_forms.specs.ExprForms.{no_expr, list_expr, call_expr, exprs_of, assertions, modification}
use Rattle.cb_exprs.specs.Shapes.{SlotCounts}
use Rattle.cb_exprs.specs.Terms.{Term, constant, variable, global, call, effect, choose, repeat, actions}
use Rattle.cb_exprs.specs.declared.channel.Channel.{Channel}
use Rattle.cb_facts.specs.declared.value.Value.TheVariants as value
use Rattle.cb_forms.specs.Trees.{atom, branch, Trees, no_trees, tree}
use Rattle.cb_forms.specs.declared.token.Token.TheVariants as token
use Rattle.cb_templates.specs.Templates.{Templates}
use Rattle.cb_words.specs.Words.{head_of}
use Rattle.cb_words.specs.declared.words.Action.{Action}
use Rattle.cb_words.specs.declared.words.Action.TheVariants as action
use Rattle.cb_words.specs.declared.words.Head.{Head}
use Rattle.cb_words.specs.declared.words.Head.TheVariants as head

-- the expression is none of a constant, a variable and a global
abbrev pub IsCompound : Term → Type 0
IsCompound (constant v) = ⊥
IsCompound (variable x) = ⊥
IsCompound (global x) = ⊥
IsCompound t = Unit {0}

abbrev OrNone : Option Term → Type 0
OrNone None = Unit {0}
OrNone (Some t) = IsCompound t

unwraps : (o : Option Term) → OrNone o → IsCompound (unwrap_or o no_expr)
unwraps None h = tt
unwraps (Some t) h = h

chosen : (b : Bool) (o : Option Term) → OrNone o → OrNone (if b then o else None)
chosen true o h = h
chosen false o h = tt

refused : (b : Bool) (o : Option Term) → OrNone o → OrNone (if b then None else o)
refused true o h = tt
refused false o h = h

bind-compound : (ts : List Term) → OrNone (bind_of ts)
bind-compound [] = tt
bind-compound (variable x ∷ []) = tt
bind-compound (variable x ∷ t ∷ ts) = tt
bind-compound (global x ∷ []) = tt
bind-compound (global x ∷ t ∷ ts) = tt
bind-compound (t ∷ ts) = tt

if-compound : (ts : List Term) → OrNone (if_of ts)
if-compound [] = tt
if-compound (t ∷ []) = tt
if-compound (t ∷ word ∷ ts) = chosen (is_this_word (codes "then") word) (branches t ts) (refused (list_any is_else (after_else ts)) _ tt)

while-compound : (ts : List Term) → OrNone (while_of ts)
while-compound [] = tt
while-compound (t ∷ ts) = tt

retract-compound : (ts : List Term) → OrNone (retract_of ts)
retract-compound [] = tt
retract-compound (t ∷ ts) = tt

halt-compound : (ts : List Term) → OrNone (halt_of ts)
halt-compound [] = tt
halt-compound (t ∷ ts) = tt

mapped : (o : Option Channel) (f : Channel → Term) → ((on : Channel) → IsCompound (f on)) → OrNone (option_map f o)
mapped None f h = tt
mapped (Some on) f h = h on

printout-compound : (ts : List Term) → OrNone (printout_of ts)
printout-compound [] = tt
printout-compound (constant (value.Symbol name) ∷ ts) = mapped (named_channel name) _ (λ on. tt)
printout-compound (t ∷ ts) = tt

action-compound : (a : Action) (ts : List Term) → OrNone (action_of a ts)
action-compound action.Retract ts = retract-compound ts
action-compound action.Bind ts = bind-compound ts
action-compound action.If ts = if-compound ts
action-compound action.While ts = while-compound ts
action-compound action.Printout ts = printout-compound ts
action-compound action.Halt ts = halt-compound ts
action-compound a ts = tt

other-compound : (a : Action) (ts facts : List Term) (change : SlotCounts × List Term) → IsCompound (call_expr (Some (head.Action a)) ts facts change)
other-compound action.Assert ts facts change = tt
other-compound action.Modify ts facts change = tt
other-compound a ts facts change = unwraps (action_of a ts) (action-compound a ts)

call-compound : (h : Option Head) (ts facts : List Term) (change : SlotCounts × List Term) → IsCompound (call_expr h ts facts change)
call-compound None ts facts change = tt
call-compound (Some (head.Function f)) ts facts change = tt
call-compound (Some (head.Action a)) ts facts change = other-compound a ts facts change
call-compound (Some (head.Construct c)) ts facts change = tt
call-compound (Some (head.Command c)) ts facts change = tt
call-compound (Some head.Refused) ts facts change = tt

-- a list is none of them
pub list_compound : (templates : Templates) (ts : Trees) → IsCompound (list_expr templates ts)
list_compound templates no_trees = tt
list_compound templates (tree (branch us) ts) = tt
list_compound templates (tree (atom (token.Symbol name)) ts) = call-compound (head_of name) (exprs_of templates ts) (assertions templates ts) (modification templates ts)
list_compound templates (tree (atom t) ts) = tt

-- such an expression is no word, and names nothing
pub compound-word : (word : List ℕ) (t : Term) → IsCompound t → is_this_word word t ≡ false
compound-word word (constant v) h = absurd h
compound-word word t h = refl

pub compound_bind : (t : Term) (ts : List Term) → IsCompound t → bind_of (t ∷ ts) ≡ None
compound_bind (constant v) ts h = absurd h
compound_bind (variable x) ts h = absurd h
compound_bind (global x) ts h = absurd h
compound_bind t ts h = refl

pub compound_printout : (t : Term) (ts : List Term) → IsCompound t → printout_of (t ∷ ts) ≡ None
compound_printout (constant v) ts h = absurd h
compound_printout t ts h = refl
