-- What a call with an effect is, by its arguments.
use Rattle.std.specs.Prelude.{◌||◌, ℕ, Bool, false, List, [], ◌∷◌, Option, Some, None, codes, option_map, if◌then◌else◌}
use Rattle.std.specs.List.{list_any}
use Rattle.std.specs.Str.{bytes_eq}
use Rattle.cb_exprs.specs.Terms.{Term, constant, variable, global, effect, choose, repeat, actions, terms}
use Rattle.cb_exprs.specs.declared.channel.Channel.{Channel}
use Rattle.cb_exprs.specs.declared.channel.Channel.TheVariants as channel
use Rattle.cb_exprs.specs.declared.effect.Effect.TheVariants as kind
use Rattle.cb_facts.specs.declared.value.Value.TheVariants as value
use Rattle.cb_words.specs.declared.words.Action.{Action}
use Rattle.cb_words.specs.declared.words.Action.TheVariants as action

-- the argument is this word
abbrev pub is_this_word : List ℕ → Term → Bool
is_this_word word (constant (value.Symbol bytes)) = bytes_eq bytes word
is_this_word word t = false

-- `(bind ?name value ..)`, `(bind ?*name* value ..)`
abbrev pub bind_of : List Term → Option Term
bind_of (variable x ∷ t ∷ ts) = Some (effect (kind.Bind x) (terms (t ∷ ts)))
bind_of (global x ∷ t ∷ ts) = Some (effect (kind.BindGlobal x) (terms (t ∷ ts)))
bind_of ts = None

abbrev pub is_else : Term → Bool
is_else t = is_this_word (codes "else") t

-- the actions up to the first `else`, and those after it
abbrev pub before_else : List Term → List Term
before_else [] = []
before_else (t ∷ ts) = if is_else t then [] else t ∷ before_else ts

-- What stands after the word `else`.
abbrev pub after_else : List Term → List Term
after_else [] = []
after_else (t ∷ ts) = if is_else t then ts else after_else ts

-- the actions of an `if`, among which `else` stands at most once
abbrev pub branches : Term → List Term → Option Term
branches test ts =
    if list_any is_else (after_else ts) then None else Some (choose test (actions (terms (before_else ts))) (actions (terms (after_else ts))))

-- `(if test then action .. else action ..)`
abbrev pub if_of : List Term → Option Term
if_of (test ∷ word ∷ ts) = if is_this_word (codes "then") word then branches test ts else None
if_of ts = None

-- the actions of a `while`, before which `do` may stand
abbrev pub after_do : List Term → List Term
after_do [] = []
after_do (t ∷ ts) = if is_this_word (codes "do") t then ts else t ∷ ts

-- `(while test do action ..)`
abbrev pub while_of : List Term → Option Term
while_of [] = None
while_of (test ∷ ts) = Some (repeat test (actions (terms (after_do ts))))

-- the channel of a name
abbrev pub named_channel : List ℕ → Option Channel
named_channel name =
    if bytes_eq name (codes "t") || bytes_eq name (codes "stdout") then Some channel.Output else (
    if bytes_eq name (codes "nil") then Some channel.Nowhere else None)

-- `(printout channel value ..)`
abbrev pub printout_of : List Term → Option Term
printout_of (constant (value.Symbol name) ∷ ts) = option_map (λ on. effect (kind.Printout on) (terms ts)) (named_channel name)
printout_of ts = None

-- `(retract value ..)`
abbrev pub retract_of : List Term → Option Term
retract_of [] = None
retract_of ts = Some (effect kind.Retract (terms ts))

-- `(halt)`
abbrev pub halt_of : List Term → Option Term
halt_of [] = Some (effect kind.Halt (terms []))
halt_of ts = None

-- a call with an effect, where the number and the shape of its arguments are right; an `assert` and a `modify` are no calls of
-- arguments alone
abbrev pub action_of : Action → List Term → Option Term
action_of action.Assert ts = None
action_of action.Modify ts = None
action_of action.Retract ts = retract_of ts
action_of action.Bind ts = bind_of ts
action_of action.If ts = if_of ts
action_of action.While ts = while_of ts
action_of action.Printout ts = printout_of ts
action_of action.Print ts = Some (effect kind.Print (terms ts))
action_of action.Println ts = Some (effect kind.Println (terms ts))
action_of action.Halt ts = halt_of ts
