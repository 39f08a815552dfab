-- The words of the language, what each names as the head of a list, and how many arguments a function takes.
use Rattle.std.specs.Prelude.{ℕ, Bool, List, [], ◌∷◌, ◌++◌, Option, codes, map, nat_eq, nat_lt, not}
use Rattle.std.specs.Map.{lookup}
use Rattle.std.specs.Str.{bytes_eq}
use Rattle.cb_words.specs.declared.words.Arity.{Arity}
use Rattle.cb_words.specs.declared.words.Arity.TheVariants.{Exactly, AtLeast}
use Rattle.cb_words.specs.declared.words.Function.{Function}
use Rattle.cb_words.specs.declared.words.Function.TheVariants as function
use Rattle.cb_words.specs.declared.words.Action.TheVariants as action
use Rattle.cb_words.specs.declared.words.Command.TheVariants as command
use Rattle.cb_words.specs.declared.words.Construct.TheVariants as construct
use Rattle.cb_words.specs.declared.words.Head.{Head}
use Rattle.cb_words.specs.declared.words.Head.TheVariants as head

-- a word and what it names
abbrev pub Rows : Type 0
Rows = List (List ℕ × Head)

-- constructs
abbrev pub constructs : Rows
constructs =
    (codes "deftemplate", head.Construct construct.Deftemplate) ∷
    (codes "deffacts", head.Construct construct.Deffacts) ∷
    (codes "defglobal", head.Construct construct.Defglobal) ∷
    (codes "defrule", head.Construct construct.Defrule) ∷ []

-- functions with an effect
abbrev pub action_words : Rows
action_words =
    (codes "assert", head.Action action.Assert) ∷
    (codes "retract", head.Action action.Retract) ∷
    (codes "modify", head.Action action.Modify) ∷
    (codes "bind", head.Action action.Bind) ∷
    (codes "if", head.Action action.If) ∷
    (codes "while", head.Action action.While) ∷
    (codes "printout", head.Action action.Printout) ∷
    (codes "print", head.Action action.Print) ∷
    (codes "println", head.Action action.Println) ∷
    (codes "halt", head.Action action.Halt) ∷ []

-- commands
abbrev pub commands : Rows
commands =
    (codes "facts", head.Command command.Facts) ∷
    (codes "reset", head.Command command.Reset) ∷
    (codes "clear", head.Command command.Clear) ∷
    (codes "run", head.Command command.Run) ∷
    (codes "agenda", head.Command command.Agenda) ∷
    (codes "rules", head.Command command.Rules) ∷
    (codes "undefrule", head.Command command.Undefrule) ∷
    (codes "watch", head.Command command.Watch) ∷
    (codes "unwatch", head.Command command.Unwatch) ∷
    (codes "set-strategy", head.Command command.SetStrategy) ∷
    (codes "exit", head.Command command.Exit) ∷ []

-- functions without an effect
abbrev pub functions : Rows
functions =
    (codes "+", head.Function function.Add) ∷
    (codes "-", head.Function function.Subtract) ∷
    (codes "*", head.Function function.Multiply) ∷
    (codes "div", head.Function function.Div) ∷
    (codes "mod", head.Function function.Mod) ∷
    (codes "=", head.Function function.Equal) ∷
    (codes "<>", head.Function function.NotEqual) ∷
    (codes "<", head.Function function.Less) ∷
    (codes ">", head.Function function.Greater) ∷
    (codes "<=", head.Function function.LessOrEqual) ∷
    (codes ">=", head.Function function.GreaterOrEqual) ∷
    (codes "eq", head.Function function.Eq) ∷
    (codes "neq", head.Function function.Neq) ∷
    (codes "and", head.Function function.And) ∷
    (codes "or", head.Function function.Or) ∷
    (codes "not", head.Function function.Not) ∷
    (codes "min", head.Function function.Min) ∷
    (codes "max", head.Function function.Max) ∷
    (codes "abs", head.Function function.Abs) ∷
    (codes "create$", head.Function function.Create) ∷
    (codes "nth$", head.Function function.Nth) ∷
    (codes "length$", head.Function function.Length) ∷
    (codes "member$", head.Function function.Member) ∷
    (codes "first$", head.Function function.First) ∷
    (codes "rest$", head.Function function.Rest) ∷
    (codes "str-cat", head.Function function.StrCat) ∷
    (codes "sym-cat", head.Function function.SymCat) ∷
    (codes "integerp", head.Function function.Integerp) ∷
    (codes "numberp", head.Function function.Numberp) ∷
    (codes "symbolp", head.Function function.Symbolp) ∷
    (codes "stringp", head.Function function.Stringp) ∷
    (codes "lexemep", head.Function function.Lexemep) ∷
    (codes "multifieldp", head.Function function.Multifieldp) ∷
    (codes "evenp", head.Function function.Evenp) ∷
    (codes "oddp", head.Function function.Oddp) ∷ []

-- words of CLIPS that are known and not carried out
abbrev pub refused_words : List (List ℕ)
refused_words =
    codes "/" ∷ codes "**" ∷ codes "float" ∷ codes "integer" ∷ codes "round" ∷ codes "sqrt" ∷ codes "random" ∷
    codes "seed" ∷ codes "gensym" ∷ codes "gensym*" ∷ codes "defmodule" ∷ codes "focus" ∷ codes "deffunction" ∷
    codes "defgeneric" ∷ codes "defmethod" ∷ codes "defclass" ∷ codes "definstances" ∷
    codes "defmessage-handler" ∷ codes "load" ∷ codes "load*" ∷ codes "batch" ∷ codes "batch*" ∷ codes "bload" ∷
    codes "bsave" ∷ codes "save" ∷ codes "open" ∷ codes "close" ∷ codes "read" ∷ codes "readline" ∷
    codes "format" ∷ codes "loop-for-count" ∷ codes "foreach" ∷ codes "progn" ∷ codes "progn$" ∷ codes "switch" ∷
    codes "break" ∷ codes "return" ∷ codes "duplicate" ∷ codes "fact-index" ∷
    codes "fact-slot-value" ∷ codes "refresh" ∷ codes "matches" ∷ codes "set-break" ∷ codes "remove-break" ∷
    codes "show-breaks" ∷ codes "set-fact-duplication" ∷ codes "get-strategy" ∷ codes "undeftemplate" ∷
    codes "undeffacts" ∷ codes "undefglobal" ∷ codes "list-defrules" ∷ codes "list-deftemplates" ∷
    codes "list-deffacts" ∷ codes "ppdefrule" ∷ codes "ppfact" ∷ codes "eval" ∷ codes "build" ∷ codes "funcall" ∷
    codes "expand$" ∷ codes "explode$" ∷ codes "implode$" ∷ codes "subseq$" ∷ codes "delete$" ∷ codes "insert$" ∷
    codes "replace$" ∷ codes "str-index" ∷ codes "str-length" ∷ codes "str-compare" ∷ codes "sub-string" ∷
    codes "upcase" ∷ codes "lowcase" ∷ []

-- every word
abbrev pub words : Rows
words = constructs ++ (action_words ++ (commands ++ (functions ++ map (λ word. (word, head.Refused)) refused_words)))

-- what the word names as the head of a list, if it names anything
unfoldable pub head_of : List ℕ → Option Head
head_of word = lookup (bytes_eq word) words

-- A function takes this number of arguments.
abbrev pub takes : Arity → ℕ → Bool
takes (Exactly n) count = nat_eq count n
takes (AtLeast n) count = not (nat_lt count n)

-- How many arguments each function takes.
abbrev pub arity_of : Function → Arity
arity_of function.Add = AtLeast 2
arity_of function.Subtract = AtLeast 2
arity_of function.Multiply = AtLeast 2
arity_of function.Div = AtLeast 2
arity_of function.Mod = Exactly 2
arity_of function.Equal = AtLeast 2
arity_of function.NotEqual = AtLeast 2
arity_of function.Less = AtLeast 2
arity_of function.Greater = AtLeast 2
arity_of function.LessOrEqual = AtLeast 2
arity_of function.GreaterOrEqual = AtLeast 2
arity_of function.Eq = AtLeast 2
arity_of function.Neq = AtLeast 2
arity_of function.And = AtLeast 1
arity_of function.Or = AtLeast 1
arity_of function.Not = Exactly 1
arity_of function.Min = AtLeast 1
arity_of function.Max = AtLeast 1
arity_of function.Abs = Exactly 1
arity_of function.Create = AtLeast 0
arity_of function.Nth = Exactly 2
arity_of function.Length = Exactly 1
arity_of function.Member = Exactly 2
arity_of function.First = Exactly 1
arity_of function.Rest = Exactly 1
arity_of function.StrCat = AtLeast 1
arity_of function.SymCat = AtLeast 1
arity_of function.Integerp = Exactly 1
arity_of function.Numberp = Exactly 1
arity_of function.Symbolp = Exactly 1
arity_of function.Stringp = Exactly 1
arity_of function.Lexemep = Exactly 1
arity_of function.Multifieldp = Exactly 1
arity_of function.Evenp = Exactly 1
arity_of function.Oddp = Exactly 1
