-- Scripts and what they write, worked out by hand from the rules.
use Prim.Native.String.{String}
use Rattle.std.proofs.Common.{◌≡◌, ◌-◌, ℕ, ℤ, pos, negsuc, List, [], ◌∷◌, map, Some, Ok, codes, refl}
use Rattle.std.specs.Fmt.{digits}
use Rattle.cb_eval.specs.Internal.Operations.{operator_of}
use Rattle.cb_forms.specs.Items.{whole, over, fitting, parts, is_open_list}
use Rattle.cb_forms.specs.Pieces.{pieces}
use Rattle.cb_forms.specs.Trees.{Tree, atom, branch, trees_of}
use Rattle.cb_forms.specs.Words.{token_of}
use Rattle.cb_forms.specs.declared.token.Token.TheVariants as token
use Rattle.cb_actions.specs.Changes.{moved}
use Rattle.cb_agenda.specs.Agendas.{agenda_list, popped}
use Rattle.cb_knowledge_base.specs.KnowledgeBase.{greatest_index}
use Rattle.cb_lines.specs.Lines.{agenda_line}
use Rattle.cb_matches.specs.Changes.{keys_come, keys_gone}
use Rattle.cb_matches.specs.Matches.{matches_of}
use Rattle.cb_matches.specs.Networks.{all_keys, all_matches, bindings_of}
use Rattle.cb_requests.specs.Reads.{rule_in}
use Rattle.cb_session.specs.Actions.{acted}
use Rattle.cb_session.specs.Setups.{Setup}
use Rattle.cb_session.specs.States.{State, first_state}
use Rattle.cb_session.specs.Transcripts.{begun, after_all, complete, executed, limit_status, so_far, status_of, transcript}
use Rattle.cb_session.specs.declared.status.Ending.TheVariants.{Done, Exit}
use Rattle.cb_words.specs.Reserved.{is_reserved}
use Rattle.cb_words.specs.Words.{head_of}

-- a symbol, a string, a number and a list, as they stand in a script
abbrev word : String → Tree
word s = atom (token.Symbol (codes s))

abbrev text : String → Tree
text s = atom (token.Str (codes s))

abbrev number : ℤ → Tree
number n = atom (token.Int n)

abbrev variable : Tree
variable = atom (token.Var (codes "x"))

abbrev global : Tree
global = atom (token.Global (codes "g"))

abbrev other : Tree
other = atom (token.Global (codes "h"))

abbrev list : List Tree → Tree
list ts = branch (trees_of ts)

-- a call of a name
abbrev call : String → List Tree → Tree
call name args = list (word name ∷ args)

-- limits of 3, of 9 and of 12 bytes for a form, of 2 turns for all loops, and of 1 firing
abbrev limited : ℕ → Setup
limited n = record { max_form = n; max_firings = 1; max_turns = 2; index = 0; rule = 0; stamp = 0 }

abbrev three : Setup
three = limited 3

abbrev nine : Setup
nine = limited 9

abbrev twelve : Setup
twelve = limited 12

-- `(while (< ?x 2) do (bind ?x (+ ?x 1)))`
abbrev loop : Tree
loop = call "while" (call "<" (variable ∷ number (pos 2) ∷ []) ∷ word "do" ∷ call "bind" (variable ∷ call "+" (variable ∷ number (pos 1) ∷ []) ∷ []) ∷ [])

-- what these forms write, one after another
abbrev written_by : List Tree → List ℕ
written_by forms = (after_all (begun twelve) (map (λ t. Ok t) forms)).written

colors : written_by (call "assert" (call "color" (word "red" ∷ []) ∷ []) ∷ call "facts" [] ∷ call "printout" (word "t" ∷ text "ok" ∷ word "crlf" ∷ []) ∷ [])
    ≡ codes "<Fact-1>\nf-1     (color red)\nFor a total of 1 fact.\nok\n"
unfolding executed acted head_of operator_of is_reserved digits moved keys_come keys_gone all_keys all_matches matches_of popped
colors = refl

-- an equal fact isn't added, and the last one's address is printed
equal_facts : written_by (call "assert" (call "a" (text "x \"y\"" ∷ number (negsuc 6) ∷ []) ∷ call "b" [] ∷ []) ∷ call "assert" (call "c" [] ∷ call "b" [] ∷ []) ∷ call "facts" [] ∷ [])
    ≡ codes "<Fact-2>\n<Fact-2>\nf-1     (a \"x \\\"y\\\"\" -7)\nf-2     (b)\nf-3     (c)\nFor a total of 3 facts.\n"
unfolding executed acted head_of operator_of is_reserved digits moved keys_come keys_gone all_keys all_matches matches_of popped
equal_facts = refl

-- constants, and what stands in their place
atoms : written_by (word "abc" ∷ text "a\"b\\c" ∷ number (pos 5) ∷ variable ∷ global ∷ atom token.Any ∷ atom token.Or ∷ list [] ∷ list (number (pos 1) ∷ []) ∷ [])
    ≡ codes "abc\n\"a\\\"b\\\\c\"\n5\n[CB11] unbound variable\n[CB12] unknown global variable\n[CB08] malformed form\n[CB08] malformed form\n[CB08] malformed form\n[CB08] malformed form\n"
unfolding executed acted head_of operator_of is_reserved digits moved keys_come keys_gone all_keys all_matches matches_of popped
atoms = refl

-- heads that nothing has, and one that the profile leaves out
heads : written_by (call "foo" [] ∷ call "lowcase" [] ∷ call "test" [] ∷ [])
    ≡ codes "[CB06] unknown function\n[CB14] not in this profile\n[CB06] unknown function\n"
unfolding executed acted head_of operator_of is_reserved digits moved keys_come keys_gone all_keys all_matches matches_of popped
heads = refl

-- the first fault of `assert`, before any fact is asserted
wrong_facts : written_by (call "assert" [] ∷ call "assert" (call "a" [] ∷ word "b" ∷ []) ∷ call "assert" (call "a" (variable ∷ []) ∷ word "b" ∷ []) ∷ call "assert" (call "test" [] ∷ []) ∷ call "assert" (call "a" (word "=" ∷ number (pos 1) ∷ []) ∷ []) ∷ call "assert" (call "a" (word "=" ∷ call "b" [] ∷ []) ∷ []) ∷ call "assert" (call "a" (call "b" [] ∷ []) ∷ []) ∷ call "assert" (call "a" (call "facts" [] ∷ []) ∷ []) ∷ call "facts" (number (pos 1) ∷ []) ∷ call "facts" [] ∷ [])
    ≡ codes "[CB07] wrong arguments\n[CB09] fact does not fit its template\n[CB11] unbound variable\n[CB09] fact does not fit its template\n<Fact-1>\n[CB14] not in this profile\n[CB06] unknown function\n[CB14] not in this profile\n[CB07] wrong arguments\nf-1     (a = 1)\nFor a total of 1 fact.\n"
unfolding executed acted head_of operator_of is_reserved digits moved keys_come keys_gone all_keys all_matches matches_of popped
wrong_facts = refl

-- a reset drops the facts and asserts those of each `deffacts`
reset_facts : written_by (call "deffacts" (word "d" ∷ call "a" [] ∷ call "b" (number (pos 2) ∷ []) ∷ []) ∷ call "assert" (call "z" [] ∷ []) ∷ call "reset" [] ∷ call "facts" [] ∷ [])
    ≡ codes "<Fact-1>\nf-1     (a)\nf-2     (b 2)\nFor a total of 2 facts.\n"
unfolding executed acted head_of operator_of is_reserved digits moved keys_come keys_gone all_keys all_matches matches_of popped
reset_facts = refl

-- a relation in use gets no template, until all is cleared
in_use : written_by (call "assert" (call "p" (number (pos 1) ∷ []) ∷ []) ∷ call "deftemplate" (word "p" ∷ call "slot" (word "q" ∷ []) ∷ []) ∷ call "clear" [] ∷ call "deftemplate" (word "p" ∷ call "slot" (word "q" ∷ []) ∷ []) ∷ call "assert" (call "p" [] ∷ []) ∷ call "facts" [] ∷ [])
    ≡ codes "<Fact-1>\n[CB23] template in use\n<Fact-1>\nf-1     (p (q nil))\nFor a total of 1 fact.\n"
unfolding executed acted head_of operator_of is_reserved digits moved keys_come keys_gone all_keys all_matches matches_of popped
in_use = refl

-- a slot that must be given, and a default of more than one value
defaults : written_by (call "deftemplate" (word "t" ∷ call "slot" (word "k" ∷ call "default" (atom (token.Var (codes "NONE")) ∷ []) ∷ []) ∷ call "multislot" (word "m" ∷ call "default" (number (pos 1) ∷ text "b" ∷ []) ∷ []) ∷ []) ∷ call "assert" (call "t" (call "m" [] ∷ []) ∷ []) ∷ call "assert" (call "t" (call "k" (word "z" ∷ []) ∷ []) ∷ []) ∷ call "facts" [] ∷ [])
    ≡ codes "[CB09] fact does not fit its template\n<Fact-1>\nf-1     (t (k z) (m 1 \"b\"))\nFor a total of 1 fact.\n"
unfolding executed acted head_of operator_of is_reserved digits moved keys_come keys_gone all_keys all_matches matches_of popped
defaults = refl

-- facts retracted by their indices, one of which no fact has, and all of them
retracted_facts : written_by (call "assert" (call "a" [] ∷ call "b" [] ∷ call "c" [] ∷ []) ∷ call "retract" (number (pos 2) ∷ []) ∷ call "retract" (number (pos 2) ∷ []) ∷ call "facts" [] ∷ call "retract" (word "*" ∷ []) ∷ call "assert" (call "d" [] ∷ []) ∷ [])
    ≡ codes "<Fact-3>\n[CB20] no such fact\nf-1     (a)\nf-3     (c)\nFor a total of 2 facts.\n<Fact-4>\n"
unfolding executed acted head_of operator_of is_reserved digits moved keys_come keys_gone all_keys all_matches matches_of popped
retracted_facts = refl

-- channels, and the words that stand for bytes
printing : written_by (call "printout" (word "stdout" ∷ word "tab" ∷ text "tab" ∷ word "crlf" ∷ []) ∷ call "printout" (word "nil" ∷ word "a" ∷ []) ∷ call "printout" (word "nil" ∷ variable ∷ []) ∷ call "printout" [] ∷ call "printout" (text "t" ∷ variable ∷ []) ∷ call "printout" (word "t" ∷ word "=" ∷ call "div" [] ∷ []) ∷ [])
    ≡ 9 ∷ codes "tab\n[CB11] unbound variable\n[CB14] not in this profile\n[CB14] not in this profile\n[CB07] wrong arguments\n"
unfolding executed acted head_of operator_of is_reserved digits moved keys_come keys_gone all_keys all_matches matches_of popped
printing = refl

-- a global, which has its initial value again after a reset
globals_reset : written_by (call "defglobal" (global ∷ word "=" ∷ number (pos 1) ∷ []) ∷ call "bind" (global ∷ number (pos 5) ∷ []) ∷ global ∷ call "reset" [] ∷ global ∷ [])
    ≡ codes "5\n5\n1\n"
unfolding executed acted head_of operator_of is_reserved digits moved keys_come keys_gone all_keys all_matches matches_of popped
globals_reset = refl

-- of the globals of one form all are defined, or none
faulty_globals : written_by (call "defglobal" (global ∷ word "=" ∷ number (pos 1) ∷ []) ∷ call "defglobal" (global ∷ word "=" ∷ number (pos 2) ∷ other ∷ word "=" ∷ call "div" (global ∷ number (pos 0) ∷ []) ∷ []) ∷ global ∷ other ∷ call "clear" [] ∷ global ∷ [])
    ≡ codes "[CB19] division by zero\n1\n[CB12] unknown global variable\n[CB12] unknown global variable\n"
unfolding executed acted head_of operator_of is_reserved digits moved keys_come keys_gone all_keys all_matches matches_of popped
faulty_globals = refl

-- the facts of a deffacts are computed at each reset, which drops the variables
computed_facts : written_by (call "defglobal" (global ∷ word "=" ∷ number (pos 1) ∷ []) ∷ call "deffacts" (word "d" ∷ call "a" (call "+" (global ∷ number (pos 1) ∷ []) ∷ []) ∷ []) ∷ call "bind" (variable ∷ number (pos 3) ∷ []) ∷ call "reset" [] ∷ call "facts" [] ∷ variable ∷ [])
    ≡ codes "3\nf-1     (a 2)\nFor a total of 1 fact.\n[CB11] unbound variable\n"
unfolding executed acted head_of operator_of is_reserved digits moved keys_come keys_gone all_keys all_matches matches_of popped
computed_facts = refl

-- two turns, and no more for the loops that follow
limited_loops : written_by (call "bind" (variable ∷ number (pos 0) ∷ []) ∷ loop ∷ variable ∷ call "clear" [] ∷ call "while" (word "TRUE" ∷ []) ∷ word "a" ∷ [])
    ≡ codes "0\nFALSE\n2\n[CB93] loop limit reached\n"
unfolding executed acted head_of operator_of is_reserved digits moved keys_come keys_gone all_keys all_matches matches_of popped
limited_loops = refl

-- the smallest rule: its one match fires once, where one firing is left
abbrev told : List Tree
told = call "defrule" (word "r" ∷ call "a" [] ∷ word "=>" ∷ call "println" (text "x" ∷ []) ∷ []) ∷ call "assert" (call "a" [] ∷ []) ∷ call "run" [] ∷ call "run" [] ∷ []

fires : written_by told ≡ codes "<Fact-1>\nx\n"
unfolding executed acted head_of operator_of is_reserved digits moved keys_come keys_gone all_keys all_matches matches_of popped bindings_of rule_in
fires = refl

-- the agenda and the rules, listed
lists : written_by (call "defrule" (word "r" ∷ word "=>" ∷ []) ∷ call "agenda" [] ∷ call "rules" [] ∷ [])
    ≡ codes "0      r: *\nFor a total of 1 activation.\nr\nFor a total of 1 defrule.\n"
unfolding executed acted head_of operator_of is_reserved digits moved keys_come keys_gone all_keys all_matches matches_of agenda_list agenda_line rule_in
lists = refl

-- `exit` ends the script, with the code that it asks for or by whether a fault line was written
exits : (after_all (begun twelve) (map (λ t. Ok t) (call "exit" (number (pos 7) ∷ []) ∷ word "a" ∷ []))) ≡ record { state = first_state twelve; written = []; status = Some (record { code = 7; ending = Exit }) }
unfolding executed acted head_of operator_of is_reserved digits
exits = refl

exits_faulted : (after_all (begun twelve) (map (λ t. Ok t) (call "foo" [] ∷ call "exit" [] ∷ []))).status ≡ Some (record { code = 1; ending = Exit })
unfolding executed acted head_of operator_of is_reserved digits
exits_faulted = refl

-- past the greatest index the script ends, and the facts asserted before stay
abbrev full : State
full = first_state (record twelve { index = greatest_index - 1 })

exhausted : (executed full (Ok (call "assert" (call "a" [] ∷ call "b" [] ∷ call "c" [] ∷ [])))).written ≡ codes "[CB94] numbers exhausted\n"
unfolding executed acted head_of operator_of is_reserved digits moved keys_come keys_gone all_keys all_matches matches_of popped
exhausted = refl

exhausted_status : (executed full (Ok (call "assert" (call "a" [] ∷ call "b" [] ∷ [])))).status ≡ Some limit_status
unfolding executed acted head_of operator_of is_reserved digits moved keys_come keys_gone all_keys all_matches matches_of popped
exhausted_status = refl

-- whole texts: a word that may go on is carried out at the end
word_so_far : (so_far nine (codes "1 ab")).written ≡ codes "1\n"
unfolding so_far complete whole over fitting parts pieces is_open_list token_of executed acted head_of operator_of is_reserved digits moved keys_come keys_gone all_keys all_matches matches_of popped
word_so_far = refl

word_at_the_end : transcript nine (codes "1 ab") ≡ codes "1\nab\n"
unfolding so_far complete whole over fitting parts pieces is_open_list token_of executed acted head_of operator_of is_reserved digits moved keys_come keys_gone all_keys all_matches matches_of popped
word_at_the_end = refl

done : status_of nine (codes "1 ab") ≡ record { code = 0; ending = Done }
unfolding so_far complete whole over fitting parts pieces is_open_list token_of executed acted head_of operator_of is_reserved digits moved keys_come keys_gone all_keys all_matches matches_of popped
done = refl

-- the status says that a fault line was written
stray : transcript nine (codes ") a") ≡ codes "[CB02] unmatched closing parenthesis\na\n"
unfolding so_far complete whole over fitting parts pieces is_open_list token_of executed acted head_of operator_of is_reserved digits moved keys_come keys_gone all_keys all_matches matches_of popped
stray = refl

done_with_fault : status_of nine (codes ") a") ≡ record { code = 1; ending = Done }
unfolding so_far complete whole over fitting parts pieces is_open_list token_of executed acted head_of operator_of is_reserved digits moved keys_come keys_gone all_keys all_matches matches_of popped
done_with_fault = refl

-- an item of more bytes than the limit ends the script, and one of as many doesn't
limit_so_far : (so_far three (codes "abc 1234")).written ≡ codes "abc\n[CB91] form too long\n"
unfolding so_far complete whole over fitting parts pieces is_open_list token_of executed acted head_of operator_of is_reserved digits moved keys_come keys_gone all_keys all_matches matches_of popped
limit_so_far = refl

limit : transcript three (codes "abc 1234 x") ≡ codes "abc\n[CB91] form too long\n"
unfolding so_far complete whole over fitting parts pieces is_open_list token_of executed acted head_of operator_of is_reserved digits moved keys_come keys_gone all_keys all_matches matches_of popped
limit = refl

limit_status_of : status_of three (codes "abc 1234 x") ≡ limit_status
unfolding so_far complete whole over fitting parts pieces is_open_list token_of executed acted head_of operator_of is_reserved digits moved keys_come keys_gone all_keys all_matches matches_of popped
limit_status_of = refl

-- a list that is open at the end
open_so_far : (so_far nine (codes "1 (a")).written ≡ codes "1\n"
unfolding so_far complete whole over fitting parts pieces is_open_list token_of executed acted head_of operator_of is_reserved digits moved keys_come keys_gone all_keys all_matches matches_of popped
open_so_far = refl

open_at_the_end : transcript nine (codes "1 (a") ≡ codes "1\n[CB01] form not closed\n"
unfolding so_far complete whole over fitting parts pieces is_open_list token_of executed acted head_of operator_of is_reserved digits moved keys_come keys_gone all_keys all_matches matches_of popped
open_at_the_end = refl

-- a command, and a comment after it
command : transcript twelve (codes "(assert (a));c") ≡ codes "<Fact-1>\n"
unfolding so_far complete whole over fitting parts pieces is_open_list token_of executed acted head_of operator_of is_reserved digits moved keys_come keys_gone all_keys all_matches matches_of popped
command = refl
