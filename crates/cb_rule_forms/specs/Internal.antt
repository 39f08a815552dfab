-- What only the code needs: what it has read of condition elements, and what it knows after them.
pub mod RowReading
pub mod SectionPlaces
use Rattle.std.specs.Prelude.{ℕ, ℤ, pos, Bool, List, [], ◌∷◌, Option, Some, None, Result, Vec, is_some, map, min}
use Rattle.std.specs.Borrow.{Bor}
use Rattle.std.specs.declared.alloc.Global.{Global}
use Rattle.std.specs.Option.{option_map, unwrap_or}
use Rattle.cb_constraints.specs.PartValues.{asked_parts}
use Rattle.cb_exprs.specs.Terms.{term_of}
use Rattle.cb_facts.specs.declared.refused.Refused.{Refused}
use Rattle.cb_facts.specs.declared.value.Value.{Value}
use Rattle.cb_expr_forms.specs.Internal.Sizes.{tree_size}
use Rattle.cb_forms.specs.Members.{members}
use Rattle.cb_forms.specs.Trees.{tree_of}
use Rattle.cb_forms.specs.declared.fault.Fault.{Fault}
use Rattle.cb_forms.specs.declared.fault.Fault.TheVariants.{BadSalience, NotInProfile}
use Rattle.cb_rule_forms.specs.Declarations.{salience_in}
use Rattle.cb_rule_forms.specs.WrittenElements.{Written, wrong, written_pattern, written_test, all_of, one_of, written_group, Writtens, none_written, written, written_alone, addressed}
use Rattle.cb_rule_forms.specs.Mentions.{Mention, known_after, known_in, mention_faults, variables_faults, with_name}
use Rattle.cb_rule_forms.specs.declared.element.ElementForm.{ElementForm, fold-ElementForm}
use Rattle.cb_rule_forms.specs.declared.element.ElementForm.TheOpen as form
use Rattle.cb_rule_forms.specs.declared.element.PatternForm.{PatternForm}
use Rattle.cb_rule_forms.specs.declared.written.Next.{Next}
use Rattle.cb_rule_forms.specs.declared.written.Next.TheVariants as next
use Rattle.cb_rule_forms.specs.declared.written.Written as declared
use Rattle.cb_rule_forms.specs.declared.written.Written.TheOpen as program
use Rattle.cb_rules.specs.Elements.{Element, pattern, test, group, Elements, elements}
use Rattle.cb_facts.specs.FaultLists.{ReadsAs, unless}

-- one element that was read, with those of a group in their place
abbrev pub form_step : form.ElementForm-F Element → Element
form_step (form.Pattern p) = pattern p.address (record { relation = p.relation; parts = asked_parts p.parts })
form_step (form.Test e) = test (term_of e)
form_step (form.Group positive inner) = group positive (elements inner.items)

-- the element that was read
abbrev pub form_value : ElementForm → Element
form_value = fold-ElementForm Element form_step

-- the branches that were read
abbrev pub branches_read : List (Vec ElementForm Global) → List Elements
branches_read branches = map (λ b. elements (map form_value b.items)) branches

-- what the next forms are as an element, and how large they are
abbrev pub next_seen : Bool → Next → Written
next_seen inside (next.Alone t) = written_alone inside (tree_of t.now)
next_seen inside (next.Addressed name None) = wrong NotInProfile
next_seen inside (next.Addressed name (Some t)) = addressed inside name.now (tree_of t.now)

abbrev pub next_size : Next → ℕ
next_size (next.Alone t) = tree_size (tree_of t.now)
next_size (next.Addressed name t) = 0

-- these elements, and then others
abbrev pub before : List Written → Writtens → Writtens
before [] ws = ws
before (x ∷ xs) ws = written x (before xs ws)

abbrev pub writtens : List Written → Writtens
writtens xs = before xs none_written

-- what the program has of an element as it is written
abbrev pub written_step : program.Written-F Written → Written
written_step (program.Wrong f) = wrong f
written_step (program.Pattern x relation fs) = written_pattern (option_map (λ name. name.now) x) relation.now (members fs.now)
written_step (program.Test t) = written_test (tree_of t.now)
written_step (program.All ws) = all_of (writtens ws.items)
written_step (program.One ws) = one_of (writtens ws.items)
written_step (program.Group positive ws) = written_group positive (writtens ws.items)

abbrev pub written_seen : declared.Written → Written
written_seen = declared.fold-Written Written written_step

-- what the program has of ways through a left side
abbrev pub way_seen : Vec (Bor declared.Written) Global → List Written
way_seen way = map (λ w. written_seen w.now) way.items

abbrev pub ways_seen : List (Vec (Bor declared.Written) Global) → List (List Written)
ways_seen ways = map way_seen ways

-- the number, or 65 where it is greater
abbrev pub capped : ℕ → ℕ
capped n = min n 65

-- Of the variables that had a value the call makes those that have one after these mentions, or it returns the first fault.
abbrev pub Knows : List (List ℕ) → List Mention → List (List ℕ) → Result (Unit {0}) Refused → Type 0
Knows old ms new result = ReadsAs (λ _. new) result (mention_faults old ms) (known_after old ms)

-- the same of elements
abbrev pub KnowsElements : List (List ℕ) → List Element → List (List ℕ) → Result (Unit {0}) Refused → Type 0
KnowsElements old es new result = ReadsAs (λ _. new) result (variables_faults old (elements es)) (known_in old (elements es))

-- these names, and of the others each that is not yet among them
abbrev pub with_names : List (List ℕ) → List (List ℕ) → List (List ℕ)
with_names known [] = known
with_names known (x ∷ names) = with_names (with_name known x) names

-- the call returns the salience that an expression with this value has, or the fault of a salience where it has none
abbrev pub IsSalience : Result ℤ Refused → Result Value Fault → Type 0
IsSalience result value = ReadsAs (λ n. n) result (unless (is_some (salience_in value)) BadSalience) (unwrap_or (salience_in value) (pos 0))
