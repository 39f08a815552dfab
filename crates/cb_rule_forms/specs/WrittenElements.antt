-- The left side of a rule as it is written: a tree of condition elements.
use Rattle.std.specs.Prelude.{◌&&◌, ℕ, Bool, true, false, not, List, Option, Some, None, codes, if◌then◌else◌}
use Rattle.std.specs.Str.{bytes_eq}
use Rattle.cb_expr_forms.specs.ExprFaults.{is_this_symbol}
use Rattle.cb_forms.specs.Members.{call_of, symbol_of}
use Rattle.cb_forms.specs.Trees.{Tree, atom, branch, Trees, no_trees, tree}
use Rattle.cb_forms.specs.declared.fault.Fault.{Fault}
use Rattle.cb_forms.specs.declared.fault.Fault.TheVariants.{MalformedForm, NotInProfile}
use Rattle.cb_forms.specs.declared.token.Token.TheVariants as token
use Rattle.cb_rule_forms.specs.Sections.{only_of}
use Rattle.cb_rule_forms.specs.declared.written.Kind.{Kind}
use Rattle.cb_rule_forms.specs.declared.written.Kind.TheVariants as kind
use Rattle.cb_words.specs.Reserved.{is_reserved}

mutual
  -- a condition element as it is written
  pub data Written : Type 0 where
    -- none, for this reason
    wrong : Fault → Written
    -- `(relation term ..)`: the variable before `<-`, if there is one, the relation and what follows it
    written_pattern : Option (List ℕ) → List ℕ → Trees → Written
    -- `(test expression)`
    written_test : Tree → Written
    -- `(and element ..)`
    all_of : Writtens → Written
    -- `(or element ..)`
    one_of : Writtens → Written
    -- `(exists element ..)`, or, where it is not positive, `(not element)`
    written_group : Bool → Writtens → Written

  -- elements, from left to right
  pub data Writtens : Type 0 where
    none_written : Writtens
    written : Written → Writtens → Writtens

-- the kind of element that has elements as members, by its word; in a group `or` may not stand
abbrev pub kind_of : Bool → List ℕ → Option Kind
kind_of inside word =
    if bytes_eq word (codes "and") then Some kind.And else (
    if bytes_eq word (codes "not") then Some kind.Not else (
    if bytes_eq word (codes "exists") then Some kind.Exists else (
    if bytes_eq word (codes "forall") then Some kind.Forall else (
    if bytes_eq word (codes "or") && not inside then Some kind.Or else None))))

-- whether the members stand in a group
abbrev pub members_inside : Bool → Kind → Bool
members_inside inside kind.And = inside
members_inside inside kind.Or = inside
members_inside inside kind.Not = true
members_inside inside kind.Exists = true
members_inside inside kind.Forall = true

-- what `not` makes of its members, which must be one
abbrev pub negated : Writtens → Written
negated none_written = wrong MalformedForm
negated (written w none_written) = written_group false (written w none_written)
negated (written w (written x ws)) = wrong MalformedForm

-- what `forall` makes of its members, which must be two or more: `(forall A B ..)` is `(not (and A (not (and B ..))))`
abbrev pub quantified : Writtens → Written
quantified none_written = wrong MalformedForm
quantified (written w none_written) = wrong MalformedForm
quantified (written w (written x ws)) = written_group false (written w (written (written_group false (written x ws)) none_written))

-- the element of these members, of which there must be one or more, for `not` one and for `forall` two or more
abbrev pub gathered : Kind → Writtens → Written
gathered k none_written = wrong MalformedForm
gathered kind.And (written w ws) = all_of (written w ws)
gathered kind.Or (written w ws) = one_of (written w ws)
gathered kind.Not (written w ws) = negated (written w ws)
gathered kind.Exists (written w ws) = written_group true (written w ws)
gathered kind.Forall (written w ws) = quantified (written w ws)

-- a test, by what follows its word
abbrev pub test_form : Option Tree → Written
test_form None = wrong MalformedForm
test_form (Some t) = written_test t

-- what a list is that begins with another reserved word
abbrev pub plain_form : List ℕ → Trees → Written
plain_form word ts =
    if bytes_eq word (codes "test") then test_form (only_of ts) else (
    if bytes_eq word (codes "declare") then wrong MalformedForm else wrong NotInProfile)

abbrev pub reserved_form : Bool → Option Kind → List ℕ → Trees → (Bool → Writtens) → Written
reserved_form inside None word ts members = plain_form word ts
reserved_form inside (Some k) word ts members = gathered k (members (members_inside inside k))

-- what a list is, by the word that it begins with, what follows that, and the elements that this is, in a group or not
abbrev pub listed : Bool → Option (List ℕ) → Trees → (Bool → Writtens) → Written
listed inside None ts members = wrong MalformedForm
listed inside (Some word) ts members =
    if is_reserved word then reserved_form inside (kind_of inside word) word ts members else written_pattern None word ts

-- what follows `?name <-`, where only a pattern may stand, and in a group none
abbrev pub addressed_pattern : List ℕ → Option (List ℕ × Trees) → Written
addressed_pattern name None = wrong NotInProfile
addressed_pattern name (Some (word, ts)) = if is_reserved word then wrong NotInProfile else written_pattern (Some name) word ts

abbrev pub addressed : Bool → List ℕ → Tree → Written
addressed inside name t = if inside then wrong NotInProfile else addressed_pattern name (call_of t)

-- the variable that a form is
abbrev pub variable_of : Tree → Option (List ℕ)
variable_of (atom (token.Var name)) = Some name
variable_of t = None

-- the variable that is given an address, if `<-` comes after it
abbrev pub address_of : Option (List ℕ) → Tree → Option (List ℕ)
address_of x word = if is_this_symbol (codes "<-") word then x else None

abbrev pub choose_written : Option (List ℕ) → (List ℕ → Writtens) → Writtens → Writtens
choose_written None addressed_so others = others
choose_written (Some name) addressed_so others = addressed_so name

abbrev mutual
  -- the elements that forms are, in a group or not
  pub written_in : Bool → Trees → Writtens
  written_in inside no_trees = none_written
  written_in inside (tree t ts) = written_next inside (variable_of t) (written_alone inside t) ts

  -- a form, by the variable and by the element that it is, and what follows it
  pub written_next : Bool → Option (List ℕ) → Written → Trees → Writtens
  written_next inside x w no_trees = written w none_written
  written_next inside x w (tree word ts) =
      choose_written (address_of x word) (λ name. written_after inside name ts)
      (written w (written_next inside (variable_of word) (written_alone inside word) ts))

  -- what follows `?name <-`
  pub written_after : Bool → List ℕ → Trees → Writtens
  written_after inside name no_trees = written (wrong NotInProfile) none_written
  written_after inside name (tree t ts) = written (addressed inside name t) (written_in inside ts)

  -- a form alone
  pub written_alone : Bool → Tree → Written
  written_alone inside (atom k) = wrong MalformedForm
  written_alone inside (branch ts) = written_list inside ts

  pub written_list : Bool → Trees → Written
  written_list inside no_trees = wrong MalformedForm
  written_list inside (tree t ts) = listed inside (symbol_of t) ts (λ g. written_in g ts)
