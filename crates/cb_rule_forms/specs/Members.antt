-- The members of a row of constraints, as they are written.
use Rattle.std.specs.Prelude.{ℕ, Bool, true, false, List, [], ◌∷◌, codes, if◌then◌else◌}
use Rattle.std.specs.Str.{bytes_eq}
use Rattle.cb_forms.specs.Trees.{Tree, atom, branch, Trees, no_trees, tree}
use Rattle.cb_forms.specs.declared.token.Token.{Token}
use Rattle.cb_forms.specs.declared.token.Token.TheVariants as token

-- what a check is written as: one atom, `:` and a list, `=` and a list, a list after neither, or nothing, where a check is
-- missing after `~`
pub data WrittenCheck : Type 0 where
  single : Token → WrittenCheck
  predicate : Tree → WrittenCheck
  return_value : Tree → WrittenCheck
  stray : WrittenCheck
  missing : WrittenCheck

-- a member: `?` or, if it is several, `$?`; `&`; `|`; or a check, with `~` if it is negated
pub data Member : Type 0 where
  wildcard : Bool → Member
  both : Member
  any_of : Member
  check : Bool → WrittenCheck → Member

-- `~` before these members: the check that comes first is negated, if it has no `~` itself, and else a check is missing
abbrev pub tilde_before : List Member → List Member
tilde_before (check false w ∷ ms) = check true w ∷ ms
tilde_before ms = check true missing ∷ ms

-- a symbol and the list after it, before these members: `:` and `=` make one check with the list
abbrev pub with_list : List ℕ → Tree → List Member → List Member
with_list name t ms =
    if bytes_eq name (codes ":") then check false (predicate t) ∷ ms else (
    if bytes_eq name (codes "=") then check false (return_value t) ∷ ms else check false (single (token.Symbol name)) ∷ check false stray ∷ ms)

-- the members that forms are
abbrev pub members_in : Trees → List Member
members_in no_trees = []
members_in (tree (branch us) ts) = check false stray ∷ members_in ts
members_in (tree (atom (token.Symbol name)) (tree (branch us) ts)) = with_list name (branch us) (members_in ts)
members_in (tree (atom token.Any) ts) = wildcard false ∷ members_in ts
members_in (tree (atom token.MultiAny) ts) = wildcard true ∷ members_in ts
members_in (tree (atom token.And) ts) = both ∷ members_in ts
members_in (tree (atom token.Or) ts) = any_of ∷ members_in ts
members_in (tree (atom token.Not) ts) = tilde_before (members_in ts)
members_in (tree (atom t) ts) = check false (single t) ∷ members_in ts
