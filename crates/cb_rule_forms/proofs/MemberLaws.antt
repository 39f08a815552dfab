-- Members as they are written.
use Rattle.std.proofs.Common.{◌≡◌, true, false, List, [], ◌∷◌, refl}
use Rattle.cb_forms.specs.Trees.{Tree, atom, branch, Trees, tree}
use Rattle.cb_forms.specs.declared.token.Token.TheVariants as token
use Rattle.cb_rule_forms.specs.Members.{Member, wildcard, both, any_of, check, missing, members_in, tilde_before}
use Rattle.cb_rule_forms.specs.Internal.RowReading.{IsMark}

negated_twice : (ms : List Member) → tilde_before (tilde_before ms) ≡ check true missing ∷ tilde_before ms
negated_twice [] = refl
negated_twice (wildcard several ∷ ms) = refl
negated_twice (both ∷ ms) = refl
negated_twice (any_of ∷ ms) = refl
negated_twice (check false w ∷ ms) = refl
negated_twice (check true w ∷ ms) = refl

-- after `~` a wildcard, a connective and `~` are no check
pub negated_mark : (t : Tree) (ts : Trees) → IsMark t → tilde_before (members_in (tree t ts)) ≡ check true missing ∷ members_in (tree t ts)
negated_mark (branch us) ts h = absurd h
negated_mark (atom (token.Symbol name)) ts h = absurd h
negated_mark (atom (token.Str name)) ts h = absurd h
negated_mark (atom (token.Int n)) ts h = absurd h
negated_mark (atom (token.Var x)) ts h = absurd h
negated_mark (atom (token.MultiVar x)) ts h = absurd h
negated_mark (atom token.Any) ts h = refl
negated_mark (atom token.MultiAny) ts h = refl
negated_mark (atom (token.Global x)) ts h = absurd h
negated_mark (atom token.And) ts h = refl
negated_mark (atom token.Or) ts h = refl
negated_mark (atom token.Not) ts h = negated_twice (members_in ts)
