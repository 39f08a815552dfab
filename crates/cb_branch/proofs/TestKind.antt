-- A change of a node that tests.
use Rattle.std.proofs.Common.{◌≡◌, ◌≤◌, ◌<◌, ℕ, suc, List, None, Some, arith, filter, slice_get, subst}
use Rattle.cb_alpha.specs.AlphaMemories.{AlphaMemoryValue}
use Rattle.cb_beta.specs.BetaMemories.{BetaMemoryValue}
use Rattle.cb_branch.proofs.Relied.{none_come, none_gone, relied, turns}
use Rattle.cb_branch.specs.Turning.{IsNodeAfter, IsNodeBefore}
use Rattle.cb_exprs.specs.Terms.{term_of}
use Rattle.cb_exprs.specs.declared.expr.Expr.{Expr}
use Rattle.cb_facts.specs.FactLists.{IndexedFacts}
use Rattle.cb_list_changes.proofs.Places.{one_at}
use Rattle.cb_list_changes.specs.Halfway.{IsStepped}
use Rattle.cb_matches.specs.Matches.{Partial, test_holds}
use Rattle.cb_nodes.specs.Flat.{Lists}
use Rattle.cb_branch.specs.declared.node.Node.{Node}
use Rattle.cb_branch.specs.declared.node.Node.TheVariants as kept
use Rattle.cb_test_node.proofs.Staying.{parent_there}
use Rattle.cb_test_node.specs.Tests.{ArePassed, IsAfter, IsBefore}
use Rattle.cb_token_lists.specs.Growth.{AreTokens}
use Rattle.cb_token_lists.specs.Keeping.{KeepsTokens}
use Rattle.cb_token_lists.specs.Partials.{SourceValue, partial_at}
use Rattle.cb_token_lists.specs.Turns.{IsThere}

module _ {T : Type 0} (alphas : List AlphaMemoryValue) (sources : List SourceValue) (before now read : List BetaMemoryValue) (fs fs' : IndexedFacts) (old new : Lists) (k from : ℕ)
    (test : Expr) (own m : BetaMemoryValue) (b : IsNodeBefore {T = T} alphas sources before now read fs fs' old new k (kept.Test from test) own)
    (is : slice_get read from ≡ Some m) where
  abbrev this : Node T
  this = kept.Test from test

  pub near : from ≤ k
  near = let w : from < suc k = b.well in omega (arith, w)

  pub test_before : IsBefore (term_of test) (partial_at sources read from) m own (old from) (new from)
  test_before = record {
    turns = turns alphas sources before now read fs fs' old new k this own b from m near is;
    tokens = relied alphas sources before now read fs fs' old new k this own b m is;
    none_gone = none_gone alphas sources before now read fs fs' old new k this own b;
    none_come = none_come alphas sources before now read fs fs' old new k this own b;
  }

  pub test_after : (own' : BetaMemoryValue) → IsAfter (term_of test) (partial_at sources read from) m own' (old from) (new from) → KeepsTokens own own'
      → IsNodeAfter alphas sources read fs fs' old new this this own own'
  test_after own' after keeps = record {
    step = λ f at. subst (λ it. IsStepped sources read (record { from = from; address = None }) it own own'
        (filter (λ (z : Partial). test_holds (term_of test) z.env) (old from)) (filter (λ (z : Partial). test_holds (term_of test) z.env) (new from)))
        (one_at read from m f is at)
        (record {
          turns = after.turns;
          keeps = keeps;
          parents = λ i t there. parent_there (term_of test) (partial_at sources read from) (IsThere m) own' after.tokens i t there;
        });
    ready = λ m' at. subst (λ it. AreTokens own' (ArePassed (term_of test) (partial_at sources read from) (IsThere it))) (one_at read from m m' is at) after.tokens;
  }
