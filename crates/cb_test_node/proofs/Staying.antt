-- The tokens behind a test stay those that they should be, where the same numbers stand for the same partial matches.
use Rattle.std.proofs.Common.{◌≡◌, ◌∙◌, ℕ, Some, ap, subst, sym}
use Rattle.cb_beta.specs.BetaMemories.{BetaMemoryValue, live}
use Rattle.cb_beta.specs.Tokens.{TokenValue}
use Rattle.cb_exprs.specs.Terms.{Term}
use Rattle.cb_matches.specs.Matches.{Partial, test_holds}
use Rattle.cb_test_node.specs.Tests.{ArePassed}
use Rattle.cb_token_lists.proofs.Keeping.{tokens_stay}
use Rattle.cb_token_lists.specs.Growth.{AreTokens}
use Rattle.cb_token_lists.specs.Keeping.{AreAlike, HasSameTokens}

pub passed_stay : (test : Term) (at at' : ℕ → Partial) (There There' : ℕ → Type 0) (own own' : BetaMemoryValue) → AreTokens own (ArePassed test at There) → AreAlike at at' There There'
    → HasSameTokens own own' → AreTokens own' (ArePassed test at' There')
passed_stay test at at' There There' own own' is alike same =
    tokens_stay own own' (ArePassed test at There) (ArePassed test at' There')
    (λ t h. (h.0, alike.to h.0 h.1, (ap (λ (m : Partial). test_holds test m.env) (sym (alike.same h.0 h.1)) ∙ h.2.0, h.2.1)))
    (λ t h.
    let there = alike.from h.0 h.1 in
    (h.0, there, (ap (λ (m : Partial). test_holds test m.env) (alike.same h.0 there) ∙ h.2.0, h.2.1)))
    same is

-- what a token goes on from is there
pub parent_there : (test : Term) (at : ℕ → Partial) (There : ℕ → Type 0) (own : BetaMemoryValue) → AreTokens own (ArePassed test at There) → (i : ℕ) (t : TokenValue) → live own i ≡ Some t
    → There t.parent
parent_there test at There own is i t e =
    let h = is.are i t e in
    subst There (ap (λ (it : TokenValue). it.parent) (sym h.2.1)) h.1
