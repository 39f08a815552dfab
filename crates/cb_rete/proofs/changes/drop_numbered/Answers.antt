use Rattle.std.proofs.Common.{◌≡◌, ◌++◌, ◌∙◌, ℕ, List, Some, None, ap, append-nil, nat_cmp, subst, sym}
use Rattle.std.specs.BTreeMap.{is_at}
use Rattle.std.specs.Map.{lookup, values_of}
use Rattle.std.specs.List.{All}
use Rattle.cb_branch.specs.Branches.{CanBeFilled}
use Rattle.cb_branch.specs.Alphas.{live_facts}
use Rattle.cb_matches.specs.Changes.{AddsNumbers}
use Rattle.cb_rete.proofs.Lists.{got_all}
use Rattle.cb_rete.proofs.Numbers.{adds_none, adds_weaker}
use Rattle.cb_branch.specs.Patterns.{branch_patterns}
use Rattle.cb_branch.specs.declared.branch.Branch.{Branch}
use Rattle.cb_rete.proofs.Removing.{keeping_same, keeping_without}
use Rattle.cb_rete.proofs.Results.{always, on_one, on_two}
use Rattle.cb_rete.proofs.changes.drop_numbered.Goals as goal
use Rattle.cb_rete.specs.Entering.{IsRuleLeft}
use Rattle.cb_rete.specs.Numbers.{IsNumberInBranches, IsNumberInRules}
use Rattle.cb_rete.specs.Rules.{AreBranchesEntered, AreBranchesOver, kept_branches, kept_rule, kept_rules}
use Rattle.cb_rete.specs.declared.rule.Rule.{Rule}
use Rattle.cb_rule_keys.proofs.Numbered.{found_in, kept_left, told_found, told_nothing}
use Rattle.cb_rule_keys.specs.Keys.{branch_keys}
use Rattle.cb_rule_keys.specs.Sums.{branches_sum}

pub returns-in-Some-clause-stay : goal.returns-in-Some-clause-stay
returns-in-Some-clause-stay g c =
    always c.drop_branches.result
    (ap (λ (es : List (ℕ × Rule g.row.T.Denot)). kept_rules (values_of es)) c.remove.ensures.entries ∙ kept_left kept_rule c.args.id c.args.rules.now.entries c.requires c.len-count.ensures.ordered)

pub returns-in-Some-clause-keeping : goal.returns-in-Some-clause-keeping
returns-in-Some-clause-keeping g c =
    let es = c.args.rules.now.entries in
    let rule : Rule g.row.T.Denot = c.in-Some.rule in
    let found : lookup (is_at (nat_cmp c.args.id)) es ≡ Some rule = sym c.remove.ensures.value ∙ c.in-Some.is in
    on_two c.drop_branches.result c.drop_branches.ensures.left c.drop_branches.ensures.alphas
    (λ left alphas fs keeping.
    let entered = keeping.entered (c.args.id, rule) (found_in c.args.id es rule found) in
    let over = keeping.over (c.args.id, rule) (found_in c.args.id es rule found) in
    let plans : All CanBeFilled rule.branches.items =
    got_all CanBeFilled rule.branches.items (λ n b h. c.what_is_kept_can_be_filled.ensures (live_facts c.args.alphas.now.memories) fs b (over n b h)) in
    let out = left (subst (λ (bs : List (Branch g.row.T.Denot)). All CanBeFilled bs) (sym c.as_slice.ensures.value) plans) (subst (λ (bs : List (Branch g.row.T.Denot)). AreBranchesEntered c.args.alphas.now rule.id bs) (sym c.as_slice.ensures.value) entered) in
    keeping_without c.args.id c.args.rules.now c.remove.new.self c.len-count.ensures.ordered c.remove.ensures.entries c.args.alphas.now fs keeping c.drop_branches.new.alphas rule found
    (subst (λ (bs : List (Branch g.row.T.Denot)). IsRuleLeft rule.id (branches_sum branch_patterns (kept_branches bs)) c.args.alphas.now c.drop_branches.new.alphas) c.as_slice.ensures.value out)
    c.what_is_kept_stays.ensures (alphas fs keeping.alphas))

pub returns-in-Some-clause-gone : goal.returns-in-Some-clause-gone
returns-in-Some-clause-gone g c =
    let es = c.args.rules.now.entries in
    let rule : Rule g.row.T.Denot = c.in-Some.rule in
    let found : lookup (is_at (nat_cmp c.args.id)) es ≡ Some rule = sym c.remove.ensures.value ∙ c.in-Some.is in
    on_one c.drop_branches.result c.drop_branches.ensures.gone
    (λ gone fs rising keeping.
    let over = keeping.over (c.args.id, rule) (found_in c.args.id es rule found) in
    let facts = live_facts c.args.alphas.now.memories in
    gone facts fs rising (subst (λ (bs : List (Branch g.row.T.Denot)). AreBranchesOver facts fs bs) (sym c.as_slice.ensures.value) over)
    ∙ (ap (λ (bs : List (Branch g.row.T.Denot)). c.args.gone.now.items ++ branch_keys rule.id 0 (kept_branches bs) fs) c.as_slice.ensures.value
    ∙ ap (λ it. c.args.gone.now.items ++ it) (sym (told_found kept_rule c.args.id fs es rule c.requires c.len-count.ensures.ordered found))))

pub returns-in-None-clause-stay : goal.returns-in-None-clause-stay
returns-in-None-clause-stay g c =
    ap (λ (es : List (ℕ × Rule g.row.T.Denot)). kept_rules (values_of es)) c.remove.ensures.entries ∙ kept_left kept_rule c.args.id c.args.rules.now.entries c.requires c.len-count.ensures.ordered

pub returns-in-None-clause-keeping : goal.returns-in-None-clause-keeping
returns-in-None-clause-keeping g c =
    λ fs keeping.
    keeping_same c.args.id c.args.rules.now c.remove.new.self c.len-count.ensures.ordered c.remove.ensures.entries c.args.alphas.now fs keeping (sym c.remove.ensures.value ∙ c.in-None.is)

pub returns-in-None-clause-gone : goal.returns-in-None-clause-gone
returns-in-None-clause-gone g c =
    λ fs rising keeping.
    let es = c.args.rules.now.entries in
    let absent : lookup (is_at (nat_cmp c.args.id)) es ≡ None = sym c.remove.ensures.value ∙ c.in-None.is in
    sym (append-nil c.args.gone.now.items) ∙ ap (λ it. c.args.gone.now.items ++ it) (sym (told_nothing kept_rule c.args.id fs es c.requires absent))

pub returns-in-Some-clause-entries : goal.returns-in-Some-clause-entries
returns-in-Some-clause-entries g c = always c.drop_branches.result c.remove.ensures.entries

pub returns-in-Some-clause-numbers : goal.returns-in-Some-clause-numbers
returns-in-Some-clause-numbers g c =
    let es : List (ℕ × Rule g.row.T.Denot) = c.args.rules.now.entries in
    let rule : Rule g.row.T.Denot = c.in-Some.rule in
    let found : lookup (is_at (nat_cmp c.args.id)) es ≡ Some rule = sym c.remove.ensures.value ∙ c.in-Some.is in
    let there = found_in c.args.id es rule found in
    let told = c.drop_branches.new.gone.items in
    let told_numbers = c.drop_branches.new.gone_numbers.items in
    on_one c.drop_branches.result c.drop_branches.ensures.numbers
    (λ numbers fs keeping.
    let facts = live_facts c.args.alphas.now.memories in
    adds_weaker (IsNumberInBranches rule.id rule.branches.items) (IsNumberInRules es) (λ k n h. record { entry = (c.args.id, rule); there = there; has = h }) c.args.gone.now.items told c.args.gone_numbers.now.items told_numbers
    (subst (λ (bs : List (Branch g.row.T.Denot)). AddsNumbers (IsNumberInBranches rule.id bs) c.args.gone.now.items told c.args.gone_numbers.now.items told_numbers) c.as_slice.ensures.value
    (numbers facts fs (subst (λ (bs : List (Branch g.row.T.Denot)). AreBranchesOver facts fs bs) (sym c.as_slice.ensures.value) (keeping.over (c.args.id, rule) there)))))

pub returns-in-None-clause-numbers : goal.returns-in-None-clause-numbers
returns-in-None-clause-numbers g c = λ fs keeping. adds_none (IsNumberInRules c.args.rules.now.entries) c.args.gone.now.items c.args.gone_numbers.now.items
