use Rattle.std.proofs.Common.{List, ℕ, nat_cmp, nat_eq, subst, sym}
use Rattle.std.proofs.lemmas.List.Filters.{dedup_is}
use Rattle.std.proofs.lemmas.List.Kept.{Contains-dedup_nat, IsStrictlySortedBy-dedup}
use Rattle.std.proofs.lemmas.List.Sorted.{Contains-permutation}
use Rattle.std.specs.Cmp.{nat_cmp_total, unsigned_ties}
use Rattle.std.specs.List.{dedup}
use Rattle.std.specs.List.Sorted.{IsStrictlySortedBy}
use Rattle.cb_alpha_network.proofs.Found.{is_wanted}
use Rattle.cb_alpha_network.proofs.asked.Asked.numbers_for.Goals as goal
use Rattle.cb_alpha_network.specs.Wanted.{wanted_of}
use Rattle.cb_matches.proofs.Lists.{contains_in, in_contains}
use Rattle.cb_matches.specs.Chains.{In}

pub returns-clause-found : goal.returns-clause-found
returns-clause-found c =
    λ pattern n entered t.
    let added : List ℕ = c.add_numbers.new.found.items in
    let sorted : List ℕ = c.sort_unstable.new.self.items in
    let there : In n added = c.in_ok-add_numbers.ensures (wanted_of pattern) n entered (is_wanted c.a_fact_with_the_shape_has_the_constants.ensures pattern c.args.fact.now (c.a_fact_that_is_selected_has_the_shape.ensures pattern c.args.fact.now t)) in
    let moved = Contains-permutation added sorted n c.sort_unstable.ensures.permutation (in_contains n added there) in
    subst (In n) (sym (dedup_is nat_eq sorted c.dedup.new.self.items c.dedup.ensures.filtered))
    (contains_in n (dedup nat_eq sorted) (Contains-dedup_nat sorted n moved))

pub returns-clause-ordered : goal.returns-clause-ordered
returns-clause-ordered c =
    let sorted : List ℕ = c.sort_unstable.new.self.items in
    subst (IsStrictlySortedBy nat_cmp) (sym (dedup_is nat_eq sorted c.dedup.new.self.items c.dedup.ensures.filtered))
    (IsStrictlySortedBy-dedup nat_cmp_total unsigned_ties sorted c.sort_unstable.ensures.sorted)
