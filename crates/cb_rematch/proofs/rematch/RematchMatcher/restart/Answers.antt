use Rattle.std.proofs.Common.{◌≡◌, ap, arith, length, subst, ◌∙◌}
use Rattle.std.specs.Map.{keys_of}
use Rattle.cb_matches.specs.Chains.{In}
use Rattle.cb_matches.specs.Networks.{Conditions, Network, all_keys, all_matches}
use Rattle.cb_rematch.proofs.Zeros.{as_many, zeros_are}
use Rattle.cb_rematch.proofs.rematch.RematchMatcher.restart.Goals as goal

pub returns-clause-numbers : goal.returns-clause-numbers
unfolding all_keys
returns-clause-numbers g c =
    let after : Network = record { rules = c.self.inside.rules.items; facts = c.new.result } in
    let found : c.find_anew.new.matches.items ≡ all_matches after = c.in_ok-find_anew.ensures.matches ∙ ap (λ (rs : Conditions). all_matches (record { rules = rs; facts = c.new.result })) c.as_slice.ensures.value in
    let keys : c.in_ok-come.come.items ≡ keys_of c.find_anew.new.matches.items = c.in_ok-come.ensures ∙ ap keys_of c.as_slice-2.ensures.value in
    let count : c.len.result ≡ length c.in_ok-come.come.items = omega (arith, c.len.ensures, c.in_ok-come.come.ok.0) in
    zeros_are after c.in_ok-come.come.items c.in_ok-come_numbers.come_numbers.items (λ k i. subst (In k) (keys ∙ ap keys_of found) i) (c.in_ok-come_numbers.ensures ∙ as_many _ _ count)
