use Rattle.std.proofs.Common.{◌≡◌, List, ap₂, arith, length, replicate, ◌∙◌}
use Rattle.std.specs.Map.{keys_of}
use Rattle.cb_exprs.specs.Bindings.{Bindings}
use Rattle.cb_matches.specs.Changes.{come_of, keys_come, keys_gone}
use Rattle.cb_matches.specs.Keys.{KeyValue}
use Rattle.cb_matches.specs.Networks.{all_keys}
use Rattle.cb_rematch.proofs.Zeros.{as_many, tells_zeros}
use Rattle.cb_rematch.proofs.rematch.replace_matches.Goals as goal

come_from : List (KeyValue × Bindings) → List (KeyValue × Bindings) → List KeyValue
come_from old new = come_of (keys_of old) (keys_of new)

pub returns-clause-numbers : goal.returns-clause-numbers
unfolding come_from keys_come keys_gone all_keys
returns-clause-numbers c = λ old new was is.
    let gone : c.in_ok-gone.gone.items ≡ come_from c.args.found.items c.args.matches.now.items = c.in_ok-gone.ensures ∙ ap₂ come_from c.as_slice.ensures.value c.as_slice-2.ensures.value in
    let come : c.in_ok-come.come.items ≡ come_from c.args.matches.now.items c.args.found.items = c.in_ok-come.ensures ∙ ap₂ come_from c.as_slice-3.ensures.value c.as_slice-4.ensures.value in
    let gone_count : c.len.result ≡ length c.in_ok-gone.gone.items = omega (arith, c.len.ensures, c.in_ok-gone.gone.ok.0) in
    let come_count : c.len-2.result ≡ length c.in_ok-come.come.items = omega (arith, c.len-2.ensures, c.in_ok-come.come.ok.0) in
    let gone_numbers : c.in_ok-gone_numbers.gone_numbers.items ≡ replicate (length c.in_ok-gone.gone.items) 0 = c.in_ok-gone_numbers.ensures ∙ as_many _ _ gone_count in
    let come_numbers : c.in_ok-come_numbers.come_numbers.items ≡ replicate (length c.in_ok-come.come.items) 0 = c.in_ok-come_numbers.ensures ∙ as_many _ _ come_count in
    tells_zeros old new _ (record { gone = gone ∙ ap₂ come_from is was; come = come ∙ ap₂ come_from was is }) gone_numbers come_numbers
