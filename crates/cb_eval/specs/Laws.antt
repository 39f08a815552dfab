-- What the laws of evaluation speak of.
use Rattle.std.specs.Prelude.{List, [], Result, Ok}
use Rattle.cb_eval.specs.Evaluation.{value_of}
use Rattle.cb_exprs.specs.Bindings.{Bindings}
use Rattle.cb_exprs.specs.Terms.{Terms, no_terms, term}
use Rattle.cb_facts.specs.Results.{with_first}
use Rattle.cb_facts.specs.declared.value.Value.{Value}
use Rattle.cb_forms.specs.declared.fault.Fault.{Fault}

-- the values of all terms, whatever they decide, or the first fault
abbrev pub all_values : Terms → Bindings → Result (List Value) Fault
all_values no_terms env = Ok []
all_values (term t ts) env = with_first (value_of t env) (all_values ts env)
