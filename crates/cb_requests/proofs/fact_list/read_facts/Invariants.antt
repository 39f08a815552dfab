use Rattle.std.proofs.Common.{◌≡◌, drop}
use Rattle.cb_facts.specs.Internal.{after_those}
use Rattle.cb_forms.specs.Members.{members}
use Rattle.cb_requests.specs.Reads.{facts_in}
use Rattle.cb_requests.proofs.fact_list.read_facts.Given as goal

abbrev pub invariant-loop-form : goal.invariant-loop-form
invariant-loop-form l = after_those l.facts.items (facts_in l.scope (members (drop l.form-index l.forms))) ≡ facts_in l.scope (members l.forms)
