use Rattle.cb_rule_forms.proofs.PlaceLaws.{found_by_name, has_name}
use Rattle.cb_rule_forms.proofs.laws.a_slot_is_found_by_its_name.Goals as goal

pub returns-clause-named : goal.returns-clause-named
returns-clause-named c = has_name

pub returns-clause-found : goal.returns-clause-found
returns-clause-found c = found_by_name
