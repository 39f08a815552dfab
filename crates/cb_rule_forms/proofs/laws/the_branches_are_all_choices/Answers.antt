use Rattle.cb_rule_forms.specs.Branches.{ways_through, ways_through_all}
use Rattle.cb_rule_forms.proofs.ChoiceLaws.{all_in, in_all, in_order}
use Rattle.cb_rule_forms.proofs.laws.the_branches_are_all_choices.Goals as goal

pub returns-clause-listed : goal.returns-clause-listed
returns-clause-listed c = all_in

pub returns-clause-chosen : goal.returns-clause-chosen
returns-clause-chosen c = in_all

pub returns-clause-order : goal.returns-clause-order
returns-clause-order c = λ w ws i j own others g h. in_order (ways_through w) (ways_through_all ws) i j own others g h
