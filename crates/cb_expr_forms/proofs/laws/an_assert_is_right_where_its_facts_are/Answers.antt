use Rattle.cb_expr_forms.proofs.RightLaws.{assert_right}
use Rattle.cb_expr_forms.proofs.laws.an_assert_is_right_where_its_facts_are.Goals as goal

pub returns : goal.returns
returns c = assert_right
