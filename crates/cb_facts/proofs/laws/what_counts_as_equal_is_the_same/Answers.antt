use Rattle.std.specs.Cmp.Lexicographic.{bytes_decides}
use Rattle.cb_facts.proofs.Equality.{value-Decides}
use Rattle.cb_facts.proofs.FactEquality.{fact-Decides}
use Rattle.cb_facts.proofs.laws.what_counts_as_equal_is_the_same.Goals as goal

pub returns-clause-names : goal.returns-clause-names
returns-clause-names c = bytes_decides

pub returns-clause-values : goal.returns-clause-values
returns-clause-values c = value-Decides

pub returns-clause-facts : goal.returns-clause-facts
returns-clause-facts c = fact-Decides
