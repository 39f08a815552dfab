use Rattle.std.proofs.Common.{ap}
use Rattle.cb_laws.proofs.AssertLaws.{has_address, has_no_stamps, is_grown, is_there, known, no_index}
use Rattle.cb_laws.proofs.asserting.what_is_asserted_has_the_index_returned.Goals as goal

pub returns-clause-there : goal.returns-clause-there
returns-clause-there c = is_there

pub returns-clause-known : goal.returns-clause-known
returns-clause-known c = known

pub returns-clause-next : goal.returns-clause-next
returns-clause-next c = λ fact s sound absent below. ap (λ m. m.network.facts) (is_grown fact s sound absent below)

pub returns-clause-last : goal.returns-clause-last
returns-clause-last c = λ fact s sound absent below. ap (λ m. m.last) (is_grown fact s sound absent below)

pub returns-clause-address : goal.returns-clause-address
returns-clause-address c = has_address

pub returns-clause-no_stamps : goal.returns-clause-no_stamps
returns-clause-no_stamps c = has_no_stamps

pub returns-clause-none : goal.returns-clause-none
returns-clause-none c = no_index
