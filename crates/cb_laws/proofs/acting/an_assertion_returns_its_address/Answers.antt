use Rattle.cb_laws.proofs.ActLaws.{address_there, asserts_only, asserts_quietly, is_asserted, is_refused, limit_only, one_asserted}
use Rattle.cb_laws.proofs.acting.an_assertion_returns_its_address.Goals as goal

pub returns-clause-asserts : goal.returns-clause-asserts
returns-clause-asserts c = is_asserted

pub returns-clause-asserted : goal.returns-clause-asserted
returns-clause-asserted c = address_there

pub returns-clause-one : goal.returns-clause-one
returns-clause-one c = one_asserted

pub returns-clause-limit : goal.returns-clause-limit
returns-clause-limit c = limit_only

pub returns-clause-fault : goal.returns-clause-fault
returns-clause-fault c = is_refused

pub returns-clause-only : goal.returns-clause-only
returns-clause-only c = asserts_only

pub returns-clause-quiet : goal.returns-clause-quiet
returns-clause-quiet c = asserts_quietly
