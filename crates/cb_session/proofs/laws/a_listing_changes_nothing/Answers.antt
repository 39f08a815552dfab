use Rattle.std.proofs.Common.{refl}
use Rattle.cb_requests.specs.Requests as asked
use Rattle.cb_session.proofs.FaultLaws.{listed}
use Rattle.cb_session.proofs.laws.a_listing_changes_nothing.Goals as goal

pub returns-clause-facts : goal.returns-clause-facts
returns-clause-facts c = λ s r is. listed s r asked.list_facts _ refl is

pub returns-clause-agenda : goal.returns-clause-agenda
returns-clause-agenda c = λ s r is. listed s r asked.list_agenda _ refl is

pub returns-clause-rules : goal.returns-clause-rules
returns-clause-rules c = λ s r is. listed s r asked.list_rules _ refl is
