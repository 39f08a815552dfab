use Rattle.cb_laws.proofs.PrintedLaws.{integer-read, string-read, symbol-read}
use Rattle.cb_laws.proofs.printed.what_is_shown_reads_back.Goals as goal

pub returns-clause-string : goal.returns-clause-string
returns-clause-string c = string-read

pub returns-clause-symbol : goal.returns-clause-symbol
returns-clause-symbol c = symbol-read

pub returns-clause-integer : goal.returns-clause-integer
returns-clause-integer c = integer-read
