-- The number and the text of each fault, as its line in a transcript shows them.
use Rattle.std.specs.Prelude.{ℕ, List, codes}
use Rattle.cb_forms.specs.declared.fault.Fault.{Fault}
use Rattle.cb_forms.specs.declared.fault.Fault.TheVariants.{FormNotClosed, UnmatchedParenthesis, NestingTooDeep, IntegerOutOfRange, FloatNotSupported, UnknownFunction, WrongArguments, MalformedForm, FactDoesNotFit, ValueNotAllowed, UnboundVariable, UnknownGlobal, NotOnLeftSide, NotInProfile, TooManyBranches, BadSalience, WrongType, IntegerOverflow, DivisionByZero, NoSuchFact, NoSuchRule, OneValueWanted, TemplateInUse}

-- the number after `CB`
abbrev pub number_of : Fault → ℕ
number_of FormNotClosed = 1
number_of UnmatchedParenthesis = 2
number_of NestingTooDeep = 3
number_of IntegerOutOfRange = 4
number_of FloatNotSupported = 5
number_of UnknownFunction = 6
number_of WrongArguments = 7
number_of MalformedForm = 8
number_of FactDoesNotFit = 9
number_of ValueNotAllowed = 10
number_of UnboundVariable = 11
number_of UnknownGlobal = 12
number_of NotOnLeftSide = 13
number_of NotInProfile = 14
number_of TooManyBranches = 15
number_of BadSalience = 16
number_of WrongType = 17
number_of IntegerOverflow = 18
number_of DivisionByZero = 19
number_of NoSuchFact = 20
number_of NoSuchRule = 21
number_of OneValueWanted = 22
number_of TemplateInUse = 23

-- the text after the number
abbrev pub text_of : Fault → List ℕ
text_of FormNotClosed = codes "form not closed"
text_of UnmatchedParenthesis = codes "unmatched closing parenthesis"
text_of NestingTooDeep = codes "nesting too deep"
text_of IntegerOutOfRange = codes "integer out of range"
text_of FloatNotSupported = codes "floats are not supported"
text_of UnknownFunction = codes "unknown function"
text_of WrongArguments = codes "wrong arguments"
text_of MalformedForm = codes "malformed form"
text_of FactDoesNotFit = codes "fact does not fit its template"
text_of ValueNotAllowed = codes "value not allowed in slot"
text_of UnboundVariable = codes "unbound variable"
text_of UnknownGlobal = codes "unknown global variable"
text_of NotOnLeftSide = codes "not allowed on a left side"
text_of NotInProfile = codes "not in this profile"
text_of TooManyBranches = codes "too many branches"
text_of BadSalience = codes "bad salience"
text_of WrongType = codes "wrong type"
text_of IntegerOverflow = codes "integer overflow"
text_of DivisionByZero = codes "division by zero"
text_of NoSuchFact = codes "no such fact"
text_of NoSuchRule = codes "no such rule"
text_of OneValueWanted = codes "one value wanted"
text_of TemplateInUse = codes "template in use"
