-- What a function returns for the values of its arguments, or its fault.
use Rattle.std.specs.Prelude.{not, List, Result, Ok, Err, if◌then◌else◌, length}
use Rattle.std.specs.List.{list_all, list_any}
use Rattle.cb_eval.specs.Arithmetic.{calculated, difference, greatest, least, magnitude, product, quotient, remainder, sum}
use Rattle.cb_eval.specs.Comparison.{all_same, compared, first_differs, greater, greater_or_equal, less, less_or_equal, of_integers}
use Rattle.cb_eval.specs.Constants.{truth}
use Rattle.cb_eval.specs.Joining.{joined_string, joined_symbol}
use Rattle.cb_eval.specs.Logic.{is_true}
use Rattle.cb_eval.specs.Multifields.{created, first_field, member, nth, number_of_fields, of_fields, other_fields}
use Rattle.cb_eval.specs.TypeTests.{integer_tested, is_even, is_integer, is_lexeme, is_string, is_symbol, tested}
use Rattle.cb_forms.specs.declared.fault.Fault.{Fault}
use Rattle.cb_forms.specs.declared.fault.Fault.TheVariants.{WrongType}
use Rattle.cb_facts.specs.Values.{is_multifield}
use Rattle.cb_facts.specs.declared.value.Value.{Value}
use Rattle.cb_words.specs.Words.{arity_of, takes}
use Rattle.cb_words.specs.declared.words.Function.{Function}
use Rattle.cb_words.specs.declared.words.Function.TheVariants as function

-- What each function returns, or its fault, of as many values as it takes: one row for each function.
abbrev pub computed : Function → List Value → Result Value Fault
computed function.Add vs = calculated sum vs
computed function.Subtract vs = calculated difference vs
computed function.Multiply vs = calculated product vs
computed function.Div vs = calculated quotient vs
computed function.Mod vs = calculated remainder vs
computed function.Min vs = calculated least vs
computed function.Max vs = calculated greatest vs
computed function.Abs vs = magnitude vs
computed function.Equal vs = of_integers all_same vs
computed function.NotEqual vs = of_integers first_differs vs
computed function.Less vs = compared less vs
computed function.Greater vs = compared greater vs
computed function.LessOrEqual vs = compared less_or_equal vs
computed function.GreaterOrEqual vs = compared greater_or_equal vs
computed function.Eq vs = Ok (truth (all_same vs))
computed function.Neq vs = Ok (truth (first_differs vs))
computed function.And vs = Ok (truth (list_all is_true vs))
computed function.Or vs = Ok (truth (list_any is_true vs))
computed function.Not vs = tested (λ v. not (is_true v)) vs
computed function.Create vs = created vs
computed function.Nth vs = nth vs
computed function.Length vs = of_fields number_of_fields vs
computed function.Member vs = member vs
computed function.First vs = of_fields first_field vs
computed function.Rest vs = of_fields other_fields vs
computed function.StrCat vs = joined_string vs
computed function.SymCat vs = joined_symbol vs
computed function.Integerp vs = tested is_integer vs
computed function.Numberp vs = tested is_integer vs
computed function.Symbolp vs = tested is_symbol vs
computed function.Stringp vs = tested is_string vs
computed function.Lexemep vs = tested is_lexeme vs
computed function.Multifieldp vs = tested is_multifield vs
computed function.Evenp vs = integer_tested is_even vs
computed function.Oddp vs = integer_tested (λ n. not (is_even n)) vs

-- of any values: a number of them that the function does not take is refused as a wrong type is
abbrev pub applied : Function → List Value → Result Value Fault
applied f vs = if takes (arity_of f) (length vs) then computed f vs else Err WrongType
