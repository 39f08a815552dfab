-- Which operator, order and test a value of the program's enums stands for.
use Rattle.std.specs.Prelude.{Bool}
use Rattle.cb_eval.specs.Arithmetic.{Operator, difference, greatest, least, product, quotient, remainder, sum}
use Rattle.cb_eval.specs.Comparison.{Comparator, greater, greater_or_equal, less, less_or_equal}
use Rattle.cb_eval.specs.TypeTests.{is_integer, is_lexeme, is_string, is_symbol}
use Rattle.cb_eval.specs.declared.arithmetic.Operation.TheVariants as operation
use Rattle.cb_eval.specs.declared.arithmetic.Operation.{Operation}
use Rattle.cb_eval.specs.declared.comparison.Order.TheVariants as order
use Rattle.cb_eval.specs.declared.comparison.Order.{Order}
use Rattle.cb_eval.specs.declared.type_tests.Kind.TheVariants as kind
use Rattle.cb_eval.specs.declared.type_tests.Kind.{Kind}
use Rattle.cb_facts.specs.Values.{is_multifield}
use Rattle.cb_facts.specs.declared.value.Value.{Value}

unfoldable pub operator_of : Operation → Operator
operator_of operation.Add = sum
operator_of operation.Subtract = difference
operator_of operation.Multiply = product
operator_of operation.Divide = quotient
operator_of operation.Remainder = remainder
operator_of operation.Least = least
operator_of operation.Greatest = greatest

abbrev pub order_of : Order → Comparator
order_of order.Less = less
order_of order.Greater = greater
order_of order.LessOrEqual = less_or_equal
order_of order.GreaterOrEqual = greater_or_equal

abbrev pub test_of : Kind → Value → Bool
test_of kind.Integer = is_integer
test_of kind.Symbol = is_symbol
test_of kind.Str = is_string
test_of kind.Lexeme = is_lexeme
test_of kind.Multifield = is_multifield
