-- The program's words, as `clap` reads them.
use Rattle.std.specs.Prelude.{ℕ, List, codes, Some, option_map, unwrap_or}
use Rattle.std.specs.Str.Parse.{digits_value, without_leading_plus}
use Rattle.clap.specs.Words.{App, Rule, Text, matches_of, new_app, new_rule, one_of, with_rule}
use Rattle.clap.specs.declared.builder.ArgAction.TheVariants.{Set}
use Rattle.clap.specs.declared.builder.value_parser.ValueParser.TheVariants as vp

-- an option with a number from `min` to `max`
abbrev pub number_rule : Text → ℕ → ℕ → Rule
number_rule id min max = record (new_rule id) { long = Some id; action = Some Set; value_names = 1; parser = Some (vp.Unsigned min max) }

-- the program and its options
abbrev pub limits_app : App
limits_app =
    with_rule (with_rule (with_rule (new_app (codes "clipsbatch")) (number_rule (codes "max-form") 1 16777216))
    (number_rule (codes "max-firings") 0 1000000000000)) (number_rule (codes "max-turns") 0 1000000000000)

-- the number that a text of digits is; a plus may stand before it
abbrev pub number_in : Text → ℕ
number_in text = digits_value 10 (without_leading_plus text)

-- the number that this option has among the words, or the default where it isn't given
abbrev pub limit_of : Text → ℕ → List Text → ℕ
limit_of id default words = unwrap_or (option_map number_in (one_of id (matches_of limits_app words))) default
