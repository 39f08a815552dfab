use Rattle.std.proofs.Common.{◌≡◌, ◌∙◌, map, refl, ap}
use Rattle.std.specs.Map.{lookup}
use Rattle.std.specs.Str.{bytes_eq}
use Rattle.cb_words.specs.Words.{head_of, words}
use Rattle.cb_words.specs.declared.words.TheConstants.{WORDS}
use Rattle.cb_words.proofs.words.read_head.Goals as goal

words_are : map (λ row. (row.0.now, row.1)) WORDS ≡ words
words_are = refl

pub returns : goal.returns
unfolding head_of
returns c = c.find.ensures ∙ ap (lookup (bytes_eq c.args.word.now)) words_are
