-- What `watch` and `unwatch` name.
use Rattle.std.specs.Prelude.{ℕ, List, [], ◌∷◌, Option, codes}
use Rattle.std.specs.Map.{lookup}
use Rattle.std.specs.Str.{bytes_eq}
use Rattle.cb_words.specs.declared.watch_item.WatchItem.{WatchItem}
use Rattle.cb_words.specs.declared.watch_item.WatchItem.TheVariants.{Facts, Rules, Activations, All}

-- a word and what it names
abbrev pub watch_items : List (List ℕ × WatchItem)
watch_items = (codes "facts", Facts) ∷ (codes "rules", Rules) ∷ (codes "activations", Activations) ∷ (codes "all", All) ∷ []

-- what the word names that can be watched, if it names anything
abbrev pub watch_item_of : List ℕ → Option WatchItem
watch_item_of word = lookup (bytes_eq word) watch_items
