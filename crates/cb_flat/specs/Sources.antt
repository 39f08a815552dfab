-- What the lists of a branch go on from, by its nodes.
use Rattle.std.specs.Prelude.{List, None, map}
use Rattle.cb_nodes.specs.Flat.{FlatNode, alone, grouping, joining, testing}
use Rattle.cb_token_lists.specs.Partials.{SourceValue}

-- what the list behind a node goes on from
abbrev pub source_of : FlatNode → SourceValue
source_of (joining from x p ts) = record { from = from; address = x }
source_of (testing from t) = record { from = from; address = None }
source_of (grouping from inner positive width) = record { from = from; address = None }
source_of (alone from p positive) = record { from = from; address = None }

-- the same of several
abbrev pub sources_of : List FlatNode → List SourceValue
sources_of ns = map source_of ns
