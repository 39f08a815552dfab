-- The line that says where the faults of a script arose.
use Rattle.std.specs.Prelude.{◌==◌, ℕ, ◌-◌, ◌^◌, List, [], ◌∷◌, ◌++◌, Option, Some, None, codes, length, min, nat_lt, take, if◌then◌else◌}
use Rattle.std.specs.Fmt.{decimal}
use Rattle.cb_session.specs.Places.{FaultPlaces}
use Rattle.cb_session.specs.declared.places.Place.{Place}

-- the rule in which a fault arose, if it did in one
abbrev pub rule_text : Option (List ℕ) → List ℕ
rule_text None = []
rule_text (Some name) = codes " in rule " ++ name

-- the line of a fault, and its rule
abbrev pub place_text : Place → List ℕ
place_text p = codes "line " ++ (decimal p.line ++ rule_text p.rule)

-- places, the first after this mark and each other after a comma
abbrev pub listed_places : List ℕ → List Place → List ℕ
listed_places mark [] = []
listed_places mark (p ∷ ps) = mark ++ (place_text p ++ listed_places (codes ", ") ps)

-- what follows the number of faults
abbrev pub fault_noun : ℕ → List ℕ
fault_noun count = if count == 1 then codes " fault" else codes " faults"

-- what follows the first eight places
abbrev pub more_mark : ℕ → List ℕ
more_mark count = if nat_lt 8 count then codes ", .." else []

-- so many faults, the first of which have these places
abbrev pub some_faults_text : ℕ → List Place → List ℕ
some_faults_text count first = codes "clipsbatch: " ++ (decimal count ++ (fault_noun count ++ (listed_places (codes ": ") first ++ more_mark count)))

abbrev pub faults_text : ℕ → List Place → List ℕ
faults_text count first = if count == 0 then [] else some_faults_text count first

-- what stands before the line of the limit, after so many faults
abbrev pub limit_mark : ℕ → List ℕ
limit_mark count = if count == 0 then codes "clipsbatch: limit at line " else codes "; limit at line "

abbrev pub limit_text : ℕ → Option ℕ → List ℕ
limit_text count None = []
limit_text count (Some line) = limit_mark count ++ decimal line

-- The number of faults, up to 2^64 - 1, the places of the first eight, and the line of the limit. Nothing where there is none of them.
abbrev pub places_text : FaultPlaces → List ℕ
places_text ps =
    let count = min (length ps.faults) (2 ^ 64 - 1) in
    faults_text count (take 8 ps.faults) ++ limit_text count ps.limit
