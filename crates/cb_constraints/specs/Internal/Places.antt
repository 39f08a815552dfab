-- Where the variables of a pattern first take a value, and where its constraints stand.
use Rattle.std.specs.Prelude.{◌+◌, ◌&&◌, ◌||◌, ℕ, suc, Bool, length, List, [], ◌∷◌, ◌++◌, Option, Some, None, map, nat_eq, nat_lt, take, if◌then◌else◌}
use Rattle.std.specs.List.{list_any}
use Rattle.std.specs.Map.{lookup}
use Rattle.std.specs.Str.{bytes_eq}
use Rattle.cb_constraints.specs.Binders.{binder, binders_of}
use Rattle.cb_constraints.specs.Constraints.{Check, Demand, nothing, each, either, Constraint}
use Rattle.cb_constraints.specs.PatternValues.{PatternParts, fields, slots, SlotValue}
use Rattle.cb_constraints.specs.declared.place.Place.{Place}
use Rattle.cb_constraints.specs.declared.site.Site.{Site}

-- the variables that the checks before the one with this number may give a value
abbrev pub binders_before : ℕ → Demand → List (List ℕ)
binders_before i nothing = []
binders_before i (each cs) = binders_of (take i cs)
binders_before i (either None alternatives) = []
binders_before i (either (Some x) alternatives) = take i (x ∷ [])

-- the variables that checks may give a value, each with its place: the number of the constraint and that of the check
abbrev pub places_of : ℕ → ℕ → List Check → List (List ℕ × Place)
places_of n k [] = []
places_of n k (c ∷ cs) = map (λ x. (x, record { constraint = n; check = k })) (binder c.negated c.test) ++ places_of n (suc k) cs

-- The variables that a constraint with this number may give a value, each with its place.
abbrev pub places_for : ℕ → Demand → List (List ℕ × Place)
places_for n nothing = []
places_for n (each cs) = places_of n 0 cs
places_for n (either None alternatives) = []
places_for n (either (Some x) alternatives) = (x, record { constraint = n; check = 0 }) ∷ []

-- the same of constraints, of which the first has this number
abbrev pub places : ℕ → List Constraint → List (List ℕ × Place)
places n [] = []
places n (c ∷ cs) = places_for n c.demand ++ places (suc n) cs

-- where a variable may first take a value
abbrev pub first_place : List ℕ → List Constraint → Option Place
first_place x cs = lookup (bytes_eq x) (places 0 cs)

-- the place is before the check with this number, of the constraint with that number
abbrev pub is_before : Place → ℕ → ℕ → Bool
is_before p n i = nat_lt p.constraint n || (nat_eq p.constraint n && nat_lt p.check i)

-- a place, if it is before a check of a constraint
abbrev pub if_before : ℕ → ℕ → Option Place → Option Place
if_before n i None = None
if_before n i (Some p) = if is_before p n i then Some p else None

-- one of these is the variable, and its place is the check with this number, of the constraint with that number
abbrev pub has_place : List ℕ → ℕ → ℕ → List (List ℕ × Place) → Bool
has_place x n i es = list_any (λ e. nat_eq e.1.constraint n && (nat_eq e.1.check i && bytes_eq x e.0)) es

-- where the constraints of a row stand, which has this number and begins at this constraint
abbrev pub sites_of : ℕ → ℕ → List Constraint → List Site
sites_of r n cs = map (λ c. record { row = r; start = n; takes_segment = c.segment }) cs

-- the same of rows one after another
abbrev pub sites_from : ℕ → ℕ → List SlotValue → List Site
sites_from r n [] = []
sites_from r n (s ∷ ss) = sites_of r n s.row ++ sites_from (suc r) (n + length s.row) ss

-- where the constraints of a pattern stand
abbrev pub sites_in : PatternParts → List Site
sites_in (fields row) = sites_of 0 0 row
sites_in (slots rows) = sites_from 0 0 rows
