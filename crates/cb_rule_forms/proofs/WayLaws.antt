-- Ways through a left side: how many there are, and how they go on.
use Rattle.std.proofs.Common.{◌≡◌, ◌∙◌, ◌++◌, List, [], ◌∷◌, Result, Err, map, refl, subst, sym, ap, ap₂, append_assoc}
use Rattle.std.proofs.lemmas.List.{append-nil, map-append}
use Rattle.std.proofs.lemmas.Grind.{flat_map-append}
use Rattle.std.specs.List.{flat_map}
use Rattle.cb_expr_forms.specs.Scopes.{Scope}
use Rattle.cb_facts.specs.declared.refused.Refused.{Refused}
use Rattle.cb_facts.specs.declared.refused.Refused.TheVariants as refused
use Rattle.cb_forms.specs.declared.fault.Fault.{Fault}
use Rattle.cb_rule_forms.specs.Branches.{combined, ways_through, ways_through_all, ways_through_one}
use Rattle.cb_rule_forms.specs.Elements.{element_faults, elements_faults}
use Rattle.cb_rule_forms.specs.Internal.{writtens}
use Rattle.cb_rule_forms.specs.WrittenElements.{Written, wrong, written_pattern, written_test, all_of, one_of, written_group, Writtens, none_written, written}
use Rattle.cb_facts.specs.FaultLists.{ReadsAs, first_of}
use Rattle.cb_facts.proofs.FirstFaults.{first_append}

-- these elements before each way
abbrev pub led_by : List Written → List (List Written) → List (List Written)
led_by first seconds = map (λ second. first ++ second) seconds

led_twice : (xs ys : List Written) (zs : List (List Written)) → led_by (xs ++ ys) zs ≡ led_by xs (led_by ys zs)
led_twice xs ys [] = refl
led_twice xs ys (z ∷ zs) = ap₂ (λ (a : List Written) (b : List (List Written)). a ∷ b) (append_assoc xs ys z) (led_twice xs ys zs)

led_combined : (xs : List Written) (ys zs : List (List Written)) → led_by xs (combined ys zs) ≡ combined (led_by xs ys) zs
led_combined xs [] zs = refl
led_combined xs (y ∷ ys) zs =
    map-append (λ second. xs ++ second) (led_by y zs) (combined ys zs) ∙ ap₂ (λ (a b : List (List Written)). a ++ b) (sym (led_twice xs y zs)) (led_combined xs ys zs)

combined_append : (xs ys zs : List (List Written)) → combined (xs ++ ys) zs ≡ combined xs zs ++ combined ys zs
combined_append xs ys zs = flat_map-append (λ first. led_by first zs) xs ys

-- three parts, one after another
pub combined_assoc : (xs ys zs : List (List Written)) → combined (combined xs ys) zs ≡ combined xs (combined ys zs)
combined_assoc [] ys zs = refl
combined_assoc (x ∷ xs) ys zs =
    combined_append (led_by x ys) (combined xs ys) zs
    ∙ ap₂ (λ (a b : List (List Written)). a ++ b) (sym (led_combined x ys zs)) (combined_assoc xs ys zs)

led_none : (xs : List (List Written)) → led_by [] xs ≡ xs
led_none [] = refl
led_none (x ∷ xs) = ap (λ (l : List (List Written)). x ∷ l) (led_none xs)

-- no elements before, and none after
pub after_none : (xs : List (List Written)) → combined ([] ∷ []) xs ≡ xs
after_none xs = append-nil (led_by [] xs) ∙ led_none xs

pub then_none : (xs : List (List Written)) → combined xs ([] ∷ []) ≡ xs
then_none [] = refl
then_none (x ∷ xs) = ap₂ (λ (a : List Written) (b : List (List Written)). a ∷ b) (append-nil x) (then_none xs)

-- from one way
pub from_one : (x : List Written) (ys : List (List Written)) → combined (x ∷ []) ys ≡ led_by x ys
from_one x ys = append-nil (led_by x ys)

-- the last of several alternatives
pub one_last : (xs : List Written) (x : Written) → ways_through_one (writtens (xs ++ x ∷ [])) ≡ ways_through_one (writtens xs) ++ ways_through x
one_last [] x = append-nil (ways_through x)
one_last (y ∷ xs) x = ap (λ (l : List (List Written)). ways_through y ++ l) (one_last xs x) ∙ sym (append_assoc (ways_through y) (ways_through_one (writtens xs)) (ways_through x))

-- where no element of a left side has a fault, none of a way through it has
abbrev way_faults : Scope → List Written → List Fault
way_faults s way = flat_map (element_faults s) way

abbrev pub ways_faults : Scope → List (List Written) → List Fault
ways_faults s ways = flat_map (way_faults s) ways

first_none : (xs ys : List Fault) → xs ++ ys ≡ [] → xs ≡ []
first_none [] ys h = refl
first_none (x ∷ xs) ys h = absurd (cc)

second_none : (xs ys : List Fault) → xs ++ ys ≡ [] → ys ≡ []
second_none [] ys h = h
second_none (x ∷ xs) ys h = absurd (cc)

pub both_none : (xs ys : List Fault) → xs ≡ [] → ys ≡ [] → xs ++ ys ≡ []
both_none xs ys g h = ap₂ (λ (a b : List Fault). a ++ b) g h

led_right : (s : Scope) (x : List Written) (ys : List (List Written)) → way_faults s x ≡ [] → ways_faults s ys ≡ [] → ways_faults s (led_by x ys) ≡ []
led_right s x [] g h = refl
led_right s x (y ∷ ys) g h =
    both_none (way_faults s (x ++ y)) (ways_faults s (led_by x ys))
    (flat_map-append (element_faults s) x y ∙ both_none _ _ g (first_none (way_faults s y) (ways_faults s ys) h))
    (led_right s x ys g (second_none (way_faults s y) (ways_faults s ys) h))

combined_right : (s : Scope) (xs ys : List (List Written)) → ways_faults s xs ≡ [] → ways_faults s ys ≡ [] → ways_faults s (combined xs ys) ≡ []
combined_right s [] ys g h = refl
combined_right s (x ∷ xs) ys g h =
    flat_map-append (way_faults s) (led_by x ys) (combined xs ys)
    ∙ both_none _ _ (led_right s x ys (first_none (way_faults s x) (ways_faults s xs) g) h) (combined_right s xs ys (second_none (way_faults s x) (ways_faults s xs) g) h)

alone_right : (s : Scope) (w : Written) → element_faults s w ≡ [] → ways_faults s ((w ∷ []) ∷ []) ≡ []
alone_right s w h = append-nil (element_faults s w ++ []) ∙ (append-nil (element_faults s w) ∙ h)

mutual
  ways_right : (s : Scope) (w : Written) → element_faults s w ≡ [] → ways_faults s (ways_through w) ≡ []
  ways_right s (wrong f) h = alone_right s (wrong f) h
  ways_right s (written_pattern x relation ts) h = alone_right s (written_pattern x relation ts) h
  ways_right s (written_test t) h = alone_right s (written_test t) h
  ways_right s (all_of ws) h = all_right s ws h
  ways_right s (one_of ws) h = one_right s ws h
  ways_right s (written_group positive ws) h = alone_right s (written_group positive ws) h

  pub all_right : (s : Scope) (ws : Writtens) → elements_faults s ws ≡ [] → ways_faults s (ways_through_all ws) ≡ []
  all_right s none_written h = refl
  all_right s (written w ws) h =
      combined_right s (ways_through w) (ways_through_all ws) (ways_right s w (first_none _ _ h)) (all_right s ws (second_none (element_faults s w) _ h))

  one_right : (s : Scope) (ws : Writtens) → elements_faults s ws ≡ [] → ways_faults s (ways_through_one ws) ≡ []
  one_right s none_written h = refl
  one_right s (written w ws) h =
      flat_map-append (way_faults s) (ways_through w) (ways_through_one ws)
      ∙ both_none _ _ (ways_right s w (first_none _ _ h)) (one_right s ws (second_none (element_faults s w) _ h))

-- ways that branch off from one: through the next alternative, and through the last
pub branch_more : (w : List Written) (old new gone here rest : List (List Written)) → new ≡ old ++ gone → gone ≡ combined (w ∷ []) here
    → new ++ led_by w rest ≡ old ++ led_by w (here ++ rest)
branch_more w old new gone here rest p q =
    ap (λ (l : List (List Written)). l ++ led_by w rest) (p ∙ ap (λ (l : List (List Written)). old ++ l) (q ∙ from_one w here))
    ∙ (append_assoc old (led_by w here) (led_by w rest) ∙ ap (λ (l : List (List Written)). old ++ l) (sym (map-append (λ more. w ++ more) here rest)))

pub branch_end : (w : List Written) (old first gone others here : List (List Written)) → old ++ [] ≡ first ++ led_by w others → gone ≡ combined (w ∷ []) here
    → old ++ gone ≡ first ++ led_by w (others ++ here)
branch_end w old first gone others here p q =
    ap₂ (λ (a b : List (List Written)). a ++ b) (sym (append-nil old) ∙ p) (q ∙ from_one w here)
    ∙ (append_assoc first (led_by w others) (led_by w here) ∙ ap (λ (l : List (List Written)). first ++ l) (sym (map-append (λ more. w ++ more) others here)))

-- the first fault of the first part is the first of all
pub fault_passes : {T U V W : Type 0} (view : T → V) (see : U → W) (r : Refused) (res : Result U Refused) (here rest all : List Fault) (x : V) (y : W)
    → here ++ rest ≡ all → res ≡ Err r → ReadsAs view (Err r) here x → ReadsAs see res all y
fault_passes view see (refused.Fault f) res here rest all x y is same h =
    subst (λ it. ReadsAs see it all y) (sym same) (ap first_of (sym is) ∙ first_append here rest f h)
fault_passes view see refused.NoMemory res here rest all x y is same h = subst (λ it. ReadsAs see it all y) (sym same) tt
