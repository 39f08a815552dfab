-- Where a search stands after one constraint more, and what that one takes.
use Rattle.std.proofs.Common.{add-one, arith, drop-cons, get_or, ◌≡◌, ◌∙◌, ◌++◌, ◌+◌, ◌-◌, ◌<◌, ◌≤◌, ℕ, zero, suc, Bool, true, false, List, [], ◌∷◌, None, Some, ap, drop, length, map, min, refl, replicate, subst, sym, take}
use Rattle.std.proofs.Math.Seq.{take-length}
use Rattle.std.specs.List.{flat_map}
use Rattle.std.proofs.lemmas.List.{append-nil, append_assoc, drop-drop, drop_all, length-append, length-drop, length-map, length-take, map-append, take-append-le, take-take}
use Rattle.std.specs.Option.{option_and_then}
use Rattle.cb_constraints.specs.Binders.{constraints_in}
use Rattle.cb_constraints.specs.Internal.Places.{sites_from, sites_in, sites_of}
use Rattle.cb_constraints.specs.Constraints.{Constraint, Demand, constraint_of, nothing}
use Rattle.cb_constraints.specs.declared.constraint.Constraint as program
use Rattle.cb_constraints.specs.Holding.{Meets, after_demand, checks_in}
use Rattle.cb_constraints.specs.Internal.Known.{bindings_after, bindings_before}
use Rattle.cb_constraints.specs.PatternValues.{PatternParts, SlotValue}
use Rattle.cb_constraints.specs.PatternValues as pattern
use Rattle.cb_constraints.specs.declared.site.Site.{Site}
use Rattle.cb_constraints.proofs.FollowLaws.{known_first, known_follows, known_last}
use Rattle.cb_constraints.specs.Internal.Asking.{HoldsOfAll}
use Rattle.cb_constraints.specs.Internal.Values.{fields_of_row, fields_taken, first_fields, first_row_fields, next_value, value_taken, values_taken}
use Rattle.cb_constraints.proofs.TakenValues.{as_many_values, next_is, one_more_value}
use Rattle.cb_exprs.specs.Bindings.{Bindings}
use Rattle.cb_facts.specs.Facts.{FactContent, content_of}
use Rattle.cb_facts.specs.Facts as fact
use Rattle.cb_facts.specs.Values.{fields_in}
use Rattle.cb_facts.specs.declared.single.Single.{Single}
use Rattle.cb_facts.specs.declared.value.Value.{Value}
use Rattle.cb_facts.specs.declared.value.Value.TheVariants as value
use Rattle.cb_constraints.specs.Internal.RowFields.{IsFirst}
use Rattle.cb_fit.proofs.Rows.{is-one}
use Rattle.cb_fit.specs.Internal.{after_ones, env_after}
use Rattle.cb_fit.specs.Internal.Choices.{KeepsFirst}
use Rattle.cb_fit.specs.Internal.Standing.{AreNext, AreOfSlots, IsAt, ComesNext, TestsNext}
use Rattle.cb_fit.specs.Ways.{after_segment, first_value, segment_value, slot_at}
use Rattle.cb_constraints.specs.Rows.{segments_wanted}
use Rattle.cb_fit.specs.Internal.Searches.{SearchValue}

pub drop-next : {X : Type 0} (k : ℕ) (xs ys : List X) (y : X) → drop k xs ≡ y ∷ ys → drop (suc k) xs ≡ ys
drop-next k xs ys y e = sym (drop-drop 1 k xs ∙ ap (λ n. drop n xs) one-more) ∙ ap (drop 1) e
  where
    one-more : k + 1 ≡ suc k
    one-more = omega arith

pub one-longer : (xs : List ℕ) (n : ℕ) → length (xs ++ n ∷ []) ≡ suc (length xs)
one-longer [] n = refl
one-longer (x ∷ xs) n = ap suc (one-longer xs n)

taken-more : (cuts : List ℕ) (n : ℕ) → fields_taken (cuts ++ n ∷ []) ≡ fields_taken cuts + n
taken-more [] n = omega arith
taken-more (m ∷ cuts) n = ap (λ k. m + k) (taken-more cuts n) ∙ omega arith

-- the first of the constraints of the program that are left
pub split-next : (cs : List program.Constraint) (i : ℕ) (d : program.Constraint) → d ≡ get_or cs i d → i < length cs → map constraint_of (drop i cs) ≡ constraint_of d ∷ map constraint_of (drop (i + 1) cs)
split-next cs i d is lt = ap (map constraint_of) first
  where
    first : drop i cs ≡ d ∷ drop (i + 1) cs
    first = rw (add-one, drop-cons cs i d) (ap (λ x. x ∷ drop (suc i) cs) (sym is))

-- where nothing comes next, there are no more
pub none-after : {X : Type 0} (k : ℕ) (xs : List X) → drop k xs ≡ [] → (n : ℕ) → n ≡ k → length xs ≤ n
none-after k xs e n is = at-most (length xs) (sym (length-drop k xs) ∙ ap length e)
  where
    at-most : (m : ℕ) → m - k ≡ 0 → m ≤ n
    at-most m h = omega (arith, h, is)

-- the constraint that comes next, by the number of the values that were taken
pub next-here : (s : SearchValue) (cuts : List ℕ) (c : Constraint) (next : ComesNext s cuts c) → drop (length (values_taken s.body s.content cuts)) (constraints_in s.body) ≡ c ∷ next.0
next-here s cuts c next = ap (λ k. drop k (constraints_in s.body)) (as_many_values s.body s.content cuts) ∙ next.1

-- after one constraint more
pub next-at : (s : SearchValue) (fields : List Single) (cuts : List ℕ) (at n : ℕ) (c : Constraint) (cs : List Constraint) → IsAt s fields cuts at (c ∷ cs) → IsAt s fields (cuts ++ n ∷ []) (at + n) cs
next-at s fields cuts at n c cs i = record {
  row = i.row;
  start = i.start;
  more = i.more;
  sites = i.sites;
  next = ap (λ k. drop k (constraints_in s.body)) (one-longer cuts n) ∙ drop-next (length cuts) (constraints_in s.body) (cs ++ i.more) c i.next;
  next_sites = ap (λ k. drop k (sites_in s.body)) (one-longer cuts n) ∙ drop-next (length cuts) (sites_in s.body) (sites_of i.row i.start cs ++ i.sites) (record { row = i.row; start = i.start; takes_segment = c.segment }) i.next_sites;
  begun = up-to (length cuts) i.begun (one-longer cuts n);
  taken =
      taken-more cuts n ∙ (ap (λ k. k + n) i.taken
      ∙ (sum-of (fields_taken (take i.start cuts)) at n ∙ ap (λ xs. fields_taken xs + (at + n)) (sym (take-append-le i.start cuts (n ∷ []) i.begun))));
  fields_are = i.fields_are;
}
  where
    up-to : (k : ℕ) → i.start ≤ k → length (cuts ++ n ∷ []) ≡ suc k → i.start ≤ length (cuts ++ n ∷ [])
    up-to k h e = omega (arith, h, e)

    sum-of : (x y z : ℕ) → x + y + z ≡ x + (y + z)
    sum-of x y z = omega arith

-- after so many constraints for one field
pub next-ones : (s : SearchValue) (fields : List Single) (cuts : List ℕ) (at : ℕ) (os cs : List Constraint) → IsAt s fields cuts at (os ++ cs) → IsAt s fields (cuts ++ replicate (length os) 1) (at + length os) cs
next-ones s fields cuts at [] cs i = subst (λ xs. IsAt s fields xs (at + 0) cs) (sym (append-nil cuts)) (subst (λ k. IsAt s fields cuts k cs) (no-more at) i)
  where
    no-more : (k : ℕ) → k ≡ k + 0
    no-more k = omega arith
next-ones s fields cuts at (o ∷ os) cs i =
    subst (λ xs. IsAt s fields xs (at + suc (length os)) cs) (append_assoc cuts (1 ∷ []) (replicate (length os) 1))
    (subst (λ k. IsAt s fields ((cuts ++ 1 ∷ []) ++ replicate (length os) 1) k cs) (one-more at (length os)) (next-ones s fields (cuts ++ 1 ∷ []) (at + 1) os cs (next-at s fields cuts at 1 o (os ++ cs) i)))
  where
    one-more : (k m : ℕ) → k + 1 + m ≡ k + suc m
    one-more k m = omega arith

abbrev site-of : ℕ → ℕ → Constraint → Site
site-of r n c = record { row = r; start = n; takes_segment = c.segment }

-- of those that come next, the first ones
pub front-at : (s : SearchValue) (fields : List Single) (cuts : List ℕ) (at : ℕ) (cs ds : List Constraint) → IsAt s fields cuts at (cs ++ ds) → IsAt s fields cuts at cs
front-at s fields cuts at cs ds i = record {
  row = i.row;
  start = i.start;
  more = ds ++ i.more;
  sites = sites_of i.row i.start ds ++ i.sites;
  next = i.next ∙ append_assoc cs ds i.more;
  next_sites = i.next_sites ∙ (ap (λ xs. xs ++ i.sites) (map-append (site-of i.row i.start) cs ds) ∙ append_assoc (sites_of i.row i.start cs) (sites_of i.row i.start ds) i.sites);
  begun = i.begun;
  taken = i.taken;
  fields_are = i.fields_are;
}

pub first-next : (s : SearchValue) (fields : List Single) (cuts : List ℕ) (at : ℕ) (c : Constraint) (cs : List Constraint) → IsAt s fields cuts at (c ∷ cs) → ComesNext s cuts c
first-next s fields cuts at c cs i = (cs ++ i.more, i.next)

-- what the constraint that comes next takes
pub value-at : (s : SearchValue) (fields : List Single) (cuts : List ℕ) (at n : ℕ) (c : Constraint) (cs : List Constraint) → IsAt s fields cuts at (c ∷ cs)
    → next_value s.body s.content cuts n ≡ value_taken c.segment (take n (drop at fields))
value-at s fields cuts at n c cs i =
    next_is s.body s.content cuts n (record { row = i.row; start = i.start; takes_segment = c.segment }) (sites_of i.row i.start cs ++ i.sites) i.next_sites
    ∙ (ap (λ k. value_taken c.segment (take n (drop k (fields_of_row i.row s.body s.content)))) (left-of (fields_taken cuts) (fields_taken (take i.start cuts)) i.taken)
    ∙ ap (λ fs. value_taken c.segment (take n (drop at fs))) i.fields_are)
  where
    left-of : (all before : ℕ) → all ≡ before + at → all - before ≡ at
    left-of all before e = omega (arith, e)

-- what variables have before its checks, by what a test looks with
pub known-is : (s : SearchValue) (cuts : List ℕ) (v : Value) (asks took : PatternParts) (content : FactContent) (lengths : List ℕ) (tested : Value) (before : Bindings)
    → asks ≡ s.body → took ≡ s.body → content ≡ s.content → lengths ≡ cuts → tested ≡ v → before ≡ s.before
    → bindings_before (constraints_in asks) (values_taken took content lengths) tested before ≡ bindings_before (constraints_in s.body) (values_taken s.body s.content cuts) v s.before
known-is s cuts v asks took content lengths tested before a t c l w b =
    ap (λ p. bindings_before (constraints_in p) (values_taken took content lengths) tested before) a
    ∙ (ap (λ p. bindings_before (constraints_in s.body) (values_taken p content lengths) tested before) t
    ∙ (ap (λ k. bindings_before (constraints_in s.body) (values_taken s.body k lengths) tested before) c
    ∙ (ap (λ xs. bindings_before (constraints_in s.body) (values_taken s.body s.content xs) tested before) l
    ∙ (ap (λ u. bindings_before (constraints_in s.body) (values_taken s.body s.content cuts) u before) w
    ∙ ap (bindings_before (constraints_in s.body) (values_taken s.body s.content cuts) v) b))))

-- a test of the constraint that comes next says what variables have after it
pub met-next : (s : SearchValue) (cuts : List ℕ) (n : ℕ) (c : Constraint) (v : Value) (holds : Bool) → ComesNext s cuts c → next_value s.body s.content cuts n ≡ v
    → Meets holds (bindings_before (constraints_in s.body) (values_taken s.body s.content cuts) v s.before (checks_in c.demand))
    (after_demand c.demand v (bindings_before (constraints_in s.body) (values_taken s.body s.content cuts) v s.before 0))
    → Meets holds (env_after s (cuts ++ n ∷ [])) (after_demand c.demand v (env_after s cuts))
met-next s cuts n c v holds next is met =
    subst (λ env. Meets holds env (after_demand c.demand v (env_after s cuts))) (last ∙ sym after)
    (subst (λ env. Meets holds (bindings_before (constraints_in s.body) (values_taken s.body s.content cuts) v s.before (checks_in c.demand)) (after_demand c.demand v env)) first met)
  where
    here : drop (length (values_taken s.body s.content cuts)) (constraints_in s.body) ≡ c ∷ next.0
    here = next-here s cuts c next

    first : bindings_before (constraints_in s.body) (values_taken s.body s.content cuts) v s.before 0 ≡ env_after s cuts
    first = known_first (constraints_in s.body) (values_taken s.body s.content cuts) v s.before c next.0 here

    last : bindings_before (constraints_in s.body) (values_taken s.body s.content cuts) v s.before (checks_in c.demand)
        ≡ bindings_after (constraints_in s.body) (values_taken s.body s.content cuts ++ v ∷ []) s.before
    last = known_last (constraints_in s.body) (values_taken s.body s.content cuts) v s.before c next.0 here

    after : env_after s (cuts ++ n ∷ []) ≡ bindings_after (constraints_in s.body) (values_taken s.body s.content cuts ++ v ∷ []) s.before
    after =
        ap (λ vs. bindings_after (constraints_in s.body) vs s.before)
        (one_more_value s.body s.content cuts n
        ∙ ap (λ w. values_taken s.body s.content cuts ++ w ∷ []) is)

-- one that holds of every value holds of what it takes
pub holds-next : (s : SearchValue) (cuts : List ℕ) (number n : ℕ) (c : Constraint) (v : Value) → number ≡ length cuts → HoldsOfAll s.body number s.before c.demand → ComesNext s cuts c
    → next_value s.body s.content cuts n ≡ v → Meets true (env_after s (cuts ++ n ∷ [])) (after_demand c.demand v (env_after s cuts))
holds-next s cuts number n c v count all next is =
    met-next s cuts n c v true next is
    (all (values_taken s.body s.content cuts) v (as_many_values s.body s.content cuts ∙ sym count)
    (known_follows (constraints_in s.body) (values_taken s.body s.content cuts) v s.before c next.0 (next-here s cuts c next)))

-- the value of the constraint for one field that comes next
pub one-value : (s : SearchValue) (fields : List Single) (cuts : List ℕ) (at : ℕ) (c : Constraint) (cs : List Constraint) (v : Value) (others : List Single) → IsAt s fields cuts at (c ∷ cs)
    → segments_wanted (c ∷ cs) ≡ 0 → IsFirst v others (drop at fields) → next_value s.body s.content cuts 1 ≡ v
one-value s fields cuts at c cs v others i ones first =
    value-at s fields cuts at 1 c cs i
    ∙ (ap (λ b. value_taken b (take 1 (drop at fields))) (is-one c.segment (segments_wanted cs) ones)
    ∙ (ap (λ fs. value_taken false (take 1 fs)) first.1 ∙ sym first.2))

-- where it holds, those after it see what it leaves
pub one-holds : (s : SearchValue) (fields : List Single) (cuts : List ℕ) (at : ℕ) (c : Constraint) (cs : List Constraint) (v : Value) (others : List Single) (holds : Bool) → IsAt s fields cuts at (c ∷ cs)
    → segments_wanted (c ∷ cs) ≡ 0 → IsFirst v others (drop at fields)
    → ((n : ℕ) → next_value s.body s.content cuts n ≡ v → Meets holds (env_after s (cuts ++ n ∷ [])) (after_demand c.demand v (env_after s cuts)))
    → holds ≡ true → after_ones (c ∷ cs) (drop at fields) (env_after s cuts) ≡ after_ones cs others (env_after s (cuts ++ 1 ∷ []))
one-holds s fields cuts at c cs v others holds i ones first met is =
    ap (λ fs. after_ones (c ∷ cs) fs (env_after s cuts)) first.1
    ∙ (ap (λ w. option_and_then (after_ones cs others) (after_demand c.demand w (env_after s cuts))) (sym first.2)
    ∙ ap (option_and_then (after_ones cs others)) (subst (λ b. Meets b (env_after s (cuts ++ 1 ∷ [])) (after_demand c.demand v (env_after s cuts))) is (met 1 (one-value s fields cuts at c cs v others i ones first))))

-- and where it doesn't, nothing comes of them
pub one-fails : (s : SearchValue) (fields : List Single) (cuts : List ℕ) (at : ℕ) (c : Constraint) (cs : List Constraint) (v : Value) (others : List Single) (holds : Bool) → IsAt s fields cuts at (c ∷ cs)
    → segments_wanted (c ∷ cs) ≡ 0 → IsFirst v others (drop at fields)
    → ((n : ℕ) → next_value s.body s.content cuts n ≡ v → Meets holds (env_after s (cuts ++ n ∷ [])) (after_demand c.demand v (env_after s cuts)))
    → holds ≡ false → after_ones (c ∷ cs) (drop at fields) (env_after s cuts) ≡ None
one-fails s fields cuts at c cs v others holds i ones first met is =
    ap (λ fs. after_ones (c ∷ cs) fs (env_after s cuts)) first.1
    ∙ (ap (λ w. option_and_then (after_ones cs others) (after_demand c.demand w (env_after s cuts))) (sym first.2)
    ∙ ap (option_and_then (after_ones cs others)) (subst (λ b. Meets b (env_after s (cuts ++ 1 ∷ [])) (after_demand c.demand v (env_after s cuts))) is (met 1 (one-value s fields cuts at c cs v others i ones first))))

-- the value of the constraint for a segment that comes next
pub segment-next : (s : SearchValue) (fields : List Single) (cuts : List ℕ) (from to : ℕ) (c : Constraint) (cs : List Constraint) → IsAt s fields cuts from (c ∷ cs) → c.segment ≡ true
    → next_value s.body s.content cuts (to - from) ≡ value.Multi (take (to - from) (drop from fields))
segment-next s fields cuts from to c cs i e = value-at s fields cuts from (to - from) c cs i ∙ ap (λ b. value_taken b (take (to - from) (drop from fields))) e

pub segment-met : (c : Constraint) (fs : List Single) (env grown : Bindings) (holds : Bool) → c.segment ≡ true → Meets holds grown (after_demand c.demand (value.Multi fs) env) → Meets holds grown (after_segment c fs env)
segment-met c fs env grown holds e met = subst (λ b. Meets holds grown (option_and_then (λ v. after_demand c.demand v env) (segment_value b fs))) (sym e) met

-- a test of the constraint for a segment that comes next
pub segment-tested : (s : SearchValue) (fields : List Single) (cuts : List ℕ) (from to : ℕ) (c : Constraint) (v : Value) (holds : Bool) → IsAt s fields cuts from (c ∷ []) → c.segment ≡ true
    → v ≡ value.Multi (take (to - from) (drop from fields)) → TestsNext s cuts c.demand v holds
    → Meets holds (env_after s (cuts ++ (to - from) ∷ [])) (after_segment c (take (to - from) (drop from fields)) (env_after s cuts))
segment-tested s fields cuts from to c v holds place segment is tests =
    segment-met c (take (to - from) (drop from fields)) (env_after s cuts) (env_after s (cuts ++ (to - from) ∷ [])) holds segment
    (subst (λ w. Meets holds (env_after s (cuts ++ (to - from) ∷ [])) (after_demand c.demand w (env_after s cuts))) is
    (tests (to - from) (segment-next s fields cuts from to c [] place segment ∙ sym is)))

-- a constraint that asks nothing holds
pub nothing-met : (d : Demand) (v : Value) (before : ℕ → Bindings) → d ≡ nothing → Meets true (before (checks_in d)) (after_demand d v (before 0))
nothing-met d v before e = subst (λ x. Meets true (before (checks_in x)) (after_demand x v (before 0))) (sym e) refl

-- lengths that come after others leave these as they were
pub keeps-more : (xs more : List ℕ) → KeepsFirst (length xs) xs (xs ++ more)
keeps-more xs more = (take-append-le (length xs) xs more (omega arith), longer (length xs) (length more) (length-append xs more))
  where
    longer : (n m : ℕ) {k : ℕ} → k ≡ n + m → n ≤ k
    longer n m e = omega (arith, e)

pub keeps-all : (n : ℕ) (xs : List ℕ) → n ≤ length xs → KeepsFirst n xs xs
keeps-all n xs h = (refl, h)

pub keeps-through : (n m : ℕ) (xs ys zs : List ℕ) → n ≤ m → KeepsFirst n xs ys → KeepsFirst m ys zs → KeepsFirst n xs zs
keeps-through n m xs ys zs h k l = (sym (take-take n m zs h) ∙ (ap (take n) l.0 ∙ (take-take n m ys h ∙ k.0)), omega (arith, h, l.1))

pub keeps-after : (xs ys zs more : List ℕ) → ys ≡ xs ++ more → KeepsFirst (length ys) ys zs → KeepsFirst (length xs) xs zs
keeps-after xs ys zs more e k =
    keeps-through (length xs) (length ys) xs ys zs (subst (λ us. length xs ≤ length us) (sym e) (keeps-more xs more).1) (subst (KeepsFirst (length xs) xs) (sym e) (keeps-more xs more)) k

ones-last : (k : ℕ) → ◌++◌ {A = ℕ} (replicate k 1) (1 ∷ []) ≡ replicate (k + 1) 1
ones-last k = last k ∙ ap (λ n. replicate n 1) (one-more k)
  where
    last : (k : ℕ) → ◌++◌ {A = ℕ} (replicate k 1) (1 ∷ []) ≡ replicate (suc k) 1
    last zero = refl
    last (suc k) = ap (λ xs. 1 ∷ xs) (last k)

    one-more : (k : ℕ) → suc k ≡ k + 1
    one-more k = omega arith

pub more-ones : (new old all : List ℕ) (k : ℕ) → new ≡ old ++ 1 ∷ [] → old ≡ all ++ replicate k 1 → new ≡ all ++ replicate (k + 1) 1
more-ones new old all k e d = e ∙ (ap (λ xs. xs ++ 1 ∷ []) d ∙ (append_assoc all (replicate k 1) (1 ∷ []) ∙ ap (λ xs. all ++ xs) (ones-last k)))

-- lengths cut back to some, and what comes after these
pub within-taken : (n : ℕ) (xs : List ℕ) → n ≡ length (take n xs) → n ≤ length xs
within-taken n xs e = omega (arith, e ∙ length-take n xs)

pub cut-keeps : (n : ℕ) (old cuts cut : List ℕ) → cut ≡ take n cuts → KeepsFirst n old cuts → KeepsFirst n old cut
cut-keeps n old cuts cut e k = (ap (take n) e ∙ (take-take n n cuts (omega arith) ∙ k.0), enough (ap length e ∙ length-take n cuts) k.1)
  where
    enough : {m : ℕ} → m ≡ min n (length cuts) → n ≤ length cuts → n ≤ m
    enough e h = omega (arith, e, h)

pub kept-again : (n : ℕ) (old cuts cut new : List ℕ) → cut ≡ take n cuts → KeepsFirst n old cuts → KeepsFirst (length cut) cut new → KeepsFirst n old new
kept-again n old cuts cut new e k l = keeps-through n (length cut) old cut new (cut-keeps n old cuts cut e k).1 (cut-keeps n old cuts cut e k) l

-- a row of slots that begins now, and those after it
pub row-begins : (s : SearchValue) (cuts : List ℕ) (row : SlotValue) (others : List SlotValue) (v : Value) (fields : List Single) → AreNext s (length cuts) (row ∷ others) → slot_at row.place s.slots ≡ Some v
    → fields ≡ fields_in v → IsAt s fields cuts 0 row.row
row-begins s cuts row others v fields n is e = record {
  row = n.row;
  start = length cuts;
  more = flat_map (λ r. r.row) others;
  sites = sites_from (suc n.row) (length cuts + length row.row) others;
  next = n.next;
  next_sites = n.next_sites;
  begun = omega arith;
  taken = ap fields_taken (sym (take-length cuts)) ∙ and-none (fields_taken (take (length cuts) cuts));
  fields_are = n.fields_are.0 ∙ (of-slot (drop row.place s.slots) is ∙ sym e);
}
  where
    and-none : (k : ℕ) → k ≡ k + 0
    and-none k = omega arith

    of-slot : (slots : List (List ℕ × Value)) → first_value slots ≡ Some v → first_fields slots ≡ fields_in v
    of-slot [] d = absurd (apart d)
      where
        apart : None ≡ Some v → ⊥
        apart d = cc
    of-slot (t ∷ ts) d = ap fields_in (same-value t.1 v d)
      where
        same-value : (w u : Value) → Some w ≡ Some u → w ≡ u
        same-value w u d = cc

pub rows-after : (s : SearchValue) (count : ℕ) (row : SlotValue) (others : List SlotValue) → AreNext s count (row ∷ others) → AreNext s (count + length row.row) others
rows-after s count row others n = record {
  row = suc n.row;
  next = past-first (constraints_in s.body) row.row (flat_map (λ r. r.row) others) (length row.row) refl n.next;
  next_sites = past-first (sites_in s.body) (sites_of n.row count row.row) (sites_from (suc n.row) (count + length row.row) others) (length row.row) (sym (length-map row.row (site-of n.row count))) n.next_sites;
  fields_are = n.fields_are.1;
}
  where
    past-first : {X : Type 0} (xs front back : List X) (k : ℕ) → k ≡ length front → drop count xs ≡ front ++ back → drop (count + k) xs ≡ back
    past-first xs front back k e d = sym (drop-drop k count xs) ∙ (ap (drop k) d ∙ (ap (λ n. drop n (front ++ back)) e ∙ drop-front front back))
      where
        drop-front : {X : Type 0} (xs ys : List X) → drop (length xs) (xs ++ ys) ≡ ys
        drop-front [] ys = refl
        drop-front (x ∷ xs) ys = drop-front xs ys

-- where a row has ended, the others come next
pub next-count : (s : SearchValue) (n m : ℕ) (rows : List SlotValue) → n ≡ m → AreNext s n rows → AreNext s m rows
next-count s n m rows e h = subst (λ k. AreNext s k rows) e h

-- after a segment and the constraints for one field that follow it
pub after-group : (s : SearchValue) (fields : List Single) (before new : List ℕ) (from to at k : ℕ) (c : Constraint) (os rest : List Constraint) → IsAt s fields before from (c ∷ (os ++ rest))
    → from ≤ to → length os ≡ k → at ≡ to + k → new ≡ before ++ ((to - from) ∷ replicate k 1) → IsAt s fields new at rest
after-group s fields before new from to at k c os rest i h l e n =
    subst (λ xs. IsAt s fields xs at rest) (append_assoc before ((to - from) ∷ []) (replicate (length os) 1) ∙ (ap (λ m. before ++ ((to - from) ∷ replicate m 1)) l ∙ sym n))
    (subst (λ m. IsAt s fields ((before ++ (to - from) ∷ []) ++ replicate (length os) 1) m rest) there
    (next-ones s fields (before ++ (to - from) ∷ []) (from + (to - from)) os rest (next-at s fields before from (to - from) c (os ++ rest) i)))
  where
    there : from + (to - from) + length os ≡ at
    there = omega (arith, h, l, e)

-- where a row begins a pattern
pub row-starts : (s : SearchValue) (row : List Constraint) (fs : List Single) → s.body ≡ pattern.fields row → s.content ≡ fact.fields fs → IsAt s fs [] 0 row
row-starts s row fs e d = record {
  row = 0;
  start = 0;
  more = [];
  sites = [];
  next = ap constraints_in e ∙ sym (append-nil row);
  next_sites = ap sites_in e ∙ sym (append-nil (sites_of 0 0 row));
  begun = omega arith;
  taken = omega arith;
  fields_are = ap (λ p. fields_of_row 0 p s.content) e ∙ ap (fields_of_row 0 (pattern.fields row)) d;
}

pub row-ends : (s : SearchValue) (row : List Constraint) (n : ℕ) → s.body ≡ pattern.fields row → n ≡ length row → AreNext s n []
row-ends s row n e l = record {
  row = 0;
  next = ap (λ p. drop n (constraints_in p)) e ∙ drop_all n row (omega (arith, l));
  next_sites = ap (λ p. drop n (sites_in p)) e ∙ drop_all n (sites_of 0 0 row) (omega (arith, l, length-map row (site-of 0 0)));
  fields_are = tt;
}

slots-stand : (all : List SlotValue) (ss : List (List ℕ × Value)) (r : ℕ) (rows : List SlotValue) → drop r all ≡ rows → AreOfSlots (pattern.slots all) (fact.slots ss) ss r rows
slots-stand all ss r [] e = tt
slots-stand all ss r (row ∷ rows) e = (ap (λ rs. first_row_fields rs ss) e, slots-stand all ss (suc r) rows (drop-next r all rows row e))

-- where rows of slots begin one
pub rows-start : (s : SearchValue) (rows : List SlotValue) → s.body ≡ pattern.slots rows → s.content ≡ fact.slots s.slots → AreNext s 0 rows
rows-start s rows e d = record {
  row = 0;
  next = ap constraints_in e;
  next_sites = ap sites_in e;
  fields_are = subst (λ p. AreOfSlots p s.content s.slots 0 rows) (sym e) (subst (λ k. AreOfSlots (pattern.slots rows) k s.slots 0 rows) (sym d) (slots-stand rows s.slots 0 rows refl));
}

-- before the first constraint variables have what they had
pub env-first : (s : SearchValue) (cuts : List ℕ) → cuts ≡ [] → env_after s cuts ≡ s.before
env-first s cuts e = ap (env_after s) e ∙ none (constraints_in s.body)
  where
    none : (cs : List Constraint) → bindings_after cs [] s.before ≡ s.before
    none [] = refl
    none (c ∷ cs) = refl
