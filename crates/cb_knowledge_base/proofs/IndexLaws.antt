-- Indices of facts.
use Rattle.std.proofs.Common.{◌≡◌, ◌+◌, ◌<◌, ◌≤◌, ℕ, Bool, true, false, [], ◌∷◌, IsSome, Option, Some, None, cond, arith, nat_lt, refl, rules, sym, ◌∙◌}
use Rattle.std.proofs.lemmas.Bool.{false≢true, false_from_ne_true}
use Rattle.std.proofs.lemmas.Map.Entries.{lookup_tail}
use Rattle.std.specs.BTreeMap.{is_at}
use Rattle.std.specs.Ordering.{match_ordering, nat_cmp}
use Rattle.std.specs.declared.cmp.Ordering.{Ordering}
use Rattle.std.specs.declared.cmp.Ordering.TheVariants.{Less, Equal, Greater}
use Rattle.cb_facts.specs.FactLists.{IndexedFacts, fact_at, with_fact, without_fact}
use Rattle.cb_facts.specs.Facts.{FactValue}
use Rattle.cb_facts.proofs.MemberLaws.{is_at-Decides}
use Rattle.cb_knowledge_base.specs.Internal.WorkingMemories.{AreUpTo}

pub free_after : (last ix : ℕ) (facts : IndexedFacts) → last < ix → AreUpTo last facts → fact_at facts ix ≡ None
free_after last ix [] above h = refl
free_after last ix (x ∷ xs) above h =
    let apart : is_at (nat_cmp ix) x.0 ≡ false = false_from_ne_true (is_at (nat_cmp ix) x.0) (λ e.
    let same : ix ≡ x.0 = (is_at-Decides ix x.0).0 e in
    let below = h.0 in
    omega arith) in
    lookup_tail (is_at (nat_cmp ix)) x xs apart ∙ free_after last ix xs above h.1

more : (n m : ℕ) (facts : IndexedFacts) → n ≤ m → AreUpTo n facts → AreUpTo m facts
more n m [] le h = h
more n m (x ∷ xs) le h = (let below = h.0 in omega arith, more n m xs le h.1)

put : (last : ℕ) (o : Ordering) (ix : ℕ) (f : FactValue) (x : ℕ × FactValue) (xs rest : IndexedFacts) → ix ≤ last → AreUpTo last (x ∷ xs) → AreUpTo last rest
    → AreUpTo last (match_ordering o ((ix, f) ∷ x ∷ xs) ((x.0, f) ∷ xs) (x ∷ rest))
put last Less ix f x xs rest le h r = (le, h)
put last Equal ix f x xs rest le h r = (h.0, h.1)
put last Greater ix f x xs rest le h r = (h.0, r)

pub put_in : (last ix : ℕ) (f : FactValue) (facts : IndexedFacts) → ix ≤ last → AreUpTo last facts → AreUpTo last (with_fact facts ix f)
put_in last ix f [] le h = (le, h)
put_in last ix f (x ∷ xs) le h = put last (nat_cmp ix x.0) ix f x xs (with_fact xs ix f) le h (put_in last ix f xs le h.1)

there_below : (last ix : ℕ) (facts : IndexedFacts) (f : FactValue) → AreUpTo last facts → fact_at facts ix ≡ Some f → (b : Bool) → nat_lt last ix ≡ b → ix ≤ last
there_below last ix facts f h at true above =
    let after : last < ix = search rules in
    let none = free_after last ix facts after h in
    absurd (cc)
there_below last ix facts f h at false below = search rules

-- a fact that is there has an index up to the last
pub given_there : (last ix : ℕ) (facts : IndexedFacts) (o : Option FactValue) → AreUpTo last facts → o ≡ fact_at facts ix → IsSome o → ix ≤ last
given_there last ix facts None h e some = absurd (false≢true some)
given_there last ix facts (Some f) h e some = there_below last ix facts f h (sym e) (nat_lt last ix) refl

pub up_to_next : (last : ℕ) (f : FactValue) (facts : IndexedFacts) → AreUpTo last facts → AreUpTo (last + 1) (with_fact facts (last + 1) f)
up_to_next last f facts h = put_in (last + 1) (last + 1) f facts (omega arith) (more last (last + 1) facts (omega arith) h)

less_by : (last : ℕ) (b : Bool) (x : ℕ × FactValue) (xs rest : IndexedFacts) → AreUpTo last (x ∷ xs) → AreUpTo last rest → AreUpTo last (cond b xs (x ∷ rest))
less_by last true x xs rest h more = h.1
less_by last false x xs rest h more = (h.0, more)

pub up_to_less : (last ix : ℕ) (facts : IndexedFacts) → AreUpTo last facts → AreUpTo last (without_fact facts ix)
up_to_less last ix [] h = h
up_to_less last ix (x ∷ xs) h = less_by last (is_at (nat_cmp ix) x.0) x xs (without_fact xs ix) h (up_to_less last ix xs h.1)
