-- The values of members, by those of the buckets in which they stand.
use Rattle.std.proofs.Common.{◌≡◌, ◌≢◌, ◌∙◌, ◌↔◌, ℕ, List, [], Option, Some, None, Result, Ok, Err, OnErr, ap, arith, inl, inr, nat_eq, refl, subst, sym}
use Rattle.std.proofs.lemmas.Bool.{cases_eq}
use Rattle.std.proofs.Math.ListN.{get_or-map}
use Rattle.std.proofs.lemmas.Map.Keys.{IsDistinct-from_apart}
use Rattle.std.specs.List.{Contains}
use Rattle.cb_alpha.proofs.NumberedBuckets.{one_bucket}
use Rattle.cb_alpha.specs.Buckets.{AreSameFilings, AreWithValues, Filing, Refiles, values_at}
use Rattle.cb_alpha.specs.Internal.Numbered.{AreBuckets, AreNumbered, HaveValues, KeepsValues, filing, values_in_bucket}
use Rattle.cb_alpha.specs.declared.numbering.Numbers.{Numbers}
use Rattle.cb_facts.specs.declared.value.Value.{Value}
use Rattle.cb_groups.specs.Groups.{AreMembers, AreSameGroups, HasMember, Membership, Updates, group_of}

by_option : {A P : Type 0} (o : Option A) → (o ≡ None → P) → ((a : A) → o ≡ Some a → P) → P
by_option None none some = none refl
by_option (Some a) none some = some a refl

some_none : {A P : Type 0} {a : A} (o : Option A) → o ≡ Some a → o ≡ None → P
some_none {A} {P} {a} o e f = absurd (let no : Some a ≡ None = sym e ∙ f in cc)

same_some : {A : Type 0} {a b : A} (o : Option A) → o ≡ Some a → o ≡ Some b → a ≡ b
same_some {A} {a} {b} o e f = let both : Some a ≡ Some b = sym e ∙ f in cc

-- the values of a member are those of its bucket
pub filed : (vs : Filing) (ms : Membership) (m : ℕ) → values_at (filing vs ms) m ≡ values_in_bucket vs (group_of ms m)
filed vs ms m = get_or-map (values_in_bucket vs) ms m None

pub filed_in : (vs : Filing) (ms : Membership) (m n : ℕ) → group_of ms m ≡ Some n → values_at (filing vs ms) m ≡ values_at vs n
filed_in vs ms m n e = filed vs ms m ∙ ap (values_in_bucket vs) e

pub filed_nowhere : (vs : Filing) (ms : Membership) (m : ℕ) → group_of ms m ≡ None → values_at (filing vs ms) m ≡ None
filed_nowhere vs ms m e = filed vs ms m ∙ ap (values_in_bucket vs) e

-- who has values stands in the bucket with these
pub bucket_of : (vs : Filing) (ms : Membership) (m : ℕ) (ws : List Value) → values_at (filing vs ms) m ≡ Some ws → (n : ℕ) × (group_of ms m ≡ Some n) × (values_at vs n ≡ Some ws)
bucket_of vs ms m ws e = by_option (group_of ms m)
    (λ none. some_none (values_at (filing vs ms) m) e (filed_nowhere vs ms m none))
    (λ n is. (n, is, sym (filed_in vs ms m n is) ∙ e))

-- where no bucket has values, nobody has
pub none_filed : (vs : Filing) (ms : Membership) → ((n : ℕ) → values_at vs n ≡ None) → (m : ℕ) → values_at (filing vs ms) m ≡ None
none_filed vs ms none m =
    by_option (values_at (filing vs ms) m) (λ e. e) (λ ws e. let b = bucket_of vs ms m ws e in some_none (values_at vs b.0) b.2 (none b.0))

-- buckets that are used keep their values
pub keeps : (vs vs' : Filing) (ms : Membership) → HaveValues vs ms → ((n : ℕ) → values_at vs n ≢ None → values_at vs' n ≡ values_at vs n) → KeepsValues vs vs' ms
keeps vs vs' ms have kept m n e = kept n (have m n e)

pub same_filing : (vs vs' : Filing) (ms : Membership) → KeepsValues vs vs' ms → AreSameFilings (filing vs ms) (filing vs' ms)
same_filing vs vs' ms kept m = by_option (group_of ms m)
    (λ none. filed_nowhere vs' ms m none ∙ sym (filed_nowhere vs ms m none))
    (λ n is. filed_in vs' ms m n is ∙ (kept m n is ∙ sym (filed_in vs ms m n is)))

pub same_groups : (vs : Filing) (ms ms' : Membership) → AreSameGroups ms ms' → AreSameFilings (filing vs ms) (filing vs ms')
same_groups vs ms ms' same m = filed vs ms' m ∙ (ap (values_in_bucket vs) (same m) ∙ sym (filed vs ms m))

-- no bucket
pub no_buckets : (m : Numbers) (vs : Filing) (ms : Membership) → vs ≡ [] → ((bs : Filing) → ((n : ℕ) → values_at bs n ≡ None) → AreNumbered m bs) → ((i : ℕ) → group_of ms i ≡ None) → AreBuckets m vs ms
no_buckets m vs ms empty numbered nowhere =
    let none : (n : ℕ) → values_at vs n ≡ None = λ n. ap (λ it. values_at it n) empty in
    record {
      numbered = numbered vs none;
      have = λ i k g h. some_none (group_of ms i) g (nowhere i);
      used = λ n some. absurd (some (none n));
    }

-- buckets that nobody stood in before, with a member more
module _ (m m' : Numbers) (vs vs' : Filing) (ms ms' : Membership) (was : AreBuckets m vs ms) (member n : ℕ) (free : values_at (filing vs ms) member ≡ None)
    (others : (k : ℕ) → k ≢ n → values_at vs' k ≡ values_at vs k) where
  pub stood_nowhere : group_of ms member ≡ None
  stood_nowhere = by_option (group_of ms member) (λ none. none) (λ k g. absurd (was.have member k g (sym (filed_in vs ms member k g) ∙ free)))

  pub buckets_more : AreNumbered m' vs' → (ws : List Value) → values_at vs' n ≡ Some ws → ((k : ℕ) → values_at vs k ≢ None → values_at vs' k ≡ values_at vs k)
      → Updates ms ms' member (Some n) → AreBuckets m' vs' ms'
  buckets_more is ws there kept u = record {
    numbered = is;
    have = λ i k g none. elim (cases_eq i member) as (λ _. ⊥) [
      | inl e ↦
          let same : k ≡ n = same_some (group_of ms' member) (ap (group_of ms') (sym e) ∙ g) u.changed in
          some_none (values_at vs' n) there (ap (values_at vs') (sym same) ∙ none)
      | inr d ↦ let had = was.have i k (sym (u.others i d) ∙ g) in had (sym (kept k had) ∙ none)
    ];
    used = λ k some. elim (cases_eq k n) as (λ _. HasMember ms' k) [
      | inl e ↦ (member, u.changed ∙ ap Some (sym e))
      | inr d ↦
          let i = was.used k (λ none. some (others k d ∙ none)) in
          (i.0, u.others i.0 (λ e. some_none (group_of ms i.0) i.1 (ap (group_of ms) e ∙ stood_nowhere)) ∙ i.1)
    ];
  }

-- a member more
module _ (vs : Filing) (ms ms' : Membership) (member n : ℕ) (ws : List Value) (there : values_at vs n ≡ Some ws) (u : Updates ms ms' member (Some n)) where
  pub filed_more : Refiles (filing vs ms) (filing vs ms') member (Some ws)
  filed_more = record {
    changed = filed_in vs ms' member n u.changed ∙ there;
    others = λ m d. filed vs ms' m ∙ (ap (values_in_bucket vs) (u.others m d) ∙ sym (filed vs ms m));
  }

-- and one less
module _ (vs : Filing) (ms ms' : Membership) (member : ℕ) (u : Updates ms ms' member None) where
  pub filed_less : Refiles (filing vs ms) (filing vs ms') member None
  filed_less = record {
    changed = filed_nowhere vs ms' member u.changed;
    others = λ m d. filed vs ms' m ∙ (ap (values_in_bucket vs) (u.others m d) ∙ sym (filed vs ms m));
  }

-- one step after another
pub refiled_then : (old now new : Filing) (member : ℕ) (ws : Option (List Value)) → Refiles old now member ws → AreSameFilings now new → Refiles old new member ws
refiled_then old now new member ws first same = record { changed = same member ∙ first.changed; others = λ m d. same m ∙ first.others m d }

pub then_refiled : (old now new : Filing) (member : ℕ) (ws : Option (List Value)) → AreSameFilings old now → Refiles now new member ws → Refiles old new member ws
then_refiled old now new member ws same second = record { changed = second.changed; others = λ m d. second.others m d ∙ same m }

pub same_then : (old now new : Filing) → AreSameFilings old now → AreSameFilings now new → AreSameFilings old new
same_then old now new first second m = second m ∙ first m

none_contained : (m : ℕ) → Contains [] m → ⊥
none_contained m h = let l = h.1 in absurd (omega (arith, l))

-- who stands in the bucket of some values, if there is one
module _ (m : Numbers) (vs : Filing) (is : AreNumbered m vs) (ms : Membership) (result : List ℕ) where
  pub with_these : (n : ℕ) (ws : List Value) → values_at vs n ≡ Some ws → AreMembers ms n result → AreWithValues (filing vs ms) ws result
  with_these n ws there members = record {
    are = λ i. (
      λ h. filed_in vs ms i n ((members.are i).0 h) ∙ there,
      λ e.
          let b = bucket_of vs ms i ws e in
          (members.are i).1 (b.1 ∙ ap Some (one_bucket m vs is ws b.0 n b.2 there)),
    );
    once = members.once;
  }

  pub with_values : (ws : List Value) (bucket : Option ℕ) → ((n : ℕ) → (bucket ≡ Some n) ↔ (values_at vs n ≡ Some ws))
      → ((n : ℕ) → bucket ≡ Some n → AreMembers ms n result) → (bucket ≡ None → result ≡ []) → AreWithValues (filing vs ms) ws result
  with_values ws None found some none = subst (AreWithValues (filing vs ms) ws) (sym (none refl)) (record {
    are = λ i. (λ h. absurd (none_contained i h), λ e. let b = bucket_of vs ms i ws e in some_none None ((found b.0).1 b.2) refl);
    once = IsDistinct-from_apart nat_eq [] (λ i j d l w. absurd (omega (arith, w)));
  })
  with_values ws (Some n) found some none = with_these n ws ((found n).0 refl) (some n refl)

-- where growth failed
pub failed : {A E P : Type 0} (r : Result A E) → P → OnErr r P
failed (Ok a) p = tt
failed (Err e) p = p
