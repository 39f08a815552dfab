-- Lists of members, and the place of each member.
use Rattle.std.proofs.Common.{◌≡◌, ◌≢◌, ◌∙◌, ◌++◌, ◌+◌, ◌<◌, ◌⊎◌, ◌==◌, ℕ, zero, suc, Result, Ok, Err, OnErr, Bool, true, false, not, List, [], ◌∷◌, Option, Some, None, ap, ap₂, arith, get_or, inl, inr, length, nat_eq, refl, set, slice_get, subst, sym, take}
use Rattle.std.proofs.Math.ListN.{get_or-map}
use Rattle.std.proofs.lemmas.Bool.{cases_eq}
use Rattle.std.proofs.lemmas.List.{get_or-set_other, get_or-set_same, get_or_past, take_more}
use Rattle.std.proofs.lemmas.List.Elements.{Contains-append_left, Contains-push, Contains-push_cases}
use Rattle.std.proofs.lemmas.Map.Keys.{IsDistinct-from_apart}
use Rattle.std.proofs.lemmas.Option.{get_or_from_slice_get, slice_get-get_or, slice_get_within}
use Rattle.std.specs.Bool.{Decides}
use Rattle.std.specs.List.{Contains, IsDistinct}
use Rattle.cb_groups.specs.Groups.{AreMembers, AreSameGroups, HasMember, Membership, Releases, Updates, group_of}
use Rattle.cb_groups.specs.Internal.{ArePlaces, AreWithout, IsOut, IsPushed, group_in, member_at, members_at, membership, standing}
use Rattle.cb_groups.specs.declared.standing.Place.{Place}

-- the group of a member is that of its place
pub seen : (ps : List (Option Place)) (m : ℕ) → group_of (membership ps) m ≡ group_in (standing ps m)
seen ps m = get_or-map group_in ps m None

pub same_groups : (ps ps' : List (Option Place)) → ((m : ℕ) → standing ps' m ≡ standing ps m) → AreSameGroups (membership ps) (membership ps')
same_groups ps ps' same m = seen ps' m ∙ (ap group_in (same m) ∙ sym (seen ps m))

-- a member of a list, and its position
position_of : (xs : List ℕ) (m : ℕ) → Contains xs m → (k : ℕ) × (slice_get xs k ≡ Some m)
position_of xs m h = (h.0, slice_get-get_or xs h.0 m h.1 ∙ ap Some h.2)

contains : (xs : List ℕ) (k m : ℕ) → slice_get xs k ≡ Some m → Contains xs m
contains xs k m e = (k, slice_get_within xs k m e, get_or_from_slice_get xs k m m e)

unequal : (x y : ℕ) → x ≢ y → nat_eq x y ≡ false
unequal x y d = grind arith

distinct : (xs : List ℕ) → ((j k m : ℕ) → slice_get xs j ≡ Some m → slice_get xs k ≡ Some m → j ≡ k) → IsDistinct nat_eq xs
distinct xs one = IsDistinct-from_apart nat_eq xs (λ i j d l w. unequal (get_or xs i d) (get_or xs j d) (λ e.
    let same : i ≡ j = one i j (get_or xs j d) (slice_get-get_or xs i d (omega (arith, l, w)) ∙ ap Some e) (slice_get-get_or xs j d w) in
    absurd (omega (arith, l, same))))

abbrev pub make_place : ℕ → ℕ → Place
make_place g k = record { group = g; position = k }

by_option : {A P : Type 0} (o : Option A) → (o ≡ None → P) → ((a : A) → o ≡ Some a → P) → P
by_option None none some = none refl
by_option (Some a) none some = some a refl

same_value : (o : Option ℕ) (m n : ℕ) → o ≡ Some m → o ≡ Some n → m ≡ n
same_value o m n e f = let both : Some m ≡ Some n = sym e ∙ f in cc

same_place : (o : Option Place) (p q : Place) → o ≡ Some p → o ≡ Some q → p ≡ q
same_place o p q e f = let both : Some p ≡ Some q = sym e ∙ f in cc

some_none : {A P : Type 0} {a : A} (o : Option A) → o ≡ Some a → o ≡ None → P
some_none {A} {P} {a} o e f = absurd (let no : Some a ≡ None = sym e ∙ f in cc)

in_group : (o : Option Place) (g : ℕ) → group_in o ≡ Some g → (p : Place) × (o ≡ Some p) × (p.group ≡ g)
in_group None g e = absurd (cc)
in_group (Some p) g e = (p, refl, cc)

-- what the lists say of the groups
module _ (ls : List (List ℕ)) (ps : List (Option Place)) (is : ArePlaces ls ps) where
  pub members_are : (g : ℕ) → AreMembers (membership ps) g (members_at ls g)
  members_are g = record {
    are = λ m. (
      λ h. let k = position_of (members_at ls g) m h in seen ps m ∙ ap group_in (is.listed g k.0 m k.1),
      λ e.
          let p = in_group (standing ps m) g (sym (seen ps m) ∙ e) in
          contains (members_at ls g) p.0.position m (subst (λ h. member_at ls h p.0.position ≡ Some m) p.2 (is.placed m p.0 p.1)),
    );
    once = distinct (members_at ls g) (λ j k m a b.
        let same : make_place g j ≡ make_place g k = same_place (standing ps m) (make_place g j) (make_place g k) (is.listed g j m a) (is.listed g k m b) in
        ap (λ (p : Place). p.position) same);
  }

  pub any_there : (g : ℕ) (ms : List ℕ) → ms ≡ members_at ls g → (b : Bool) → b ≡ (length ms == 0) → Decides (not b) (HasMember (membership ps) g)
  any_there g [] e b h = (
    λ t. absurd (let no : not true ≡ true = ap not (sym h) ∙ t in cc),
    λ m. let k = position_of (members_at ls g) m.0 (((members_are g).are m.0).1 m.1) in
        some_none (slice_get (members_at ls g) k.0) k.1 (ap (λ it. slice_get it k.0) (sym e)),
  )
  any_there g (m ∷ ms) e b h = (
    λ t. (m, ((members_are g).are m).0 (subst (λ it. Contains it m) e (contains (m ∷ ms) 0 m refl))),
    λ any. let some : (length (m ∷ ms) == 0) ≡ false = grind arith in ap not (h ∙ some),
  )

  -- the members of a group have places
  pub have_places : (g m : ℕ) → Contains (members_at ls g) m → m < length ps
  have_places g m h = let k = position_of (members_at ls g) m h in there_within ps m (make_place g k.0) (is.listed g k.0 m k.1)
    where
      there_within : (ps : List (Option Place)) (m : ℕ) (p : Place) → standing ps m ≡ Some p → m < length ps
      there_within ps m p e = grind (arith, get_or_past)

pub place_within : (ps : List (Option Place)) (m : ℕ) (p : Place) → standing ps m ≡ Some p → m < length ps
place_within ps m p e = grind (arith, get_or_past)

pub no_place : (ps : List (Option Place)) (m : ℕ) → group_of (membership ps) m ≡ None → standing ps m ≡ None
no_place ps m e = by_option (standing ps m) (λ none. none) (λ p some. some_none (group_of (membership ps) m) (seen ps m ∙ ap group_in some) e)

-- the same places
pub same_places : (ls ls' : List (List ℕ)) (ps ps' : List (Option Place)) → ((h : ℕ) → members_at ls' h ≡ members_at ls h) → ((m : ℕ) → standing ps' m ≡ standing ps m)
    → ArePlaces ls ps → ArePlaces ls' ps'
same_places ls ls' ps ps' lists places is = record {
  placed = λ m p e. ap (λ ms. slice_get ms p.position) (lists p.group) ∙ is.placed m p (sym (places m) ∙ e);
  listed = λ g k m e. places m ∙ is.listed g k m (ap (λ ms. slice_get ms k) (sym (lists g)) ∙ e);
}

-- one empty list more, and one empty place more
pub list_more : (ls : List (List ℕ)) (v : List ℕ) → v ≡ [] → (h : ℕ) → members_at (ls ++ v ∷ []) h ≡ members_at ls h
list_more [] v e zero = e
list_more [] v e (suc h) = refl
list_more (x ∷ xs) v e zero = refl
list_more (x ∷ xs) v e (suc h) = list_more xs v e h

pub place_more : (ps : List (Option Place)) (m : ℕ) → standing (ps ++ None ∷ []) m ≡ standing ps m
place_more [] zero = refl
place_more [] (suc m) = refl
place_more (p ∷ ps) zero = refl
place_more (p ∷ ps) (suc m) = place_more ps m

-- one member more stands behind those of its group
in_end : (xs : List ℕ) (m k n : ℕ) → slice_get (xs ++ m ∷ []) k ≡ Some n → (slice_get xs k ≡ Some n) ⊎ ((k ≡ length xs) × (n ≡ m))
in_end [] m zero n e = inr (refl, let same : m ≡ n = cc in sym same)
in_end [] m (suc k) n e = absurd (cc)
in_end (x ∷ xs) m zero n e = inl e
in_end (x ∷ xs) m (suc k) n e = elim (in_end xs m k n e) as (λ _. (slice_get xs k ≡ Some n) ⊎ ((suc k ≡ suc (length xs)) × (n ≡ m))) [ inl h ↦ inl h | inr h ↦ inr (ap suc h.0, h.1) ]

end_in : (xs : List ℕ) (m : ℕ) → slice_get (xs ++ m ∷ []) (length xs) ≡ Some m
end_in [] m = refl
end_in (x ∷ xs) m = end_in xs m

still_in : (xs : List ℕ) (m k n : ℕ) → slice_get xs k ≡ Some n → slice_get (xs ++ m ∷ []) k ≡ Some n
still_in [] m k n e = absurd (cc)
still_in (x ∷ xs) m zero n e = e
still_in (x ∷ xs) m (suc k) n e = still_in xs m k n e

module _ (ls ls' : List (List ℕ)) (ps : List (Option Place)) (is : ArePlaces ls ps) (group member position : ℕ) (free : standing ps member ≡ None) (wide : member < length ps)
    (pushed : IsPushed ls ls' group member position) where
  abbrev pub now : List (Option Place)
  now = set ps member (Some (make_place group position))

  at_member : standing now member ≡ Some (make_place group position)
  at_member = get_or-set_same ps member (Some (make_place group position)) None wide

  elsewhere : (m : ℕ) → m ≢ member → standing now m ≡ standing ps m
  elsewhere m d = get_or-set_other ps member m (Some (make_place group position)) None d

  not_member : (m : ℕ) (p : Place) → standing ps m ≡ Some p → m ≢ member
  not_member m p e d = some_none (standing ps m) e (ap (standing ps) d ∙ free)

  placed_then : (h k m : ℕ) → member_at ls h k ≡ Some m → member_at ls' h k ≡ Some m
  placed_then h k m e = elim (cases_eq h group) as (λ _. member_at ls' h k ≡ Some m) [
    | inl same ↦ ap (λ g. member_at ls' g k) same ∙ (ap (λ ms. slice_get ms k) pushed.changed ∙ still_in (members_at ls group) member k m (ap (λ g. member_at ls g k) (sym same) ∙ e))
    | inr other ↦ ap (λ ms. slice_get ms k) (pushed.others h other) ∙ e
  ]

  pub pushed_places : ArePlaces ls' now
  pushed_places = record {
    placed = λ m p e. elim (cases_eq m member) as (λ _. member_at ls' p.group p.position ≡ Some m) [
      | inl same ↦
          let it : make_place group position ≡ p = same_place (standing now member) (make_place group position) p at_member (ap (standing now) (sym same) ∙ e) in
          subst (λ (q : Place). member_at ls' q.group q.position ≡ Some m) it
          (ap (λ ms. slice_get ms position) pushed.changed
          ∙ (ap (λ k. slice_get (members_at ls group ++ member ∷ []) k) pushed.position_is ∙ (end_in (members_at ls group) member ∙ ap Some (sym same))))
      | inr other ↦ placed_then p.group p.position m (is.placed m p (sym (elsewhere m other) ∙ e))
    ];
    listed = λ g k m e. elim (cases_eq g group) as (λ _. standing now m ≡ Some (make_place g k)) [
      | inl same ↦ elim (in_end (members_at ls group) member k m (ap (λ ms. slice_get ms k) (sym pushed.changed) ∙ (ap (λ h. member_at ls' h k) (sym same) ∙ e))) as (λ _. standing now m ≡ Some (make_place g k)) [
        | inl h ↦ let was = is.listed g k m (ap (λ i. member_at ls i k) same ∙ h) in elsewhere m (not_member m (make_place g k) was) ∙ was
        | inr h ↦ ap (standing now) h.1 ∙ (at_member ∙ ap₂ (λ i j. Some (make_place i j)) (sym same) (pushed.position_is ∙ sym h.0))
      ]
      | inr other ↦ let was = is.listed g k m (ap (λ ms. slice_get ms k) (sym (pushed.others g other)) ∙ e) in elsewhere m (not_member m (make_place g k) was) ∙ was
    ];
  }

  pub pushed_updates : Updates (membership ps) (membership now) member (Some group)
  pushed_updates = record {
    changed = seen now member ∙ ap group_in at_member;
    others = λ m d. seen now m ∙ (ap group_in (elsewhere m d) ∙ sym (seen ps m));
  }

is_it : (o : Option ℕ) (m : ℕ) → (o ≡ Some m) ⊎ (o ≢ Some m)
is_it None m = inr (λ e. absurd (cc))
is_it (Some n) m = elim (cases_eq n m) as (λ _. (Some n ≡ Some m) ⊎ (Some n ≢ Some m)) [
  | inl e ↦ inl (ap Some e)
  | inr d ↦ inr (λ e. d (same_value (Some n) n m refl e))
]

-- one member is taken out, and the last one of its group stands in its place
module _ (ls ls' : List (List ℕ)) (ps : List (Option Place)) (is : ArePlaces ls ps) (member : ℕ) (at : Place) (was : standing ps member ≡ Some at)
    (out : IsOut (members_at ls at.group) (members_at ls' at.group) at.position) (others : (h : ℕ) → h ≢ at.group → members_at ls' h ≡ members_at ls h) where
  abbrev xs : List ℕ
  xs = members_at ls at.group

  abbrev ys : List ℕ
  ys = members_at ls' at.group

  pub was_last : (m : ℕ) → slice_get ys at.position ≡ Some m → (standing ps m ≡ Some (make_place at.group (length ys))) × (at.position < length ys)
  was_last m e =
      let l = slice_get_within ys at.position m e in
      let s = out.shorter in
      (is.listed at.group (length ys) m (sym (out.last (omega (arith, l, s))) ∙ e), l)

  not_it : (g k m : ℕ) → standing ps m ≡ Some (make_place g k) → (g ≢ at.group) ⊎ (k ≢ at.position) → m ≢ member
  not_it g k m e differs same =
      let it : make_place g k ≡ at = same_place (standing ps m) (make_place g k) at e (ap (standing ps) same ∙ was) in
      elim differs as (λ _. ⊥) [ inl d ↦ d (ap (λ (p : Place). p.group) it) | inr d ↦ d (ap (λ (p : Place). p.position) it) ]

  not_moved : (g k m : ℕ) → standing ps m ≡ Some (make_place g k) → (g ≢ at.group) ⊎ (k < length ys) → member_at ls' at.group at.position ≢ Some m
  not_moved g k m e differs h =
      let last = was_last m h in
      let it : make_place g k ≡ make_place at.group (length ys) = same_place (standing ps m) (make_place g k) (make_place at.group (length ys)) e last.0 in
      elim differs as (λ _. ⊥) [
        | inl d ↦ d (ap (λ (p : Place). p.group) it)
        | inr l ↦ let same : k ≡ length ys = ap (λ (p : Place). p.position) it in absurd (omega (arith, l, same))
      ]

  still_listed : (m k : ℕ) → slice_get xs k ≡ Some m → m ≢ member → slice_get ys at.position ≢ Some m → slice_get ys k ≡ Some m
  still_listed m k q other not_there =
      let mine : slice_get xs at.position ≡ Some member = is.placed member at was in
      let apart : k ≢ at.position = λ e. other (same_value (slice_get xs at.position) m member (ap (slice_get xs) (sym e) ∙ q) mine) in
      let l = slice_get_within xs k m q in
      let j = slice_get_within xs at.position member mine in
      let s = out.shorter in
      elim (cases_eq k (length ys)) as (λ _. slice_get ys k ≡ Some m) [
        | inl e ↦ absurd (not_there (out.last (omega (arith, j, s, e, apart)) ∙ (ap (slice_get xs) (sym e) ∙ q)))
        | inr d ↦ out.others k apart (omega (arith, l, s, d)) ∙ q
      ]

  -- where the places are those after
  module _ (ps' : List (Option Place))
      (gone : standing ps' member ≡ None) (moved : (m : ℕ) → member_at ls' at.group at.position ≡ Some m → m ≢ member → standing ps' m ≡ Some at)
      (stay : (m : ℕ) → member_at ls' at.group at.position ≢ Some m → m ≢ member → standing ps' m ≡ standing ps m) where
    pub out_places : ArePlaces ls' ps'
    out_places = record {
      placed = λ m p e.
          let other : m ≢ member = λ same. some_none (standing ps' m) e (ap (standing ps') same ∙ gone) in
          elim (is_it (member_at ls' at.group at.position) m) as (λ _. member_at ls' p.group p.position ≡ Some m) [
            | inl h ↦ subst (λ (q : Place). member_at ls' q.group q.position ≡ Some m) (same_place (standing ps' m) at p (moved m h other) e) h
            | inr n ↦
                let q = is.placed m p (sym (stay m n other) ∙ e) in
                elim (cases_eq p.group at.group) as (λ _. member_at ls' p.group p.position ≡ Some m) [
                  | inl same ↦ ap (λ g. member_at ls' g p.position) same ∙ still_listed m p.position (ap (λ g. member_at ls g p.position) (sym same) ∙ q) other n
                  | inr d ↦ ap (λ ms. slice_get ms p.position) (others p.group d) ∙ q
                ]
          ];
      listed = λ g k m e. elim (cases_eq g at.group) as (λ _. standing ps' m ≡ Some (make_place g k)) [
        | inr d ↦
            let w = is.listed g k m (ap (λ ms. slice_get ms k) (sym (others g d)) ∙ e) in
            stay m (not_moved g k m w (inl d)) (not_it g k m w (inl d)) ∙ w
        | inl same ↦ here g k m same (ap (λ h. member_at ls' h k) (sym same) ∙ e)
      ];
    }
      where
        here : (g k m : ℕ) → g ≡ at.group → slice_get ys k ≡ Some m → standing ps' m ≡ Some (make_place g k)
        here g k m same e = elim (cases_eq k at.position) as (λ _. standing ps' m ≡ Some (make_place g k)) [
          | inl it ↦
              let h : slice_get ys at.position ≡ Some m = ap (slice_get ys) (sym it) ∙ e in
              let last = was_last m h in
              let l = last.1 in
              moved m h (not_it at.group (length ys) m last.0 (inr (λ f. absurd (omega (arith, f, l))))) ∙ ap₂ (λ i j. Some (make_place i j)) (sym same) (sym it)
          | inr d ↦
              let l = slice_get_within ys k m e in
              let w = is.listed at.group k m (sym (out.others k d l) ∙ e) in
              stay m (not_moved at.group k m w (inr l)) (not_it at.group k m w (inr d)) ∙ (w ∙ ap (λ i. Some (make_place i k)) (sym same))
        ]

    pub out_updates : Updates (membership ps) (membership ps') member None
    out_updates = record {
      changed = seen ps' member ∙ ap group_in gone;
      others = λ m d. seen ps' m ∙ (elim (is_it (member_at ls' at.group at.position) m) as (λ _. group_in (standing ps' m) ≡ group_in (standing ps m)) [
        | inl h ↦ ap group_in (moved m h d) ∙ sym (ap group_in (was_last m h).0)
        | inr n ↦ ap group_in (stay m n d)
      ] ∙ sym (seen ps m));
    }

-- all members of a group are taken out
module _ (ls ls' : List (List ℕ)) (ps ps' : List (Option Place)) (is : ArePlaces ls ps) (group : ℕ) (without : AreWithout ps ps' (members_at ls group))
    (cleared : members_at ls' group ≡ []) (others : (h : ℕ) → h ≢ group → members_at ls' h ≡ members_at ls h) where
  inside : (m : ℕ) (p : Place) → standing ps m ≡ Some p → p.group ≡ group → Contains (members_at ls group) m
  inside m p e s = contains (members_at ls group) p.position m (subst (λ g. member_at ls g p.position ≡ Some m) s (is.placed m p e))

  outside : (m : ℕ) (p : Place) → standing ps m ≡ Some p → p.group ≢ group → Contains (members_at ls group) m → ⊥
  outside m p e d h =
      let k = position_of (members_at ls group) m h in
      d (ap (λ (q : Place). q.group) (same_place (standing ps m) p (make_place group k.0) e (is.listed group k.0 m k.1)))

  by_member : (m : ℕ) → Contains (members_at ls group) m ⊎ (Contains (members_at ls group) m → ⊥)
  by_member m = by_option (standing ps m)
      (λ none. inr (λ h. let k = position_of (members_at ls group) m h in some_none (standing ps m) (is.listed group k.0 m k.1) none))
      (λ p e. elim (cases_eq p.group group) as (λ _. Contains (members_at ls group) m ⊎ (Contains (members_at ls group) m → ⊥)) [
        | inl s ↦ inl (inside m p e s)
        | inr d ↦ inr (outside m p e d)
      ])

  pub taken_places : ArePlaces ls' ps'
  taken_places = record {
    placed = λ m p e. elim (by_member m) as (λ _. member_at ls' p.group p.position ≡ Some m) [
      | inl h ↦ some_none (standing ps' m) e (without.gone m h)
      | inr n ↦
          let was : standing ps m ≡ Some p = sym (without.others m n) ∙ e in
          ap (λ ms. slice_get ms p.position) (others p.group (λ s. n (inside m p was s))) ∙ is.placed m p was
    ];
    listed = λ g k m e. elim (cases_eq g group) as (λ _. standing ps' m ≡ Some (make_place g k)) [
      | inl s ↦ some_none (slice_get (members_at ls' group) k) (ap (λ h. member_at ls' h k) (sym s) ∙ e) (ap (λ ms. slice_get ms k) cleared)
      | inr d ↦
          let was = is.listed g k m (ap (λ ms. slice_get ms k) (sym (others g d)) ∙ e) in
          without.others m (outside m (make_place g k) was d) ∙ was
    ];
  }

  pub taken_releases : Releases (membership ps) (membership ps') group
  taken_releases = record {
    released = λ m e. seen ps' m ∙ ap group_in (without.gone m (((members_are ls ps is group).are m).1 e));
    others = λ m d. seen ps' m ∙ (ap group_in (without.others m (λ h. d (((members_are ls ps is group).are m).0 h))) ∙ sym (seen ps m));
  }

-- members lose their places one by one
pub one_without : (old now : List (Option Place)) (xs : List ℕ) (i : ℕ) → i < length xs → get_or xs i 0 < length now
    → AreWithout old now (take i xs) → AreWithout old (set now (get_or xs i 0) None) (take (i + 1) xs)
one_without old now xs i l w is = subst (AreWithout old (set now (get_or xs i 0) None)) (sym (take_more xs i 0 l)) (record {
  gone = λ m h. elim (cases_eq m (get_or xs i 0)) as (λ _. standing (set now (get_or xs i 0) None) m ≡ None) [
    | inl e ↦ ap (standing (set now (get_or xs i 0) None)) e ∙ get_or-set_same now (get_or xs i 0) None None w
    | inr d ↦ get_or-set_other now (get_or xs i 0) m None None d ∙ is.gone m (elim (Contains-push_cases (take i xs) (get_or xs i 0) m h) as (λ _. Contains (take i xs) m) [
      | inl k ↦ k
      | inr e ↦ absurd (d (sym e))
    ])
  ];
  others = λ m n.
      get_or-set_other now (get_or xs i 0) m None None (λ e. n (subst (Contains (take i xs ++ get_or xs i 0 ∷ [])) (sym e) (Contains-push (take i xs) (get_or xs i 0))))
      ∙ is.others m (λ h. n (Contains-append_left (take i xs) (get_or xs i 0 ∷ []) m h));
})

-- a member that has no place has no group
pub nothing_out : (ps : List (Option Place)) (groups : Membership) → membership ps ≡ groups → (m : ℕ) → standing ps m ≡ None → Updates groups groups m None
nothing_out ps groups is m none = record { changed = ap (λ it. group_of it m) (sym is) ∙ (seen ps m ∙ ap group_in none); others = λ other d. refl }

-- where growth failed, the groups are as before
pub failed : {A E : Type 0} (r : Result A E) (ps ps' : List (Option Place)) (groups : Membership) → membership ps ≡ groups → ((m : ℕ) → standing ps' m ≡ standing ps m)
    → OnErr r (AreSameGroups groups (membership ps'))
failed (Ok a) ps ps' groups is same = tt
failed (Err e) ps ps' groups is same = λ m. same_groups ps ps' same m ∙ ap (λ it. group_of it m) is
