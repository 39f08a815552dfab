-- Members in line, and what becomes of a line as its members come and go.
use Rattle.std.proofs.Common.{◌≡◌, ◌≢◌, ◌∙◌, ◌++◌, ◌+◌, ◌-◌, ◌<◌, ◌≤◌, ◌⊎◌, ℕ, zero, suc, true, false, List, [], ◌∷◌, Some, None, ap, append-nil, append_assoc, arith, drop, get_or, inl, inr, length, length-append, nat_eq, refl, subst, sym, take}
use Rattle.std.proofs.Math.ListN.{get_or-map}
use Rattle.std.proofs.lemmas.Bool.{cases_eq}
use Rattle.std.proofs.lemmas.List.{take_all, take_more}
use lib.Seq.{drop-append_seam}
use Rattle.std.proofs.lemmas.List.Elements.{Contains-append_left, Contains-push, Contains-push_cases}
use Rattle.std.proofs.lemmas.Map.Keys.{IsDistinct-from_apart}
use Rattle.std.proofs.lemmas.Map.Steps.{length-le_from_distinct_below}
use Rattle.std.specs.List.{Contains, IsDistinct, list_any}
use Rattle.cb_groups.specs.Groups.{AreMembers, Releases, Updates, group_of}
use Rattle.cb_groups.specs.Lines.{AreApart, AreForgotten, AreLines, IsIn, IsInLine, IsLine, IsLinkedBefore, IsLinkedBehind, first_at, link_at, linked_groups, nowhere, one_less}
use Rattle.cb_groups.specs.declared.links.Link.{Link}

suc_same : (m n : ℕ) → suc m ≡ suc n → m ≡ n
suc_same m n e = omega (arith, e)

suc_not_zero : {P : Type 0} (m n : ℕ) → n ≡ suc m → n ≡ 0 → P
suc_not_zero m n e z = absurd (omega (arith, e, z))

abbrev pub group : List Link → ℕ → ℕ
group ls m = (link_at ls m).group

abbrev pub before : List Link → ℕ → ℕ
before ls m = (link_at ls m).before

abbrev pub behind : List Link → ℕ → ℕ
behind ls m = (link_at ls m).behind

-- a line where the links of its members are as they were
pub kept : (ls ls' : List Link) (g b f : ℕ) (ms : List ℕ) → ((m : ℕ) → IsIn m ms → (group ls' m ≡ group ls m) × (before ls' m ≡ before ls m) × (behind ls' m ≡ behind ls m))
    → IsInLine ls g b f ms → IsInLine ls' g b f ms
kept ls ls' g b f [] same is = is
kept ls ls' g b f (m ∷ ms) same is =
    let at = same m (inl refl) in (
      is.0,
      at.0 ∙ is.1,
      at.1 ∙ is.2,
      subst (λ n. IsInLine ls' g (suc m) n ms) (sym at.2) (kept ls ls' g (suc m) (behind ls m) ms (λ k i. same k (inr i)) is.3),
    )

-- the same where the first of them is linked to another before it
pub begun : (ls ls' : List Link) (g b c f : ℕ) (ms : List ℕ) → AreApart ms
    → ((m : ℕ) → IsIn m ms → (group ls' m ≡ group ls m) × (behind ls' m ≡ behind ls m))
    → ((m : ℕ) → IsIn m ms → f ≡ suc m → before ls' m ≡ c)
    → ((m : ℕ) → IsIn m ms → f ≢ suc m → before ls' m ≡ before ls m)
    → IsInLine ls g b f ms → IsInLine ls' g c f ms
begun ls ls' g b c f [] apart same first others is = is
begun ls ls' g b c f (m ∷ ms) apart same first others is =
    let at = same m (inl refl) in (
      is.0,
      at.0 ∙ is.1,
      first m (inl refl) is.0,
      subst (λ n. IsInLine ls' g (suc m) n ms) (sym at.1) (kept ls ls' g (suc m) (behind ls m) ms
          (λ k i. let it = same k (inr i) in (it.0, others k (inr i) (λ e. apart.0 (subst (λ x. IsIn x ms) (suc_same k m (sym e ∙ is.0)) i)), it.1)) is.3),
    )

-- each member of a line has its group
pub grouped : (ls : List Link) (g b f : ℕ) (ms : List ℕ) (m : ℕ) → IsInLine ls g b f ms → IsIn m ms → group ls m ≡ suc g
grouped ls g b f [] m is i = absurd i
grouped ls g b f (x ∷ ms) m is (inl e) = ap (group ls) e ∙ is.1
grouped ls g b f (x ∷ ms) m is (inr i) = grouped ls g (suc x) (behind ls x) ms m is.3 i

first_in : (ls : List Link) (g b f : ℕ) (ms : List ℕ) (n : ℕ) → IsInLine ls g b f ms → f ≡ suc n → IsIn n ms
first_in ls g b f [] n is e = suc_not_zero n f e is
first_in ls g b f (m ∷ ms) n is e = inl (suc_same n m (sym e ∙ is.0))

-- what stands before the first of a line
pub first_before : (ls : List Link) (g b f : ℕ) (ms : List ℕ) (m : ℕ) → IsInLine ls g b f ms → f ≡ suc m → before ls m ≡ b
first_before ls g b f [] m is e = suc_not_zero m f e is
first_before ls g b f (x ∷ ms) m is e = ap (before ls) (suc_same m x (sym e ∙ is.0)) ∙ is.2

-- the one behind a member is in the line
pub behind_in : (ls : List Link) (g b f : ℕ) (ms : List ℕ) (m n : ℕ) → IsInLine ls g b f ms → IsIn m ms → behind ls m ≡ suc n → IsIn n ms
behind_in ls g b f [] m n is i e = absurd i
behind_in ls g b f (x ∷ ms) m n is (inl q) e = inr (first_in ls g (suc x) (behind ls x) ms n is.3 (ap (behind ls) (sym q) ∙ e))
behind_in ls g b f (x ∷ ms) m n is (inr i) e = inr (behind_in ls g (suc x) (behind ls x) ms m n is.3 i e)

-- a member is the first of its line, or the one before it is in the line
pub before_in : (ls : List Link) (g b f : ℕ) (ms : List ℕ) (m : ℕ) → IsInLine ls g b f ms → IsIn m ms
    → ((f ≡ suc m) × (before ls m ≡ b)) ⊎ ((n : ℕ) × IsIn n ms × (before ls m ≡ suc n))
before_in ls g b f [] m is i = absurd i
before_in ls g b f (x ∷ ms) m is (inl e) = inl (is.0 ∙ ap suc (sym e), ap (before ls) e ∙ is.2)
before_in ls g b f (x ∷ ms) m is (inr i) = elim (before_in ls g (suc x) (behind ls x) ms m is.3 i) as (λ _. ((f ≡ suc m) × (before ls m ≡ b)) ⊎ ((n : ℕ) × IsIn n (x ∷ ms) × (before ls m ≡ suc n))) [
  | inl h ↦ inr (x, inl refl, h.1)
  | inr h ↦ inr (h.0, inr h.1, h.2)
]

-- a member is out, and those beside it are linked to each other
pub record AreUnlinked (ls ls' : List Link) (m : ℕ) : Type 0 where
  pub groups : (k : ℕ) → k ≢ m → group ls' k ≡ group ls k
  pub next : (k : ℕ) → k ≢ m → before ls m ≡ suc k → group ls k ≢ 0 → behind ls' k ≡ behind ls m
  pub same_next : (k : ℕ) → k ≢ m → before ls m ≢ suc k → behind ls' k ≡ behind ls k
  pub last : (k : ℕ) → k ≢ m → behind ls m ≡ suc k → group ls k ≢ 0 → before ls' k ≡ before ls m
  pub same_last : (k : ℕ) → k ≢ m → behind ls m ≢ suc k → before ls' k ≡ before ls k

-- a line that a member left
pub record IsLeft (ls : List Link) (g b f m : ℕ) (ms ms' : List ℕ) : Type 0 where
  pub linked : IsInLine ls g b f ms'
  pub apart : AreApart ms'
  pub from : (k : ℕ) → IsIn k ms' → IsIn k ms
  pub but : (k : ℕ) → IsIn k ms → k ≢ m → IsIn k ms'

not_zero : (n g : ℕ) → n ≡ suc g → n ≢ 0
not_zero n g e z = suc_not_zero g n e z

module _ (ls ls' : List Link) (g m : ℕ) (out : AreUnlinked ls ls' m) where
  pub left : (b f f' : ℕ) (ms : List ℕ) → IsInLine ls g b f ms → AreApart ms → IsIn m ms → ((n : ℕ) → b ≡ suc n → IsIn n ms → ⊥)
      → (f ≡ suc m → f' ≡ behind ls m) → (f ≢ suc m → f' ≡ f) → (ms' : List ℕ) × IsLeft ls' g b f' m ms ms'
  left b f f' [] is apart i outside at other = absurd i
  left b f f' (x ∷ ms) is apart i outside at other = elim (cases_eq m x) as (λ _. (ms' : List ℕ) × IsLeft ls' g b f' m (x ∷ ms) ms') [
    | inl e ↦ (
      ms,
      record {
        linked =
            let was : before ls m ≡ b = ap (before ls) e ∙ is.2 in
            let off : (k : ℕ) → IsIn k ms → k ≢ m = λ k j q. apart.0 (subst (λ y. IsIn y ms) (q ∙ e) j) in
            subst (λ n. IsInLine ls' g b n ms) (sym (at (is.0 ∙ ap suc (sym e))))
            (begun ls ls' g (suc x) b (behind ls m) ms apart.1
            (λ k j. (out.groups k (off k j), out.same_next k (off k j) (λ q. outside k (sym was ∙ q) (inr j))))
            (λ k j q. out.last k (off k j) q (not_zero (group ls k) g (grouped ls g (suc x) (behind ls x) ms k is.3 j)) ∙ was)
            (λ k j q. out.same_last k (off k j) q)
            (subst (λ n. IsInLine ls g (suc x) n ms) (ap (behind ls) (sym e)) is.3));
        apart = apart.1;
        from = λ k j. inr j;
        but = λ k j d. elim j as (λ _. IsIn k ms) [ inl q ↦ absurd (d (q ∙ sym e)) | inr h ↦ h ];
      },
    )
    | inr d ↦
        let j : IsIn m ms = elim i as (λ _. IsIn m ms) [ inl q ↦ absurd (d q) | inr h ↦ h ] in
        let off : x ≢ m = λ q. d (sym q) in
        let rest = left (suc x) (behind ls x) (behind ls' x) ms is.3 apart.1 j
        (λ n q h. apart.0 (subst (λ y. IsIn y ms) (suc_same n x (sym q)) h))
        (λ q. out.next x off (first_before ls g (suc x) (behind ls x) ms m is.3 q) (not_zero (group ls x) g is.1))
        (λ q. out.same_next x off (λ z. elim (before_in ls g (suc x) (behind ls x) ms m is.3 j) as (λ _. ⊥) [
          | inl h ↦ q h.0
          | inr h ↦ apart.0 (subst (λ y. IsIn y ms) (suc_same h.0 x (sym h.2 ∙ z)) h.1)
        ])) in (
          x ∷ rest.0,
          record {
            linked = (
              other (λ q. d (suc_same m x (sym q ∙ is.0))) ∙ is.0,
              out.groups x off ∙ is.1,
              out.same_last x off (λ q. apart.0 (behind_in ls g (suc x) (behind ls x) ms m x is.3 j q)) ∙ is.2,
              rest.1.linked,
            );
            apart = (λ h. apart.0 (rest.1.from x h), rest.1.apart);
            from = λ k h. elim h as (λ _. IsIn k (x ∷ ms)) [ inl q ↦ inl q | inr z ↦ inr (rest.1.from k z) ];
            but = λ k h n. elim h as (λ _. IsIn k (x ∷ rest.0)) [ inl q ↦ inl q | inr z ↦ inr (rest.1.but k z n) ];
          },
        )
  ]

-- part of a line has been walked: these members stand behind what was in a list, and the rest is in line
pub record IsWalked (ls : List Link) (g : ℕ) (old now : List ℕ) (next : ℕ) (ms : List ℕ) (steps : ℕ) : Type 0 where
  pub done : List ℕ
  pub rest : List ℕ
  pub whole : ms ≡ done ++ rest
  pub listed : now ≡ old ++ done
  pub steps_are : length done ≡ steps
  pub last : ℕ
  pub linked : IsInLine ls g last next rest

-- what stands behind a list is the rest of the whole
pub last_part : (now old ms : List ℕ) (start : ℕ) → now ≡ old ++ ms → start ≡ length old → take (length now - start) (drop start now) ≡ ms
last_part now old ms start e s =
    let rest : drop start now ≡ ms = ap (λ n. drop n now) s ∙ (ap (drop (length old)) e ∙ drop-append_seam old ms) in
    let long : length now ≡ length old + length ms = ap length e ∙ length-append old ms in
    ap (take (length now - start)) rest ∙ take_all (length now - start) ms (omega (arith, long, s))

-- at the start nothing has been walked
pub none_walked : (ls : List Link) (g b f : ℕ) (old ms : List ℕ) → IsInLine ls g b f ms → IsWalked ls g old old f ms 0
none_walked ls g b f old ms is = record { done = []; rest = ms; whole = refl; listed = sym (append-nil old); steps_are = refl; last = b; linked = is }

-- one step further
pub one_walked : (ls : List Link) (g : ℕ) (old now : List ℕ) (next m : ℕ) (ms : List ℕ) (steps : ℕ) → next ≡ suc m → IsWalked ls g old now next ms steps
    → IsWalked ls g old (now ++ m ∷ []) (behind ls m) ms (steps + 1)
one_walked ls g old now next m ms steps e is = go is.rest is.linked is.whole
  where
    go : (rest : List ℕ) → IsInLine ls g is.last next rest → ms ≡ is.done ++ rest → IsWalked ls g old (now ++ m ∷ []) (behind ls m) ms (steps + 1)
    go [] linked whole = suc_not_zero m next e linked
    go (x ∷ rest) linked whole =
        let same : x ≡ m = suc_same x m (sym linked.0 ∙ e) in
        record {
          done = is.done ++ m ∷ [];
          rest = rest;
          whole = whole ∙ (ap (λ y. is.done ++ y ∷ rest) same ∙ sym (append_assoc is.done (m ∷ []) rest));
          listed = ap (λ ys. ys ++ m ∷ []) is.listed ∙ append_assoc old is.done (m ∷ []);
          steps_are = length-append is.done (m ∷ []) ∙ ap (λ n. n + 1) is.steps_are;
          last = suc m;
          linked = subst (λ y. IsInLine ls g (suc y) (behind ls y) rest) same linked.3;
        }

-- the end: nothing is left where there is no next, or where so many steps were taken as there are members at most
pub all_walked : (ls : List Link) (g : ℕ) (old now : List ℕ) (next : ℕ) (ms : List ℕ) (steps : ℕ) → IsWalked ls g old now next ms steps → (next ≡ 0) ⊎ (length ms ≤ steps) → now ≡ old ++ ms
all_walked ls g old now next ms steps is ends = go is.rest is.linked is.whole
  where
    go : (rest : List ℕ) → IsInLine ls g is.last next rest → ms ≡ is.done ++ rest → now ≡ old ++ ms
    go [] linked whole = is.listed ∙ ap (λ ys. old ++ ys) (sym (whole ∙ append-nil is.done))
    go (x ∷ rest) linked whole = elim ends as (λ _. now ≡ old ++ ms) [
      | inl z ↦ suc_not_zero x next linked.0 z
      | inr l ↦
          let n : length ms ≡ length is.done + suc (length rest) = ap length whole ∙ length-append is.done (x ∷ rest) in
          let s = is.steps_are in
          absurd (omega (arith, n, s, l))
    ]

-- the group of a member is that of its link
pub seen : (ls : List Link) (m : ℕ) → group_of (linked_groups ls) m ≡ one_less (group ls m)
seen ls m = get_or-map (λ (l : Link). one_less l.group) ls m nowhere

pub in_group : (ls : List Link) (m g : ℕ) → group_of (linked_groups ls) m ≡ Some g → group ls m ≡ suc g
in_group ls m g e = go (group ls m) (sym (seen ls m) ∙ e)
  where
    go : (n : ℕ) → one_less n ≡ Some g → n ≡ suc g
    go zero e = absurd (cc)
    go (suc n) e = let same : n ≡ g = cc in ap suc same

pub of_group : (ls : List Link) (m g : ℕ) → group ls m ≡ suc g → group_of (linked_groups ls) m ≡ Some g
of_group ls m g e = seen ls m ∙ ap one_less e

pub no_group : (ls : List Link) (m : ℕ) → group_of (linked_groups ls) m ≡ None → group ls m ≡ 0
no_group ls m e = go (group ls m) (sym (seen ls m) ∙ e)
  where
    go : (n : ℕ) → one_less n ≡ None → n ≡ 0
    go zero e = refl
    go (suc n) e = absurd (cc)

pub same_group : (ls ls' : List Link) (m : ℕ) → group ls' m ≡ group ls m → group_of (linked_groups ls') m ≡ group_of (linked_groups ls) m
same_group ls ls' m e = seen ls' m ∙ (ap one_less e ∙ sym (seen ls m))

-- a member that has a group has a link
pub link_within : (ls : List Link) (m g : ℕ) → group ls m ≡ suc g → m < length ls
link_within [] m g e = suc_not_zero g 0 e refl
link_within (l ∷ ls) zero g e = omega arith
link_within (l ∷ ls) (suc m) g e = let h = link_within ls m g e in omega (arith, h)

-- numbers in a list
pub to_in : (m : ℕ) (xs : List ℕ) → Contains xs m → IsIn m xs
to_in m [] h = absurd (omega (arith, h.1))
to_in m (x ∷ xs) h = at h.0 h.1 h.2 (to_in m xs)
  where
    at : (k : ℕ) → k < suc (length xs) → get_or (x ∷ xs) k m ≡ m → (Contains xs m → IsIn m xs) → IsIn m (x ∷ xs)
    at zero l e in_rest = inl (sym e)
    at (suc k) l e in_rest = inr (in_rest (k, omega (arith, l), e))

pub from_in : (m : ℕ) (xs : List ℕ) → IsIn m xs → Contains xs m
from_in m [] i = absurd i
from_in m (x ∷ xs) (inl e) = (0, omega arith, sym e)
from_in m (x ∷ xs) (inr i) = let h = from_in m xs i in (suc h.0, omega (arith, h.1), h.2)

in_at : (xs : List ℕ) (k d : ℕ) → k < length xs → IsIn (get_or xs k d) xs
in_at [] k d l = absurd (omega (arith, l))
in_at (x ∷ xs) zero d l = inl refl
in_at (x ∷ xs) (suc k) d l = inr (in_at xs k d (omega (arith, l)))

apart_at : (xs : List ℕ) → AreApart xs → (i j d : ℕ) → i < j → j < length xs → get_or xs i d ≢ get_or xs j d
apart_at [] apart i j d l w e = omega (arith, w)
apart_at (x ∷ xs) apart i zero d l w e = omega (arith, l)
apart_at (x ∷ xs) apart zero (suc j) d l w e = apart.0 (subst (λ y. IsIn y xs) (sym e) (in_at xs j d (omega (arith, w))))
apart_at (x ∷ xs) apart (suc i) (suc j) d l w e = apart_at xs apart.1 i j d (omega (arith, l)) (omega (arith, w)) e

unequal : (x y : ℕ) → x ≢ y → nat_eq x y ≡ false
unequal x y d = grind arith

pub distinct : (xs : List ℕ) → AreApart xs → IsDistinct nat_eq xs
distinct xs apart = IsDistinct-from_apart nat_eq xs (λ i j d l w. unequal (get_or xs i d) (get_or xs j d) (apart_at xs apart i j d l w))

any_in : (q : ℕ) (xs : List ℕ) → list_any (nat_eq q) xs ≡ true → IsIn q xs
any_in q [] t = absurd (cc)
any_in q (x ∷ xs) t = elim (cases_eq q x) as (λ _. IsIn q (x ∷ xs)) [
  | inl e ↦ inl e
  | inr d ↦ inr (any_in q xs (let no = unequal q x d in rw no at t))
]

-- what the lines say of the groups
module _ (fs : List ℕ) (ls : List Link) (g : ℕ) (ms : List ℕ) (line : IsLine fs ls g ms) where
  pub members_are : AreMembers (linked_groups ls) g ms
  members_are = record {
    are = λ m. (
      λ h. of_group ls m g (grouped ls g 0 (first_at fs g) ms m line.linked (to_in m ms h)),
      λ e. from_in m ms (line.all m (in_group ls m g e)),
    );
    once = distinct ms line.once;
  }

  pub few_members : length ms ≤ length ls
  few_members = length-le_from_distinct_below ms (length ls) (distinct ms line.once) (λ q t. link_within ls q g (grouped ls g 0 (first_at fs g) ms q line.linked (any_in q ms t)))

-- a group that has no first member has none
pub no_members : (fs : List ℕ) (ls : List Link) (g : ℕ) (ms : List ℕ) → IsLine fs ls g ms → first_at fs g ≡ 0 → AreMembers (linked_groups ls) g []
no_members fs ls g [] line e = members_are fs ls g [] line
no_members fs ls g (m ∷ ms) line e = suc_not_zero m (first_at fs g) line.linked.0 e

-- the same links
pub same_lines : (fs fs' : List ℕ) (ls ls' : List Link) → ((g : ℕ) → first_at fs' g ≡ first_at fs g) → ((m : ℕ) → link_at ls' m ≡ link_at ls m) → AreLines fs ls → AreLines fs' ls'
same_lines fs fs' ls ls' firsts links is g =
    let line = is g in (
      line.0,
      record {
        linked = subst (λ f. IsInLine ls' g 0 f line.0) (sym (firsts g)) (kept ls ls' g 0 (first_at fs g) line.0 (λ m i.
            let e = links m in (ap (λ (l : Link). l.group) e, ap (λ (l : Link). l.before) e, ap (λ (l : Link). l.behind) e)) line.1.linked);
        once = line.1.once;
        all = λ m e. line.1.all m (ap (λ (l : Link). l.group) (sym (links m)) ∙ e);
      },
    )

-- a member is in the line of one group alone
other_group : (ls : List Link) (m g h : ℕ) → group ls m ≡ suc g → group ls m ≡ suc h → h ≢ g → ⊥
other_group ls m g h e f d = d (suc_same h g (sym f ∙ e))

-- a member more, in front of the line of a group
module _ (fs fs' : List ℕ) (ls ls' now : List Link) (g m : ℕ) (are : AreLines fs ls) (free : group ls m ≡ 0) (begins : first_at fs' g ≡ suc m) (other_firsts : (h : ℕ) → h ≢ g → first_at fs' h ≡ first_at fs h)
    (linked : IsLinkedBefore ls now (first_at fs g) (suc m)) (there : link_at ls' m ≡ record { group = suc g; before = 0; behind = first_at fs g }) (others : (k : ℕ) → k ≢ m → link_at ls' k ≡ link_at now k) where
  not_it : (h k : ℕ) → group ls k ≡ suc h → k ≢ m
  not_it h k e same = suc_not_zero h (group ls m) (ap (group ls) (sym same) ∙ e) free

  groups_as_were : (k : ℕ) → k ≢ m → group ls' k ≡ group ls k
  groups_as_were k d = ap (λ (l : Link). l.group) (others k d) ∙ linked.groups k

  behind_as_were : (k : ℕ) → k ≢ m → behind ls' k ≡ behind ls k
  behind_as_were k d = ap (λ (l : Link). l.behind) (others k d) ∙ linked.behind_them k

  pub added_lines : AreLines fs' ls'
  added_lines h = elim (cases_eq h g) as (λ _. (ms : List ℕ) × IsLine fs' ls' h ms) [
    | inl same ↦ subst (λ i. (ms : List ℕ) × IsLine fs' ls' i ms) (sym same) (
        let line = are g in
        let grp : (k : ℕ) → IsIn k line.0 → group ls k ≡ suc g = λ k i. grouped ls g 0 (first_at fs g) line.0 k line.1.linked i in (
          m ∷ line.0,
          record {
            linked = (
              begins,
              ap (λ (l : Link). l.group) there,
              ap (λ (l : Link). l.before) there,
              subst (λ n. IsInLine ls' g (suc m) n line.0) (sym (ap (λ (l : Link). l.behind) there))
                  (begun ls ls' g 0 (suc m) (first_at fs g) line.0 line.1.once
                  (λ k i. let d = not_it g k (grp k i) in (groups_as_were k d, behind_as_were k d))
                  (λ k i e. ap (λ (l : Link). l.before) (others k (not_it g k (grp k i))) ∙ linked.linked k e (not_zero (group ls k) g (grp k i)))
                  (λ k i n. ap (λ (l : Link). l.before) (others k (not_it g k (grp k i))) ∙ linked.others k n)
                  line.1.linked),
            );
            once = (λ i. not_it g m (grp m i) refl, line.1.once);
            all = λ k e. elim (cases_eq k m) as (λ _. IsIn k (m ∷ line.0)) [
              | inl q ↦ inl q
              | inr d ↦ inr (line.1.all k (sym (groups_as_were k d) ∙ e))
            ];
          },
        )
        )
    | inr d ↦
        let line = are h in
        let grp : (k : ℕ) → IsIn k line.0 → group ls k ≡ suc h = λ k i. grouped ls h 0 (first_at fs h) line.0 k line.1.linked i in (
          line.0,
          record {
            linked = subst (λ f. IsInLine ls' h 0 f line.0) (sym (other_firsts h d)) (kept ls ls' h 0 (first_at fs h) line.0 (λ k i.
                let n = not_it h k (grp k i) in (
                  groups_as_were k n,
                  ap (λ (l : Link). l.before) (others k n) ∙ linked.others k (λ e. other_group ls k h g (grp k i) (first_grouped k e) (λ q. d (sym q))),
                  behind_as_were k n,
                )) line.1.linked);
            once = line.1.once;
            all = λ k e. elim (cases_eq k m) as (λ _. IsIn k line.0) [
              | inl q ↦ absurd (d (suc_same h g (sym e ∙ (ap (group ls') q ∙ ap (λ (l : Link). l.group) there))))
              | inr n ↦ line.1.all k (sym (groups_as_were k n) ∙ e)
            ];
          },
        )
  ]
    where
      first_grouped : (k : ℕ) → first_at fs g ≡ suc k → group ls k ≡ suc g
      first_grouped k e = let line = are g in grouped ls g 0 (first_at fs g) line.0 k line.1.linked (first_in ls g 0 (first_at fs g) line.0 k line.1.linked e)

  pub added_updates : Updates (linked_groups ls) (linked_groups ls') m (Some g)
  added_updates = record {
    changed = of_group ls' m g (ap (λ (l : Link). l.group) there);
    others = λ k d. same_group ls ls' k (groups_as_were k d);
  }

-- a member is taken out of the line of its group
module _ (fs fs' : List ℕ) (ls ls' : List Link) (g m : ℕ) (are : AreLines fs ls) (its : group ls m ≡ suc g) (out : AreUnlinked ls ls' m) (gone : group ls' m ≡ 0)
    (begins : before ls m ≡ 0 → first_at fs g ≢ 0 → first_at fs' g ≡ behind ls m) (still : before ls m ≢ 0 → first_at fs' g ≡ first_at fs g) (other_firsts : (h : ℕ) → h ≢ g → first_at fs' h ≡ first_at fs h) where
  not_gone : (h k : ℕ) → group ls' k ≡ suc h → k ≢ m
  not_gone h k e same = suc_not_zero h (group ls' m) (ap (group ls') (sym same) ∙ e) gone

  pub out_lines : AreLines fs' ls'
  out_lines h = elim (cases_eq h g) as (λ _. (ms : List ℕ) × IsLine fs' ls' h ms) [
    | inl same ↦ subst (λ i. (ms : List ℕ) × IsLine fs' ls' i ms) (sym same) (
        let line = are g in
        let f = first_at fs g in
        let i = line.1.all m its in
        let rest = left ls ls' g m out 0 f (first_at fs' g) line.0 line.1.linked line.1.once i (λ n e h. suc_not_zero n 0 e refl)
        (λ e. begins (first_before ls g 0 f line.0 m line.1.linked e) (λ z. suc_not_zero m f e z))
        (λ d. still (λ z. elim (before_in ls g 0 f line.0 m line.1.linked i) as (λ _. ⊥) [ inl q ↦ d q.0 | inr q ↦ suc_not_zero q.0 (before ls m) q.2 z ])) in (
          rest.0,
          record {
            linked = rest.1.linked;
            once = rest.1.apart;
            all = λ k e. let n = not_gone g k e in rest.1.but k (line.1.all k (sym (out.groups k n) ∙ e)) n;
          },
        )
        )
    | inr d ↦
        let line = are h in
        let own = are g in
        let grp : (k : ℕ) → IsIn k line.0 → group ls k ≡ suc h = λ k i. grouped ls h 0 (first_at fs h) line.0 k line.1.linked i in
        let not_own : (k : ℕ) → IsIn k line.0 → IsIn k own.0 → ⊥ = λ k i j. other_group ls k g h (grouped ls g 0 (first_at fs g) own.0 k own.1.linked j) (grp k i) d in (
          line.0,
          record {
            linked = subst (λ f. IsInLine ls' h 0 f line.0) (sym (other_firsts h d)) (kept ls ls' h 0 (first_at fs h) line.0 (λ k i.
                let n : k ≢ m = λ e. other_group ls k g h (ap (group ls) e ∙ its) (grp k i) d in (
                  out.groups k n,
                  out.same_last k n (λ e. not_own k i (behind_in ls g 0 (first_at fs g) own.0 m k own.1.linked (own.1.all m its) e)),
                  out.same_next k n (λ e. elim (before_in ls g 0 (first_at fs g) own.0 m own.1.linked (own.1.all m its)) as (λ _. ⊥) [
                    | inl q ↦ suc_not_zero k (before ls m) e q.1
                    | inr q ↦ not_own k i (subst (λ x. IsIn x own.0) (suc_same q.0 k (sym q.2 ∙ e)) q.1)
                  ]),
                )) line.1.linked);
            once = line.1.once;
            all = λ k e. line.1.all k (sym (out.groups k (not_gone h k e)) ∙ e);
          },
        )
  ]

  pub out_updates : Updates (linked_groups ls) (linked_groups ls') m None
  out_updates = record {
    changed = seen ls' m ∙ ap one_less gone;
    others = λ k d. same_group ls ls' k (out.groups k d);
  }

-- what the three steps that unlink a member come to
pub unlinked : (ls one two ls' : List Link) (m : ℕ) → IsLinkedBehind ls one (before ls m) (behind ls m) → IsLinkedBefore one two (behind ls m) (before ls m) → ((k : ℕ) → k ≢ m → link_at ls' k ≡ link_at two k) → AreUnlinked ls ls' m
unlinked ls one two ls' m a b same = record {
  groups = λ k d. ap (λ (l : Link). l.group) (same k d) ∙ (b.groups k ∙ a.groups k);
  next = λ k d e some. ap (λ (l : Link). l.behind) (same k d) ∙ (b.behind_them k ∙ a.linked k e some);
  same_next = λ k d e. ap (λ (l : Link). l.behind) (same k d) ∙ (b.behind_them k ∙ a.others k e);
  last = λ k d e some. ap (λ (l : Link). l.before) (same k d) ∙ b.linked k e (λ z. some (sym (a.groups k) ∙ z));
  same_last = λ k d e. ap (λ (l : Link). l.before) (same k d) ∙ (b.others k e ∙ a.before_them k);
}

-- all members of a group are taken out
module _ (fs fs' : List ℕ) (ls ls' : List Link) (g : ℕ) (are : AreLines fs ls) (ms : List ℕ) (line : IsLine fs ls g ms) (forgotten : AreForgotten ls ls' ms) (none : first_at fs' g ≡ 0) (other_firsts : (h : ℕ) → h ≢ g → first_at fs' h ≡ first_at fs h) where
  of_line : (k : ℕ) → Contains ms k → group ls k ≡ suc g
  of_line k i = grouped ls g 0 (first_at fs g) ms k line.linked (to_in k ms i)

  by_line : (k : ℕ) → Contains ms k ⊎ (Contains ms k → ⊥)
  by_line k = elim (cases_eq (group ls k) (suc g)) as (λ _. Contains ms k ⊎ (Contains ms k → ⊥)) [
    | inl e ↦ inl (from_in k ms (line.all k e))
    | inr d ↦ inr (λ i. d (of_line k i))
  ]

  pub taken_lines : AreLines fs' ls'
  taken_lines h = elim (cases_eq h g) as (λ _. (xs : List ℕ) × IsLine fs' ls' h xs) [
    | inl same ↦ (
      [],
      record {
        linked = ap (first_at fs') same ∙ none;
        once = tt;
        all = λ k e. elim (by_line k) as (λ _. ⊥) [
          | inl i ↦ suc_not_zero h (group ls' k) e (ap (λ (l : Link). l.group) (forgotten.gone k i))
          | inr n ↦ n (from_in k ms (line.all k (sym (ap (λ (l : Link). l.group) (forgotten.others k n)) ∙ (e ∙ ap suc same))))
        ];
      },
    )
    | inr d ↦
        let other = are h in
        let off : (k : ℕ) → IsIn k other.0 → Contains ms k → ⊥ = λ k i j. other_group ls k g h (of_line k j) (grouped ls h 0 (first_at fs h) other.0 k other.1.linked i) d in (
          other.0,
          record {
            linked = subst (λ f. IsInLine ls' h 0 f other.0) (sym (other_firsts h d)) (kept ls ls' h 0 (first_at fs h) other.0 (λ k i.
                let e = forgotten.others k (off k i) in (ap (λ (l : Link). l.group) e, ap (λ (l : Link). l.before) e, ap (λ (l : Link). l.behind) e)) other.1.linked);
            once = other.1.once;
            all = λ k e. elim (by_line k) as (λ _. IsIn k other.0) [
              | inl i ↦ suc_not_zero h (group ls' k) e (ap (λ (l : Link). l.group) (forgotten.gone k i))
              | inr n ↦ other.1.all k (sym (ap (λ (l : Link). l.group) (forgotten.others k n)) ∙ e)
            ];
          },
        )
  ]

  pub taken_releases : Releases (linked_groups ls) (linked_groups ls') g
  taken_releases = record {
    released = λ k e. seen ls' k ∙ ap one_less (ap (λ (l : Link). l.group) (forgotten.gone k (from_in k ms (line.all k (in_group ls k g e)))));
    others = λ k d. same_group ls ls' k (ap (λ (l : Link). l.group) (forgotten.others k (λ i. d (of_group ls k g (of_line k i)))));
  }

-- members lose their groups one by one
pub one_forgotten : (old now now' : List Link) (xs : List ℕ) (i : ℕ) → i < length xs → AreForgotten old now (take i xs) → link_at now' (get_or xs i 0) ≡ nowhere
    → ((m : ℕ) → m ≢ get_or xs i 0 → link_at now' m ≡ link_at now m) → AreForgotten old now' (take (i + 1) xs)
one_forgotten old now now' xs i l is gone others = subst (AreForgotten old now') (sym (take_more xs i 0 l)) (record {
  gone = λ m h. elim (cases_eq m (get_or xs i 0)) as (λ _. link_at now' m ≡ nowhere) [
    | inl e ↦ ap (link_at now') e ∙ gone
    | inr d ↦ others m d ∙ is.gone m (elim (Contains-push_cases (take i xs) (get_or xs i 0) m h) as (λ _. Contains (take i xs) m) [
      | inl k ↦ k
      | inr e ↦ absurd (d (sym e))
    ])
  ];
  others = λ m n.
      others m (λ e. n (subst (Contains (take i xs ++ get_or xs i 0 ∷ [])) (sym e) (Contains-push (take i xs) (get_or xs i 0))))
      ∙ is.others m (λ h. n (Contains-append_left (take i xs) (get_or xs i 0 ∷ []) m h));
})
