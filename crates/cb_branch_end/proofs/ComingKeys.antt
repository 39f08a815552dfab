-- The keys that come are those of what came.
use Rattle.std.proofs.Common.{◌∙◌, ℕ, List, ap, inl, inr, map, not, subst, sym}
use Rattle.std.specs.List.{list_any}
use Rattle.cb_branch_end.proofs.SameKeys.{any_in, in_any, key_Decides}
use Rattle.cb_branch_end.specs.TellingKeys.{key_of}
use Rattle.cb_matches.proofs.Lists.{by_test, filter_in, in_filter, in_map, map_in}
use Rattle.cb_matches.specs.Chains.{AreSame, In}
use Rattle.cb_matches.specs.Changes.{come_of}
use Rattle.cb_matches.specs.Keys.{KeyValue, key_eq}
use Rattle.cb_matches.specs.Matches.{Partial}
use Rattle.cb_nodes.proofs.Grown.{not_true}
use Rattle.cb_nodes.specs.Changes.{PartialMoves}

pub come_members : (rule branch : ℕ) (old new gone come : List Partial) → PartialMoves old new gone come
    → AreSame (map (key_of rule branch) come) (come_of (map (key_of rule branch) old) (map (key_of rule branch) new))
come_members rule branch old new gone come c =
    let f = key_of rule branch in
    let is_new = λ (k : KeyValue). not (list_any (key_eq k) (map f old)) in (
      λ k h. let m = in_map f k come h in
          filter_in is_new k (map f new)
          (subst (λ it. In it (map f new)) (sym m.2) (map_in f new m.0 (c.come_new m.0 m.1)))
          (by_test (list_any (key_eq k) (map f old))
          (λ t. let n = in_map f k old (any_in key_eq key_Decides k (map f old) t) in
          absurd (c.come_apart m.0 n.0 m.1 n.1 (ap (λ it. it.parts) (sym m.2 ∙ n.2))))
          (λ t. ap not t)),
      λ k h. let i = in_filter is_new k (map f new) h in
          let m = in_map f k new i.0 in
          elim (c.came m.0 m.1) as (λ _. In k (map f come)) [
            | inl kept_in ↦ absurd (not_true (list_any (key_eq k) (map f old))
                (in_any key_eq key_Decides k (map f old) (subst (λ it. In it (map f old)) (sym m.2) (map_in f old m.0 kept_in))) i.1)
            | inr came ↦ subst (λ it. In it (map f come)) (sym m.2) (map_in f come m.0 came)
          ],
    )
