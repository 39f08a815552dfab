-- What a change does to an alpha memory, as its pattern sees it.
use Rattle.std.proofs.Common.{◌≡◌, ◌≢◌, ◌∙◌, ◌<◌, ℕ, zero, suc, true, false, List, [], ◌∷◌, Some, None, ap, ap₂, arith, inl, inr, length, refl, slice_get, subst, sym}
use Rattle.std.proofs.lemmas.Bool.{cases_eq, false_from_ne_true}
use Rattle.cb_alpha.proofs.FactsMore.{Fact, left_in, one_more, other_without, without_other}
use Rattle.cb_alpha.proofs.ReadFacts.{all_live, all_were, is_its_number, live_read, not_both, number_is, other_number, read_live, read_were, same_some, some_none, were_read, with_index}
use Rattle.cb_alpha.specs.AlphaMemories.{AlphaMemoryValue, GainsFact, GainsJoin, IsEnded, LosesFact, candidate_in, index_of, live, live_in}
use Rattle.cb_alpha.specs.Turning.{AlphaTurns, AreCandidates, HasJoin, IsAlphaOver, is_number, were_in}
use Rattle.cb_constraints.specs.PatternValues.{PatternValue}
use Rattle.cb_facts.specs.FactLists.{IndexedFacts, fact_at, with_fact, without_fact}
use Rattle.cb_facts.specs.Facts.{FactValue}
use Rattle.cb_fit.specs.Shapes.{is_selected}
use Rattle.cb_fit.specs.declared.join_fields.JoinField.{JoinField}
use Rattle.cb_matches.proofs.Indices.{in_looked}
use Rattle.cb_matches.specs.Chains.{In}
use Rattle.cb_matches.specs.Order.{IsRising}

module _ (p : PatternValue) (m : AlphaMemoryValue) (fs : IndexedFacts) (over : IsAlphaOver p fs m) where
  -- between changes, what is there was there
  were_live : (n : ℕ) → were_in m n ≡ live m n
  were_live n = all_were m n over.none_come ∙ sym (all_live m n over.none_gone)

  were_candidates : AreCandidates p fs (were_in m)
  were_candidates = record {
    are = λ n g h. over.has.are n g (sym (were_live n) ∙ h);
    all = λ g h t. let n = over.has.all g h t in (n.0, were_live n.0 ∙ n.1);
  }

  apart : (n : ℕ) → m.come ≡ Some n → m.gone ≡ Some n → ⊥
  apart n e g = some_none m.come e over.none_come

  -- nothing comes and nothing goes
  pub stays : AlphaTurns p m fs fs
  stays = record { was = were_candidates; is = over.has; one = over.one; apart = apart; single = inl over.none_gone }

  -- a fact without the shape comes
  pub shapeless_comes : (ix : ℕ) (f : FactValue) → fact_at fs ix ≡ None → is_selected p f ≡ false → AlphaTurns p m fs (with_fact fs ix f)
  shapeless_comes ix f free shape =
      let more = one_more fs ix f free in
      record {
        was = were_candidates;
        is = record {
          are = λ n g h. let a = over.has.are n g h in (more.was g a.0, a.1);
          all = λ g h t. elim (more.is g h) as (λ _. (n : ℕ) × (live m n ≡ Some g)) [
            | inl i ↦ over.has.all g i t
            | inr e ↦ not_both (is_selected p g.1) t (ap (λ (it : Fact). is_selected p it.1) e ∙ shape)
          ];
        };
        one = over.one;
        apart = apart;
        single = inl over.none_gone;
      }

  -- a fact goes that the memory hasn't
  pub absent_goes : (ix : ℕ) → ((n : ℕ) → index_of (live m n) ≢ Some ix) → AlphaTurns p m fs (without_fact fs ix)
  absent_goes ix absent = record {
    was = were_candidates;
    is = record {
      are = λ n g h. let a = over.has.are n g h in (other_without fs ix g a.0 (λ e. absent n (ap index_of h ∙ ap Some e)), a.1);
      all = λ g h t. over.has.all g (left_in fs ix g h) t;
    };
    one = over.one;
    apart = apart;
    single = inl over.none_gone;
  }

  -- one without the shape is such
  pub shapeless_goes : (ix : ℕ) (f : FactValue) → IsRising fs → fact_at fs ix ≡ Some f → is_selected p f ≡ false → AlphaTurns p m fs (without_fact fs ix)
  shapeless_goes ix f rising there shape =
      absent_goes ix (λ n e.
      let g = with_index (live m n) ix e in
      let a = over.has.are n g.0 g.1 in
      let looked : fact_at fs ix ≡ Some g.0.1 = ap (fact_at fs) (sym g.2) ∙ in_looked fs rising g.0 a.0 in
      let same : f ≡ g.0.1 = same_some (fact_at fs ix) there looked in
      not_both (is_selected p g.0.1) a.1 (ap (is_selected p) (sym same) ∙ shape))

  module _ (m' : AlphaMemoryValue) (number ix : ℕ) where
    -- a fact with the shape comes
    module _ (f : FactValue) (is : GainsFact m m' number (ix, f)) (free : fact_at fs ix ≡ None) (shape : is_selected p f ≡ true) where
      none_gone' : m'.gone ≡ None
      none_gone' = is.gone ∙ over.none_gone

      others_are : (n : ℕ) → n ≢ number → candidate_in m'.candidates n ≡ live m n
      others_are n d = is.others n d ∙ sym (all_live m n over.none_gone)

      was_free : (n : ℕ) (g : Fact) → live m n ≡ Some g → n ≢ number
      was_free n g h e = some_none (live m n) h (all_live m n over.none_gone ∙ (ap (candidate_in m.candidates) e ∙ is.free))

      old_index : (n : ℕ) (g : Fact) → live m n ≡ Some g → g.0 ≡ ix → ⊥
      old_index n g h e = (one_more fs ix f free).absent g (over.has.are n g h).0 e

      were_others : (n : ℕ) → n ≢ number → were_in m' n ≡ live m n
      were_others n d = read_were m' n (other_number m'.come n number is.come d) ∙ others_are n d

      pub comes : AlphaTurns p m' fs (with_fact fs ix f)
      comes =
          let more = one_more fs ix f free in
          record {
            was = record {
              are = λ n g h.
                  let r = were_read m' n g h in
                  let d : n ≢ number = λ e. not_both (is_number m'.come n) (is_its_number m'.come n (is.come ∙ ap Some (sym e))) r.1 in
                  over.has.are n g (sym (were_others n d) ∙ h);
              all = λ g h t. let n = over.has.all g h t in (n.0, were_others n.0 (was_free n.0 g n.1) ∙ n.1);
            };
            is = record {
              are = λ n g h.
                  let read : candidate_in m'.candidates n ≡ Some g = sym (all_live m' n none_gone') ∙ h in
                  elim (cases_eq n number) as (λ _. In g (with_fact fs ix f) × (is_selected p g.1 ≡ true)) [
                    | inl e ↦
                        let same : (ix, f) ≡ g = same_some (candidate_in m'.candidates number) is.there (ap (candidate_in m'.candidates) (sym e) ∙ read) in
                        (subst (λ it. In it (with_fact fs ix f)) same more.there, ap (λ (it : Fact). is_selected p it.1) (sym same) ∙ shape)
                    | inr d ↦ let a = over.has.are n g (sym (others_are n d) ∙ read) in (more.was g a.0, a.1)
                  ];
              all = λ g h t. elim (more.is g h) as (λ _. (n : ℕ) × (live m' n ≡ Some g)) [
                | inl i ↦ let n = over.has.all g i t in (n.0, all_live m' n.0 none_gone' ∙ (others_are n.0 (was_free n.0 g n.1) ∙ n.1))
                | inr e ↦ (number, all_live m' number none_gone' ∙ (is.there ∙ ap Some (sym e)))
              ];
            };
            one = λ i j g h a b e. elim (cases_eq i number) as (λ _. i ≡ j) [
              | inl c ↦ elim (cases_eq j number) as (λ _. i ≡ j) [
                | inl d ↦ c ∙ sym d
                | inr d ↦
                    let it : (ix, f) ≡ g = same_some (candidate_in m'.candidates number) is.there (ap (candidate_in m'.candidates) (sym c) ∙ a) in
                    absurd (old_index j h (sym (others_are j d) ∙ b) (sym e ∙ ap (λ (k : Fact). k.0) (sym it)))
              ]
              | inr c ↦ elim (cases_eq j number) as (λ _. i ≡ j) [
                | inl d ↦
                    let it : (ix, f) ≡ h = same_some (candidate_in m'.candidates number) is.there (ap (candidate_in m'.candidates) (sym d) ∙ b) in
                    absurd (old_index i g (sym (others_are i c) ∙ a) (e ∙ ap (λ (k : Fact). k.0) (sym it)))
                | inr d ↦ over.one i j g h (sym (is.others i c) ∙ a) (sym (is.others j d) ∙ b) e
              ]
            ];
            apart = λ n e g. some_none m'.gone g none_gone';
            single = inl none_gone';
          }

    -- a fact goes that the memory has
    module _ (is : LosesFact m m' number ix) (rising : IsRising fs) where
      same : (n : ℕ) → candidate_in m'.candidates n ≡ candidate_in m.candidates n
      same n = ap (λ cs. candidate_in cs n) is.candidates

      none_come' : m'.come ≡ None
      none_come' = is.come ∙ over.none_come

      were_same : (n : ℕ) → were_in m' n ≡ live m n
      were_same n = all_were m' n none_come' ∙ (same n ∙ sym (all_live m n over.none_gone))

      -- just this number has the index
      its_index : (n : ℕ) (g : Fact) → live m n ≡ Some g → g.0 ≡ ix → n ≡ number
      its_index n g h e =
          let f = with_index (live m number) ix is.was in
          over.one n number g f.0 (sym (all_live m n over.none_gone) ∙ h) (sym (all_live m number over.none_gone) ∙ f.1) (e ∙ sym f.2)

      pub goes : AlphaTurns p m' fs (without_fact fs ix)
      goes = record {
        was = record {
          are = λ n g h. over.has.are n g (sym (were_same n) ∙ h);
          all = λ g h t. let n = over.has.all g h t in (n.0, were_same n.0 ∙ n.1);
        };
        is = record {
          are = λ n g h.
              let r = live_read m' n g h in
              let under : live m n ≡ Some g = all_live m n over.none_gone ∙ (sym (same n) ∙ r.0) in
              let a = over.has.are n g under in
              (other_without fs ix g a.0 (λ e. not_both (is_number m'.gone n) (is_its_number m'.gone n (is.gone ∙ ap Some (sym (its_index n g under e)))) r.1), a.1);
          all = λ g h t.
              let n = over.has.all g (left_in fs ix g h) t in
              let here : is_number m'.gone n.0 ≡ false = false_from_ne_true (is_number m'.gone n.0) (λ b.
              let it : number ≡ n.0 = same_some m'.gone is.gone (number_is m'.gone n.0 b) in
              let index : Some ix ≡ Some g.0 = sym is.was ∙ ap index_of (ap (live m) it ∙ n.1) in
              without_other fs ix g rising h (let one : g.0 ≡ ix = cc in one)) in
              (n.0, read_live m' n.0 here ∙ (same n.0 ∙ (sym (all_live m n.0 over.none_gone) ∙ n.1)));
        };
        one = λ i j f g h k e. over.one i j f g (sym (same i) ∙ h) (sym (same j) ∙ k) e;
        apart = λ n e g. some_none m'.come e none_come';
        single = inr none_come';
      }

  -- a join more
  pub joined : (m' : AlphaMemoryValue) (join : ℕ) (fields : List JoinField) → GainsJoin m m' join fields → IsAlphaOver p fs m'
  joined m' join fields is =
      let same : (n : ℕ) → live m' n ≡ live m n = λ n. ap₂ (λ cs o. live_in cs o n) is.candidates is.gone in
      let read : (n : ℕ) → candidate_in m'.candidates n ≡ candidate_in m.candidates n = λ n. ap (λ cs. candidate_in cs n) is.candidates in
      record {
        has = record {
          are = λ n g h. over.has.are n g (sym (same n) ∙ h);
          all = λ g h t. let n = over.has.all g h t in (n.0, same n.0 ∙ n.1);
        };
        one = λ i j f g h k e. over.one i j f g (sym (read i) ∙ h) (sym (read j) ∙ k) e;
        none_gone = is.gone ∙ over.none_gone;
        none_come = is.come ∙ over.none_come;
      }

-- the end of a change
pub ended : (p : PatternValue) (m m' : AlphaMemoryValue) (fs fs' : IndexedFacts) → AlphaTurns p m fs fs' → IsEnded m m' → IsAlphaOver p fs' m'
ended p m m' fs fs' turns is =
    let same : (n : ℕ) → live m' n ≡ live m n = λ n. all_live m' n is.gone ∙ is.candidates n in
    let read : (n : ℕ) (g : Fact) → candidate_in m'.candidates n ≡ Some g → candidate_in m.candidates n ≡ Some g = λ n g h. (live_read m n g (sym (is.candidates n) ∙ h)).0 in
    record {
      has = record {
        are = λ n g h. turns.is.are n g (sym (same n) ∙ h);
        all = λ g h t. let n = turns.is.all g h t in (n.0, same n.0 ∙ n.1);
      };
      one = λ i j f g h k e. turns.one i j f g (read i f h) (read j g k) e;
      none_gone = is.gone;
      none_come = is.come;
    }

-- no facts
pub over_nothing : (p : PatternValue) (joins : List (List JoinField)) → IsAlphaOver p [] (record { candidates = []; gone = None; come = None; joins = joins })
over_nothing p joins = record {
  has = record { are = λ n f h. absurd (none_is f h); all = λ f h t. absurd h };
  one = λ i j f g h k e. absurd (none_is f h);
  none_gone = refl;
  none_come = refl;
}
  where
    none_is : (f : Fact) → None ≡ Some f → ⊥
    none_is f h = cc

-- a new join finds the facts by its fields
pub here : (m m' : AlphaMemoryValue) (join : ℕ) (fields : List JoinField) → GainsJoin m m' join fields → HasJoin m' join fields
here m m' join fields is = let fs = there_at m'.joins join is.within in (fs.0, fs.1, is.same fs.0 fs.1)
  where
    there_at : {A : Type 0} (xs : List A) (k : ℕ) → k < length xs → (x : A) × (slice_get xs k ≡ Some x)
    there_at [] k l = absurd (omega (arith, l))
    there_at (x ∷ xs) zero l = (x, refl)
    there_at (x ∷ xs) (suc k) l = there_at xs k (omega (arith, l))
