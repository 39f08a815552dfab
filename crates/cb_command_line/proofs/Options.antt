-- What `clap` reads of an option with a number.
use Rattle.std.proofs.Common.{zero, suc, ap₂, ◌||◌, ◌≡◌, ◌≢◌, ◌<◌, ℕ, true, false, List, [], ◌∷◌, ◌++◌, length, Option, Some, None, refl, sym, ap, ◌∙◌, subst, inl, inr, arith, codes}
use Rattle.std.specs.Borrow.{Bor}
use Rattle.std.specs.List.{All, slice_index_or}
use Rattle.std.specs.Prelude.{option_map, slice_get, unwrap_or}
use Rattle.std.specs.Str.{bytes_eq}
use Rattle.std.proofs.lemmas.List.Elements.{All-get_or, All-nil}
use Rattle.std.proofs.lemmas.Slice.Eq.{bytes_eq-Decides}
use Rattle.clap.specs.Facts.{args_of, groups_of, Entry, EntryPasses, HasReading, PassesArg, parser_of, parser_of_value}
use Rattle.clap.specs.Kinds.{HasKind}
use Rattle.clap.specs.Built.{AddsArg, IsParsedFrom, IsPlain, IsPlainArg, SameRules}
use Rattle.clap.specs.Matches.{found_of, matched_of, one_text}
use Rattle.clap.specs.Values.{Accepts, IsUnsignedIn, read_as, reading_of}
use Rattle.clap.specs.declared.builder.arg.Arg.{Arg}
use Rattle.clap.specs.declared.builder.command.Command.{Command}
use Rattle.clap.specs.declared.builder.command.Command.TheViews.{out-Command}
use Rattle.clap.specs.declared.builder.value_parser.Reading.{Reading}
use Rattle.clap.specs.declared.builder.value_parser.Reading.TheVariants as reading
use Rattle.clap.specs.declared.builder.value_parser.ValueParser.{ValueParser}
use Rattle.clap.specs.declared.builder.value_parser.ValueParser.TheVariants as vp
use Rattle.clap.specs.declared.error.Error.{Error}
use Rattle.clap.specs.declared.parser.matches.ArgMatches.{ArgMatches}
use Rattle.clap.specs.declared.parser.matches.MatchedArg.{MatchedArg}
use Rattle.clap.proofs.CallerLemmas.{added_plain, entry_by_id, same_rules_by_id}
use Rattle.clap.specs.Words.{App, fault_of, is_simple_and_free, HasMatchesOf, Text, app_of, is_simple, matches_of, new_app, one_of, rows_of, rule_of, with_rule}
use Rattle.clap.proofs.OnLiterals.{clap_on_literals}
use Rattle.clap.proofs.WalkLemmas.{one_text-rows}
use Rattle.cb_command_line.specs.Commands.{limit_of, limits_app, number_in, number_rule}
use Rattle.cb_command_line.specs.Internal.{IsNumberOption, option_or}

-- the numbers that an option's text may be, where it has a text
first_passes : (P : List ℕ → Type 0) (how : Reading) (vals : List (Bor (List ℕ))) (text : List ℕ) → All (λ v. P v.now) vals
    → how ≡ reading.AsWritten → option_map (λ s. read_as how s.now) (slice_get vals 0) ≡ Some text → P text
first_passes P how [] text all plain is = cc
first_passes P how (v ∷ vals) text all plain is =
    let as_written : Some v.now ≡ Some text = sym (ap (λ (h : Reading). Some (read_as h v.now)) plain) ∙ is in
    let same : v.now ≡ text = ap (λ o. unwrap_or o text) as_written in
    subst P same (All-get_or (λ (w : Bor (List ℕ)). P w.now) (v ∷ vals) 0 v (omega arith) all)

-- an argument of a command: the one with its id, which is no flag of the building's own
pub record IsOption (cmd : Command) (id : List ℕ) (min max : ℕ) : Type 0 where
  pub place : ℕ
  pub arg : Arg
  pub is_in : place < length (args_of cmd)
  pub at : slice_index_or (args_of cmd) place arg ≡ arg
  pub has_id : arg.id.now ≡ id
  pub alone : (j : ℕ) (e : Arg) → j < length (args_of cmd) → bytes_eq (slice_index_or (args_of cmd) j e).id.now id ≡ true → j ≡ place
  pub named : id ≢ []
  pub own : (id ≡ codes "help" → ⊥) × (id ≡ codes "version" → ⊥)
  pub parser : arg.value_parser ≡ Some (vp.Unsigned min max)

-- what building made of the option
rules_of_option : (cmd : Command) (m : ArgMatches) (p : IsParsedFrom cmd m) (id : List ℕ) (min max : ℕ) (o : IsOption cmd id min max)
    → (j : ℕ) (x : Arg) → j < length (args_of p.built) → slice_index_or (args_of p.built) j x ≡ x → bytes_eq x.id.now id ≡ true
    → parser_of x ≡ vp.Unsigned min max
rules_of_option cmd m p id min max o j x is_in at same =
    let here : (slice_index_or (args_of cmd) o.place o.arg).id.now ≡ id = ap (λ (a : Arg). a.id.now) o.at ∙ o.has_id in
    let rules = same_rules_by_id cmd m p o.place o.arg o.is_in
    (λ i e low eq. o.alone i e low (subst (λ (t : List ℕ). bytes_eq (slice_index_or (args_of cmd) i e).id.now t ≡ true) here eq))
    (λ auto. elim auto [ inl h ↦ o.own.0 (sym here ∙ h) | inr h ↦ o.own.1 (sym here ∙ h) ])
    j x is_in at (subst (λ (t : List ℕ). bytes_eq x.id.now t ≡ true) (sym here) same) in
    ap parser_of_value (rules.parser (vp.Unsigned min max) (ap (λ (a : Arg). a.value_parser) o.at ∙ o.parser))

-- a value that passed the option's parser
passes_number : (cmd : Command) (m : ArgMatches) (p : IsParsedFrom cmd m) (id : List ℕ) (min max : ℕ) (o : IsOption cmd id min max) (text : List ℕ)
    → PassesArg p.built id text → IsUnsignedIn min max text
passes_number cmd m p id min max o text pass =
    let is = rules_of_option cmd m p id min max o pass.0 pass.1 pass.2 pass.3 pass.4.0 in
    subst (λ (q : ValueParser). Accepts pass.1.ignore_case q text) is pass.4.1

-- the option's values are read as they are written
reads_as_written : (cmd : Command) (m : ArgMatches) (p : IsParsedFrom cmd m) (id : List ℕ) (min max : ℕ) (o : IsOption cmd id min max) (how : Reading)
    → HasReading p.built id how → how ≡ reading.AsWritten
reads_as_written cmd m p id min max o how read =
    sym read.4.1 ∙ ap reading_of (rules_of_option cmd m p id min max o read.0 read.1 read.2 read.3 read.4.0)

-- the text of an option is a number in its range
pub number_option : (cmd : Command) (m : ArgMatches) (p : IsParsedFrom cmd m) (id : List ℕ) (min max : ℕ) → IsPlain cmd → (out-Command cmd).has_globals ≡ false
    → IsOption cmd id min max → IsNumberOption (found_of m) id min max
number_option cmd m p id min max plain globals o = λ text is. at_entry (matched_of (found_of m) id) refl text is
  where
    in_entry : (x : MatchedArg) (e : Entry) → e.1 ≡ x → e.0.now ≡ id → EntryPasses p.built e → (text : List ℕ)
        → option_map (λ s. read_as x.reading s.now) (slice_get x.vals.items 0) ≡ Some text → IsUnsignedIn min max text
    in_entry x e same key pass text is =
        let no_group : e.1.is_group ≡ true → ⊥ = λ g. elim (pass.3 g) [
          | inl empty ↦ o.named (sym key ∙ empty)
          | inr lots ↦
              let bad : 0 < 0 = rw (p.from.plain plain).1 at lots in
              absurd (omega arith)
        ] in
        let passed : All (λ v. PassesArg p.built id v.now) x.vals.items = elim pass.0 [
          | inl g ↦ absurd (no_group g)
          | inr vals ↦ subst (λ (w : List ℕ). All (λ v. PassesArg p.built w v.now) x.vals.items) key (rw same at vals)
        ] in
        let read : HasReading p.built id x.reading = elim pass.4 [
          | inl g ↦ absurd (no_group g)
          | inr h ↦ subst (λ (w : List ℕ). HasReading p.built w x.reading) key (rw same at h)
        ] in
        let how = reads_as_written cmd m p id min max o x.reading read in
        passes_number cmd m p id min max o text (first_passes (λ t. PassesArg p.built id t) x.reading x.vals.items text passed how is)

    at_entry : (f : Option MatchedArg) → matched_of (found_of m) id ≡ f → (text : List ℕ) → one_text (found_of m) id ≡ Some text → IsUnsignedIn min max text
    at_entry None found text is =
        let none : None ≡ Some text = rw found at is in
        cc
    at_entry (Some x) found text is =
        let got = entry_by_id (EntryPasses p.built) (found_of m).entries.items id x (p.parsed (p.from.globals ∙ globals)).values found in
        in_entry x got.0 got.1 ((bytes_eq-Decides got.0.0.now id).0 got.2) got.3 text (rw found at is)

-- three options of which a command is made, one after another
pub record IsMade (cmd : Command) (first second third : Arg) : Type 0 where
  pub one : Arg
  pub two : Arg
  pub three : Arg
  pub args : args_of cmd ≡ one ∷ two ∷ three ∷ []
  pub same_one : SameRules first one
  pub same_two : SameRules second two
  pub same_three : SameRules third three
  pub plain : IsPlain cmd
  pub globals : (out-Command cmd).has_globals ≡ false

pub made : (start a b cmd : Command) (first second third : Arg) → AddsArg start first a → AddsArg a second b → AddsArg b third cmd
    → args_of start ≡ [] → groups_of start ≡ [] → (out-Command start).has_globals ≡ false
    → IsPlainArg first → IsPlainArg second → IsPlainArg third → first.global ≡ false → second.global ≡ false → third.global ≡ false
    → IsMade cmd first second third
made start a b cmd first second third f s t none groups globals pf ps pt gf gs gt =
    let plain : IsPlain start = (subst (All IsPlainArg) (sym none) (All-nil IsPlainArg), groups) in
    record {
      one = f.arg;
      two = s.arg;
      three = t.arg;
      args = t.args ∙ ap (λ l. l ++ t.arg ∷ []) (s.args ∙ ap (λ l. l ++ s.arg ∷ []) (f.args ∙ ap (λ l. l ++ f.arg ∷ []) none));
      same_one = f.rules;
      same_two = s.rules;
      same_three = t.rules;
      plain = added_plain b cmd third t (added_plain a b second s (added_plain start a first f plain pf) ps) pt;
      globals = t.globals ∙ ap₂ (λ x y. x || y) (s.globals ∙ ap₂ (λ x y. x || y) (f.globals ∙ ap₂ (λ x y. x || y) globals gf) gs) gt;
    }

-- the ids are three different ones
pub record HasIds (cmd : Command) (one two three : Arg) : Type 0 where
  pub args : args_of cmd ≡ one ∷ two ∷ three ∷ []
  pub one_is : one.id.now ≡ codes "max-form"
  pub two_is : two.id.now ≡ codes "max-firings"
  pub three_is : three.id.now ≡ codes "max-turns"

-- the id in a place
abbrev id_at : ℕ → List ℕ
id_at zero = codes "max-form"
id_at (suc zero) = codes "max-firings"
id_at (suc (suc k)) = codes "max-turns"

ids_in : (one two three e : Arg) (j : ℕ) → j < 3 → one.id.now ≡ codes "max-form" → two.id.now ≡ codes "max-firings" → three.id.now ≡ codes "max-turns"
    → (slice_index_or (one ∷ two ∷ three ∷ []) j e).id.now ≡ id_at j
ids_in one two three e zero lt a b c = a
ids_in one two three e (suc zero) lt a b c = b
ids_in one two three e (suc (suc zero)) lt a b c = c
ids_in one two three e (suc (suc (suc j))) lt a b c = absurd (omega arith)

alone_at : (j k : ℕ) → j < 3 → k < 3 → bytes_eq (id_at j) (id_at k) ≡ true → j ≡ k
alone_at zero zero lj lk h = refl
alone_at zero (suc zero) lj lk h = cc
alone_at zero (suc (suc zero)) lj lk h = cc
alone_at (suc zero) zero lj lk h = cc
alone_at (suc zero) (suc zero) lj lk h = refl
alone_at (suc zero) (suc (suc zero)) lj lk h = cc
alone_at (suc (suc zero)) zero lj lk h = cc
alone_at (suc (suc zero)) (suc zero) lj lk h = cc
alone_at (suc (suc zero)) (suc (suc zero)) lj lk h = refl
alone_at (suc (suc (suc j))) k lj lk h = absurd (omega arith)
alone_at zero (suc (suc (suc k))) lj lk h = absurd (omega arith)
alone_at (suc zero) (suc (suc (suc k))) lj lk h = absurd (omega arith)
alone_at (suc (suc zero)) (suc (suc (suc k))) lj lk h = absurd (omega arith)

option_at : (cmd : Command) (one two three arg : Arg) (k min max : ℕ) → k < 3 → HasIds cmd one two three
    → ((e : Arg) → slice_index_or (one ∷ two ∷ three ∷ []) k e ≡ arg) → (id_at k ≢ []) → (id_at k ≡ codes "help" → ⊥) → (id_at k ≡ codes "version" → ⊥)
    → arg.value_parser ≡ Some (vp.Unsigned min max) → IsOption cmd (id_at k) min max
option_at cmd one two three arg k min max lt ids at some help version parser =
    let id_is : (e : Arg) (j : ℕ) → j < 3 → (slice_index_or (args_of cmd) j e).id.now ≡ id_at j = λ e j low.
    ap (λ l. (slice_index_or l j e).id.now) ids.args ∙ ids_in one two three e j low ids.one_is ids.two_is ids.three_is in
    let many : length (args_of cmd) ≡ 3 = ap length ids.args in
    record {
      place = k;
      arg = arg;
      is_in = omega arith;
      at = ap (λ l. slice_index_or l k arg) ids.args ∙ at arg;
      has_id = sym (ap (λ (a : Arg). a.id.now) (at arg)) ∙ ids_in one two three arg k lt ids.one_is ids.two_is ids.three_is;
      alone = λ j e low same.
          let below : j < 3 = omega arith in
          alone_at j k below lt (subst (λ (t : List ℕ). bytes_eq t (id_at k) ≡ true) (id_is e j below) same);
      named = some;
      own = (help, version);
      parser = parser;
    }

ids_of : (cmd : Command) (first second third : Arg) (three : IsMade cmd first second third) → first.id.now ≡ codes "max-form" → second.id.now ≡ codes "max-firings"
    → third.id.now ≡ codes "max-turns" → HasIds cmd three.one three.two three.three
ids_of cmd first second third three a b c = record {
  args = three.args;
  one_is = ap (λ x. x.now) three.same_one.id ∙ a;
  two_is = ap (λ x. x.now) three.same_two.id ∙ b;
  three_is = ap (λ x. x.now) three.same_three.id ∙ c;
}

-- none of the ids is empty, or one of a flag of the building's own
form_id : (codes "max-form" ≢ []) × (codes "max-form" ≡ codes "help" → ⊥) × (codes "max-form" ≡ codes "version" → ⊥)
form_id = (λ h. cc, λ h. cc, λ h. cc)

firings_id : (codes "max-firings" ≢ []) × (codes "max-firings" ≡ codes "help" → ⊥) × (codes "max-firings" ≡ codes "version" → ⊥)
firings_id = (λ h. cc, λ h. cc, λ h. cc)

turns_id : (codes "max-turns" ≢ []) × (codes "max-turns" ≡ codes "help" → ⊥) × (codes "max-turns" ≡ codes "version" → ⊥)
turns_id = (λ h. cc, λ h. cc, λ h. cc)

-- the three options of the program
pub form_option : (cmd : Command) (first second third : Arg) → IsMade cmd first second third → first.id.now ≡ codes "max-form"
    → second.id.now ≡ codes "max-firings" → third.id.now ≡ codes "max-turns" → (min max : ℕ) → first.value_parser ≡ Some (vp.Unsigned min max)
    → IsOption cmd (codes "max-form") min max
form_option cmd first second third three a b c min max parser =
    option_at cmd three.one three.two three.three three.one 0 min max (omega arith) (ids_of cmd first second third three a b c) (λ e. refl)
    form_id.0 form_id.1 form_id.2 (three.same_one.parser (vp.Unsigned min max) parser)

pub firings_option : (cmd : Command) (first second third : Arg) → IsMade cmd first second third → first.id.now ≡ codes "max-form"
    → second.id.now ≡ codes "max-firings" → third.id.now ≡ codes "max-turns" → (min max : ℕ) → second.value_parser ≡ Some (vp.Unsigned min max)
    → IsOption cmd (codes "max-firings") min max
firings_option cmd first second third three a b c min max parser =
    option_at cmd three.one three.two three.three three.two 1 min max (omega arith) (ids_of cmd first second third three a b c) (λ e. refl)
    firings_id.0 firings_id.1 firings_id.2 (three.same_two.parser (vp.Unsigned min max) parser)

pub turns_option : (cmd : Command) (first second third : Arg) → IsMade cmd first second third → first.id.now ≡ codes "max-form"
    → second.id.now ≡ codes "max-firings" → third.id.now ≡ codes "max-turns" → (min max : ℕ) → third.value_parser ≡ Some (vp.Unsigned min max)
    → IsOption cmd (codes "max-turns") min max
turns_option cmd first second third three a b c min max parser =
    option_at cmd three.one three.two three.three three.three 2 min max (omega arith) (ids_of cmd first second third three a b c) (λ e. refl)
    turns_id.0 turns_id.1 turns_id.2 (three.same_three.parser (vp.Unsigned min max) parser)

simple : is_simple limits_app ≡ true
unfolding clap_on_literals
simple = refl

-- no option has a rule on another
free : is_simple_and_free limits_app ≡ true
unfolding clap_on_literals
free = refl

-- a parse that succeeds: the words have no fault
pub no_fault : (app : App) (words : List Text) → app ≡ limits_app → (is_simple_and_free app ≡ true → fault_of app words ≡ []) → fault_of limits_app words ≡ []
no_fault app words is none = ap (λ a. fault_of a words) (sym is) ∙ none (ap is_simple_and_free is ∙ free)

-- a parse that fails: the error has the kind of the words' fault
pub has_kind : (app : App) (words : List Text) (e : Error) → app ≡ limits_app → (is_simple_and_free app ≡ true → HasKind (fault_of app words) e) → HasKind (fault_of limits_app words) e
has_kind app words e is kind = subst (λ a. HasKind (fault_of a words) e) is (kind (ap is_simple_and_free is ∙ free))

-- what the matches have is what the words give
pub from_words : (app : App) (m : ArgMatches) (words : List Text) (id : Text) (default : ℕ) → app ≡ limits_app → HasMatchesOf app words m
    → option_or (found_of m) id default ≡ limit_of id default words
from_words app m words id default is has =
    let rows : rows_of (found_of m) ≡ matches_of limits_app words = (has (ap is_simple is ∙ simple)).0 ∙ ap (λ a. matches_of a words) is in
    ap (λ o. unwrap_or (option_map number_in o) default) (one_text-rows (found_of m) id ∙ ap (λ r. one_of id r) rows)

-- the command is the one of the definitions
pub made_app : (start a b cmd : Command) (first second third : Arg) → AddsArg start first a → AddsArg a second b → AddsArg b third cmd
    → app_of start ≡ new_app (codes "clipsbatch") → first.global ≡ false → second.global ≡ false → third.global ≡ false
    → rule_of first ≡ number_rule (codes "max-form") 1 16777216 → rule_of second ≡ number_rule (codes "max-firings") 0 1000000000000
    → rule_of third ≡ number_rule (codes "max-turns") 0 1000000000000 → app_of cmd ≡ limits_app
made_app start a b cmd first second third f s t new gf gs gt rf rs rt =
    t.shape gt ∙ ap₂ with_rule (s.shape gs ∙ ap₂ with_rule (f.shape gf ∙ ap₂ with_rule new rf) rs) rt
