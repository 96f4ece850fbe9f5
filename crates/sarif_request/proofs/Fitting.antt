-- What a request has for a new suppression file, since options go together.
use Rattle.std.proofs.Common.{◌≡◌, ◌∙◌, ◌≤◌, ℕ, Bool, true, false, not, ◌&&◌, ◌||◌, nat_lt, List, Option, Some, None, Ok, IfSome, is_some, codes, refl, sym, ap, ap₂, subst, arith, if◌then◌else◌, true≢false}
use Rattle.std.proofs.lemmas.Bool.Decides.{nat_tests}
use Rattle.std.specs.Option.{option_or}
use Rattle.clap.specs.Words.{Row, Text, first_of, matches_of, one_of}
use Rattle.sarif_choice.specs.declared.choice.Choosing.{Choosing}
use Rattle.sarif_options.specs.declared.upkeep.Renewal.{Renewal}
use Rattle.sarif_entries.specs.Entries.{is_day}
use Rattle.sarif_request.specs.declared.request.Request.{Request}
use Rattle.sarif_request.specs.declared.together.GivenOptions.{GivenOptions}
use Rattle.sarif_request.specs.declared.together.Misfit.{Misfit}
use Rattle.sarif_request.specs.declared.together.Misfit.TheVariants.{AcceptNeedsFile, PruneNeedsFile, FileNeedsChange, PlaceNeedsAccept, PruneNeedsEntries, ReasonNeedsAccept, RuleNeedsAccept, UntilIsNoDate, UntilIsPast, UntilNeedsAccept, UntilNeedsToday, LevelWithPolicy, StatesWithPolicy, LimitWithPolicy, ScopeWithPolicy}
use Rattle.sarif_request.specs.Command.{program}
use Rattle.sarif_request.specs.Dates.{IsNotPast}
use Rattle.sarif_request.specs.Together.{date_misfit, diff_misfit, gate_misfit, lacks, misfit_of, policy_misfit, until_misfit, upkeep_misfit}
use Rattle.sarif_request.specs.Words.{GivesRequest, AreGiven, HasNoGateOption, IsReadNumber, IsRenewal, HaveNoGateOption, choice_in, choosing_in, is_given, is_set}

-- if nothing is wrong, the first test fails, and nothing is wrong after it
past : (b : Bool) (why : Misfit) (rest : Option Misfit) → (if b then Some why else rest) ≡ None → (b ≡ false) × (rest ≡ None)
past false why rest is = (refl, is)
past true why rest is = absurd (let e : Some why ≡ None = is in cc)

both_none : (a b : Option Misfit) → option_or a b ≡ None → (a ≡ None) × (b ≡ None)
both_none None b is = (refl, is)
both_none (Some why) b is = absurd (let e : Some why ≡ None = is in cc)

is_true : (b : Bool) → not b ≡ false → b ≡ true
is_true true is = refl
is_true false is = absurd (true≢false is)

not_less : (a b : ℕ) → nat_lt a b ≡ false → b ≤ a
not_less a b is = grind (arith, nat_tests)

needed_is : (option needed : Bool) → lacks option needed ≡ false → option ≡ true → needed ≡ true
needed_is true true none is = refl
needed_is true false none is = absurd (true≢false none)
needed_is false needed none is = absurd (true≢false (sym is))

-- a string represents one number
same_read : (text : Option Text) (a b : Option ℕ) → IsReadNumber text a → IsReadNumber text b → a ≡ b
same_read None a b one other = one ∙ sym other
same_read (Some text) None None one other = refl
same_read (Some text) None (Some n) one other = absurd (one other.0)
same_read (Some text) (Some m) None one other = absurd (other one.0)
same_read (Some text) (Some m) (Some n) one other = ap Some (one.1 ∙ sym other.1)

-- ---- options that go together

date_fits : (until today : Option ℕ) → date_misfit until today ≡ None → IsNotPast today until
date_fits None today is = tt
date_fits (Some until) None is = absurd (let e : Some UntilNeedsToday ≡ None = is in cc)
date_fits (Some until) (Some today) is =
    let dated = past (not (is_day until)) UntilIsNoDate (if nat_lt until today then Some UntilIsPast else None) is in
    let later = past (nat_lt until today) UntilIsPast None dated.1 in
    (is_true (is_day until) dated.0, today, refl, not_less until today later.0)

-- options that add entries, or choose hits for them, have what they need
record HaveNeeded (given : GivenOptions) : Type 0 where
  file : lacks given.accept given.suppress_out ≡ false
  change : lacks given.suppress_out (given.accept || given.prune) ≡ false
  reason : lacks given.reason given.accept ≡ false
  at : lacks given.at given.accept ≡ false
  rule : lacks given.rule given.accept ≡ false

-- options that a policy rules out aren't given with it
record LeavesGate (given : GivenOptions) : Type 0 where
  fail_on : (given.policy && given.fail_on) ≡ false
  states : (given.policy && given.states) ≡ false
  max : (given.policy && given.max) ≡ false
  scope : (given.policy && given.diff_scope) ≡ false

module _ (given : GivenOptions) (none : misfit_of given ≡ None) where
  policy : LeavesGate given
  policy =
      let first = both_none (upkeep_misfit given) (option_or (until_misfit given) (gate_misfit given)) none in
      let gate = both_none (until_misfit given) (gate_misfit given) first.1 in
      let both = both_none (policy_misfit given) (diff_misfit given) gate.1 in
      let level = past (given.policy && given.fail_on) LevelWithPolicy _ both.0 in
      let states = past (given.policy && given.states) StatesWithPolicy _ level.1 in
      let limit = past (given.policy && given.max) LimitWithPolicy _ states.1 in
      let scope = past (given.policy && given.diff_scope) ScopeWithPolicy _ limit.1 in
      record { fail_on = level.0; states = states.0; max = limit.0; scope = scope.0 }

  parts : (upkeep_misfit given ≡ None) × (until_misfit given ≡ None)
  parts =
      let first = both_none (upkeep_misfit given) (option_or (until_misfit given) (gate_misfit given)) none in
      (first.0, (both_none (until_misfit given) (gate_misfit given) first.1).0)

  upkeep : HaveNeeded given
  upkeep =
      let accept = past (lacks given.accept given.suppress_out) AcceptNeedsFile _ parts.0 in
      let prune = past (lacks given.prune given.suppress_out) PruneNeedsFile _ accept.1 in
      let change = past (lacks given.suppress_out (given.accept || given.prune)) FileNeedsChange _ prune.1 in
      let entries = past (lacks given.prune given.suppress) PruneNeedsEntries _ change.1 in
      let reason = past (lacks given.reason given.accept) ReasonNeedsAccept _ entries.1 in
      let at = past (lacks given.at given.accept) PlaceNeedsAccept _ reason.1 in
      let rule = past (lacks given.rule given.accept) RuleNeedsAccept _ at.1 in
      record { file = accept.0; change = change.0; reason = reason.0; at = at.0; rule = rule.0 }

  date : (lacks (is_some given.until) given.accept ≡ false) × (date_misfit given.until given.today ≡ None)
  date = past (lacks (is_some given.until) given.accept) UntilNeedsAccept (date_misfit given.until given.today) parts.1

-- ---- requests

dated : (rows : List Row) (given : GivenOptions) (today : Option ℕ) (renewal : Option Renewal) → AreGiven rows given
    → misfit_of given ≡ None → given.today ≡ today
    → IsRenewal rows renewal → IfSome renewal (λ how. IsNotPast today how.until)
dated rows given today None are none same is = tt
dated rows given today (Some how) are none same is =
    subst (λ until. IsNotPast today until) (same_read (one_of (codes "until") rows) given.until how.until are.until is.1.until)
    (subst (λ day. IsNotPast day given.until) same (date_fits given.until given.today (date given none).1))

changing : (rows : List Row) (given : GivenOptions) (renewal : Option Renewal) → AreGiven rows given → misfit_of given ≡ None → IsRenewal rows renewal
    → IfSome renewal (λ how. (how.accept || how.prune) ≡ true)
changing rows given None are none is = tt
changing rows given (Some how) are none is =
    let so : (given.accept || given.prune) ≡ true =
    needed_is given.suppress_out (given.accept || given.prune) (upkeep given none).change (are.suppress_out ∙ is.0) in
    rw (is.1.accept, is.1.prune, sym are.accept, sym are.prune) so

reasoned : (rows : List Row) (given : GivenOptions) (how : Renewal) (reason : Option Text) → AreGiven rows given → misfit_of given ≡ None
    → how.accept ≡ is_set (codes "accept") rows
    → reason ≡ first_of (codes "reason") rows → IfSome reason (λ _. how.accept ≡ true)
reasoned rows given how None are none accept is = tt
reasoned rows given how (Some text) are none accept is =
    accept ∙ sym are.accept ∙ needed_is given.reason given.accept (upkeep given none).reason (are.reason ∙ ap is_some (sym is))

until_given : (rows : List Row) (given : GivenOptions) (how : Renewal) (until : Option ℕ) → AreGiven rows given → misfit_of given ≡ None
    → how.accept ≡ is_set (codes "accept") rows
    → given.until ≡ until → IfSome until (λ _. how.accept ≡ true)
until_given rows given how None are none accept is = tt
until_given rows given how (Some last) are none accept is =
    accept ∙ sym are.accept ∙ needed_is (is_some given.until) given.accept (date given none).0 (ap is_some is)

-- a place or a rule is given if hits are chosen, and either needs `--accept`
one_given : (at rule : Bool) (all choosing : Choosing) → Some choosing ≡ (if at || rule then Some all else None) → (at || rule) ≡ true
one_given true rule all choosing is = refl
one_given false true all choosing is = refl
one_given false false all choosing is = absurd (let e : Some choosing ≡ None = is in cc)

either_needs : (at rule accept : Bool) → lacks at accept ≡ false → lacks rule accept ≡ false → (at || rule) ≡ true → accept ≡ true
either_needs true rule accept place named is = needed_is true accept place refl
either_needs false rule accept place named is = needed_is rule accept named is

accepting : (rows : List Row) (given : GivenOptions) (renewal : Option Renewal) → AreGiven rows given → misfit_of given ≡ None
    → given.accept ≡ true → IsRenewal rows renewal → (how : Renewal) × (renewal ≡ Some how) × (how.accept ≡ true)
accepting rows given None are none accept is =
    absurd (true≢false (sym (needed_is given.accept given.suppress_out (upkeep given none).file accept) ∙ are.suppress_out ∙ is))
accepting rows given (Some how) are none accept is = (how, refl, is.1.accept ∙ sym are.accept ∙ accept)

each_choice : (rows : List Row) (given : GivenOptions) (choice : Option Choosing) (renewal : Option Renewal) → AreGiven rows given
    → misfit_of given ≡ None → choice ≡ choice_in rows → IsRenewal rows renewal
    → IfSome choice (λ _. (how : Renewal) × (renewal ≡ Some how) × (how.accept ≡ true))
each_choice rows given None renewal are none is renews = tt
each_choice rows given (Some choosing) renewal are none is renews =
    let one : (given.at || given.rule) ≡ true =
    ap₂ (λ a b. a || b) are.at are.rule ∙ one_given (is_given (codes "at") rows) (is_given (codes "rule") rows) (choosing_in rows) choosing is in
    accepting rows given renewal are none
    (either_needs given.at given.rule given.accept (upkeep given none).at (upkeep given none).rule one) renews

-- what is ruled out isn't given
ruled_out : (a b : Bool) → (a && b) ≡ false → a ≡ true → b ≡ false
ruled_out true b is one = is
ruled_out false b is one = absurd (true≢false (sym one))

each_policy : (rows : List Row) (given : GivenOptions) (name : Option Text) → AreGiven rows given → misfit_of given ≡ None
    → name ≡ first_of (codes "policy") rows → IfSome name (λ _. HasNoGateOption rows)
each_policy rows given None are none is = tt
each_policy rows given (Some name) are none is =
    let one : given.policy ≡ true = are.policy ∙ ap is_some (sym is) in
    let leaves = policy given none in
    record {
      fail_on = sym are.fail_on ∙ ruled_out given.policy given.fail_on leaves.fail_on one;
      states = sym are.states ∙ ruled_out given.policy given.states leaves.states one;
      max = sym are.max ∙ ruled_out given.policy given.max leaves.max one;
      diff_scope = sym are.diff_scope ∙ ruled_out given.policy given.diff_scope leaves.scope one;
    }

if_some : (name : Option Text) (P Q : Type 0) → (P → Q) → IfSome name (λ _. P) → IfSome name (λ _. Q)
if_some None P Q goes held = tt
if_some (Some text) P Q goes held = goes held

pub leaving : (words : List (List ℕ)) (request : Request) → GivesRequest words (Ok request) → IfSome request.policy (λ _. HaveNoGateOption words)
leaving words request (levels, named, sound, asks, (given, are, none), apart) =
    let rows : List Row = matches_of (program levels) words in
    if_some request.policy (HasNoGateOption rows) (HaveNoGateOption words) (λ held. (levels, named, held))
    (each_policy rows given request.policy are none asks.policy)

pub not_past : (words : List (List ℕ)) (request : Request) → GivesRequest words (Ok request)
    → IfSome request.upkeep.renewal (λ renewal. IsNotPast request.options.today renewal.until)
not_past words request (levels, named, sound, asks, (given, are, none), apart) =
    let rows : List Row = matches_of (program levels) words in
    dated rows given request.options.today request.upkeep.renewal are none
    (same_read (one_of (codes "today") rows) given.today request.options.today are.today asks.options.today) asks.renewal

pub changed : (words : List (List ℕ)) (request : Request) → GivesRequest words (Ok request)
    → IfSome request.upkeep.renewal (λ renewal. (renewal.accept || renewal.prune) ≡ true)
changed words request (levels, named, sound, asks, (given, are, none), apart) =
    changing (matches_of (program levels) words) given request.upkeep.renewal are none asks.renewal

each_reason : (rows : List Row) (given : GivenOptions) (renewal : Option Renewal) → AreGiven rows given → misfit_of given ≡ None → IsRenewal rows renewal
    → IfSome renewal (λ how. IfSome how.reason (λ _. how.accept ≡ true))
each_reason rows given None are none is = tt
each_reason rows given (Some how) are none is = reasoned rows given how how.reason are none is.1.accept is.1.reason

each_date : (rows : List Row) (given : GivenOptions) (renewal : Option Renewal) → AreGiven rows given → misfit_of given ≡ None → IsRenewal rows renewal
    → IfSome renewal (λ how. IfSome how.until (λ _. how.accept ≡ true))
each_date rows given None are none is = tt
each_date rows given (Some how) are none is =
    until_given rows given how how.until are none is.1.accept (same_read (one_of (codes "until") rows) given.until how.until are.until is.1.until)

pub justified : (words : List (List ℕ)) (request : Request) → GivesRequest words (Ok request)
    → IfSome request.upkeep.renewal (λ renewal. IfSome renewal.reason (λ _. renewal.accept ≡ true))
justified words request (levels, named, sound, asks, (given, are, none), apart) =
    each_reason (matches_of (program levels) words) given request.upkeep.renewal are none asks.renewal

pub expiring : (words : List (List ℕ)) (request : Request) → GivesRequest words (Ok request)
    → IfSome request.upkeep.renewal (λ renewal. IfSome renewal.until (λ _. renewal.accept ≡ true))
expiring words request (levels, named, sound, asks, (given, are, none), apart) =
    each_date (matches_of (program levels) words) given request.upkeep.renewal are none asks.renewal

pub chosen_accepted : (words : List (List ℕ)) (request : Request) → GivesRequest words (Ok request)
    → IfSome request.choice (λ _. (how : Renewal) × (request.upkeep.renewal ≡ Some how) × (how.accept ≡ true))
chosen_accepted words request (levels, named, sound, asks, (given, are, none), apart) =
    each_choice (matches_of (program levels) words) given request.choice request.upkeep.renewal are none asks.choice asks.renewal
