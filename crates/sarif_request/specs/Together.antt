-- Which options go together.
use Rattle.std.specs.Prelude.{ℕ, Bool, Option, Some, None, ◌&&◌, ◌||◌, is_some, not, nat_lt, if◌then◌else◌}
use Rattle.std.specs.Option.{option_or}
use Rattle.sarif_entries.specs.Entries.{is_day}
use Rattle.sarif_request.specs.declared.together.GivenOptions.{GivenOptions}
use Rattle.sarif_request.specs.declared.together.Misfit.{Misfit}
use Rattle.sarif_request.specs.declared.together.Misfit.TheVariants.{AcceptNeedsFile, PruneNeedsFile, FileNeedsChange, PruneNeedsEntries, ReasonNeedsAccept, PlaceNeedsAccept, RuleNeedsAccept, UnusedNeedsEntries, KnownWithAccept, AdoptNeedsKnown, UntilNeedsAccept, UntilNeedsToday, UntilIsNoDate, UntilIsPast, ScopeNeedsDiff, AbsentWithDiff, LevelWithPolicy, StatesWithPolicy, LimitWithPolicy, ScopeWithPolicy}

-- an option is given without the one that it needs
abbrev pub lacks : Bool → Bool → Bool
lacks option needed = option && not needed

-- why the options of the outputs for later merges don't go together, if they don't
abbrev pub upkeep_misfit : GivenOptions → Option Misfit
upkeep_misfit given =
    if lacks given.accept given.suppress_out then Some AcceptNeedsFile else (
    if lacks given.prune given.suppress_out then Some PruneNeedsFile else (
    if lacks given.suppress_out (given.accept || given.prune) then Some FileNeedsChange else (
    if lacks given.prune given.suppress then Some PruneNeedsEntries else (
    if lacks given.reason given.accept then Some ReasonNeedsAccept else (
    if lacks given.at given.accept then Some PlaceNeedsAccept else (
    if lacks given.rule given.accept then Some RuleNeedsAccept else (
    if lacks given.unused given.suppress then Some UnusedNeedsEntries else (
    if given.known && given.accept then Some KnownWithAccept else (
    if lacks given.adopt given.known then Some AdoptNeedsKnown else (
    None))))))))))

-- an expiry date is a date as entries have it, and not before today's, which it needs
abbrev pub date_misfit : Option ℕ → Option ℕ → Option Misfit
date_misfit None today = None
date_misfit (Some until) None = Some UntilNeedsToday
date_misfit (Some until) (Some today) =
    if not (is_day until) then Some UntilIsNoDate else (
    if nat_lt until today then Some UntilIsPast else (
    None))

-- why the expiry date of added entries doesn't fit, if it doesn't
abbrev pub until_misfit : GivenOptions → Option Misfit
until_misfit given =
    if lacks (is_some given.until) given.accept then Some UntilNeedsAccept else
    date_misfit given.until given.today

-- why the options of the change don't go together, if they don't: no change has an absent result
abbrev pub diff_misfit : GivenOptions → Option Misfit
diff_misfit given =
    if lacks given.diff_scope given.diff then Some ScopeNeedsDiff else (
    if given.diff && given.absent then Some AbsentWithDiff else (
    None))

-- why the options of the gate don't go together, if they don't: a condition of a policy has its own level, states, limit
-- and scope
abbrev pub policy_misfit : GivenOptions → Option Misfit
policy_misfit given =
    if given.policy && given.fail_on then Some LevelWithPolicy else (
    if given.policy && given.states then Some StatesWithPolicy else (
    if given.policy && given.max then Some LimitWithPolicy else (
    if given.policy && given.diff_scope then Some ScopeWithPolicy else (
    None))))

-- why the options of the gate or of the change don't go together, if they don't
abbrev pub gate_misfit : GivenOptions → Option Misfit
gate_misfit given = option_or (policy_misfit given) (diff_misfit given)

-- why options don't go together, if they don't
abbrev pub misfit_of : GivenOptions → Option Misfit
misfit_of given =
    option_or (upkeep_misfit given) (option_or (until_misfit given) (gate_misfit given))
