-- What the arguments of the command line request, and the result if they make no request.
use Rattle.std.specs.Prelude.{◌≡◌, ◌≢◌, ◌==◌, ℕ, Bool, true, false, find, is_some, List, [], ◌∷◌, flat_map, Option, Some, None, Result, Ok, Err, unwrap_or, option_and_then, option_map, codes, bytes_eq, min, max, ◌<◌, ◌^◌, ◌⊎◌, ◌||◌, ⊤, if◌then◌else◌}
use Rattle.std.specs.Borrow.{Bor}
use Rattle.std.specs.Option.{option_map_or}
use Rattle.std.specs.Str.Parse.{IsNumeral, digits_value, without_leading_plus}
use Rattle.clap.specs.Words.{App, IsAmong, Row, Text, all_of, first_of, one_of, fault_of, matches_of}
use Rattle.clap.specs.declared.error.kind.ErrorKind.{ErrorKind}
use Rattle.clap.specs.declared.error.kind.ErrorKind.TheVariants as kind
use Rattle.clap.specs.declared.parser.matches.ValueSource.{ValueSource}
use Rattle.clap.specs.declared.parser.matches.ValueSource.TheVariants.{CommandLine}
use Rattle.sarif_evidence.specs.declared.version.MatchingVersion.{MatchingVersion}
use Rattle.sarif_evidence.specs.declared.version.MatchingVersion.TheVariants.{Two, Three}
use Rattle.sarif_model.specs.declared.kinds.Level.{Level}
use Rattle.sarif_model.specs.Level.{level_named}
use Rattle.sarif_model.specs.Limits.{most_workers}
use Rattle.sarif_options.specs.declared.options.Options.{Options}
use Rattle.sarif_options.specs.declared.policy.States.{States}
use Rattle.sarif_options.specs.declared.upkeep.Knowing.{Knowing}
use Rattle.sarif_options.specs.declared.upkeep.Knowing.TheVariants.{Adopted, Matched}
use Rattle.sarif_options.specs.declared.upkeep.Renewal.{Renewal}
use Rattle.sarif_options.specs.Policy.{default_policy}
use Rattle.sarif_links.specs.Template.{template_of}
use Rattle.sarif_choice.specs.declared.choice.Choosing.{Choosing}
use Rattle.sarif_findings.specs.declared.reporting.Show.{Show}
use Rattle.sarif_findings.specs.declared.reporting.Show.TheVariants.{All}
use Rattle.sarif_reports.specs.declared.report.Report.{Report}
use Rattle.sarif_reports.specs.Report.{all_reports, report_name}
use Rattle.sarif_request.specs.declared.clash.Clash.{Clash}
use Rattle.sarif_request.specs.declared.words.WordsFault.{WordsFault}
use Rattle.sarif_request.specs.declared.words.WordsFault.TheVariants.{Usage, Help, OutOfMemory}
use Rattle.sarif_request.specs.declared.request.Request.{Request}
use Rattle.sarif_request.specs.declared.together.GivenOptions.{GivenOptions}
use Rattle.sarif_request.specs.declared.together.Misfit.{Misfit}
use Rattle.sarif_request.specs.declared.wanted.RequestedOutput.{RequestedOutput}
use Rattle.sarif_request.specs.Command.{AreLevels, program}
use Rattle.sarif_request.specs.Listing.{states_listed}
use Rattle.sarif_request.specs.Names.{Names, clash_of}
use Rattle.sarif_change.specs.declared.spots.Scope.{Scope}
use Rattle.sarif_change.specs.declared.spots.Scope.TheVariants.{Lines}
use Rattle.sarif_request.specs.Scoping.{scope_named}
use Rattle.sarif_request.specs.Showing.{show_named}
use Rattle.sarif_request.specs.Together.{misfit_of}

-- the arguments that are read if there are none: one worker merges one log from standard input to standard output
abbrev pub plain_words : List Text
plain_words =
    codes "--workers" ∷ codes "1" ∷ codes "--out" ∷ codes "-" ∷ codes "-" ∷ []

-- the arguments that are read
abbrev pub words_read : List Text → List Text
words_read [] = plain_words
words_read (word ∷ words) = word ∷ words

-- the program's exit status
abbrev pub words_status : WordsFault → ℕ
words_status (Usage text) = 2
words_status (Help text) = 0
words_status OutOfMemory = 2

-- a kind of result that is not a mistake: the arguments request the help or the version
abbrev pub IsAsked : ErrorKind → Type 0
IsAsked k = (k ≡ kind.DisplayHelp) ⊎ (k ≡ kind.DisplayVersion)

-- how an error of the parser is reported
abbrev pub ReportsError : ErrorKind → WordsFault → Type 0
ReportsError k (Usage text) = (¬ IsAsked k) × (k ≢ kind.OutOfMemory)
ReportsError k (Help text) = IsAsked k
ReportsError k OutOfMemory = ⊤

-- all values of an argument, in the order of the arguments
abbrev pub values_of : Text → List Row → List Text
values_of name rows = unwrap_or (all_of name rows) []

-- a string of digits that represents a 32-bit number
abbrev pub IsWholeNumber : Text → Type 0
IsWholeNumber text =
    IsNumeral 10 (without_leading_plus text)
    × (digits_value 10 (without_leading_plus text) < 2 ^ 32)

-- the number that a string represents, if there is a string and it represents one
abbrev pub IsReadNumber : Option Text → Option ℕ → Type 0
IsReadNumber None n = n ≡ None
IsReadNumber (Some text) None = ¬ IsWholeNumber text
IsReadNumber (Some text) (Some n) = IsWholeNumber text × (n ≡ digits_value 10 (without_leading_plus text))

-- that number, otherwise the default
abbrev pub IsReadOr : ℕ → Option Text → ℕ → Type 0
IsReadOr default text n = (read : Option ℕ) × IsReadNumber text read × (n ≡ unwrap_or read default)

-- the version of matching with that number: 3, otherwise 2
abbrev pub version_of : Option ℕ → MatchingVersion
version_of number = if option_map_or (λ n. n == 3) number false then Three else Two

-- the version with the number that a string represents
abbrev pub IsVersion : Option Text → MatchingVersion → Type 0
IsVersion text version =
    (read : Option ℕ) × IsReadNumber text read × (version ≡ version_of read)

-- a number of workers
abbrev pub in_range : ℕ → ℕ
in_range n = max 1 (min n most_workers)

-- the minimum level of a hit
abbrev pub fail_on_in : List Row → Level
fail_on_in rows =
    unwrap_or (option_and_then level_named (first_of (codes "fail-on") rows))
    default_policy.fail_on

-- the states of a hit, if the list of states names some
abbrev pub states_in : List Row → Option States
states_in rows =
    option_map_or states_listed (first_of (codes "states") rows) (Some default_policy.states)

-- which results reports show, if the name is one
abbrev pub show_in : List Row → Option Show
show_in rows = option_map_or show_named (first_of (codes "show") rows) (Some All)

-- what is inside a change, if the name is one
abbrev pub scope_in : List Row → Option Scope
scope_in rows = option_map_or scope_named (first_of (codes "diff-scope") rows) (Some Lines)

-- how places are linked, if the template is one; they aren't if there is none
abbrev pub link_in : List Row → Option (Option Text)
link_in rows =
    option_map_or (λ text. option_map Some (template_of text)) (first_of (codes "link") rows)
    (Some None)

-- an output is requested if its option has a value, which is the name of its file
abbrev pub wanted_if : Report → Option Text → List (RequestedOutput Text)
wanted_if report None = []
wanted_if report (Some name) = record { report = report; to = name } ∷ []

-- the outputs that are requested besides the merged log, in the order in which they are written
abbrev pub reports_in : List Row → List (RequestedOutput Text)
reports_in rows =
    flat_map (λ report. wanted_if report (first_of (report_name report) rows)) all_reports

-- an option without a value is given: its value is the string `true`
abbrev pub is_set : Text → List Row → Bool
is_set name rows = option_map_or (λ text. bytes_eq text (codes "true")) (first_of name rows) false

-- an option with a value is given
abbrev pub is_given : Text → List Row → Bool
is_given name rows = is_some (first_of name rows)

-- the source of the value of an argument, if it has one
abbrev pub source_of : Text → List Row → Option ValueSource
source_of name rows =
    option_and_then (λ row. row.source) (find (λ row. bytes_eq row.id name) rows)

abbrev pub is_from_arguments : Option ValueSource → Bool
is_from_arguments (Some CommandLine) = true
is_from_arguments _ = false

-- an option that has a default is given: its value is in the arguments
abbrev pub is_passed : Text → List Row → Bool
is_passed name rows = is_from_arguments (source_of name rows)

-- how a new suppression file is made
pub record Renews (rows : List Row) (how : Renewal) : Type 0 where
  pub accept : how.accept ≡ is_set (codes "accept") rows
  pub prune : how.prune ≡ is_set (codes "prune") rows
  pub reason : how.reason ≡ first_of (codes "reason") rows
  pub until : IsReadNumber (one_of (codes "until") rows) how.until

-- how it is made, if it is requested
abbrev pub IsRenewal : List Row → Option Renewal → Type 0
IsRenewal rows None = is_given (codes "suppress-out") rows ≡ false
IsRenewal rows (Some how) = (is_given (codes "suppress-out") rows ≡ true) × Renews rows how

-- what the known log has, if it is requested
abbrev pub known_in : List Row → Option Knowing
known_in rows = if is_given (codes "known") rows
    then Some (if is_set (codes "adopt") rows then Adopted else Matched) else None

-- the places and the rules by which hits are chosen, and the prefixes that are stripped from their paths
abbrev pub choosing_in : List Row → Choosing
choosing_in rows = record {
  choice = record {
    places = values_of (codes "at") rows;
    rules = values_of (codes "rule") rows;
  };
  roots = values_of (codes "root") rows;
}

-- which hits are accepted, if a place or a rule is given; otherwise all are
abbrev pub choice_in : List Row → Option Choosing
choice_in rows = if is_given (codes "at") rows || is_given (codes "rule") rows
    then Some (choosing_in rows) else None

-- which options are given of those that need each other
pub record AreGiven (rows : List Row) (given : GivenOptions) : Type 0 where
  pub suppress : given.suppress ≡ is_given (codes "suppress") rows
  pub suppress_out : given.suppress_out ≡ is_given (codes "suppress-out") rows
  pub accept : given.accept ≡ is_set (codes "accept") rows
  pub prune : given.prune ≡ is_set (codes "prune") rows
  pub reason : given.reason ≡ is_given (codes "reason") rows
  pub until : IsReadNumber (one_of (codes "until") rows) given.until
  pub at : given.at ≡ is_given (codes "at") rows
  pub rule : given.rule ≡ is_given (codes "rule") rows
  pub today : IsReadNumber (one_of (codes "today") rows) given.today
  pub unused : given.unused ≡ is_given (codes "unused") rows
  pub known : given.known ≡ is_given (codes "known") rows
  pub adopt : given.adopt ≡ is_set (codes "adopt") rows
  pub diff : given.diff ≡ is_given (codes "diff") rows
  pub diff_scope : given.diff_scope ≡ is_given (codes "diff-scope") rows
  pub absent : Some given.absent ≡ option_map (λ states. states.absent) (states_in rows)
  pub policy : given.policy ≡ is_given (codes "policy") rows
  pub fail_on : given.fail_on ≡ is_passed (codes "fail-on") rows
  pub states : given.states ≡ is_passed (codes "states") rows
  pub max : given.max ≡ is_passed (codes "max") rows

-- how the logs are merged
pub record SetsOptions (rows : List Row) (options : Options) : Type 0 where
  pub today : IsReadNumber (one_of (codes "today") rows) options.today
  pub require_success : options.checks.require_success ≡ is_set (codes "require-success") rows
  pub allow_external : options.checks.allow_external
      ≡ is_set (codes "allow-external-properties") rows
  pub matching : IsVersion (one_of (codes "matching") rows) options.checks.matching
  pub once : options.checks.once ≡ is_set (codes "once") rows
  pub ignored : options.checks.ignored ≡ values_of (codes "ignore-fingerprint") rows
  pub scope : scope_in rows ≡ Some options.checks.scope
  pub roots : options.checks.roots ≡ values_of (codes "root") rows
  pub workers : (n : ℕ) × IsReadOr 1 (one_of (codes "workers") rows) n
      × (options.workers ≡ in_range n)
  pub fail_on : options.policy.fail_on ≡ fail_on_in rows
  pub states : states_in rows ≡ Some options.policy.states
  pub max : IsReadOr default_policy.max (one_of (codes "max") rows) options.policy.max

-- what was found under the arguments' names
pub record AsksFor (rows : List Row) (request : Request) : Type 0 where
  pub logs : request.logs.items ≡ values_of (codes "log") rows
  pub baselines : request.baselines.items ≡ values_of (codes "baseline") rows
  pub suppress : request.suppress ≡ first_of (codes "suppress") rows
  pub policy : request.policy ≡ first_of (codes "policy") rows
  pub diff : request.diff ≡ first_of (codes "diff") rows
  pub out : request.out ≡ unwrap_or (first_of (codes "out") rows) []
  pub reports : request.reports.items ≡ reports_in rows
  pub roots : request.roots.items ≡ values_of (codes "root") rows
  pub show : show_in rows ≡ Some request.show
  pub link : link_in rows ≡ Some request.link
  pub explain : request.explain ≡ is_set (codes "explain") rows
  pub screen : request.screen ≡ None
  pub renewal : IsRenewal rows request.upkeep.renewal
  pub unused : request.upkeep.unused ≡ is_given (codes "unused") rows
  pub known : request.upkeep.known ≡ known_in rows
  pub choice : request.choice ≡ choice_in rows
  pub options : SetsOptions rows request.options

-- the names in the arguments
abbrev pub names_in : List Row → Names
names_in rows = record {
  logs = values_of (codes "log") rows;
  baselines = values_of (codes "baseline") rows;
  suppress = first_of (codes "suppress") rows;
  policy = first_of (codes "policy") rows;
  diff = first_of (codes "diff") rows;
  out = unwrap_or (first_of (codes "out") rows) [];
  reports = reports_in rows;
}

-- the arguments are valid, but the names in them clash
abbrev pub HaveClash : App → List Text → Type 0
HaveClash app words = (fault_of app words ≡ [])
    × (clash : Clash) × (clash_of (names_in (matches_of app words)) ≡ Some clash)

-- the options that were found go together, or they don't for this reason
abbrev pub FitUnless : Option Misfit → List Row → Type 0
FitUnless misfit rows = (given : GivenOptions) × AreGiven rows given × (misfit_of given ≡ misfit)

-- the arguments are valid, but some of the options don't go together
abbrev pub HaveMisfit : App → List Text → Type 0
HaveMisfit app words = (fault_of app words ≡ [])
    × (misfit : Misfit) × FitUnless (Some misfit) (matches_of app words)

-- the arguments are valid, but their list of states is none
abbrev pub HaveNoStates : App → List Text → Type 0
HaveNoStates app words = (fault_of app words ≡ []) × (states_in (matches_of app words) ≡ None)

-- the arguments are valid, but what reports are to show has no name
abbrev pub HaveNoShow : App → List Text → Type 0
HaveNoShow app words = (fault_of app words ≡ []) × (show_in (matches_of app words) ≡ None)

-- the arguments are valid, but what is inside a change has no name
abbrev pub HaveNoScope : App → List Text → Type 0
HaveNoScope app words = (fault_of app words ≡ []) × (scope_in (matches_of app words) ≡ None)

-- the arguments are valid, but the template of links is none
abbrev pub HaveNoTemplate : App → List Text → Type 0
HaveNoTemplate app words =
    (fault_of app words ≡ []) × (link_in (matches_of app words) ≡ None)

-- an error that says so, or that memory ran out
abbrev pub IsUsageOrOutOfMemory : WordsFault → Type 0
IsUsageOrOutOfMemory (Usage text) = ⊤
IsUsageOrOutOfMemory (Help text) = ⊥
IsUsageOrOutOfMemory OutOfMemory = ⊤

-- an error says what is wrong with the arguments, or what they request instead of a merge; memory may run out for
-- any of its strings
abbrev pub IsFaultOf : List Text → WordsFault → Type 0
IsFaultOf words (Usage text) = (levels : Bor (List (Bor Text))) × AreLevels levels
    × (((k : ErrorKind) × IsAmong k (fault_of (program levels) words) × (¬ IsAsked k))
    ⊎ (HaveNoStates (program levels) words ⊎ (HaveNoShow (program levels) words
    ⊎ (HaveNoScope (program levels) words ⊎ (HaveNoTemplate (program levels) words
    ⊎ (HaveMisfit (program levels) words ⊎ HaveClash (program levels) words))))))
IsFaultOf words (Help text) = (levels : Bor (List (Bor Text))) × AreLevels levels
    × (k : ErrorKind) × IsAmong k (fault_of (program levels) words) × IsAsked k
IsFaultOf words OutOfMemory = ⊤

-- a request is returned only if the arguments are valid, list states, name what reports show and what is inside a
-- change, link places by a template if they do, their options go together, no names clash, and it is what they request
abbrev pub GivesRequest : List Text → Result Request WordsFault → Type 0
GivesRequest words (Ok request) = (levels : Bor (List (Bor Text))) × AreLevels levels
    × (fault_of (program levels) words ≡ []) × AsksFor (matches_of (program levels) words) request
    × FitUnless None (matches_of (program levels) words)
    × (clash_of (names_in (matches_of (program levels) words)) ≡ None)
GivesRequest words (Err fault) = IsFaultOf words fault

-- none of the options whose place a policy takes is given
pub record HasNoGateOption (rows : List Row) : Type 0 where
  pub fail_on : is_passed (codes "fail-on") rows ≡ false
  pub states : is_passed (codes "states") rows ≡ false
  pub max : is_passed (codes "max") rows ≡ false
  pub diff_scope : is_given (codes "diff-scope") rows ≡ false

abbrev pub HaveNoGateOption : List Text → Type 0
HaveNoGateOption words = (levels : Bor (List (Bor Text))) × AreLevels levels
    × HasNoGateOption (matches_of (program levels) words)
