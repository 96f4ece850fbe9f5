-- Which results become known.
use Rattle.std.specs.Prelude.{Bool, true, false, not, ◌&&◌, ◌||◌, List, [], ◌∷◌, unwrap_or}
use Rattle.sarif_model.specs.declared.record.Record.{Record}
use Rattle.sarif_model.specs.declared.kinds.State.{State}
use Rattle.sarif_model.specs.declared.kinds.State.TheVariants.{New, Unchanged, Updated, Absent}
use Rattle.sarif_options.specs.declared.policy.Policy.{Policy}
use Rattle.sarif_entries.specs.File.{File}
use Rattle.sarif_suppress.specs.Suppressing.{is_suppressed, lasting}
use Rattle.sarif_accept.specs.Adding.{may_hit}
use Rattle.sarif_known.specs.declared.standing.Standing.{Standing}

-- suppressed, and active without the entries that have an expiry date
abbrev pub is_accepted_for_now : File → Record → Bool
is_accepted_for_now file r = is_suppressed file r && not (is_suppressed (lasting file) r)

-- a hit, or suppressed; with a policy a hit of one of its conditions, or what would be one inside the change
abbrev pub would_hit : Policy → Record → Standing → Bool
would_hit policy r standing = unwrap_or standing.would_hit (may_hit policy r standing.state)

abbrev pub is_hit_or_suppressed : File → Policy → Record → Standing → Bool
is_hit_or_suppressed file policy r standing = is_suppressed file r || would_hit policy r standing

abbrev pub is_new : State → Bool
is_new New = true
is_new Unchanged = false
is_new Updated = false
is_new Absent = false

-- new, or doubtful whether it isn't
abbrev pub may_be_new : Standing → Bool
may_be_new standing = is_new standing.state || standing.doubtful

-- a current result that doesn't become known: it is accepted for now only; or, unless new results are adopted, it may
-- be new, and is a hit or suppressed
abbrev pub is_left_out : File → Policy → Bool → Record → Standing → Bool
is_left_out file policy adopt r standing =
    is_accepted_for_now file r
    || (not adopt && (may_be_new standing && is_hit_or_suppressed file policy r standing))

abbrev pub keep_unless : {A : Type 0} → Bool → A → List A → List A
keep_unless true x xs = xs
keep_unless false x xs = x ∷ xs

-- the current results that become known, of these results with these standings
abbrev pub known_of : File → Policy → Bool → List Record → List Standing → List Record
known_of file policy adopt [] standings = []
known_of file policy adopt (r ∷ rs) [] = []
known_of file policy adopt (r ∷ rs) (standing ∷ standings) =
    keep_unless (is_left_out file policy adopt r standing) r
    (known_of file policy adopt rs standings)

-- the results that no current result matches
abbrev pub unmatched_of : List Record → List Bool → List Record
unmatched_of [] taken = []
unmatched_of (r ∷ rs) [] = []
unmatched_of (r ∷ rs) (t ∷ taken) = keep_unless t r (unmatched_of rs taken)

-- the results of a baseline run that stay known: unmatched results of a tool that was not heard, since no analysis
-- looked for them
abbrev pub kept_of : Bool → List Record → List Bool → List Record
kept_of true rs taken = []
kept_of false rs taken = unmatched_of rs taken
