-- Which results are copies: they have a URI and a region, and are equal in each field to an earlier result. The first
-- of the results that are alike is the finding of each.
use Rattle.std.specs.Prelude.{◌==◌, ◌+◌, ℕ, Bool, true, false, ◌&&◌, not, List, [], ◌∷◌, ◌++◌, map, slice_index_or, length, Option, Some, None, if◌then◌else◌, is_some, unwrap_or, bytes_eq}
use Rattle.std.specs.List.{list_any}
use Rattle.std.specs.Option.{option_eq}
use Rattle.std.specs.Cmp.Lexicographic.{pointwise}
use Rattle.sarif_model.specs.declared.kinds.Status.{Status}
use Rattle.sarif_model.specs.declared.kinds.Status.TheVariants.{Accepted, UnderReview, Rejected}
use Rattle.sarif_model.specs.declared.record.Record.{Record}
use Rattle.sarif_model.specs.Level.{severity}
use Rattle.sarif_evidence.specs.EqualParts.{message_eq, pairs_eq, place_eq, region_eq}
use Rattle.sarif_evidence.specs.State.{kind_number}

-- the number of each status, in the order of their declaration
abbrev pub status_number : Status → ℕ
status_number Accepted = 0
status_number UnderReview = 1
status_number Rejected = 2

-- whether each field is equal
abbrev pub record_eq : Record → Record → Bool
record_eq a b =
    bytes_eq a.tool b.tool
    && (bytes_eq a.rule_id b.rule_id
    && ((kind_number a.kind == kind_number b.kind)
    && ((severity a.level == severity b.level)
    && (message_eq a.message b.message
    && (place_eq a.place b.place
    && (option_eq ◌==◌ a.guid b.guid
    && (pairs_eq a.full b.full
    && (pairs_eq a.partial b.partial
    && (pointwise (λ s t. status_number s == status_number t) a.held b.held
    && (option_eq region_eq a.region b.region
    && (option_eq bytes_eq a.snippet b.snippet
    && pointwise ◌==◌ a.admitted b.admitted)))))))))))

-- a result with a URI and a region
abbrev pub has_line : Record → Bool
has_line r = is_some r.place.uri && is_some r.region

-- both have a URI and a region, and are equal
abbrev pub are_alike : Record → Record → Bool
are_alike a b = has_line a && (has_line b && record_eq a b)

-- the number of the first of these results that is alike to r, where the first one has number n
abbrev pub first_alike : Record → ℕ → List Record → Option ℕ
first_alike r n [] = None
first_alike r n (q ∷ qs) = if are_alike q r then Some n else first_alike r (n + 1) qs

-- the number of the finding of a result after these: the first that is alike to it, or itself
abbrev pub finding_of : List Record → Record → ℕ
finding_of before r = unwrap_or (first_alike r 0 before) (length before)

-- the numbers of the findings of results after others
abbrev pub findings_after : List Record → List Record → List ℕ
findings_after before [] = []
findings_after before (r ∷ rs) = finding_of before r ∷ findings_after (before ++ r ∷ []) rs

-- for each result the number of its finding
abbrev pub findings_of : List Record → List ℕ
findings_of rs = findings_after [] rs

-- ---- results of two lists

-- the result, regardless of the entries of a suppression file that admit it
abbrev pub unadmitted : Record → Record
unadmitted r = record r { admitted = [] }

-- whether one of these results is alike to r, regardless of such entries
abbrev pub has_alike : List Record → Record → Bool
has_alike rs r = list_any (λ q. are_alike (unadmitted q) (unadmitted r)) rs

-- ---- findings and copies apart

-- whether each result is a copy, where the first has number n: it isn't its own finding
abbrev pub copies_from : ℕ → List ℕ → List Bool
copies_from n [] = []
copies_from n (first ∷ firsts) = not (first == n) ∷ copies_from (n + 1) firsts

-- whether each result is a copy
abbrev pub copies_of : List Record → List Bool
copies_of rs = copies_from 0 (findings_of rs)

-- for each result how many findings are before it, where n are before the first
abbrev pub findings_before : ℕ → List Bool → List ℕ
findings_before n [] = []
findings_before n (true ∷ copies) = n ∷ findings_before n copies
findings_before n (false ∷ copies) = n ∷ findings_before (n + 1) copies

-- for each result the number of its finding, where the findings alone are counted
abbrev pub numbers_of : List Record → List ℕ
numbers_of rs =
    map (λ first. slice_index_or (findings_before 0 (copies_of rs)) first 0) (findings_of rs)

-- for each result what its finding has; these are the numbers of the findings
abbrev pub spread : {X : Type 0} → X → List ℕ → List X → List X
spread none numbers xs = map (λ n. slice_index_or xs n none) numbers
