-- What is read again of the list that is written.
use Rattle.std.proofs.Common.{◌≡◌, Bool, true, false, ◌&&◌, List, [], ◌∷◌, ◌++◌, map, Some, None, Result, Ok, Err, refl, sym, ap, ◌∙◌}
use Rattle.std.proofs.lemmas.Bool.{and_from}
use Rattle.std.specs.List.{list_all}
use Rattle.std.proofs.lemmas.List.Folds.{list_all-append}
use Rattle.serde_json.specs.Data.{Data}
use Rattle.sarif_model.specs.Members.{◌>>=◌, read_each, result_map}
use Rattle.sarif_model.specs.Suppression.{status_of}
use Rattle.sarif_model.specs.declared.fault.Fault.{Fault}
use Rattle.sarif_model.specs.declared.kinds.Status.{Status}
use Rattle.sarif_model.specs.declared.kinds.Status.TheVariants.{Accepted, UnderReview, Rejected}
use Rattle.sarif_model.specs.declared.record.Record.{Record}
use Rattle.sarif_model.specs.Status.{is_accepted}
use Rattle.sarif_entries.specs.declared.entry.Entry.{Entry}
use Rattle.sarif_entries.specs.File.{File}
use Rattle.sarif_entries.specs.Matching.{is_empty}
use Rattle.sarif_suppress.specs.Suppressing.{matching, statuses_suppress, is_suppressed}
use Rattle.sarif_entries.specs.Object.{object_of}
use Rattle.sarif_suppress.specs.Written.{with_objects, suppressions_of}
use Rattle.sarif_suppress.proofs.Numbered.{is_empty-append}
use Rattle.sarif_suppress.proofs.WrittenList.{written_passes, written_empty}

-- a status is read from it, and passes the test
abbrev passes : (Status → Bool) → Result Status Fault → Bool
passes test (Ok status) = test status
passes test (Err fault) = false

-- the status of an entry's object is the entry's
object_status : (e : Entry) → status_of (object_of e) ≡ Ok e.status
object_status e =
    elim e.status as
    (λ s. status_of (object_of (record { conditions = e.conditions; expires = e.expires; status = s; justification = e.justification; limit = e.limit }))
    ≡ Ok s) [
      | Accepted ↦ elim e.justification as
          (λ j. status_of (object_of (record { conditions = e.conditions; expires = e.expires; status = Accepted; justification = j; limit = e.limit }))
          ≡ Ok Accepted) [ None ↦ refl | Some text ↦ refl ]
      | UnderReview ↦ elim e.justification as
          (λ j. status_of (object_of (record { conditions = e.conditions; expires = e.expires; status = UnderReview; justification = j; limit = e.limit }))
          ≡ Ok UnderReview) [ None ↦ refl | Some text ↦ refl ]
      | Rejected ↦ elim e.justification as
          (λ j. status_of (object_of (record { conditions = e.conditions; expires = e.expires; status = Rejected; justification = j; limit = e.limit }))
          ≡ Ok Rejected) [ None ↦ refl | Some text ↦ refl ]
    ]

-- values from which these statuses are read
record AreRead (ds : List Data) (statuses : List Status) : Type 0 where
  read : read_each status_of ds ≡ Ok statuses
  tests : (test : Status → Bool) → list_all (λ d. passes test (status_of d)) ds ≡ list_all test statuses
  none : is_empty ds ≡ is_empty statuses

ok_same : (a b : List Status) → ◌≡◌ {A = Result (List Status) Fault} (Ok a) (Ok b) → a ≡ b
ok_same a b e = cc

one_more : (d : Data) (ds : List Data) (status : Status) (statuses : List Status) → status_of d ≡ Ok status → AreRead ds statuses
    → AreRead (d ∷ ds) (status ∷ statuses)
one_more d ds status statuses is are = record {
  read = ap (λ s. s >>= λ y. result_map (λ ys. y ∷ ys) (read_each status_of ds)) is ∙ ap (λ ss. result_map (λ ys. status ∷ ys) ss) are.read;
  tests = λ test. rw (is, are.tests test) refl;
  none = refl;
}

-- all values from which a status is read
are_read : (ds : List Data) → list_all (λ d. passes (λ _. true) (status_of d)) ds ≡ true → (statuses : List Status) × AreRead ds statuses
are_read [] all = ([], record { read = refl; tests = λ _. refl; none = refl })
are_read (d ∷ ds) all =
    elim (status_of d) as (λ s. status_of d ≡ s → (passes (λ _. true) s && list_all (λ d. passes (λ _. true) (status_of d)) ds) ≡ true
    → (statuses : List Status) × AreRead (d ∷ ds) statuses) [
      | Ok status ↦ λ is rest.
          let more : (statuses : List Status) × AreRead ds statuses = are_read ds rest in
          (status ∷ more.0, one_more d ds status more.0 is more.1)
      | Err fault ↦ λ is no. let never : ⊥ = cc in absurd never
    ] refl all

all_true : (es : List Entry) → list_all (λ e. passes (λ _. true) (status_of (object_of e))) es ≡ true
all_true [] = refl
all_true (e ∷ es) = and_from _ _ (ap (passes (λ _. true)) (object_status e)) (all_true es)

objects_pass : (test : Status → Bool) (es : List Entry) → list_all (λ e. passes test (status_of (object_of e))) es ≡ list_all test (map (λ e. e.status) es)
objects_pass test [] = refl
objects_pass test (e ∷ es) =
    rw (object_status e, objects_pass test es) refl

-- the values from which a list of statuses was read
were_read : (ds : List Data) (statuses : List Status) → read_each status_of ds ≡ Ok statuses → AreRead ds statuses
were_read [] statuses read =
    let none : [] ≡ statuses = ok_same [] statuses read in
    record { read = read; tests = λ test. ap (list_all test) none; none = ap is_empty none }
were_read (d ∷ ds) statuses read =
    elim (status_of d) as (λ s. status_of d ≡ s → (s >>= λ y. result_map (λ ys. y ∷ ys) (read_each status_of ds)) ≡ Ok statuses → AreRead (d ∷ ds) statuses) [
      | Ok status ↦ λ is rest.
          elim (read_each status_of ds) as (λ ss. read_each status_of ds ≡ ss → result_map (λ ys. status ∷ ys) ss ≡ Ok statuses → AreRead (d ∷ ds) statuses) [
            | Ok more ↦ λ are whole.
                let same : status ∷ more ≡ statuses = ok_same (status ∷ more) statuses whole in
                rw (← same) (one_more d ds status more is (were_read ds more are))
            | Err fault ↦ λ are no. let never : ⊥ = cc in absurd never
          ] refl rest
      | Err fault ↦ λ is no. let never : ⊥ = cc in absurd never
    ] refl read

pub empty_map : (es : List Entry) → is_empty es ≡ is_empty (map (λ e. e.status) es)
empty_map [] = refl
empty_map (e ∷ es) = refl

pub read_back : (own : List Data) (file : File) (r : Record) → read_each status_of own ≡ Ok r.held
    → result_map statuses_suppress (read_each status_of (suppressions_of own file r)) ≡ Ok (is_suppressed file r)
read_back own file r held =
    let es : List Entry = matching file r in
    let mine : AreRead own r.held = were_read own r.held held in
    let reads : list_all (λ d. passes (λ _. true) (status_of d)) (with_objects own es) ≡ true =
    written_passes (λ d. passes (λ _. true) (status_of d)) own es ∙ and_from _ _ (mine.tests (λ _. true) ∙ always r.held) (all_true es) in
    let written : (statuses : List Status) × AreRead (with_objects own es) statuses = are_read (with_objects own es) reads in
    let accepted : list_all is_accepted written.0 ≡ list_all is_accepted (r.held ++ map (λ e. e.status) es) =
    sym (written.1.tests is_accepted) ∙ written_passes (λ d. passes is_accepted (status_of d)) own es
    ∙ rw (mine.tests is_accepted, objects_pass is_accepted es) (sym (list_all-append is_accepted r.held (map (λ e. e.status) es))) in
    let none : is_empty written.0 ≡ is_empty (r.held ++ map (λ e. e.status) es) = sym written.1.none ∙ written_empty own es
    ∙ rw (mine.none, empty_map es) (sym (is_empty-append r.held (map (λ e. e.status) es))) in
    ap (result_map statuses_suppress) written.1.read ∙ ap Ok (rw (none, accepted) refl)
  where
    always : (statuses : List Status) → list_all (λ _. true) statuses ≡ true
    always [] = refl
    always (s ∷ ss) = always ss
