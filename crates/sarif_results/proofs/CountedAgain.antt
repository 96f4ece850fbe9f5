-- What is counted of suppressions, where their statuses can be read.
use Rattle.std.proofs.Common.{◌≡◌, Bool, List, [], ◌∷◌, Option, Some, None, Result, Ok, Err, option_and_then, unwrap_or, codes, refl, ap, ◌∙◌}
use Rattle.std.specs.List.{list_all}
use Rattle.serde_json.specs.Data.{Data, null, boolean, number, string, array, object}
use Rattle.serde_json.specs.Find.{get}
use Rattle.serde_json.specs.View.{items_of}
use Rattle.sarif_counts.specs.CountOf as counts
use Rattle.sarif_model.specs.Members.{◌>>=◌, of_kind, or_wrong, unless_null, read_each, result_map}
use Rattle.sarif_model.specs.Status.{status_named, is_accepted}
use Rattle.sarif_model.specs.Suppression.{status_of, as_status, check_suppression_kind}
use Rattle.sarif_model.specs.declared.fault.Fault.{Fault}
use Rattle.sarif_model.specs.declared.fault.Fault.TheVariants.{BadSuppression}
use Rattle.sarif_model.specs.declared.kinds.Status.{Status}
use Rattle.sarif_model.specs.declared.kinds.Status.TheVariants.{Accepted, UnderReview, Rejected}
use Rattle.sarif_model.specs.declared.record.Record.{Record}
use Rattle.sarif_entries.specs.File.{File}
use Rattle.sarif_suppress.specs.Suppressing.{is_suppressed, statuses_suppress}
use Rattle.sarif_suppress.specs.Written.{suppressions_of}

one_status : (a b : Status) → ◌≡◌ {A = Result Status Fault} (Ok a) (Ok b) → a ≡ b
one_status a b e = cc

one_list : (a b : List Status) → ◌≡◌ {A = Result (List Status) Fault} (Ok a) (Ok b) → a ≡ b
one_list a b e = cc

one_answer : (a b : Bool) → ◌≡◌ {A = Result Bool Fault} (Ok a) (Ok b) → a ≡ b
one_answer a b e = cc

counted_accepted : (status : Status) → counts.names_accepted (Some status) ≡ is_accepted status
counted_accepted Accepted = refl
counted_accepted UnderReview = refl
counted_accepted Rejected = refl

-- the status that is read from this member
abbrev of_member : Option Data → Result Status Fault
of_member found = of_kind BadSuppression as_status (option_and_then unless_null found) >>= λ status. Ok (unwrap_or status Accepted)

named : (found : Option Status) (status : Status) → (or_wrong BadSuppression found >>= λ s. Ok (unwrap_or s Accepted)) ≡ Ok status
    → counts.names_accepted found ≡ is_accepted status
named None status read = let never : ⊥ = cc in absurd never
named (Some one) status read = counted_accepted one ∙ ap is_accepted (one_status one status read)

member_accepted : (found : Option Data) (status : Status) → of_member found ≡ Ok status → counts.accepts found ≡ is_accepted status
member_accepted None status read = ap is_accepted (one_status Accepted status read)
member_accepted (Some null) status read = ap is_accepted (one_status Accepted status read)
member_accepted (Some (boolean b)) status read = let never : ⊥ = cc in absurd never
member_accepted (Some (number n)) status read = let never : ⊥ = cc in absurd never
member_accepted (Some (string s)) status read = named (status_named s) status read
member_accepted (Some (array ds)) status read = let never : ⊥ = cc in absurd never
member_accepted (Some (object ms)) status read = let never : ⊥ = cc in absurd never

accepted : (d : Data) (status : Status) → status_of d ≡ Ok status → counts.accepts (get (codes "status") d) ≡ is_accepted status
accepted d status read =
    elim (check_suppression_kind d) as
    (λ kind. (kind >>= λ _. of_member (get (codes "status") d)) ≡ Ok status → counts.accepts (get (codes "status") d) ≡ is_accepted status) [
      | Ok _ ↦ λ is. member_accepted (get (codes "status") d) status is
      | Err fault ↦ λ no. let never : ⊥ = cc in absurd never
    ] read

-- what is counted of these values is what these statuses say
record Says (ds : List Data) (statuses : List Status) : Type 0 where
  accepted_all : counts.all_accepted (items_of ds) ≡ list_all is_accepted statuses
  counted : counts.suppresses (items_of ds) ≡ statuses_suppress statuses

says : (ds : List Data) (statuses : List Status) → read_each status_of ds ≡ Ok statuses → Says ds statuses
says [] statuses read =
    let none : [] ≡ statuses = one_list [] statuses read in
    record { accepted_all = ap (list_all is_accepted) none; counted = ap statuses_suppress none }
says (d ∷ ds) statuses read =
    elim (status_of d) as (λ s. status_of d ≡ s → (s >>= λ y. result_map (λ ys. y ∷ ys) (read_each status_of ds)) ≡ Ok statuses → Says (d ∷ ds) statuses) [
      | Ok status ↦ λ is rest.
          elim (read_each status_of ds) as (λ ss. read_each status_of ds ≡ ss → result_map (λ ys. status ∷ ys) ss ≡ Ok statuses → Says (d ∷ ds) statuses) [
            | Ok more ↦ λ are whole.
                let same : status ∷ more ≡ statuses = one_list (status ∷ more) statuses whole in
                let later : Says ds more = says ds more are in
                let all : counts.all_accepted (items_of (d ∷ ds)) ≡ list_all is_accepted (status ∷ more) = rw (accepted d status is, later.accepted_all) refl in
                rw (← same) (record { accepted_all = all; counted = all })
            | Err fault ↦ λ are no. let never : ⊥ = cc in absurd never
          ] refl rest
      | Err fault ↦ λ is no. let never : ⊥ = cc in absurd never
    ] refl read

pub counted_again : ((own : List Data) (file : File) (r : Record) → read_each status_of own ≡ Ok r.held
    → result_map statuses_suppress (read_each status_of (suppressions_of own file r)) ≡ Ok (is_suppressed file r))
    → (own : List Data) (file : File) (r : Record) → read_each status_of own ≡ Ok r.held
    → counts.suppresses (items_of (suppressions_of own file r)) ≡ is_suppressed file r
counted_again read_back own file r held =
    let written = suppressions_of own file r in
    elim (read_each status_of written) as
    (λ ss. read_each status_of written ≡ ss → result_map statuses_suppress ss ≡ Ok (is_suppressed file r)
    → counts.suppresses (items_of written) ≡ is_suppressed file r) [
      | Ok statuses ↦ λ are is. (says written statuses are).counted ∙ one_answer (statuses_suppress statuses) (is_suppressed file r) is
      | Err fault ↦ λ are no. let never : ⊥ = cc in absurd never
    ] refl (read_back own file r held)
