-- Keys of the table are equal where their records are.
use Rattle.std.proofs.Common.{◌≡◌, ◌&&◌, ◌==◌, Bool, List, [], ◌∷◌, bytes_eq, refl}
use Rattle.std.specs.Option.{option_eq}
use Rattle.std.specs.Cmp.Lexicographic.{pointwise}
use Rattle.sarif_model.specs.declared.kinds.Kind.{Kind}
use Rattle.sarif_model.specs.declared.kinds.Kind.TheVariants.{Pass, Undecided, Informational, NotApplicable, Review, Fail}
use Rattle.sarif_model.specs.declared.kinds.Level.{Level}
use Rattle.sarif_model.specs.declared.kinds.Level.TheVariants.{NoLevel, Note, Warning, Error}
use Rattle.sarif_model.specs.declared.kinds.Status.{Status}
use Rattle.sarif_model.specs.declared.kinds.Status.TheVariants.{Accepted, UnderReview, Rejected}
use Rattle.sarif_model.specs.contracts.kinds.KindPartialEq.TheImpl as kinds
use Rattle.sarif_model.specs.contracts.kinds.LevelPartialEq.TheImpl as levels
use Rattle.sarif_model.specs.contracts.kinds.StatusPartialEq.TheImpl as statuses
use Rattle.sarif_model.specs.Level.{severity}
use Rattle.sarif_evidence.specs.EqualParts.{message_eq, pairs_eq, place_eq, region_eq}
use Rattle.sarif_evidence.specs.State.{kind_number}
use Rattle.sarif_copies.specs.declared.whole_record.WholeRecord.{WholeRecord}
use Rattle.sarif_copies.specs.Copies.{record_eq, status_number}
use Rattle.sarif_copies.specs.Internal.Table.{fields_of, same_whole}

kind_test : (k l : Kind) → kinds.ghosts.eq k l ≡ (kind_number k == kind_number l)
kind_test Pass Pass = refl
kind_test Pass Undecided = refl
kind_test Pass Informational = refl
kind_test Pass NotApplicable = refl
kind_test Pass Review = refl
kind_test Pass Fail = refl
kind_test Undecided Pass = refl
kind_test Undecided Undecided = refl
kind_test Undecided Informational = refl
kind_test Undecided NotApplicable = refl
kind_test Undecided Review = refl
kind_test Undecided Fail = refl
kind_test Informational Pass = refl
kind_test Informational Undecided = refl
kind_test Informational Informational = refl
kind_test Informational NotApplicable = refl
kind_test Informational Review = refl
kind_test Informational Fail = refl
kind_test NotApplicable Pass = refl
kind_test NotApplicable Undecided = refl
kind_test NotApplicable Informational = refl
kind_test NotApplicable NotApplicable = refl
kind_test NotApplicable Review = refl
kind_test NotApplicable Fail = refl
kind_test Review Pass = refl
kind_test Review Undecided = refl
kind_test Review Informational = refl
kind_test Review NotApplicable = refl
kind_test Review Review = refl
kind_test Review Fail = refl
kind_test Fail Pass = refl
kind_test Fail Undecided = refl
kind_test Fail Informational = refl
kind_test Fail NotApplicable = refl
kind_test Fail Review = refl
kind_test Fail Fail = refl

level_test : (k l : Level) → levels.ghosts.eq k l ≡ (severity k == severity l)
level_test NoLevel NoLevel = refl
level_test NoLevel Note = refl
level_test NoLevel Warning = refl
level_test NoLevel Error = refl
level_test Note NoLevel = refl
level_test Note Note = refl
level_test Note Warning = refl
level_test Note Error = refl
level_test Warning NoLevel = refl
level_test Warning Note = refl
level_test Warning Warning = refl
level_test Warning Error = refl
level_test Error NoLevel = refl
level_test Error Note = refl
level_test Error Warning = refl
level_test Error Error = refl

abbrev status_eq : Status → Status → Bool
status_eq s t = status_number s == status_number t

status_test : (s t : Status) → statuses.ghosts.eq s t ≡ status_eq s t
status_test Accepted Accepted = refl
status_test Accepted UnderReview = refl
status_test Accepted Rejected = refl
status_test UnderReview Accepted = refl
status_test UnderReview UnderReview = refl
status_test UnderReview Rejected = refl
status_test Rejected Accepted = refl
status_test Rejected UnderReview = refl
status_test Rejected Rejected = refl

held_test : (ss ts : List Status) → pointwise statuses.ghosts.eq ss ts ≡ pointwise status_eq ss ts
held_test [] [] = refl
held_test [] (t ∷ ts) = refl
held_test (s ∷ ss) [] = refl
held_test (s ∷ ss) (t ∷ ts) = λ i. status_test s t i && held_test ss ts i

pub same_is_equal : (a b : WholeRecord) → same_whole a b ≡ record_eq (fields_of a) (fields_of b)
same_is_equal a b =
    let x = fields_of a in
    let y = fields_of b in
    λ i. bytes_eq x.tool y.tool
    && (bytes_eq x.rule_id y.rule_id
    && (kind_test x.kind y.kind i
    && (level_test x.level y.level i
    && (message_eq x.message y.message
    && (place_eq x.place y.place
    && (option_eq ◌==◌ x.guid y.guid
    && (pairs_eq x.full y.full
    && (pairs_eq x.partial y.partial
    && (held_test x.held y.held i
    && (option_eq region_eq x.region y.region
    && (option_eq bytes_eq x.snippet y.snippet
    && pointwise ◌==◌ x.admitted y.admitted)))))))))))
