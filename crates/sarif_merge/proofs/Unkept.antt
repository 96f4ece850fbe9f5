-- Why there is nothing for later merges: no read or write failed.
use Rattle.std.proofs.Common.{◌≡◌, ◌++◌, ℕ, true, false, List, [], ◌∷◌, Option, Some, None, inl, inr, length, refl, ap, ◌∙◌, if◌then◌else◌}
use Rattle.std.specs.Prelude.{nat_lt, Ok, ok_or}
use Rattle.std.specs.List.{AllByRecursion}
use Rattle.serde_json.specs.Data.{Data}
use Rattle.json_parts.specs.Indexed.{json_of}
use Rattle.json_parts.specs.Mark.{without_mark}
use Rattle.sarif_model.specs.Limits.{most_bytes, most_entries}
use Rattle.sarif_model.specs.declared.merge_fault.MergeFault.{MergeFault}
use Rattle.sarif_model.specs.declared.merge_fault.At.{At}
use Rattle.sarif_model.specs.declared.merge_fault.At.TheVariants.{Whole}
use Rattle.sarif_model.specs.declared.merge_fault.Cause.TheVariants.{TooLong}
use Rattle.sarif_model.specs.declared.merge_fault.Source.TheVariants.{Suppress, Known}
use Rattle.sarif_model.specs.declared.fault.Fault.TheVariants.{TooMany, NotJson}
use Rattle.sarif_model.specs.FirstFault.{first}
use Rattle.sarif_model.specs.MergeFault.{cause_of, exit_status, fault_at}
use Rattle.sarif_options.specs.declared.upkeep.Knowing.{Knowing}
use Rattle.sarif_options.specs.declared.upkeep.Renewal.{Renewal}
use Rattle.sarif_options.specs.declared.upkeep.Upkeep.{Upkeep}
use Rattle.sarif_accept.specs.NewFile.{file_text}
use Rattle.sarif_known.specs.KnownLog.{known_text}
use Rattle.sarif_entries.specs.File.{check_count, check_list, check_version, entries_from, file_of, file_of_value, File}
use Rattle.sarif_read.proofs.WholeRuns.{bind_ok}
use Rattle.sarif_upkeep.specs.Internal.IsMatched.{IsFileOf}
use Rattle.sarif_upkeep.specs.Known.{known_faults, runs_known}
use Rattle.sarif_upkeep.specs.Life.{if_known, if_misfit, if_renewed, life_faults}
use Rattle.sarif_upkeep.specs.Merge.{Merge}
use Rattle.sarif_upkeep.specs.Renewed.{entries_count, rules_after, text_faults}
use Rattle.sarif_prepare.specs.Kept.{IsUnkept}
use Rattle.sarif_entries.specs.Given.{file_or_none}
use Rattle.sarif_entries.specs.FileFault.{whole}

abbrev IsQuietFault : MergeFault → Type 0
IsQuietFault fault = exit_status fault.cause ≡ 2

all_both : (xs ys : List MergeFault) → AllByRecursion IsQuietFault xs → AllByRecursion IsQuietFault ys → AllByRecursion IsQuietFault (xs ++ ys)
all_both [] ys of_xs of_ys = of_ys
all_both (x ∷ xs) ys of_xs of_ys = (of_xs.0, all_both xs ys of_xs.1 of_ys)

of_text : (entries : ℕ) (value : Data) → AllByRecursion IsQuietFault (text_faults entries value)
of_text entries value =
    elim (nat_lt most_entries entries) as (λ b. AllByRecursion IsQuietFault (if b then fault_at (Whole Suppress) (cause_of TooMany) ∷ []
    else (if nat_lt most_bytes (length (file_text value)) then fault_at (Whole Suppress) TooLong ∷ [] else []))) [
      | true ↦ (refl, tt)
      | false ↦ elim (nat_lt most_bytes (length (file_text value))) as
          (λ b. AllByRecursion IsQuietFault (if b then fault_at (Whole Suppress) TooLong ∷ [] else [])) [ true ↦ (refl, tt) | false ↦ tt ]
    ]

of_known : (m : Merge) (knowing : Knowing) → AllByRecursion IsQuietFault (known_faults m knowing)
of_known m knowing =
    elim (nat_lt most_bytes (length (known_text (runs_known m knowing)))) as
    (λ b. AllByRecursion IsQuietFault (if b then fault_at (Whole Known) TooLong ∷ [] else [])) [ true ↦ (refl, tt) | false ↦ tt ]

of_renewed : (m : Merge) (renewal : Option Renewal) → AllByRecursion IsQuietFault (if_renewed m renewal)
of_renewed m None = tt
of_renewed m (Some renewal) = of_text (entries_count m renewal) (rules_after m renewal)

of_known_if : (m : Merge) (knowing : Option Knowing) → AllByRecursion IsQuietFault (if_known m knowing)
of_known_if m None = tt
of_known_if m (Some knowing) = of_known m knowing

of_misfit : (misfit : Option At) → AllByRecursion IsQuietFault (if_misfit misfit)
of_misfit None = tt
of_misfit (Some at) = (refl, tt)

of_life : (m : Merge) (upkeep : Option Upkeep) → AllByRecursion IsQuietFault (life_faults m upkeep)
of_life m None = tt
of_life m (Some upkeep) =
    all_both (if_misfit m.misfit) (if_renewed m upkeep.renewal ++ if_known m upkeep.known) (of_misfit m.misfit)
    (all_both (if_renewed m upkeep.renewal) (if_known m upkeep.known) (of_renewed m upkeep.renewal) (of_known_if m upkeep.known))

first_quiet : (faults : List MergeFault) (fault : MergeFault) → AllByRecursion IsQuietFault faults → first faults ≡ Some fault → IsQuietFault fault
first_quiet [] fault all is = let never : ⊥ = cc in absurd never
first_quiet (x ∷ xs) fault all is = let same : x ≡ fault = cc in rw (← same) all.0

pub unkept_quiet : (m : Merge) (upkeep : Option Upkeep) (fault : MergeFault) → IsUnkept m upkeep fault → exit_status fault.cause ≡ 2
unkept_quiet m upkeep fault (inl out) = rw out refl
unkept_quiet m upkeep fault (inr found) = first_quiet (life_faults m upkeep) fault (of_life m upkeep) found

-- ---- the suppression file, and the bytes that it was read from

same_day : (bytes : List ℕ) (today : Option ℕ) (file : File) → file_of bytes today ≡ Ok file → file.today ≡ today
unfolding file_of file_of_value
same_day bytes today file is =
    let parsed = bind_ok (ok_or (json_of (without_mark bytes)) (whole NotJson)) _ file is in
    let d = parsed.0 in
    let list = bind_ok (check_list d) _ file parsed.2 in
    let version = bind_ok (check_version d) _ file list.2 in
    let count = bind_ok (check_count list.0) _ file version.2 in
    let es = bind_ok (entries_from version.0 today 0 list.0) _ file count.2 in
    let same : ◌≡◌ {A = File} file (record { entries = es.0; today = today }) = cc es.2 in
    ap (λ (f : File). f.today) same

pub file_was_read : (bytes : Option (List ℕ)) (today : Option ℕ) (file : File) → file_or_none bytes today ≡ Ok file → IsFileOf bytes file
file_was_read None today file is = let same : ◌≡◌ {A = File} file (record { entries = []; today = today }) = cc in ap (λ (f : File). f.entries) same
file_was_read (Some bytes) today file is = ap (file_of bytes) (same_day bytes today file is) ∙ is
