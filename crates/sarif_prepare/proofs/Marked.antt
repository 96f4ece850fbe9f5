-- The marks that drafts leave on the entries of a suppression file.
use Rattle.std.proofs.Common.{◌≡◌, List, [], ◌∷◌, ◌++◌, length, refl, sym, ap, ◌∙◌, arith, append-nil, append_assoc}
use Rattle.serde_json.specs.Data.{Data}
use Rattle.sarif_model.specs.declared.record.Record.{Record}
use Rattle.sarif_entries.specs.File.{File}
use Rattle.sarif_suppress.specs.Internal.Marks.{marks_of, with_marks}
use Rattle.sarif_suppress.specs.Suppressing.{matching_numbers}
use Rattle.sarif_suppress.proofs.Marked.{one_more}
use Rattle.sarif_results.specs.Drafts.{applied_of, drafts_by}
use Rattle.sarif_prepare.specs.Internal.Marked.{marked}
use Rattle.sarif_log.specs.LogBy.{listing_of}

-- drafts of these results add the marks of these results
pub marks_drawn : (file : File) (before rs : List Record) (ds : List Data) → length rs ≡ length ds
    → marked (marks_of file before) (drafts_by (listing_of file) (applied_of file) rs ds) ≡ marks_of file (before ++ rs)
marks_drawn file before [] ds same = ap (marks_of file) (sym (append-nil before))
marks_drawn file before (r ∷ rs) [] same = absurd (omega (arith, same))
marks_drawn file before (r ∷ rs) (d ∷ ds) same =
    let rest = drafts_by (listing_of file) (applied_of file) rs ds in
    let here =
    one_more (marks_of file before) (with_marks (marks_of file before) (matching_numbers file r)) (matching_numbers file r)
    file before r refl refl refl in
    ap (λ marks. marked marks rest) here
    ∙ marks_drawn file (before ++ r ∷ []) rs ds (omega (arith, same))
    ∙ ap (marks_of file) (append_assoc before (r ∷ []) rs)
