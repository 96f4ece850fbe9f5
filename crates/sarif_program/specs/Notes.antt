-- The lines on what a merge gives for later merges, on copies, and on what happened: this project's own format.
use Rattle.std.specs.Prelude.{◌≡◌, ℕ, Bool, List, [], ◌++◌, ◌==◌, Option, None, Some, take, codes, if◌then◌else◌}
use Rattle.std.specs.Fmt.{decimal}
use Rattle.std.specs.Io.KnownBytes.{Appends}
use Rattle.std.specs.Option.{option_map_or}
use Rattle.sarif_counts.specs.declared.life.KnownLog.{KnownLog}
use Rattle.sarif_counts.specs.declared.life.Life.{Life}
use Rattle.sarif_counts.specs.declared.life.NewFile.{NewFile}
use Rattle.sarif_counts.specs.Summary.{newline}
use Rattle.sarif_log.specs.declared.facts.Facts.{Facts as MergeFacts}
use Rattle.sarif_log.specs.declared.merged.Merged.{Merged}
use Rattle.sarif_request.specs.declared.request.Request.{Request}
use Rattle.sarif_shown.specs.Sentences.{counted, entries_text, runs_text}
use Rattle.sarif_streams.specs.Counted.{failed_calls, inner_of}
use Rattle.sarif_program.specs.declared.complaint.Complaints.{Complaints}

-- how many hits are alike, if not all hits are chosen, and how many stay
abbrev pub left_text : Option ℕ → ℕ → List ℕ
left_text None stay = decimal stay
left_text (Some n) stay = decimal n ++ (codes " alike, " ++ decimal stay)

-- the line on a new suppression file, with this for the hits that are left
abbrev pub file_with : NewFile → List ℕ → List ℕ
file_with file left =
    codes "sarif_gate: " ++ (decimal file.accepted
    ++ (codes " accepted, " ++ (left
    ++ (codes " stay, " ++ (decimal file.pruned
    ++ (codes " pruned, " ++ (decimal file.entries ++ (codes " entries" ++ newline))))))))

-- the line on a new suppression file
abbrev pub file_line : NewFile → List ℕ
file_line file = file_with file (left_text file.alike file.stay)

-- the line on a known log
abbrev pub log_line : KnownLog → List ℕ
log_line log =
    codes "sarif_gate: " ++ (decimal log.known
    ++ (codes " known, " ++ (decimal log.left_out
    ++ (codes " left out, " ++ (decimal log.kept ++ (codes " kept" ++ newline))))))

-- a line for each of the two that there is
abbrev pub lines_of : Life → List ℕ
lines_of life = option_map_or file_line life.suppressions [] ++ option_map_or log_line life.known []

-- the line on copies, if copies aren't counted
abbrev pub copies_line : Option ℕ → List ℕ
copies_line None = []
copies_line (Some n) = codes "sarif_gate: " ++ (decimal n ++ (codes " copies" ++ newline))

-- a sentence on a line
abbrev pub told_line : List ℕ → List ℕ
told_line sentence = codes "sarif_gate: " ++ (sentence ++ newline)

-- a line, if there is a number to say something about
abbrev pub told_if : ℕ → List ℕ → List ℕ
told_if n sentence = if n == 0 then [] else told_line sentence

-- how many entries of the suppression file are expired
abbrev pub expired_text : ℕ → List ℕ
expired_text n =
    counted n (codes " suppression entry has expired.")
    (codes " suppression entries have expired.")

-- what happened: how many runs have no results, how many suppression entries match nothing, and how many of these are
-- expired
abbrev pub happened : ℕ → ℕ → ℕ → List ℕ
happened without unused expired =
    told_if without (runs_text without)
    ++ (told_if unused (entries_text unused) ++ told_if expired (expired_text expired))

-- the lines on what happened, if explanations are requested
abbrev pub happened_if : Bool → ℕ → ℕ → ℕ → List ℕ
happened_if explain without unused expired =
    if explain then happened without unused expired else []

-- all lines of a merge with these facts
abbrev pub lines_with : Request → MergeFacts → List ℕ
lines_with request facts =
    lines_of facts.life.now
    ++ (copies_line facts.copies
    ++ happened_if request.explain facts.without facts.unused facts.expired)

-- all lines of this merge
abbrev pub lines_for : Request → Merged → List ℕ
lines_for request merged =
    lines_of merged.life
    ++ (copies_line merged.copies
    ++ happened_if request.explain merged.without merged.unused merged.expired)

-- these lines were written, or a prefix of them if a write failed; no error was reported, and nothing was written if
-- there are no lines
pub record AreNoted {E : Type 0} (contents : E → Option (List ℕ)) (lines : List ℕ)
    (old new : Complaints E) : Type 0 where
  pub whole : failed_calls new.out ≡ failed_calls old.out
      → Appends (contents (inner_of old.out)) (contents (inner_of new.out)) lines
  pub prefix : (n : ℕ)
      × Appends (contents (inner_of old.out)) (contents (inner_of new.out)) (take n lines)
  pub last : new.last ≡ old.last
  pub explained : new.is_explained ≡ old.is_explained
  pub none : lines ≡ [] → new ≡ old
