-- What a diff changes: its lines in order.
use Rattle.std.specs.Prelude.{ℕ, ◌+◌, Bool, true, false, not, ◌&&◌, ◌==◌, nat_le, List, [], ◌∷◌, ◌++◌, length, drop, Option, Some, None, Result, Ok, Err, is_some, codes, if◌then◌else◌}
use Rattle.sarif_model.specs.Members.{◌>>=◌, result_map}
use Rattle.sarif_diff.specs.Lines.{begins, trimmed, lines_of, without_mark}
use Rattle.sarif_diff.specs.Name.{git_file, file_of}
use Rattle.sarif_diff.specs.Words.{is_section, is_combined, is_plain, says_differ, hides_files}
use Rattle.sarif_diff.specs.Header.{ranges_of}
use Rattle.sarif_diff.specs.Hunk as hunks
use Rattle.sarif_diff.specs.Draft as drafts
use Rattle.sarif_diff.specs.Draft.{at_line, broken, name_of, own_word, with_word, section_of, hunk_around, is_inside, with_hunk_line}
use Rattle.sarif_diff.specs.declared.draft.SectionDraft.{SectionDraft}
use Rattle.sarif_diff.specs.declared.fault.LineFault.TheVariants.{Combined, BadHunk, BadHeader, Submodule, TooMany}
use Rattle.sarif_diff.specs.declared.fault.DiffFault.{DiffFault}
use Rattle.sarif_diff.specs.declared.fault.DiffFault.TheVariants.{NoChange, AtLine}
use Rattle.sarif_diff.specs.declared.header.Range.{Range}
use Rattle.sarif_diff.specs.declared.hunk.Hunk.{Hunk}
use Rattle.sarif_diff.specs.declared.hunk.Sign.{Sign}
use Rattle.sarif_diff.specs.declared.hunk.Sign.TheVariants as sign
use Rattle.sarif_diff.specs.declared.reading.Line.{Line}
use Rattle.sarif_diff.specs.declared.reading.Reading.{Reading}
use Rattle.sarif_diff.specs.declared.section.Change.{Change}
use Rattle.sarif_diff.specs.declared.section.Section.{Section}
use Rattle.sarif_diff.specs.declared.words.Word.{Word}

-- the most sections and the most hunks of a diff
abbrev pub most_sections : ℕ
most_sections = 1000000

abbrev pub most_hunks : ℕ
most_hunks = 1000000

-- a line: its number, its bytes, and the lines that follow it
pub record NumberedLine : Type 0 where
  pub number : ℕ
  pub bytes : List ℕ
  pub rest : List (List ℕ)

abbrev pub numbered : Line → NumberedLine
numbered line = record { number = line.number; bytes = line.bytes.now; rest = lines_of line.rest.now }

abbrev pub trimmed_line : NumberedLine → NumberedLine
trimmed_line line = record line { bytes = trimmed line.bytes }

-- the sections that ended, and the section that a line is in
abbrev pub ReadingState : Type 0
ReadingState = Reading × Option SectionDraft

-- with the section that ends
abbrev pub with_section : Reading → Section → Reading
with_section r s = record r { sections = r.sections ++ s ∷ [] }

abbrev pub closed : Reading → SectionDraft → Result Reading DiffFault
closed r d = result_map (with_section r) (section_of d)

-- ---- the beginnings of sections

-- a section that begins, unless it is one too many
abbrev pub with_begun : ℕ → Reading → SectionDraft → Result ReadingState DiffFault
with_begun number r d =
    if nat_le most_sections (length r.sections) then Err (AtLine number TooMany) else Ok (r, Some d)

abbrev pub git_begun : NumberedLine → Reading → Result ReadingState DiffFault
git_begun line r =
    at_line line.number (git_file (drop 11 line.bytes)) >>= λ file.
    with_begun line.number r (drafts.begun line.number file None)

abbrev pub plain_begun : NumberedLine → Reading → Result ReadingState DiffFault
plain_begun line r =
    at_line line.number (file_of (drop 4 line.bytes)) >>= λ file.
    with_begun line.number r (drafts.begun line.number None (Some file))

-- ---- lines that are in no hunk

-- a line of text, which is in no section
abbrev pub text_line : NumberedLine → Reading → Result ReadingState DiffFault
text_line line r =
    if begins line.bytes (codes "@@ -") then Err (AtLine line.number BadHunk)
    else if is_plain line.bytes line.rest then plain_begun line r
    else if says_differ line.bytes then Err (AtLine line.number BadHeader)
    else if hides_files line.bytes line.rest then Err (AtLine line.number Submodule)
    else Ok (r, None)

-- a line that follows no section
abbrev pub outer_line : NumberedLine → Reading → Result ReadingState DiffFault
outer_line line r =
    if is_section line.bytes then git_begun line r
    else if is_combined line.bytes then Err (AtLine line.number Combined)
    else text_line line r

-- the header of a hunk
abbrev pub with_ranges : ℕ → Reading → SectionDraft → Option (Range × Range) → Result ReadingState DiffFault
with_ranges number r d None = Err (AtLine number BadHunk)
with_ranges number r d (Some p) =
    Ok (record r { hunks = r.hunks + 1 }, Some (record d { hunk = Some (hunks.begun number p.0 p.1) }))

abbrev pub header_line : NumberedLine → Reading → SectionDraft → Result ReadingState DiffFault
header_line line r d =
    if not (is_some (name_of d)) then Err (AtLine d.line BadHeader)
    else if nat_le most_hunks r.hunks then Err (AtLine line.number TooMany)
    else with_ranges line.number r d (ranges_of line.bytes)

-- a line that belongs to the section, by its word, or that ends it
abbrev pub own_line : NumberedLine → Reading → SectionDraft → Option Word → Result ReadingState DiffFault
own_line line r d (Some w) =
    result_map (λ next. (r, Some next)) (at_line line.number (with_word d w line.bytes))
own_line line r d None = closed r d >>= λ next. text_line line next

-- a line that follows a section, and is in no hunk
abbrev pub inner_line : NumberedLine → Reading → SectionDraft → Result ReadingState DiffFault
inner_line line r d =
    if is_section line.bytes then (closed r d >>= λ next. git_begun line next)
    else if is_combined line.bytes then Err (AtLine line.number Combined)
    else if begins line.bytes (codes "@@ ") then header_line line r d
    else own_line line r d (own_word d line.bytes)

-- ---- all lines

abbrev pub hunk_line : NumberedLine → Reading → SectionDraft → Hunk → Result ReadingState DiffFault
hunk_line line r d h = result_map (λ next. (r, Some next)) (with_hunk_line line.number line.bytes d h)

-- a line that follows a section, by the hunk that it is in
abbrev pub section_line : NumberedLine → Reading → SectionDraft → Option Hunk → Result ReadingState DiffFault
section_line line r d None = inner_line (trimmed_line line) r d
section_line line r d (Some h) = hunk_line line r d h

-- any line
abbrev pub next_line : NumberedLine → Reading → Option SectionDraft → Result ReadingState DiffFault
next_line line r None = outer_line (trimmed_line line) r
next_line line r (Some d) = section_line line r d (hunk_around d.hunk line.bytes)

-- whether a line adds one to the new file
abbrev pub is_new : Option Sign → Bool
is_new None = false
is_new (Some sign.Old) = false
is_new (Some sign.New) = true
is_new (Some sign.Both) = false
is_new (Some sign.Neither) = false

abbrev pub adds_in : Option Hunk → List ℕ → Bool
adds_in None line = false
adds_in (Some h) line = is_inside h line && is_new (hunks.sign_of line)

abbrev pub adds : Option SectionDraft → List ℕ → Bool
adds None line = false
adds (Some d) line = adds_in d.hunk line

-- ---- the end

-- the hunk that the diff ends within
abbrev pub unended : ℕ → Option Hunk → Option DiffFault
unended number None = None
unended number (Some h) = if hunks.is_open h then Some (broken number h) else None

abbrev pub closed_unless : Reading → SectionDraft → Option DiffFault → Result Reading DiffFault
closed_unless r d None = closed r d
closed_unless r d (Some fault) = Err fault

-- the sections at the end; `number` is one more than that of the last line
abbrev pub ended : ℕ → Reading → Option SectionDraft → Result Reading DiffFault
ended number r None = Ok r
ended number r (Some d) = closed_unless r d (unended number d.hunk)

abbrev pub change : ℕ → Reading → Result Change DiffFault
change added r =
    if length r.sections == 0 then Err NoChange else Ok (record { sections = r.sections; added = added })

-- the change of a diff, from these lines on
unfoldable pub change_from : ℕ → ℕ → Reading → Option SectionDraft → List (List ℕ) → Result Change DiffFault
change_from number added r draft [] = ended number r draft >>= change added
change_from number added r draft (line ∷ rest) =
    next_line (record { number = number; bytes = line; rest = rest }) r draft >>= λ next.
    change_from (number + 1) (if adds draft line then added + 1 else added) next.0 next.1 rest

abbrev pub nothing : Reading
nothing = record { sections = []; hunks = 0 }

-- what a diff changes, section by section
abbrev pub sections_of : List ℕ → Result Change DiffFault
sections_of bytes = change_from 1 0 nothing None (lines_of (without_mark bytes))
