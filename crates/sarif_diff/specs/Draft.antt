-- A section of a diff: what its lines say about its file.
use Rattle.std.specs.Prelude.{ℕ, Bool, true, false, not, ◌&&◌, ◌||◌, ◌==◌, List, [], ◌∷◌, ◌++◌, length, drop, Option, Some, None, Result, Ok, Err, is_some, if◌then◌else◌}
use Rattle.std.specs.Option.{option_or, option_flatten}
use Rattle.sarif_model.specs.Members.{◌>>=◌, result_map}
use Rattle.sarif_diff.specs.Lines.{begins, past, trimmed}
use Rattle.sarif_diff.specs.Name.{moved_name, file_of}
use Rattle.sarif_diff.specs.Words.{text_of, word_of, is_link, is_submodule, is_pointer, is_commit}
use Rattle.sarif_diff.specs.Hunk.{sign_of, with_sign, is_open, ended_run}
use Rattle.sarif_diff.specs.declared.draft.SectionDraft.{SectionDraft}
use Rattle.sarif_diff.specs.declared.fault.LineFault.{LineFault}
use Rattle.sarif_diff.specs.declared.fault.LineFault.TheVariants.{BadHunk, BadHeader, Submodule}
use Rattle.sarif_diff.specs.declared.fault.DiffFault.{DiffFault}
use Rattle.sarif_diff.specs.declared.fault.DiffFault.TheVariants.{AtLine}
use Rattle.sarif_diff.specs.declared.hunk.Hunk.{Hunk}
use Rattle.sarif_diff.specs.declared.hunk.Sign.{Sign}
use Rattle.sarif_diff.specs.declared.hunk.Sign.TheVariants as sign
use Rattle.sarif_diff.specs.declared.section.Section.{Section}
use Rattle.sarif_diff.specs.declared.words.Word.{Word}
use Rattle.sarif_diff.specs.declared.words.Word.TheVariants as word

-- ---- the name of a section

-- what the lines `+++ ` and `--- ` name
abbrev pub file_in_lines : SectionDraft → Option (List ℕ)
file_in_lines d = option_or (option_flatten d.new_file) (option_flatten d.old_file)

-- the name of a section: that of a rename or a copy, that of `+++ ` or otherwise `--- `, or without such lines that of
-- `diff --git`
abbrev pub name_of : SectionDraft → Option (List ℕ)
name_of d = option_or d.moved (if is_some d.new_file || is_some d.old_file then file_in_lines d else d.git)

-- a section with this name
abbrev pub section_named : SectionDraft → Option (List ℕ) → Result Section DiffFault
section_named d None = Err (AtLine d.line BadHeader)
section_named d (Some name) = Ok (record { name = name; old = d.source; whole = d.whole; link = d.link; spans = d.spans })

abbrev pub section_of : SectionDraft → Result Section DiffFault
section_of d = section_named d (name_of d)

-- ---- the lines before the first hunk

-- a draft without lines: its first line, what `diff --git` names, and what `--- ` names
abbrev pub begun : ℕ → Option (List ℕ) → Option (Option (List ℕ)) → SectionDraft
begun line git old = record {
  line = line;
  git = git;
  moved = None;
  source = None;
  old_file = old;
  new_file = None;
  whole = false;
  link = false;
  spans = [];
  hunk = None;
}

-- whether a line with this word and these bytes after it belongs to the section
abbrev pub takes : SectionDraft → Word → List ℕ → Bool
takes d word.OldFile rest = not (is_some d.old_file)
takes d word.NewFile rest = not (is_some d.new_file)
takes d word.BinaryPatch rest = length rest == 0
takes d w rest = true

-- the word of a line that belongs to the section
abbrev pub taken : SectionDraft → List ℕ → Option Word → Option Word
taken d line None = None
taken d line (Some w) = if takes d w (past line (text_of w)) then Some w else None

abbrev pub own_word : SectionDraft → List ℕ → Option Word
own_word d line = if is_some d.hunk then None else taken d line (word_of line)

abbrev pub as_whole : SectionDraft → SectionDraft
as_whole d = record d { whole = true }

-- a draft with the mode at the end of this line
abbrev pub with_mode : List ℕ → SectionDraft → Result SectionDraft LineFault
with_mode line d =
    if is_submodule line then Err Submodule
    else Ok (if is_link line then record d { whole = true; link = true } else d)

abbrev pub with_moved : SectionDraft → List ℕ → SectionDraft
with_moved d name = record d { moved = option_or d.moved (Some name) }

abbrev pub with_source : SectionDraft → List ℕ → SectionDraft
with_source d name = record d { source = Some name }

abbrev pub with_old : SectionDraft → Option (List ℕ) → SectionDraft
with_old d file = record d { old_file = Some file }

abbrev pub with_new : SectionDraft → Option (List ℕ) → SectionDraft
with_new d file = record d { new_file = Some file }

-- a draft with a line of its section that begins with this word
abbrev pub with_word : SectionDraft → Word → List ℕ → Result SectionDraft LineFault
with_word d word.OldMode line = Ok (as_whole d)
with_word d word.NewMode line = with_mode line (as_whole d)
with_word d word.NewFileMode line = with_mode line d
with_word d word.DeletedFileMode line = Ok d
with_word d word.CopyFrom line = result_map (λ name. d) (moved_name (past line (text_of word.CopyFrom)))
with_word d word.CopyTo line = result_map (with_moved (as_whole d)) (moved_name (past line (text_of word.CopyTo)))
with_word d word.RenameFrom line = result_map (with_source d) (moved_name (past line (text_of word.RenameFrom)))
with_word d word.RenameTo line = result_map (with_moved d) (moved_name (past line (text_of word.RenameTo)))
with_word d word.RenameOld line = result_map (with_source d) (moved_name (past line (text_of word.RenameOld)))
with_word d word.RenameNew line = result_map (with_moved d) (moved_name (past line (text_of word.RenameNew)))
with_word d word.Similarity line = Ok d
with_word d word.Dissimilarity line = Ok d
with_word d word.Index line = with_mode line d
with_word d word.OldFile line = result_map (with_old d) (file_of (past line (text_of word.OldFile)))
with_word d word.NewFile line = result_map (with_new d) (file_of (past line (text_of word.NewFile)))
with_word d word.BinaryFiles line = Ok (as_whole d)
with_word d word.BinaryPatch line = Ok (as_whole d)

-- ---- the lines of hunks

-- whether a line is in this hunk: lines of it follow, or it is a remark
abbrev pub is_inside : Hunk → List ℕ → Bool
is_inside h line = is_open h || begins line (92 ∷ [])

-- the hunk that a line is in, if it is in the last one
abbrev pub hunk_around : Option Hunk → List ℕ → Option Hunk
hunk_around None line = None
hunk_around (Some h) line = if is_inside h line then Some h else None

-- a draft with this hunk, after one of its lines: the last line ends its last run
abbrev pub settled : SectionDraft → Hunk → Result SectionDraft DiffFault
settled d h =
    if is_open h then Ok (record d { hunk = Some h })
    else if h.changes then Ok (record d { spans = d.spans ++ ended_run h; hunk = Some (record h { run = None }) })
    else Err (AtLine h.header BadHunk)

-- whether the new file has one line
abbrev pub is_single : Hunk → Bool
is_single h = h.next == 1 && h.end == 2

-- a draft with an added line, before which its hunk is this one
abbrev pub with_added : SectionDraft → Hunk → List ℕ → Result SectionDraft LineFault
with_added d h text =
    if is_single h && is_commit text then Err Submodule
    else Ok (record d { whole = d.whole || is_pointer text })

-- what an added line is without the byte that says so
abbrev pub content : List ℕ → List ℕ
content line = trimmed (drop 1 line)

-- a draft with a line of its hunk of this kind, before which the hunk is `h`
abbrev pub with_line : SectionDraft → Hunk → Sign → List ℕ → Result SectionDraft LineFault
with_line d h sign.Old line = Ok d
with_line d h sign.New line = with_added d h (content line)
with_line d h sign.Both line = Ok (record d { spans = d.spans ++ ended_run h })
with_line d h sign.Neither line = Ok d

-- the error of a line at this place
abbrev pub at_line : {X : Type 0} → ℕ → Result X LineFault → Result X DiffFault
at_line number (Ok x) = Ok x
at_line number (Err fault) = Err (AtLine number fault)

-- the error of a hunk that goes on with no line of it
abbrev pub broken : ℕ → Hunk → DiffFault
broken number h = AtLine (if h.changes then number else h.header) BadHunk

-- a draft with one more line of its hunk
abbrev pub moved_on : ℕ → List ℕ → SectionDraft → Hunk → Sign → Option Hunk → Result SectionDraft DiffFault
moved_on number line d h s None = Err (broken number h)
moved_on number line d h s (Some next) = at_line number (with_line d h s line) >>= λ after. settled after next

abbrev pub with_hunk_sign : ℕ → List ℕ → SectionDraft → Hunk → Option Sign → Result SectionDraft DiffFault
with_hunk_sign number line d h None = Err (broken number h)
with_hunk_sign number line d h (Some s) = moved_on number line d h s (with_sign h s)

abbrev pub with_hunk_line : ℕ → List ℕ → SectionDraft → Hunk → Result SectionDraft DiffFault
with_hunk_line number line d h = with_hunk_sign number line d h (sign_of line)
