-- What a line of a diff begins with, outside of hunks.
use Rattle.std.specs.Prelude.{ℕ, Bool, false, not, ◌&&◌, ◌||◌, nat_le, nat_lt, ◌==◌, List, [], ◌∷◌, length, drop, Option, Some, None, codes, if◌then◌else◌}
use Rattle.std.specs.List.{position_or_len}
use Rattle.std.specs.Char.{is_ascii_hexdigit}
use Rattle.sarif_diff.specs.Lines.{begins, ends, first_line}
use Rattle.sarif_diff.specs.declared.words.Word.{Word}
use Rattle.sarif_diff.specs.declared.words.Word.TheVariants as word

-- the keywords with which the lines of a section begin, before its first hunk
abbrev pub text_of : Word → List ℕ
text_of word.OldMode = codes "old mode "
text_of word.NewMode = codes "new mode "
text_of word.NewFileMode = codes "new file mode "
text_of word.DeletedFileMode = codes "deleted file mode "
text_of word.CopyFrom = codes "copy from "
text_of word.CopyTo = codes "copy to "
text_of word.RenameFrom = codes "rename from "
text_of word.RenameTo = codes "rename to "
text_of word.RenameOld = codes "rename old "
text_of word.RenameNew = codes "rename new "
text_of word.Similarity = codes "similarity index "
text_of word.Dissimilarity = codes "dissimilarity index "
text_of word.Index = codes "index "
text_of word.OldFile = codes "--- "
text_of word.NewFile = codes "+++ "
text_of word.BinaryFiles = codes "Binary files "
text_of word.BinaryPatch = codes "GIT binary patch"

-- the first of these keywords that a line begins with
abbrev pub first_word : List Word → List ℕ → Option Word
first_word [] line = None
first_word (w ∷ words) line = if begins line (text_of w) then Some w else first_word words line

abbrev pub all_words : List Word
all_words =
    word.OldMode ∷ word.NewMode ∷ word.NewFileMode ∷ word.DeletedFileMode ∷ word.CopyFrom ∷ word.CopyTo ∷ word.RenameFrom
    ∷ word.RenameTo ∷ word.RenameOld ∷ word.RenameNew ∷ word.Similarity ∷ word.Dissimilarity ∷ word.Index ∷ word.OldFile
    ∷ word.NewFile ∷ word.BinaryFiles ∷ word.BinaryPatch ∷ []

abbrev pub word_of : List ℕ → Option Word
word_of line = first_word all_words line

-- whether a line begins a section, or a comparison with several parents
abbrev pub is_section : List ℕ → Bool
is_section line = begins line (codes "diff --git ")

abbrev pub is_combined : List ℕ → Bool
is_combined line =
    begins line (codes "diff --cc ") || begins line (codes "diff --combined ") || begins line (codes "@@@ ")
    || begins line (codes "* Unmerged path ")

-- whether a line `--- ` with these after it begins a section
abbrev pub is_plain : List ℕ → List (List ℕ) → Bool
is_plain line rest =
    begins line (codes "--- ") && begins (first_line rest) (codes "+++ ") && begins (first_line (drop 1 rest)) (codes "@@")

-- whether a line of text says that two files differ
abbrev pub says_differ : List ℕ → Bool
says_differ line = begins line (codes "Binary files ") && ends line (codes " differ")

-- ---- submodules, links and pointers

abbrev pub is_link : List ℕ → Bool
is_link line = ends line (codes " 120000")

abbrev pub is_submodule : List ℕ → Bool
is_submodule line = ends line (codes " 160000")

-- how many hexadecimal digits these bytes begin with
abbrev pub is_no_digit : ℕ → Bool
is_no_digit b = not (is_ascii_hexdigit b)

abbrev pub digits_in : List ℕ → ℕ
digits_in text = position_or_len is_no_digit text

-- a pointer of Git LFS: the file is kept elsewhere
abbrev pub is_pointer : List ℕ → Bool
is_pointer text =
    begins text (codes "oid sha256:") && length text == 75 && digits_in (drop 11 text) == 64

-- the commit of a submodule
abbrev pub ends_commit : List ℕ → Bool
ends_commit rest = length rest == 0 || (begins rest (codes "-dirty") && length rest == 6)

abbrev pub is_number_of_commit : List ℕ → Bool
is_number_of_commit text =
    nat_le 40 (digits_in text) && nat_le (digits_in text) 64 && ends_commit (drop (digits_in text) text)

abbrev pub is_commit : List ℕ → Bool
is_commit text = begins text (codes "Subproject commit ") && is_number_of_commit (drop 18 text)

-- two commits with two or three dots between them, and anything
abbrev pub begins_digits : List ℕ → Bool
begins_digits text = nat_lt 0 (digits_in text)

abbrev pub after_dots : List ℕ → List ℕ
after_dots text = if begins text (codes "...") then drop 3 text else drop 2 text

abbrev pub begins_dots : List ℕ → Bool
begins_dots text = begins text (codes "..") && begins_digits (after_dots text)

abbrev pub begins_commits : List ℕ → Bool
begins_commits text = begins_digits text && begins_dots (drop (digits_in text) text)

-- whether they follow a space somewhere
abbrev pub has_commits : List ℕ → Bool
has_commits [] = false
has_commits (b ∷ bs) = (b == 32 && begins_commits bs) || has_commits bs

-- whether a line of text is about the new commit of a submodule
abbrev pub is_log : List ℕ → Bool
is_log line =
    begins line (codes "Submodule ")
    && (ends line (codes " contains modified content") || has_commits (drop 10 line))

-- whether it says that its changes follow, or that it was removed
abbrev pub is_told : List ℕ → List ℕ → Bool
is_told line next = is_section next || begins next (codes "Submodule ") || ends line (codes "(submodule deleted)")

-- whether a line of text, with these after it, changes files of a submodule that it doesn't name
abbrev pub hides_files : List ℕ → List (List ℕ) → Bool
hides_files line rest =
    is_log line && (ends line (codes "(commits not present)") || not (is_told line (first_line rest)))
