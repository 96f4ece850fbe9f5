-- What replaces arguments if some of them name files of arguments.
use Rattle.std.specs.Prelude.{◌≡◌, ℕ, ◌==◌, ◌||◌, ◌++◌, Bool, false, List, [], ◌∷◌, ⊤, Option, Some, None, is_some, Result, Ok, Err, MatchOption, MatchResult, Vec, String, bytes_eq, codes, map, string_bytes, if◌then◌else◌}
use Rattle.std.specs.List.{list_any}
use Rattle.sarif_model.specs.declared.refusal.Refusal.{Refusal}
use Rattle.sarif_model.specs.declared.refusal.Refusal.TheVariants as refusal
use Rattle.sarif_streams.specs.declared.source.SourceFault.TheVariants as source
use Rattle.sarif_arguments.specs.declared.file_fault.ArgumentFileFault.{ArgumentFileFault}
use Rattle.sarif_arguments.specs.declared.file_fault.ArgumentFileFault.TheVariants.{TooLong}
use Rattle.sarif_arguments.specs.declared.fault.ArgumentsFault.{ArgumentsFault}
use Rattle.sarif_arguments.specs.declared.fault.ArgumentsFault.TheVariants.{Unread, Invalid, NoneLeft}
use Rattle.sarif_arguments.specs.File.{arguments_in}
use Rattle.sarif_arguments.specs.Reading.{Read}

-- a list of arguments, or why there is none
abbrev pub Arguments : Type 0
Arguments = Result (List (List ℕ)) ArgumentsFault

-- the file that an argument names: `@` and its name, which has at least one byte
abbrev pub file_named : List ℕ → Option (List ℕ)
file_named [] = None
file_named (sign ∷ []) = None
file_named (sign ∷ byte ∷ bytes) = if sign == 64 then Some (byte ∷ bytes) else None

abbrev pub names_file : List ℕ → Bool
names_file word = is_some (file_named word)

-- after an argument `--` all arguments are left unchanged
abbrev pub file_in : Bool → List ℕ → Option (List ℕ)
file_in is_ended word = if is_ended then None else file_named word

abbrev pub is_end : List ℕ → Bool
is_end word = bytes_eq word (codes "--")

-- the arguments of a file with this name, or the error in it
abbrev pub of_file : List ℕ → Result (List (List ℕ)) ArgumentFileFault → Arguments
of_file name (Ok words) = Ok words
of_file name (Err fault) = Err (Invalid name fault)

-- the arguments that a file gives by what reading it gave
abbrev pub given_by : List ℕ → Read → Arguments
given_by name (Ok bytes) = of_file name (arguments_in bytes)
given_by name (Err source.ReadFailed) = Err (Unread name)
given_by name (Err source.TooLong) = Err (Invalid name TooLong)

-- what replaces one argument: itself, or the arguments in the file that it names; `gives` says what reading the file
-- of a name may give
abbrev pub StandsFor : (List ℕ → Read → Type 0) → Bool → List ℕ → Arguments → Type 0
StandsFor gives is_ended word all = MatchOption (file_in is_ended word) (all ≡ Ok (word ∷ []))
    (λ name. (read : Read) × gives name read × (all ≡ given_by name read))

-- these arguments, and then others
abbrev pub before : List (List ℕ) → Arguments → Arguments
before words (Ok others) = Ok (words ++ others)
before words (Err fault) = Err fault

-- what replaces arguments, in order; the first error counts. After a `--`, even one in a file, none names a file
abbrev pub StandFor : (List ℕ → Read → Type 0) → Bool → List (List ℕ) → Arguments → Type 0
StandFor gives is_ended [] all = all ≡ Ok []
StandFor gives is_ended (word ∷ words) all =
    (first : Arguments) × StandsFor gives is_ended word first
    × MatchResult first
    (λ given. (others : Arguments)
    × StandFor gives (is_ended || list_any is_end given) words others
    × (all ≡ before given others))
    (λ fault. all ≡ Err fault)

-- if there are arguments, some are left
abbrev pub some_left : List (List ℕ) → Arguments → Arguments
some_left [] all = all
some_left (word ∷ words) (Ok []) = Err NoneLeft
some_left (word ∷ words) (Ok (first ∷ others)) = Ok (first ∷ others)
some_left (word ∷ words) (Err fault) = Err fault

-- the program's arguments after the files of arguments are put in their places
abbrev pub AreReplaced : (List ℕ → Read → Type 0) → List (List ℕ) → Arguments → Type 0
AreReplaced gives words all = (found : Arguments) × StandFor gives false words found
    × (all ≡ some_left words found)

-- a fact about an error, unless memory ran out
abbrev pub HoldsForFault : {T F : Type 0} → (Result T F → Type 0) → Refusal F → Type 0
HoldsForFault holds (refusal.Fault fault) = holds (Err fault)
HoldsForFault holds refusal.OutOfMemory = ⊤

-- a fact about the list that a call returns or about its error, unless memory ran out
abbrev pub IfDone : {F A B : Type 0} → (Result (List (List ℕ)) F → Type 0)
    → Result (Vec (String A) B) (Refusal F) → Type 0
IfDone holds (Ok words) = holds (Ok (map string_bytes words.items))
IfDone holds (Err refusal) = HoldsForFault holds refusal

-- an error, unless memory ran out
abbrev pub IsFaultOrOutOfMemory : {F : Type 0} → F → Refusal F → Type 0
IsFaultOrOutOfMemory fault (refusal.Fault found) = found ≡ fault
IsFaultOrOutOfMemory fault refusal.OutOfMemory = ⊤
