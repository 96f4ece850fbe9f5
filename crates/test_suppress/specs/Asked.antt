-- What a question about a suppression file returns.
use Rattle.std.specs.Prelude.{◌≡◌, ℕ, List, Ok, Option}
use Rattle.std.specs.Borrow.{Bor}
use Rattle.std.specs.Fn.{FnOnceReturns, Once}
use Rattle.sarif_entries.specs.File.{File, file_of}

-- a call of this function with this file may return this
abbrev pub IsAnswer : {F R : Type 0} → Once F (Bor File × Unit {0}) R → F → File → R → Type 0
IsAnswer call ask file answer =
    (shown : Bor File) × FnOnceReturns call ask (shown, tt) answer × (shown.now ≡ file)

-- a call of this function with a file that is read from some bytes for this date may return this
abbrev pub IsAnswerFor : {F R : Type 0} → Once F (Bor File × Unit {0}) R → F → Option ℕ → R → Type 0
IsAnswerFor call ask today answer =
    (bytes : List ℕ) × (file : File) × (file_of bytes today ≡ Ok file) × IsAnswer call ask file answer
