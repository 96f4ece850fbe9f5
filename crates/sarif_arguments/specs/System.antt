-- What the system's files of arguments give.
use Rattle.std.specs.Prelude.{◌≡◌, ℕ, List, None, Option, MatchResult}
use Rattle.std.specs.Io.Take.{take_inner, take_remaining}
use Rattle.std.specs.declared.fs.File.{File}
use Rattle.std.specs.declared.fs.dir.Names.{Names}
use Rattle.std.specs.declared.io.traits.Take.{Take}
use Rattle.std.specs.declared.rt.LibcRuntime.{LibcRuntime}
use Rattle.sarif_streams.specs.AreRead.{HasFailed, IsRead}
use Rattle.sarif_streams.specs.Counted.{failed_calls, inner_of}
use Rattle.sarif_streams.specs.declared.counted.Counted.{Counted}
use Rattle.sarif_streams.specs.declared.files.InputFile.{InputFile}
use Rattle.sarif_arguments.specs.Reading.{Read}

-- a file as far as it is read
abbrev pub ArgumentFile : Type 0
ArgumentFile = Take (InputFile LibcRuntime File Names)

-- files don't say which bytes they have left
abbrev pub left : ArgumentFile → Option (List ℕ)
left = take_remaining (λ file. None)

-- a reader of the file with this name was read to its end, or a read of it failed. Files don't say which bytes they
-- hold
pub record HasGiven (file : List ℕ) (given : Read) : Type 0 where
  pub before : Counted ArgumentFile
  pub after : Counted ArgumentFile
  pub name : (take_inner (inner_of before)).name.now ≡ file
  pub unread : failed_calls before ≡ 0
  pub read : MatchResult given (IsRead left before after) (HasFailed left before after)
