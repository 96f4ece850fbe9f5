-- What a source is read from, and what an output is written to.
use Rattle.std.specs.Prelude.{ℕ, List, codes, bytes_eq, if◌then◌else◌}
use Rattle.sarif_streams.specs.declared.input.Input.{Input}
use Rattle.sarif_streams.specs.declared.input.Input.TheVariants as input
use Rattle.sarif_streams.specs.declared.target.Target.{Target}
use Rattle.sarif_streams.specs.declared.target.Target.TheVariants as target

-- standard input or standard output, or the file with this name
pub data Channel : Type 0 where
  Stream : Channel
  Named : List ℕ → Channel

-- what the name of a log or of an output means: `-` is the standard stream
abbrev pub channel_named : List ℕ → Channel
channel_named name = if bytes_eq name (codes "-") then Stream else Named name

abbrev pub input_channel : {R I F D : Type 0} → Input R I F D → Channel
input_channel (input.File file) = Named file.name.now
input_channel (input.Standard standard) = Stream

abbrev pub target_channel : {R O F D : Type 0} → Target R O F D → Channel
target_channel (target.File file) = Named file.place.name.now
target_channel (target.Standard standard) = Stream
