-- What the program does for a request, and for arguments.
use Rattle.std.specs.Prelude.{◌≡◌, ℕ, List, [], ◌∷◌, ◌⊎◌, None, Result, MatchResult}
use Rattle.std.specs.declared.fs.File.{File}
use Rattle.std.specs.declared.fs.dir.Names.{Names}
use Rattle.std.specs.declared.rt.LibcRuntime.{LibcRuntime}
use Rattle.std.specs.declared.rt.Stderr.{Stderr}
use Rattle.std.specs.declared.rt.Stdin.{Stdin}
use Rattle.std.specs.declared.rt.Stdout.{Stdout}
use Rattle.sarif_model.specs.declared.merge_fault.Cause.TheVariants.{OutOfMemory}
use Rattle.sarif_model.specs.MergeFault.{exit_status}
use Rattle.sarif_program.specs.declared.complaint.Complaints.{Complaints}
use Rattle.sarif_program.specs.declared.writers.Writers.{Writers}
use Rattle.sarif_program.specs.Run.{IsRun, Views}
use Rattle.sarif_program.specs.Writing.{writer_failures}
use Rattle.sarif_request.specs.declared.request.Request.{Request}
use Rattle.sarif_request.specs.declared.words.WordsFault.{WordsFault}
use Rattle.sarif_request.specs.declared.terminal.TerminalFacts.{TerminalFacts}
use Rattle.sarif_request.specs.Terminal.{at_terminal, no_terminal}
use Rattle.sarif_request.specs.Words.{GivesRequest, words_read, words_status}
use Rattle.sarif_streams.specs.declared.input.Input.{Input}
use Rattle.sarif_streams.specs.declared.kept.Kept.{Kept}
use Rattle.sarif_streams.specs.declared.readers.Readers.{Readers}
use Rattle.sarif_streams.specs.declared.target.Console.{Console}
use Rattle.sarif_streams.specs.declared.target.Target.{Target}
use Rattle.sarif_streams.specs.Counted.{failed_calls}
use Rattle.sarif_streams.specs.Internal.Taken.{console_held}
use Rattle.sarif_streams.specs.WereRead.{failures}
use Rattle.sarif_gate.specs.Named.{AreNamed}

-- a source of the program, an output, and where the summary goes
abbrev pub ProgramSource : Type 0
ProgramSource = Kept (Input LibcRuntime Stdin File Names)

abbrev pub ProgramOutput : Type 0
ProgramOutput = Kept (Target LibcRuntime Stdout File Names)

abbrev pub Say : Type 0
Say = Console Stdout Stderr

-- files and standard streams don't say which bytes they have left or hold
abbrev pub views : Views ProgramSource ProgramOutput Say ProgramOutput Stderr
views = record {
  remaining = λ source. None;
  held = record {
    log = λ output. None;
    report = λ output. None;
    summary = console_held (λ output. None) (λ error. None);
    messages = λ error. None;
  };
}

-- a run over these readers and writers that began with no error message, and whose caller explains it if that is
-- requested
pub record HasRun (request : Request) (readers after : Readers ProgramSource)
    (writers done : Writers ProgramOutput Say ProgramOutput) (status : ℕ) : Type 0 where
  pub before : Complaints Stderr
  pub told : Complaints Stderr
  pub unsaid : before.last ≡ None
  pub quiet : failed_calls before.out ≡ 0
  pub explained : before.is_explained ≡ request.explain
  pub run : IsRun views request
      (record { readers = readers; writers = writers; complaints = before })
      (record { readers = after; writers = done; complaints = told }) status

-- a run from the sources that the request names to the outputs that it names ended with this status; no call of these
-- had failed before
pub record IsRunOf (request : Request) (status : ℕ) : Type 0 where
  pub readers : Readers ProgramSource
  pub after : Readers ProgramSource
  pub writers : Writers ProgramOutput Say ProgramOutput
  pub done : Writers ProgramOutput Say ProgramOutput
  pub named : AreNamed request readers writers
  pub unread : failures readers ≡ 0
  pub unwritten : writer_failures writers ≡ 0
  pub run : HasRun request readers after writers done status

-- the status if memory runs out before there are sources and outputs
abbrev pub unmade_status : ℕ
unmade_status = exit_status OutOfMemory

-- what the program does for a request
abbrev pub IsServed : Request → ℕ → Type 0
IsServed request status = IsRunOf request status ⊎ (status ≡ unmade_status)

-- and for arguments that are read: what they request, as it is served at a terminal with these facts; or, if they make
-- no request, it reports why
abbrev pub AreServedAt : TerminalFacts → List (List ℕ) → ℕ → Type 0
AreServedAt facts words status = (asked : Result Request WordsFault) × GivesRequest words asked
    × MatchResult asked (λ request. IsServed (at_terminal facts request) status)
    (λ fault. status ≡ words_status fault)

-- without arguments nothing is shown at a terminal
abbrev pub facts_for : List (List ℕ) → TerminalFacts → TerminalFacts
facts_for [] facts = no_terminal
facts_for (word ∷ words) facts = facts

-- and for its arguments, or for those that are read if there are none
abbrev pub AreServed : TerminalFacts → List (List ℕ) → ℕ → Type 0
AreServed facts words status = AreServedAt (facts_for words facts) (words_read words) status
