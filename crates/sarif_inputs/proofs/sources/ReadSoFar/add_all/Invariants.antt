use Rattle.std.proofs.Common.{◌≡◌, ◌+◌, ◌++◌, ℕ, List, map, length}
use Rattle.sarif_inputs.specs.Internal.Parsed.{AreParsedFrom}
use Rattle.sarif_inputs.specs.Internal.ReadRun.{placed_read}
use Rattle.sarif_model.specs.Internal.SourceKind.{source_of}
use Rattle.sarif_inputs.specs.Inputs.{numbered, placed}
use Rattle.sarif_inputs.specs.Internal.ReadSoFar.{IsCounted}
use Rattle.sarif_inputs.specs.SourceFaults.{source_faults}
use Rattle.sarif_inputs.proofs.sources.ReadSoFar.add_all.Given as goal

abbrev pub invariant-loop-parsed : goal.invariant-loop-parsed
invariant-loop-parsed l =
    let name = source_of l.kind in
    let rest = l.parsed-iterator.rest.items in
    record {
      number : l.number + length rest ≡ length l.fn.logs.items;
      counted : IsCounted l.self;
      within : (left : List (List ℕ)) × AreParsedFrom l.checks.allow_external left rest;
      whole : (sources : List (List ℕ)) → AreParsedFrom l.checks.allow_external sources l.fn.logs.items → (left : List (List ℕ))
          × AreParsedFrom l.checks.allow_external left rest
          × (map placed_read l.self.runs.items ++ placed (numbered l.checks name l.number left)
          ≡ map placed_read l.fn.self.runs.items ++ placed (numbered l.checks name 0 sources))
          × (source_faults (length l.self.runs.items) l.self.results (numbered l.checks name l.number left)
          ≡ source_faults (length l.fn.self.runs.items) l.fn.self.results (numbered l.checks name 0 sources));
    }
