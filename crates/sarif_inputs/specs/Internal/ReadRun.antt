-- A run that was read, as the definitions see it.
use Rattle.sarif_read.specs.Internal.Indexed.{run_of}
use Rattle.sarif_runs.specs.Placed.{Placed}
use Rattle.sarif_inputs.specs.declared.read_run.ReadRun.{ReadRun}

abbrev pub placed_read : ReadRun → Placed
placed_read read =
    record {
      source = read.source;
      number = read.number;
      options = read.options;
      run = run_of read.run;
    }
