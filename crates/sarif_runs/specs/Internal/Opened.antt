-- An opened run, as the definitions see it.
use Rattle.sarif_read.specs.Internal.Indexed.{run_of}
use Rattle.sarif_runs.specs.declared.opened.OpenedRun.{OpenedRun}
use Rattle.sarif_runs.specs.Placed.{Placed}

abbrev pub placed_of : OpenedRun → Placed
placed_of opened =
    record {
      source = opened.source;
      number = opened.number;
      options = opened.options;
      run = run_of opened.run;
    }
