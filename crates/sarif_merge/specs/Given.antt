-- What a merge is given.
use Rattle.std.specs.Prelude.{ℕ, Option, is_some}
use Rattle.sarif_streams.specs.declared.readers.SourceBytes.{SourceBytes}
use Rattle.sarif_streams.specs.WereRead.{SourceContents, contents_of}
use Rattle.sarif_entries.specs.Given.{file_or_none}
use Rattle.sarif_inputs.specs.Inputs.{Inputs}
use Rattle.sarif_inputs.specs.PolicyIn.{conditions_or_none, policy_read}
use Rattle.sarif_inputs.specs.Snippets.{compare_snippets}
use Rattle.sarif_merge.specs.MergedLog.{file_in}
use Rattle.sarif_options.specs.declared.checks.Checks.{Checks}
use Rattle.sarif_options.specs.declared.options.Options.{Options}

-- the inputs of a merge of these sources, with today's date and what is required of runs; records have regions and
-- snippets if a filter of the policy or an entry of the suppression file compares snippets
abbrev pub inputs_with : SourceContents → Option ℕ → Checks → Inputs
inputs_with contents today checks =
    record {
      logs = contents.logs;
      baselines = contents.baselines;
      suppressions = contents.suppressions;
      policy = contents.policy;
      diff = contents.diff;
      today = today;
      checks = checks;
      snippets = compare_snippets
          (conditions_or_none (policy_read (is_some contents.diff) contents.policy))
          (file_in (file_or_none contents.suppressions today));
    }

-- the inputs of a merge of these sources under these options
abbrev pub given_by : SourceContents → Options → Inputs
given_by contents options = inputs_with contents options.today options.checks

-- the inputs of a merge of sources that are held as bytes
abbrev pub inputs_of : SourceBytes → Options → Inputs
inputs_of sources options = given_by (contents_of sources) options
