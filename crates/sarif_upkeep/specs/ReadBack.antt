-- What a merge gives for later merges can be read again.
use Rattle.std.specs.Prelude.{◌≡◌, ℕ, List, Some, IfSome}
use Rattle.json_parts.specs.Indexed.{json_of}
use Rattle.json_parts.specs.Mark.{without_mark}
use Rattle.sarif_counts.specs.declared.life.Life.{Life}
use Rattle.sarif_options.specs.declared.upkeep.Knowing.{Knowing}
use Rattle.sarif_options.specs.declared.upkeep.Renewal.{Renewal}
use Rattle.sarif_options.specs.declared.upkeep.Upkeep.{Upkeep}
use Rattle.sarif_known.specs.KnownLog.{known_log}
use Rattle.sarif_known.specs.Laws.{CanBeRead}
use Rattle.sarif_runs.specs.declared.run_options.RecordOptions.{RecordOptions}
use Rattle.sarif_upkeep.specs.Known.{runs_known}
use Rattle.sarif_upkeep.specs.Merge.{Merge}
use Rattle.sarif_upkeep.specs.Renewed.{rules_after}

-- the text is read as the new suppression file
abbrev pub IsNewFile : Merge → Renewal → List ℕ → Type 0
IsNewFile m renewal text = json_of (without_mark text) ≡ Some (rules_after m renewal)

-- the text is read as the known log, if its records are those of results that were read with the same options
abbrev pub IsKnownLog : Merge → Knowing → List ℕ → Type 0
IsKnownLog m knowing text =
    (options : RecordOptions) → CanBeRead options (runs_known m knowing)
    → json_of (without_mark text) ≡ Some (known_log (runs_known m knowing))

-- each file that was requested is read as it is defined
pub record IsReadAgain (m : Merge) (upkeep : Upkeep) (life : Life) : Type 0 where
  pub suppressions : IfSome upkeep.renewal (λ renewal.
      IfSome life.suppressions (λ file. IsNewFile m renewal file.text))
  pub known : IfSome upkeep.known (λ knowing.
      IfSome life.known (λ log. IsKnownLog m knowing log.text))
