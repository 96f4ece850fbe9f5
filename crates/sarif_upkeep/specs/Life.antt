-- What a merge gives for later merges.
use Rattle.std.specs.Prelude.{ℕ, List, [], ◌∷◌, ◌++◌, Option, Some, None, option_map, if◌then◌else◌}
use Rattle.sarif_model.specs.declared.fault.Fault.TheVariants.{NoHit}
use Rattle.sarif_model.specs.declared.merge_fault.At.{At}
use Rattle.sarif_model.specs.declared.merge_fault.MergeFault.{MergeFault}
use Rattle.sarif_model.specs.MergeFault.{cause_of, fault_at}
use Rattle.sarif_counts.specs.declared.life.Life.{Life}
use Rattle.sarif_options.specs.declared.upkeep.Knowing.{Knowing}
use Rattle.sarif_options.specs.declared.upkeep.Renewal.{Renewal}
use Rattle.sarif_options.specs.declared.upkeep.Upkeep.{Upkeep}
use Rattle.sarif_accept.specs.NewFile.{entries_in, file_object}
use Rattle.sarif_accept.specs.Unused.{unused_text}
use Rattle.sarif_upkeep.specs.Known.{known_faults, remembered}
use Rattle.sarif_upkeep.specs.Merge.{Merge}
use Rattle.sarif_upkeep.specs.Renewed.{renewal_faults, renewed}

-- a line for each unused entry of the suppression file
abbrev pub unused_in : Merge → List ℕ
unused_in m = unused_text m.file m.records (entries_in (file_object m.bytes))

-- what was requested, and nothing else
abbrev pub life_of : Merge → Option Upkeep → Life
life_of m None = record { suppressions = None; unused = None; known = None }
life_of m (Some upkeep) = record {
  suppressions = option_map (renewed m) upkeep.renewal;
  unused = if upkeep.unused then Some (unused_in m) else None;
  known = option_map (remembered m) upkeep.known;
}

abbrev pub if_renewed : Merge → Option Renewal → List MergeFault
if_renewed m None = []
if_renewed m (Some renewal) = renewal_faults m renewal

abbrev pub if_known : Merge → Option Knowing → List MergeFault
if_known m None = []
if_known m (Some knowing) = known_faults m knowing

-- the errors of the files that were requested, in order: the new suppression file, and then the known log
abbrev pub files_faults : Merge → Upkeep → List MergeFault
files_faults m upkeep = if_renewed m upkeep.renewal ++ if_known m upkeep.known

-- a place or a rule of the choice fits no chosen hit
abbrev pub no_hit : At → MergeFault
no_hit at = fault_at at (cause_of NoHit)

abbrev pub if_misfit : Option At → List MergeFault
if_misfit None = []
if_misfit (Some at) = no_hit at ∷ []

-- the errors of what was requested, in order: the choice, and then the files
abbrev pub life_faults : Merge → Option Upkeep → List MergeFault
life_faults m None = []
life_faults m (Some upkeep) = if_misfit m.misfit ++ files_faults m upkeep
