-- The printed places of errors.
use Rattle.std.specs.Prelude.{ℕ, List, [], ◌++◌, codes, decimal}
use Rattle.sarif_model.specs.declared.merge_fault.Source.{Source}
use Rattle.sarif_model.specs.declared.merge_fault.Source.TheVariants.{Log, Baseline, Suppress, Policy, Diff, Output, Known}
use Rattle.sarif_model.specs.declared.merge_fault.At.{At}
use Rattle.sarif_model.specs.declared.merge_fault.At.TheVariants.{Nowhere, Whole, Run, Single, Entry, Condition, Only, Except, Line, Place, Rule}

abbrev pub source_text : Source → List ℕ
source_text (Log number) = codes "log " ++ decimal number
source_text (Baseline number) = codes "baseline " ++ decimal number
source_text Suppress = codes "suppressions"
source_text Policy = codes "policy"
source_text Diff = codes "diff"
source_text Output = codes "output"
source_text Known = codes "known log"

abbrev pub at_text : At → List ℕ
at_text Nowhere = []
at_text (Whole source) = source_text source
at_text (Run source run) = source_text source ++ (codes ", run " ++ decimal run)
at_text (Single source run number) =
    source_text source ++ (codes ", run " ++ (decimal run
    ++ (codes ", result " ++ decimal number)))
at_text (Entry entry) = codes "suppressions, entry " ++ decimal entry
at_text (Condition number) = codes "policy, condition " ++ decimal number
at_text (Only number filter) =
    codes "policy, condition " ++ (decimal number ++ (codes ", only " ++ decimal filter))
at_text (Except number filter) =
    codes "policy, condition " ++ (decimal number ++ (codes ", except " ++ decimal filter))
at_text (Line number) = codes "diff, line " ++ decimal number
at_text (Place number) = codes "--at " ++ decimal number
at_text (Rule number) = codes "--rule " ++ decimal number
