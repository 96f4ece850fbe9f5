-- The next merge of the same results: it has the new file, and counts its limits again.
use Rattle.std.specs.Prelude.{List}
use Rattle.sarif_model.specs.declared.kinds.State.{State}
use Rattle.sarif_model.specs.declared.record.Record.{Record}
use Rattle.sarif_options.specs.declared.policy.Policy.{Policy}
use Rattle.sarif_entries.specs.File.{File}
use Rattle.sarif_entries.specs.Numbering.{renumbered}
use Rattle.sarif_suppress.specs.Limited.{limited, admitted_after, with_admitted}
use Rattle.sarif_accept.specs.Adding.{How, file_after, may_hit}
use Rattle.sarif_accept.specs.Choosing.{file_adding}

-- a result with the entries that the results before it use up
abbrev pub after_others : File → List Record → Record → Record
after_others file before r = with_admitted r (admitted_after file before r)

-- the new file that adds the entries of these results, as it is read
abbrev pub next_adding : How → File → List Record → List Record → File
next_adding how file rs added = renumbered (file_adding how file rs added)

-- the new file that accepts the hits of these results, or is only pruned, as it is read
abbrev pub next_file : How → Policy → File → List Record → List State → File
next_file how policy file rs states =
    renumbered (file_after how (may_hit policy) file (limited file rs) states)
