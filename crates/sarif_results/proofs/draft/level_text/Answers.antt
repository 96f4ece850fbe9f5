use Rattle.std.proofs.Common.{sym, ap}
use Rattle.json.specs.Print.{escape_byte}
use Rattle.serde_json.specs.Data.{string}
use Rattle.serde_json.specs.Written.{compact_text}
use Rattle.sarif_model.specs.Level.{level_name}
use Rattle.sarif_results.proofs.draft.level_text.Goals as goal

pub returns-in-NoLevel : goal.returns-in-NoLevel
unfolding escape_byte
returns-in-NoLevel c = ap (λ level. compact_text (string (level_name level))) (sym c.in-NoLevel.is)

pub returns-in-Note : goal.returns-in-Note
unfolding escape_byte
returns-in-Note c = ap (λ level. compact_text (string (level_name level))) (sym c.in-Note.is)

pub returns-in-Warning : goal.returns-in-Warning
unfolding escape_byte
returns-in-Warning c = ap (λ level. compact_text (string (level_name level))) (sym c.in-Warning.is)

pub returns-in-Error : goal.returns-in-Error
unfolding escape_byte
returns-in-Error c = ap (λ level. compact_text (string (level_name level))) (sym c.in-Error.is)
