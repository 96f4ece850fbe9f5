use Rattle.sarif_reports.proofs.AttributesApart.{attributes_read}
use Rattle.sarif_reports.proofs.TagsApart.{marks_read, tags_read}
use Rattle.sarif_reports.proofs.laws.markdown_rows_have_their_tags.Goals as goal

pub returns-clause-tags : goal.returns-clause-tags
returns-clause-tags c = tags_read

pub returns-clause-attributes : goal.returns-clause-attributes
returns-clause-attributes c = attributes_read

pub returns-clause-marks : goal.returns-clause-marks
returns-clause-marks c = marks_read
