use Rattle.std.proofs.Common.{refl}
use Rattle.sarif_findings.proofs.ShownMore.{takes_one}
use Rattle.sarif_findings.proofs.shown_text.ShownText.push.Goals as goal

pub returns : goal.returns
returns c =
    takes_one c.args.self.now c.part.new.self c.keep.new.self _ c.args.c c.plain-c.result c.plain-c.ensures
    c.in_ok-part.ensures c.in_ok-keep.ensures refl refl refl refl
