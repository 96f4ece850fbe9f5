use Rattle.std.proofs.Common.{refl, ◌-◌, length, false}
use Rattle.sarif_findings.proofs.ShownWhole.{takes_whole}
use Rattle.sarif_findings.proofs.shown_text.ShownText.push_whole.Goals as goal

pub returns : goal.returns
returns c =
    takes_whole c.args.self.now
    (record {
      text = c.push_str.new.self;
      room = c.args.self.now.room - length c.args.text.now;
      after_sign = false;
      full =
          c.args.self.now.full;
    }) c.args.text.now c.requires.some c.requires.is_verbatim c.requires.room c.requires.going
    c.in_ok-push_str.ensures.bytes refl c.requires.going refl
