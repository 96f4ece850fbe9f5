use Rattle.std.proofs.Common.{refl, ◌-◌, length}
use Rattle.sarif_findings.proofs.ShownWhole.{keeps_whole}
use Rattle.sarif_findings.proofs.shown_text.ShownText.keep_whole.Goals as goal

pub returns : goal.returns
returns c =
    keeps_whole c.args.self.now
    (record {
      text = c.push_str.new.self;
      room = c.args.self.now.room - length c.args.text.now;
      after_sign = c.args.self.now.after_sign;
      full =
          c.args.self.now.full;
    }) c.args.text.now c.requires.printable c.requires.room c.if-self.false
    c.in_ok-push_str.ensures.bytes refl c.if-self.false
