use Rattle.std.proofs.Common.{refl, true, ◌-◌}
use Rattle.sarif_findings.proofs.ShownMore.{keeps_end, keeps_one}
use Rattle.sarif_findings.proofs.shown_text.ShownText.keep.Goals as goal

pub returns-then-self-eq0 : goal.returns-then-self-eq0
returns-then-self-eq0 c =
    λ cs. keeps_end c.args.self.now
    (record { text = c.push.new.self; room = c.args.self.now.room; after_sign = c.args.self.now.after_sign; full = true }) c.args.c cs
    c.if-self.false c.if-self-eq0.true c.in_ok-push.ensures.bytes refl

pub returns : goal.returns
returns c = λ cs. keeps_one c.args.self.now
    (record {
      text = c.push-2.new.self;
      room = c.args.self.now.room - 1;
      after_sign = c.args.self.now.after_sign;
      full =
          c.args.self.now.full;
    }) c.args.c cs c.if-self.false c.if-self-eq0.false c.in_ok-push-2.ensures.bytes refl c.if-self.false
