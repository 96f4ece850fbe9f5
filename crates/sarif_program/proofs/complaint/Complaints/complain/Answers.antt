use Rattle.std.proofs.Common.{◌≡◌, ℕ, List, inl, inr, refl, rules, subst, take}
use Rattle.std.specs.Prelude.{IfErr, OnOk}
use Rattle.std.specs.Io.KnownBytes.{Appends}
use Rattle.sarif_streams.specs.Counted.{inner_of}
use Rattle.sarif_program.specs.Line.{complaint_line}
use Rattle.sarif_program.proofs.Composed.{told, untold, whole}
use Rattle.sarif_program.proofs.complaint.Complaints.complain.Goals as goal

pub returns-in-Some-clause-told : goal.returns-in-Some-clause-told
returns-in-Some-clause-told g c =
    let line = complaint_line c.args.complaint in
    let result = c.write_out.result in
    let before = g.E.Write.contents (inner_of c.args.self.now.out) in
    let after = g.E.Write.contents (inner_of c.write_out.new.out) in
    let same : c.as_bytes.result.now ≡ line = search rules in
    let all = subst (λ (text : List ℕ). OnOk result (Appends before after text)) same c.write_out.ensures.ok in
    let part = subst (λ (text : List ℕ). IfErr result (λ n. Appends before after (take n text))) same c.write_out.ensures.prefix in
    record {
      whole = λ quiet. inl (whole line result _ _ before after all c.write_out.ensures.counted quiet);
      prefix = told line result before after all part;
    }

pub returns-in_default-clause-told : goal.returns-in_default-clause-told
returns-in_default-clause-told g c = record {
  whole = λ quiet. inr refl;
  prefix = untold (complaint_line c.args.complaint) (g.E.Write.contents (inner_of c.args.self.now.out));
}
