use Rattle.std.proofs.Common.{◌≡◌, ◌∙◌, ◌==◌, ℕ, List, true, false, length, refl, rules, subst, sym, take, ap}
use Rattle.std.specs.Prelude.{IfErr, OnOk}
use Rattle.std.specs.Io.KnownBytes.{Appends}
use Rattle.sarif_streams.specs.Counted.{inner_of}
use Rattle.sarif_program.proofs.Composed.{told, whole}
use Rattle.sarif_program.proofs.complaint.Complaints.note.Goals as goal

-- the lines were written, or a prefix of them
pub returns-then-not-is_empty : goal.returns-then-not-is_empty
returns-then-not-is_empty g c =
    let lines = c.args.lines.now in
    let result = c.write_out.result in
    let before = g.E.Write.contents (inner_of c.args.self.now.out) in
    let after = g.E.Write.contents (inner_of c.write_out.new.out) in
    let same : c.as_bytes.result.now ≡ lines = search rules in
    let all = subst (λ (text : List ℕ). OnOk result (Appends before after text)) same c.write_out.ensures.ok in
    let part = subst (λ (text : List ℕ). IfErr result (λ n. Appends before after (take n text))) same c.write_out.ensures.prefix in
    record {
      whole = λ quiet. whole lines result _ _ before after all c.write_out.ensures.counted quiet;
      prefix = told lines result before after all part;
      last = refl;
      explained = refl;
      none = λ empty.
          let full : (length lines == 0) ≡ false = search rules in
          let not : (length lines == 0) ≡ true = ap (λ (text : List ℕ). length text == 0) empty in
          let bad : false ≡ true = sym full ∙ not in cc;
    }
