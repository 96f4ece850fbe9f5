use Rattle.std.proofs.Common.{rules, ◌≡◌, ◌<◌, ◌++◌, false, length, map, string_bytes}
use Rattle.std.proofs.lemmas.Result.{IfOk-weaker}
use Rattle.sarif_share.specs.Sharing.{AreJoined}
use Rattle.sarif_reports.specs.Internal.GitlabObjects.{object_of, joined_objects}
use Rattle.sarif_reports.proofs.GitlabMore.{joined_parts}
use Rattle.sarif_reports.proofs.objects.objects_of.Goals as goal

pub returns : goal.returns
returns g c =
    let begin = c.args.begin.now in
    let ranked = c.args.ranked.now in
    let some : 0 < length ranked = search rules in
    let texts = c.in_ok-texts.texts.items in
    IfOk-weaker c.join_texts.result (λ s. AreJoined string_bytes texts (string_bytes s))
    (λ s. string_bytes s ≡ begin ++ joined_objects false (map object_of ranked))
    (λ s are. joined_parts _ _ begin (λ start p t said. said) ranked texts (string_bytes s) some c.in_ok-texts.ensures are)
    c.join_texts.ensures
