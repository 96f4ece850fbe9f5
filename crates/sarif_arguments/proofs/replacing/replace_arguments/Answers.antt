use Rattle.std.proofs.Common.{◌≡◌, map, string_bytes}
use Rattle.std.specs.Prelude.{Ok}
use Rattle.sarif_arguments.specs.Replaced.{AreReplaced, some_left}
use Rattle.sarif_arguments.proofs.Left.{done, refused}
use Rattle.sarif_arguments.proofs.replacing.replace_arguments.Goals as goal

pub returns-in-Ok : goal.returns-in-Ok
returns-in-Ok g c =
    let given = map string_bytes c.args.words.now in
    let found = Ok (map string_bytes c.in-Ok.all.items) in
    done (λ left. left ≡ some_left given found) (AreReplaced (g.F.ArgumentFiles.gives c.args.files.now) given)
    (λ left is. (found, c.in-Ok.ensures, is)) c.some_left.result c.some_left.ensures

pub returns-in-Err : goal.returns-in-Err
returns-in-Err g c =
    refused (g.F.ArgumentFiles.gives c.args.files.now) (map string_bytes c.args.words.now) c.in-Err.refusal c.in-Err.ensures
