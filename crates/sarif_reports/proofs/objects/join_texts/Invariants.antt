use Rattle.std.proofs.Common.{◌≡◌, ◌++◌, string_bytes}
use Rattle.sarif_share.specs.Sharing.{AreJoined}
use Rattle.sarif_reports.proofs.objects.join_texts.Given as goal

abbrev pub invariant-loop-text : goal.invariant-loop-text
invariant-loop-text l =
    (parts : l.fn.texts.items ≡ l.yielded ++ l.text-iterator.rest.items)
    × AreJoined string_bytes l.yielded (string_bytes l.all)
