use Rattle.std.proofs.Common.{◌≡◌, drop}
use Rattle.serde_json.specs.View.{members_view}
use Rattle.sarif_accept.specs.Entry.{texts_into, texts_put}
use Rattle.sarif_accept.proofs.asked.texts_of.Given as goal

-- the members of the pairs gone through, with those of the rest
abbrev pub invariant-loop-name : goal.invariant-loop-name
invariant-loop-name l = texts_into (members_view l.members.entries) (drop l.name-index l.pairs) ≡ texts_put l.pairs
