-- An output that was written completely, and then no bytes, was written completely.
use Rattle.std.proofs.Common.{◌∙◌, ℕ, List, [], Option, Some, None}
use Rattle.std.proofs.lemmas.List.{append-nil}
use Rattle.std.specs.Io.KnownBytes.{Appends}

pub ended : (old mid new : Option (List ℕ)) (text : List ℕ) → Appends old mid text → Appends mid new [] → Appends old new text
ended None mid new text first last = tt
ended (Some a) None new text first last = absurd first
ended (Some a) (Some b) None text first last = absurd last
ended (Some a) (Some b) (Some c) text first last = last ∙ (append-nil b ∙ first)
