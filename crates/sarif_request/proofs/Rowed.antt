-- A help that is cut in two before what comes after its options.
use Rattle.std.proofs.Common.{◌≡◌, inl, inr, Some, None, Bor}
use Rattle.std.specs.Str.Pattern.{FindsText, SplitsAroundMatch}
use Rattle.std.proofs.lemmas.Str.Pattern.{split_text_parts}
use Rattle.clap.specs.Words.{Text}
use Rattle.sarif_request.specs.Help.{HasRow, row_between}

part : Text → Bor Text
part text = record { ref_ptr = (0, 0); now = text }

pub keeps : (row after old new : Text) → FindsText after old None → new ≡ old → HasRow row after old new
keeps row after old new absent is = inl (split_text_parts after old None absent, is)

pub gets : (row after old new options rest : Text) → SplitsAroundMatch (FindsText after) old options rest
    → new ≡ row_between options row after rest → HasRow row after old new
unfolding part
gets row after old new options rest cut is =
    inr (options, rest, split_text_parts after old (Some (part options, part rest)) cut, is)
