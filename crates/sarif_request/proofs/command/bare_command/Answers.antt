use Rattle.std.proofs.Common.{◌≡◌, ◌∙◌, ap, true}
use Rattle.clap.specs.Words.{app_of}
use Rattle.clap.specs.Simple.{app_of_fields, on_top}
use Rattle.sarif_request.specs.Command.{start}
use Rattle.sarif_request.proofs.command.bare_command.Goals as goal

-- each setting in turn
pub returns : goal.returns
returns c =
    let named = ap app_of_fields c.no_binary_name.ensures
    ∙ ap (on_top (λ s. record s { no_binary_name = true })) c.new.ensures.app in
    let helpless = ap app_of_fields c.disable_help_flag.ensures
    ∙ ap (on_top (λ s. record s { disable_help_flag = true })) named in
    let bare = ap app_of_fields c.disable_version_flag.ensures
    ∙ ap (on_top (λ s. record s { disable_version_flag = true })) helpless in
    let versed : app_of c.version.result ≡ start =
    ap app_of_fields c.version.ensures ∙ ap (on_top (λ s. record s { has_version = true })) bare in
    ap app_of_fields c.next_display_order.ensures
    ∙ (ap app_of_fields c.after_help.ensures ∙ (ap app_of_fields c.about.ensures ∙ versed))
