-- A request is served as it is given if no standard stream is a terminal.
use Rattle.std.proofs.Common.{◌≡◌, ◌∙◌, ◌||◌, ℕ, Bool, true, false, List, Option, None, Ok, refl, sym, ap}
use Rattle.sarif_shown.specs.declared.terminal_lines.Screen.{Screen}
use Rattle.sarif_request.specs.declared.request.Request.{Request}
use Rattle.sarif_request.specs.Terminal.{at_terminal, no_terminal}
use Rattle.sarif_request.specs.Words.{GivesRequest}

or_false : (b : Bool) → (b || false) ≡ b
or_false false = refl
or_false true = refl

pub off_terminal : (words : List (List ℕ)) (request : Request) (plain : Bool) → GivesRequest words (Ok request)
    → at_terminal (record no_terminal { plain = plain }) request ≡ request
off_terminal words request plain (levels, named, sound, asks, fits, apart) =
    ap (λ (explain : Bool). record request { explain = explain; screen = None }) (or_false request.explain)
    ∙ ap (λ (screen : Option Screen). record request { screen = screen }) (sym asks.screen)
