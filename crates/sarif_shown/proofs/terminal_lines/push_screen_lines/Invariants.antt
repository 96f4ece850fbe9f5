use Rattle.std.proofs.Common.{◌≡◌, ◌++◌, drop, flat_map, map, string_bytes}
use Rattle.sarif_shown.specs.TerminalReport.{screen_line}
use Rattle.sarif_shown.proofs.terminal_lines.push_screen_lines.Given as goal

abbrev pub invariant-loop-finding : goal.invariant-loop-finding
invariant-loop-finding l =
    string_bytes l.text ++ flat_map (screen_line l.screen) (map (λ f. f.now) (drop l.finding-index l.hits))
    ≡ string_bytes l.fn.text ++ flat_map (screen_line l.screen) (map (λ f. f.now) l.hits)
