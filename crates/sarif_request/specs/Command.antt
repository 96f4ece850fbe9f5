-- The arguments that the program understands, as their parser sees them.
use Rattle.std.specs.Prelude.{◌≡◌, ◌-◌, ◌^◌, List, [], ◌∷◌, map, fold, true, Option, None, Some, option_map, pos, codes}
use Rattle.std.specs.Option.{option_map_or}
use Rattle.std.specs.Borrow.{Bor}
use Rattle.clap.specs.Words.{App, Rule, Text, new_app, new_rule, with_rule}
use Rattle.clap.specs.Simple.{on_top}
use Rattle.clap.specs.declared.builder.action.ArgAction.TheVariants as action
use Rattle.clap.specs.declared.builder.value_parser.ValueParser.{ValueParser}
use Rattle.clap.specs.declared.builder.value_parser.ValueParser.TheVariants.{Signed, Names}
use Rattle.sarif_model.specs.Limits.{first_day, last_day, most_workers}
use Rattle.sarif_reports.specs.declared.report.Report.{Report}
use Rattle.sarif_reports.specs.Report.{all_reports, report_name}
use Rattle.sarif_request.specs.declared.option_rows.OptionKind.{OptionKind}
use Rattle.sarif_request.specs.declared.option_rows.OptionKind.TheVariants.{Logs, Needed, Once, Many, Level, Number, Flag, Help, Version}
use Rattle.sarif_request.specs.declared.option_rows.OptionRow.{OptionRow}

-- an option with one value: `--name VALUE`
abbrev pub option_rule : Text → Rule
option_rule name = record (new_rule name) { long = Some name; value_names = 1 }

-- an option without a value: `--name`
abbrev pub flag_rule : Text → Rule
flag_rule name = record (new_rule name) { long = Some name; action = Some action.SetTrue }

-- the rule of a kind of option; `levels` is what the name of a level has to be
abbrev pub rule_by : ValueParser → OptionKind → Text → Rule
rule_by levels Logs name =
    record (new_rule name) { value_names = 1; action = Some action.Append; required = true }
rule_by levels Needed name = record (option_rule name) { required = true }
rule_by levels Once name = option_rule name
rule_by levels Many name = record (option_rule name) { action = Some action.Append }
rule_by levels Level name = record (option_rule name) { parser = Some levels }
rule_by levels (Number least most) name =
    record (option_rule name) { parser = Some (Signed least most) }
rule_by levels Flag name = flag_rule name
rule_by levels Help name = record (flag_rule name) { short = Some 104; action = Some action.Help }
rule_by levels Version name =
    record (flag_rule name) { short = Some 86; action = Some action.Version }

-- what the parser sees of the row of an option
pub record Argument : Type 0 where
  pub name : Text
  pub kind : OptionKind
  pub default : Option Text

abbrev pub argument_of : OptionRow → Argument
argument_of row = record {
  name = row.id.now;
  kind = row.kind;
  default = option_map (λ value. value.now) row.default;
}

abbrev pub rule_for : ValueParser → Argument → Rule
rule_for levels argument =
    let rule = rule_by levels argument.kind argument.name in
    option_map_or (λ value. record rule { defaults = value ∷ [] }) argument.default rule

abbrev pub argument : Text → OptionKind → Argument
argument name kind = record { name = name; kind = kind; default = None }

abbrev pub with_default : Text → Argument → Argument
with_default value argument = record argument { default = Some value }

-- all but the reports
abbrev pub arguments : List Argument
arguments =
    argument (codes "log") Logs
    ∷ argument (codes "baseline") Many
    ∷ argument (codes "suppress") Once
    ∷ argument (codes "diff") Once
    ∷ argument (codes "today") (Number (pos first_day) (pos last_day))
    ∷ argument (codes "require-success") Flag
    ∷ argument (codes "allow-external-properties") Flag
    ∷ with_default (codes "error") (argument (codes "fail-on") Level)
    ∷ with_default (codes "new,updated") (argument (codes "states") Once)
    ∷ with_default (codes "0") (argument (codes "max") (Number (pos 0) (pos (2 ^ 32 - 1))))
    ∷ argument (codes "diff-scope") Once
    ∷ argument (codes "policy") Once
    ∷ with_default (codes "2") (argument (codes "matching") (Number (pos 2) (pos 3)))
    ∷ argument (codes "once") Flag
    ∷ argument (codes "ignore-fingerprint") Many
    ∷ argument (codes "out") Needed
    ∷ argument (codes "root") Many
    ∷ with_default (codes "all") (argument (codes "show") Once)
    ∷ argument (codes "link") Once
    ∷ argument (codes "accept") Flag
    ∷ argument (codes "prune") Flag
    ∷ argument (codes "reason") Once
    ∷ argument (codes "until") (Number (pos first_day) (pos last_day))
    ∷ argument (codes "at") Many
    ∷ argument (codes "rule") Many
    ∷ argument (codes "adopt") Flag
    ∷ with_default (codes "4") (argument (codes "workers") (Number (pos 1) (pos most_workers)))
    ∷ argument (codes "explain") Flag
    ∷ argument (codes "help") Help
    ∷ argument (codes "version") Version
    ∷ []

-- the names of the levels, as `--fail-on` takes them
abbrev pub level_texts : List Text
level_texts = codes "error" ∷ codes "warning" ∷ codes "note" ∷ codes "none" ∷ []

-- a reference to the names of the levels
abbrev pub AreLevels : Bor (List (Bor Text)) → Type 0
AreLevels levels = map (λ level. level.now) levels.now ≡ level_texts

-- a command with a version, without options, and without its name before its arguments
abbrev pub start : App
start =
    on_top (λ s. record s {
      no_binary_name = true;
      disable_help_flag = true;
      disable_version_flag = true;
      has_version = true;
    })
    (new_app (codes "sarif_gate"))

abbrev pub with_argument : ValueParser → App → Argument → App
with_argument levels app argument = with_rule app (rule_for levels argument)

abbrev pub with_arguments : ValueParser → App → List Argument → App
with_arguments levels = fold (with_argument levels)

-- an option for each report too
abbrev pub with_reports : App → List Report → App
with_reports app reports =
    fold (λ so_far report. with_rule so_far (option_rule (report_name report))) app reports

-- all options; `levels` refers to the names of the levels
unfoldable pub program : Bor (List (Bor Text)) → App
program levels = with_reports (with_arguments (Names levels) start arguments) all_reports

-- a command that understands exactly these options
abbrev pub IsProgram : App → Type 0
IsProgram app = (levels : Bor (List (Bor Text))) × AreLevels levels × (app ≡ program levels)
