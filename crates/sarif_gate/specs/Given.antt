-- What the program does for its arguments. Some of them may name files of arguments.
use Rattle.std.specs.Prelude.{◌≡◌, ℕ, ◌⊎◌, List, MatchResult}
use Rattle.sarif_arguments.specs.Replaced.{AreReplaced, Arguments}
use Rattle.sarif_arguments.specs.System.{HasGiven}
use Rattle.sarif_arguments.specs.declared.fault.ArgumentsFault.{ArgumentsFault}
use Rattle.sarif_arguments.specs.declared.fault.ArgumentsFault.TheVariants.{Unread, Invalid, NoneLeft}
use Rattle.sarif_model.specs.MergeFault.{exit_status}
use Rattle.sarif_model.specs.declared.refusal.Refusal.{Refusal}
use Rattle.sarif_model.specs.declared.refusal.Refusal.TheVariants as refusal
use Rattle.sarif_model.specs.declared.merge_fault.Cause.TheVariants.{ReadFailed}
use Rattle.sarif_request.specs.declared.terminal.TerminalFacts.{TerminalFacts}
use Rattle.sarif_gate.specs.Served.{AreServed, unmade_status}

-- the status if no arguments are left
abbrev pub refused_status : ArgumentsFault → ℕ
refused_status (Unread name) = exit_status ReadFailed
refused_status (Invalid name fault) = 2
refused_status NoneLeft = 2

-- the status then, or if memory runs out
abbrev pub refusal_status : Refusal ArgumentsFault → ℕ
refusal_status (refusal.Fault fault) = refused_status fault
refusal_status refusal.OutOfMemory = unmade_status

-- what the program does for the arguments that replace its own: the same as if those were its own
abbrev pub AreServedAs : TerminalFacts → Arguments → ℕ → Type 0
AreServedAs facts all status = MatchResult all (λ words. AreServed facts words status)
    (λ fault. status ≡ refused_status fault)

-- what the program does for its arguments, by what their files gave, if there is memory for that
abbrev pub AreServedWith : TerminalFacts → List (List ℕ) → ℕ → Type 0
AreServedWith facts words status =
    ((all : Arguments) × AreReplaced HasGiven words all × AreServedAs facts all status)
    ⊎ (status ≡ unmade_status)
