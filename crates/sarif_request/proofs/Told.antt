-- How an error of the parser is reported, if its kind is possible for arguments, and how a list that names no states,
-- an unknown name of what reports show or of what is inside a change, a template of links that is none, options that
-- don't go together and clashing names are reported.
use Rattle.std.proofs.Common.{◌≡◌, ◌∙◌, sym, refl, inl, inr, ◌⊎◌, List}
use Rattle.std.specs.Borrow.{Bor}
use Rattle.clap.specs.Words.{IsAmong, Row, Text, fault_of}
use Rattle.clap.specs.declared.error.kind.ErrorKind.{ErrorKind}
use Rattle.clap.specs.declared.error.kind.ErrorKind.TheVariants as kind
use Rattle.sarif_request.specs.declared.words.WordsFault.{WordsFault}
use Rattle.sarif_request.specs.declared.words.WordsFault.TheVariants.{Usage, Help, OutOfMemory}
use Rattle.sarif_request.specs.declared.request.Request.{Request}
use Rattle.sarif_request.specs.Command.{AreLevels, program}
use Rattle.sarif_request.specs.Names.{names_of}
use Rattle.sarif_request.specs.Words.{AsksFor, HaveClash, HaveMisfit, HaveNoScope, HaveNoShow, HaveNoStates, HaveNoTemplate, IsUsageOrOutOfMemory, ReportsError, IsAsked, IsFaultOf, names_in}

-- OutOfMemory is neither the help nor the version
neither : (k : ErrorKind) → k ≡ kind.OutOfMemory → IsAsked k → ⊥
neither k e (inl help) = let no : kind.OutOfMemory ≡ kind.DisplayHelp = sym e ∙ help in cc
neither k e (inr version) = let no : kind.OutOfMemory ≡ kind.DisplayVersion = sym e ∙ version in cc

pub told : (levels : Bor (List (Bor Text))) (words : List Text) (k : ErrorKind) (fault : WordsFault) → AreLevels levels
    → (k ≡ kind.OutOfMemory) ⊎ IsAmong k (fault_of (program levels) words) → ReportsError k fault → IsFaultOf words fault
told levels words k (Usage text) names (inl e) tells = absurd (tells.1 e)
told levels words k (Usage text) names (inr among) tells = (levels, names, inl (k, among, tells.0))
told levels words k (Help text) names (inl e) tells = absurd (neither k e tells)
told levels words k (Help text) names (inr among) tells = (levels, names, k, among, tells)
told levels words k OutOfMemory names has tells = tt

-- how a list that names no states is reported
pub stateless : (levels : Bor (List (Bor Text))) (words : List Text) (fault : WordsFault) → AreLevels levels
    → HaveNoStates (program levels) words → IsUsageOrOutOfMemory fault → IsFaultOf words fault
stateless levels words (Usage text) names none told = (levels, names, inr (inl none))
stateless levels words (Help text) names none told = absurd told
stateless levels words OutOfMemory names none told = tt

-- how it is reported that what reports are to show has no name
pub nameless : (levels : Bor (List (Bor Text))) (words : List Text) (fault : WordsFault) → AreLevels levels
    → HaveNoShow (program levels) words → IsUsageOrOutOfMemory fault → IsFaultOf words fault
nameless levels words (Usage text) names none told = (levels, names, inr (inr (inl none)))
nameless levels words (Help text) names none told = absurd told
nameless levels words OutOfMemory names none told = tt

-- how it is reported that what is inside a change has no name
pub scopeless : (levels : Bor (List (Bor Text))) (words : List Text) (fault : WordsFault) → AreLevels levels
    → HaveNoScope (program levels) words → IsUsageOrOutOfMemory fault → IsFaultOf words fault
scopeless levels words (Usage text) names none told = (levels, names, inr (inr (inr (inl none))))
scopeless levels words (Help text) names none told = absurd told
scopeless levels words OutOfMemory names none told = tt

-- how it is reported that the template of links is none
pub templateless : (levels : Bor (List (Bor Text))) (words : List Text) (fault : WordsFault) → AreLevels levels
    → HaveNoTemplate (program levels) words → IsUsageOrOutOfMemory fault → IsFaultOf words fault
templateless levels words (Usage text) names none told = (levels, names, inr (inr (inr (inr (inl none)))))
templateless levels words (Help text) names none told = absurd told
templateless levels words OutOfMemory names none told = tt

-- how options that don't go together are reported
pub misfitting : (levels : Bor (List (Bor Text))) (words : List Text) (fault : WordsFault) → AreLevels levels
    → HaveMisfit (program levels) words → IsUsageOrOutOfMemory fault → IsFaultOf words fault
misfitting levels words (Usage text) names misfit told = (levels, names, inr (inr (inr (inr (inr (inl misfit))))))
misfitting levels words (Help text) names misfit told = absurd told
misfitting levels words OutOfMemory names misfit told = tt

-- how clashing names are reported
pub clashing : (levels : Bor (List (Bor Text))) (words : List Text) (fault : WordsFault) → AreLevels levels
    → HaveClash (program levels) words → IsUsageOrOutOfMemory fault → IsFaultOf words fault
clashing levels words (Usage text) names clash told = (levels, names, inr (inr (inr (inr (inr (inr clash))))))
clashing levels words (Help text) names clash told = absurd told
clashing levels words OutOfMemory names clash told = tt

-- the names of a request are the names in the arguments
pub same_names : (rows : List Row) (request : Request) → AsksFor rows request → names_of request ≡ names_in rows
same_names rows request asks =
    rw (asks.logs, asks.baselines, asks.suppress, asks.policy, asks.diff, asks.out, asks.reports) refl
