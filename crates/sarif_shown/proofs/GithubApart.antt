-- The report for GitHub Actions, line by line.
use Rattle.std.proofs.Common.{◌≡◌, ◌<◌, ◌^◌, ◌+◌, ◌==◌, ◌++◌, ℕ, Bool, true, false, not, ◌&&◌, List, [], ◌∷◌, Option, Some, None, IfSome, codes, chars, decimal, length, if◌then◌else◌, refl, sym, ap, ◌∙◌, cond, append_assoc, subst, arith}
use Rattle.std.specs.Prelude.{encode_utf8_all, flat_map, nat_lt}
use Rattle.std.specs.Char.{encode_utf8}
use Rattle.std.specs.List.{AllByRecursion, count_by, list_all}
use Rattle.std.proofs.lemmas.Bool.{and_parts}
use Rattle.std.proofs.lemmas.List.Sums.{sum_by-cons}
use Rattle.serde_json.specs.Data.{Data}
use Rattle.sarif_model.specs.declared.kinds.Level.{Level}
use Rattle.sarif_model.specs.declared.kinds.Level.TheVariants.{NoLevel, Note, Warning, Error}
use Rattle.sarif_findings.specs.declared.finding.Finding.{Finding}
use Rattle.sarif_findings.specs.declared.reporting.Reporting.{Reporting}
use Rattle.sarif_shown.specs.declared.escaping.Escaping.{Escaping}
use Rattle.sarif_shown.specs.declared.escaping.Escaping.TheVariants.{Message, Property}
use Rattle.sarif_shown.specs.Escaped.{escaped, escaped_char, message_char, property_char}
use Rattle.sarif_shown.specs.GithubReport.{github_of, github_line, command_of, file_property, number_property, title}
use Rattle.sarif_shown.specs.GithubLaws.{are_commands}
use Rattle.sarif_shown.specs.ReportedInside.{reported_by}
use Rattle.sarif_findings.specs.Shown.{shown_chars}
use Rattle.sarif_findings.specs.ShownLaws.{is_seen, are_seen}
use Rattle.sarif_findings.proofs.SeenMore.{shown_seen}
use Rattle.sarif_findings.proofs.CharsBack.{chars_back}
use Rattle.sarif_findings.proofs.HighBytes.{high_apart, char_kept}
use Rattle.sarif_shown.proofs.TextApart.{is_plain, seen_in_line, same_ends, decimal_plain}
use Rattle.sarif_model.specs.Run.{runs_of}
use Rattle.sarif_scope.specs.Counted.{hits_by}
use Rattle.sarif_scope.specs.declared.gated.GatedChange.{GatedChange}
use Rattle.sarif_shown.specs.Listed.{hits_among, listed, others_among}
use Rattle.sarif_shown.proofs.ListedMore.{hits_counted, hits_told, length_listed, lines_parted, listed_told}
use Rattle.sarif_findings.proofs.ToldFindings.{IsShown, IsPath, IsTold}
use Rattle.sarif_shown.proofs.FindingsInside.{told_inside}

-- what follows within a line, with this number of ends of lines
record Inner (count : ℕ) (text : List ℕ) : Type 0 where
  ends : count_by (λ b. b == 10) text ≡ count
  commands : are_commands false text ≡ true

record Lines (count : ℕ) (text : List ℕ) : Type 0 where
  ends : count_by (λ b. b == 10) text ≡ count
  commands : are_commands true text ≡ true

byte_more : (n b : ℕ) (text : List ℕ) → (b == 10) ≡ false → Inner n text → Inner n (b ∷ text)
byte_more n b text e rest = record { ends = same_ends n b text e rest.ends; commands = ap (λ t. are_commands t text) e ∙ rest.commands }

plains_more : (n : ℕ) (ws text : List ℕ) → list_all is_plain ws ≡ true → Inner n text → Inner n (ws ++ text)
plains_more n [] text h rest = rest
plains_more n (w ∷ ws) text h rest =
    let parts = and_parts (is_plain w) (list_all is_plain ws) h in
    let seen = (and_parts (is_seen w) (not (w == 35) && nat_lt w 128) parts.0).0 in
    byte_more n w (ws ++ text) (seen_in_line w seen) (plains_more n ws text parts.1 rest)

char_more : (n c : ℕ) (text : List ℕ) → is_seen c ≡ true → Inner n text → Inner n (encode_utf8 c ++ text)
char_more n c text seen rest =
    char_kept (Inner n) (λ b more high h. byte_more n b more (high_apart b 10 high (omega arith)) h) c text
    (λ _ h. byte_more n c text (seen_in_line c seen) h) rest

message_more : (b : Bool) (n c : ℕ) (text : List ℕ) → is_seen c ≡ true → Inner n text → Inner n ((if b then codes "%25" else encode_utf8 c) ++ text)
message_more true n c text seen rest = plains_more n (codes "%25") text refl rest
message_more false n c text seen rest = char_more n c text seen rest

property_more : (b0 b1 b2 : Bool) (n c : ℕ) (text : List ℕ) → is_seen c ≡ true → Inner n text
    → Inner n ((if b0 then codes "%25" else (if b1 then codes "%3A" else (if b2 then codes "%2C" else encode_utf8 c))) ++ text)
property_more true b1 b2 n c text seen rest = plains_more n (codes "%25") text refl rest
property_more false true b2 n c text seen rest = plains_more n (codes "%3A") text refl rest
property_more false false true n c text seen rest = plains_more n (codes "%2C") text refl rest
property_more false false false n c text seen rest = char_more n c text seen rest

messages_more : (n : ℕ) (cs text : List ℕ) → are_seen cs ≡ true → Inner n text → Inner n (flat_map (escaped_char Message) cs ++ text)
messages_more n [] text seen rest = rest
messages_more n (c ∷ cs) text seen rest =
    let parts = and_parts (is_seen c) (are_seen cs) seen in
    subst (Inner n) (sym (append_assoc (message_char c) (flat_map (escaped_char Message) cs) text))
    (message_more (c == 37) n c _ parts.0 (messages_more n cs text parts.1 rest))

properties_more : (n : ℕ) (cs text : List ℕ) → are_seen cs ≡ true → Inner n text → Inner n (flat_map (escaped_char Property) cs ++ text)
properties_more n [] text seen rest = rest
properties_more n (c ∷ cs) text seen rest =
    let parts = and_parts (is_seen c) (are_seen cs) seen in
    subst (Inner n) (sym (append_assoc (property_char c) (flat_map (escaped_char Property) cs) text))
    (property_more (c == 37) (c == 58) (c == 44) n c _ parts.0 (properties_more n cs text parts.1 rest))

pub escaped_shown : (way : Escaping) (cs shows : List ℕ) → shows ≡ encode_utf8_all (shown_chars cs)
    → escaped way shows ≡ flat_map (escaped_char way) (shown_chars cs)
unfolding escaped
escaped_shown way cs shows e = ap (λ t. flat_map (escaped_char way) (chars t)) e ∙ ap (flat_map (escaped_char way)) (chars_back (shown_chars cs))

message_text : (n : ℕ) (shows text : List ℕ) → IsShown shows → Inner n text → Inner n (escaped Message shows ++ text)
message_text n shows text is rest =
    subst (λ t. Inner n (t ++ text)) (sym (escaped_shown Message is.0 shows is.1)) (messages_more n (shown_chars is.0) text (shown_seen is.0) rest)

property_text : (n : ℕ) (shows text : List ℕ) → IsShown shows → Inner n text → Inner n (escaped Property shows ++ text)
property_text n shows text is rest =
    subst (λ t. Inner n (t ++ text)) (sym (escaped_shown Property is.0 shows is.1)) (properties_more n (shown_chars is.0) text (shown_seen is.0) rest)

-- ---- the line of a result

file_text : (n : ℕ) (path : Option (List ℕ)) (text : List ℕ) → IfSome path IsPath → Inner n text → Inner n (file_property path ++ text)
file_text n None text is rest = rest
file_text n (Some path) text is rest =
    let inner = property_text n path (codes "," ++ text) is.shown (plains_more n (codes ",") text refl rest) in
    subst (Inner n) (ap (λ t. codes "file=" ++ t) (sym (append_assoc (escaped Property path) (codes ",") text))) (plains_more n (codes "file=") _ refl inner)

number_text : (n : ℕ) (name : List ℕ) (o : Option ℕ) (text : List ℕ) → list_all is_plain name ≡ true → IfSome o (λ k. k < 2 ^ 64)
    → Inner n text → Inner n (number_property name o ++ text)
number_text n name None text plain small rest = rest
number_text n name (Some k) text plain small rest =
    let inner = plains_more n (decimal k) (codes "," ++ text) (decimal_plain k small) (plains_more n (codes ",") text refl rest) in
    subst (Inner n) (ap (λ t. name ++ t) (sym (append_assoc (decimal k) (codes ",") text)) ∙ sym (append_assoc name (decimal k ++ codes ",") text))
    (plains_more n name _ plain inner)

title_apart : (r o t c text : List ℕ) → (r ++ (o ++ (t ++ c))) ++ text ≡ r ++ (o ++ (t ++ (c ++ text)))
title_apart r o t c text = simp append_assoc

title_text : (n : ℕ) (rule tool text : List ℕ) → IsShown rule → IsShown tool → Inner n text → Inner n (title rule tool ++ text)
title_text n [] tool text is is' rest = property_text n tool text is' rest
title_text n (b ∷ bs) tool text is is' rest =
    let inner = property_text n tool (codes ")" ++ text) is' (plains_more n (codes ")") text refl rest) in
    subst (Inner n) (sym (title_apart (escaped Property (b ∷ bs)) (codes " (") (escaped Property tool) (codes ")") text))
    (property_text n (b ∷ bs) _ is (plains_more n (codes " (") _ refl inner))

command_plain : (l : Level) → list_all is_plain (command_of l) ≡ true
command_plain NoLevel = refl
command_plain Note = refl
command_plain Warning = refl
command_plain Error = refl

command_begins : (l : Level) (text : List ℕ) → are_commands false text ≡ true → are_commands true (command_of l ++ text) ≡ true
command_begins NoLevel text h = h
command_begins Note text h = h
command_begins Warning text h = h
command_begins Error text h = h

command_line : (n : ℕ) (l : Level) (text : List ℕ) → Inner n text → Lines n (command_of l ++ text)
command_line n l text rest =
    record { ends = (plains_more n (command_of l) text (command_plain l) rest).ends; commands = command_begins l text rest.commands }

line_ends : (n : ℕ) (text : List ℕ) → Lines n text → Inner (n + 1) (10 ∷ text)
line_ends n text h =
    let first = sum_by-cons (λ b. cond (b == 10) 1 0) 10 text in
    let held = h.ends in
    record { ends = omega (arith, first, held); commands = h.commands }

regroup : (c f l k t i s m e text : List ℕ) → (c ++ ((f ++ (l ++ k)) ++ (t ++ (i ++ (s ++ (m ++ e)))))) ++ text
    ≡ c ++ (f ++ (l ++ (k ++ (t ++ (i ++ (s ++ (m ++ (e ++ text))))))))
regroup c f l k t i s m e text = simp append_assoc

line_text : (n : ℕ) (f : Finding) (text : List ℕ) → IsTold f → Lines n text → Lines (n + 1) (github_line f ++ text)
line_text n f text told lines =
    let message = message_text (n + 1) f.message (10 ∷ text) told.message (line_ends n text lines) in
    let said = title_text (n + 1) f.rule f.tool _ told.rule told.tool (plains_more (n + 1) (codes "::") _ refl message) in
    let column = number_text (n + 1) (codes "col=") f.column _ refl told.column (plains_more (n + 1) (codes "title=") _ refl said) in
    let line = number_text (n + 1) (codes "line=") f.line _ refl told.line column in
    let file = file_text (n + 1) f.path _ told.path line in
    subst (Lines (n + 1))
    (sym
    (regroup (command_of f.level) (file_property f.path) (number_property (codes "line=") f.line) (number_property (codes "col=") f.column)
    (codes "title=") (title f.rule f.tool) (codes "::") (escaped Message f.message) (codes "\n") text))
    (command_line (n + 1) f.level _ file)

all_lines : (fs : List Finding) → AllByRecursion IsTold fs → Lines (length fs) (flat_map github_line fs)
all_lines [] h = record { ends = refl; commands = refl }
all_lines (f ∷ fs) h =
    let count : length fs + 1 ≡ length (f ∷ fs) = omega arith in
    subst (λ n. Lines n (flat_map github_line (f ∷ fs))) count (line_text (length fs) f (flat_map github_line fs) h.0 (all_lines fs h.1))

pub commands_begin : (change : Option GatedChange) (reporting : Reporting) (log : Data) → are_commands true (github_of (reported_by change reporting log)) ≡ true
commands_begin change reporting log =
    let fs = reported_by change reporting log in
    (all_lines (listed fs) (listed_told fs (told_inside change reporting log))).commands

pub lines_end : (change : Option GatedChange) (reporting : Reporting) (log : Data) → count_by (λ b. b == 10) (github_of (reported_by change reporting log)) ≡ length (reported_by change reporting log)
lines_end change reporting log =
    let fs = reported_by change reporting log in
    (all_lines (listed fs) (listed_told fs (told_inside change reporting log))).ends ∙ length_listed fs

pub hit_lines : (change : Option GatedChange) (reporting : Reporting) (log : Data)
    → count_by (λ b. b == 10) (flat_map github_line (hits_among (reported_by change reporting log))) ≡ hits_by change reporting.policy (runs_of log)
hit_lines change reporting log =
    let fs = reported_by change reporting log in
    (all_lines (hits_among fs) (hits_told fs (told_inside change reporting log))).ends ∙ hits_counted change reporting log

pub hits_first : (change : Option GatedChange) (reporting : Reporting) (log : Data)
    → github_of (reported_by change reporting log)
    ≡ flat_map github_line (hits_among (reported_by change reporting log)) ++ flat_map github_line (others_among (reported_by change reporting log))
hits_first change reporting log = lines_parted github_line (reported_by change reporting log)
