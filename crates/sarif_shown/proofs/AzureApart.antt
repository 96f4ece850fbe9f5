-- The report for Azure Pipelines, line by line.
use Rattle.std.proofs.Common.{◌≡◌, ◌<◌, ◌≤◌, ◌^◌, ◌+◌, ◌==◌, ◌++◌, ℕ, Bool, true, false, not, ◌&&◌, ◌||◌, List, [], ◌∷◌, Option, Some, None, IfSome, codes, chars, decimal, length, flat_map, if◌then◌else◌, refl, sym, ap, ap₂, ◌∙◌, append_assoc, subst, arith}
use mathlib.Core.Bool.{and-false}
use Rattle.std.specs.Prelude.{encode_utf8_all, nat_lt}
use Rattle.std.specs.Char.{encode_utf8, is_ascii_digit}
use Rattle.std.specs.List.{AllByRecursion, list_all}
use Rattle.std.proofs.lemmas.Bool.{and_parts, and_from, or_from, or_parts, not-true, eqb-true}
use Rattle.std.proofs.lemmas.Bool.Decides.{nat_tests}
use Rattle.std.proofs.lemmas.Str.{encodes-append}
use Rattle.sarif_model.specs.declared.kinds.Level.{Level}
use Rattle.sarif_model.specs.declared.kinds.Level.TheVariants.{NoLevel, Note, Warning, Error}
use Rattle.sarif_model.specs.Level.{level_name}
use Rattle.sarif_model.specs.State.{state_name}
use Rattle.sarif_findings.specs.declared.finding.Finding.{Finding}
use Rattle.sarif_findings.specs.Shown.{shown_chars}
use Rattle.sarif_links.specs.Address.{has_two_signs}
use Rattle.sarif_findings.specs.ShownLaws.{is_seen, are_seen}
use Rattle.sarif_findings.proofs.HighBytes.{high_apart, char_kept}
use Rattle.sarif_findings.proofs.SeenMore.{shown_seen, shown_apart}
use Rattle.sarif_findings.proofs.ToldFindings.{IsShown, IsPath, IsTold}
use Rattle.sarif_shown.proofs.FindingsInside.{told_inside}
use Rattle.sarif_shown.specs.ReportedInside.{reported_by}
use Rattle.sarif_findings.specs.declared.reporting.Reporting.{Reporting}
use Rattle.sarif_model.specs.Run.{runs_of}
use Rattle.sarif_scope.specs.Counted.{hits_by}
use Rattle.sarif_scope.specs.declared.gated.GatedChange.{GatedChange}
use Rattle.serde_json.specs.Data.{Data}
use Rattle.sarif_shown.specs.declared.escaping.Escaping.TheVariants.{IssueMessage, IssueProperty}
use Rattle.sarif_shown.specs.Escaped.{escaped, escaped_char, issue_message_char, issue_property_char}
use Rattle.sarif_shown.specs.AzureReport.{azure_line, azure_lines_of, azure_of, issue_begin, issue_code, issue_number, issue_properties, issue_type, level_and_state, message_and_tool, property, source_path}
use Rattle.sarif_shown.specs.AzureLaws.{AreIssues, IsWithinLine, is_within_property, issue_line, one_if_any, one_if_some, properties_of, properties_read}
use Rattle.sarif_shown.proofs.EscapedApart.{decimal_digits}
use Rattle.sarif_shown.specs.Listed.{hits_among, listed, others_among}
use Rattle.sarif_shown.proofs.GithubApart.{escaped_shown}
use Rattle.sarif_shown.proofs.ListedMore.{hits_counted, hits_told, length_listed, lines_parted, listed_told}
use Rattle.sarif_shown.proofs.TextApart.{is_plain, plain_bytes, decimal_plain, level_plain, state_plain}

-- ---- no property ends in a string of a log

property_high : (b : ℕ) (rest : List ℕ) → 128 ≤ b → list_all is_within_property rest ≡ true → list_all is_within_property (b ∷ rest) ≡ true
property_high b rest high h = rw (high_apart b 59 high (omega arith), high_apart b 93 high (omega arith)) h

property_low : (c : ℕ) (rest : List ℕ) → (c == 59) ≡ false → (c == 93) ≡ false → list_all is_within_property rest ≡ true
    → list_all is_within_property (c ∷ rest) ≡ true
property_low c rest e1 e2 h = rw (e1, e2) h

property_by : (b0 b1 b2 : Bool) (c : ℕ) (rest : List ℕ) → (c == 59) ≡ b1 → (c == 93) ≡ b2 → list_all is_within_property rest ≡ true
    → list_all is_within_property ((if b0 then codes "%AZP25" else (if b1 then codes "%3B" else (if b2 then codes "%5D" else encode_utf8 c))) ++ rest) ≡ true
property_by true b1 b2 c rest e1 e2 h = h
property_by false true b2 c rest e1 e2 h = h
property_by false false true c rest e1 e2 h = h
property_by false false false c rest e1 e2 h =
    char_kept (λ bs. list_all is_within_property bs ≡ true) property_high c rest (λ _ g. property_low c rest e1 e2 g) h

property_chars : (cs : List ℕ) → list_all is_within_property (flat_map issue_property_char cs) ≡ true
property_chars [] = refl
property_chars (c ∷ cs) = property_by (c == 37) (c == 59) (c == 93) c (flat_map issue_property_char cs) refl refl (property_chars cs)

pub properties_closed : (text : List ℕ) → list_all is_within_property (escaped IssueProperty text) ≡ true
unfolding escaped
properties_closed text = property_chars (chars text)

-- ---- the properties that a reader finds

-- these properties are read too, for anything that follows
record Reads (n : ℕ) (text : List ℕ) : Type 0 where
  told : (more : List ℕ) → properties_read (text ++ more) ≡ properties_read more + n

within_read : (w : ℕ) (ws : List ℕ) → is_within_property w ≡ true → properties_read (w ∷ ws) ≡ properties_read ws
within_read w ws h =
    let tests = or_parts (w == 59) (w == 93) (not-true (w == 59 || w == 93) h) in
    rw (tests.1, tests.0) refl

none_read : (ws more : List ℕ) → list_all is_within_property ws ≡ true → properties_read (ws ++ more) ≡ properties_read more
none_read [] more h = refl
none_read (w ∷ ws) more h =
    let parts = and_parts (is_within_property w) (list_all is_within_property ws) h in
    within_read w (ws ++ more) parts.0 ∙ none_read ws more parts.1

reads_none : (ws : List ℕ) → list_all is_within_property ws ≡ true → Reads 0 ws
reads_none ws h = record { told = λ more. none_read ws more h ∙ omega arith }

reads_end : Reads 1 (codes ";")
reads_end = record { told = λ more. refl }

then_reads : {a b : List ℕ} {m n : ℕ} → Reads m a → Reads n b → Reads (m + n) (a ++ b)
then_reads {a} {b} {m} {n} first second = record {
  told = λ more.
      let whole = ap properties_read (append_assoc a b more) in
      let left = first.told (b ++ more) in
      let right = second.told more in
      omega (arith, whole, left, right);
}

digit_within : (d : ℕ) → is_ascii_digit d ≡ true → is_within_property d ≡ true
digit_within d h = grind (arith, nat_tests, h)

digits_within : (ds : List ℕ) → list_all is_ascii_digit ds ≡ true → list_all is_within_property ds ≡ true
digits_within [] h = refl
digits_within (d ∷ ds) h =
    let parts = and_parts (is_ascii_digit d) (list_all is_ascii_digit ds) h in
    and_from (is_within_property d) (list_all is_within_property ds) (digit_within d parts.0) (digits_within ds parts.1)

type_read : (l : Level) → Reads 1 (issue_type l)
type_read NoLevel = record { told = λ more. refl }
type_read Note = record { told = λ more. refl }
type_read Warning = record { told = λ more. refl }
type_read Error = record { told = λ more. refl }

property_read : (name value : List ℕ) → list_all is_within_property name ≡ true → Reads 1 (property name value)
unfolding property
property_read name value plain =
    then_reads (reads_none name plain) (then_reads (reads_none (escaped IssueProperty value) (properties_closed value)) reads_end)

path_read : (path : Option (List ℕ)) → Reads (one_if_some path) (source_path path)
path_read None = reads_none [] refl
path_read (Some path) = property_read (codes "sourcepath=") path refl

number_read : (name : List ℕ) (o : Option ℕ) → list_all is_within_property name ≡ true → IfSome o (λ k. k < 2 ^ 64)
    → Reads (one_if_some o) (issue_number name o)
number_read name None plain small = reads_none [] refl
number_read name (Some k) plain small =
    then_reads (reads_none name plain) (then_reads (reads_none (decimal k) (digits_within (decimal k) (decimal_digits k small))) reads_end)

code_read : (rule : List ℕ) → Reads (one_if_any rule) (issue_code rule)
code_read [] = reads_none [] refl
code_read (b ∷ bs) = property_read (codes "code=") (b ∷ bs) refl

all_read : (f : Finding) → IsTold f → Reads (properties_of f) (issue_properties f)
unfolding issue_properties
all_read f told =
    then_reads (type_read f.level) (then_reads (path_read f.path) (then_reads (number_read (codes "linenumber=") f.line refl told.line)
    (then_reads (number_read (codes "columnnumber=") f.column refl told.column) (code_read f.rule))))

-- what follows a `]` is not read
begun_read : (properties message : List ℕ)
    → properties_read (issue_begin ++ (properties ++ (codes "]" ++ message))) ≡ properties_read (properties ++ (codes "]" ++ message))
unfolding issue_begin
begun_read properties message = refl

-- a line has the properties of its result, and no other
pub properties_counted : (f : Finding) → IsTold f → properties_read (azure_line f) ≡ properties_of f
unfolding azure_line
properties_counted f told =
    begun_read (issue_properties f) (message_and_tool f ++ (level_and_state f ++ codes "\n"))
    ∙ (all_read f told).told (codes "]" ++ (message_and_tool f ++ (level_and_state f ++ codes "\n"))) ∙ omega arith

-- ---- a line

-- visible characters with no two adjacent `#`, after a `#` or not
abbrev AfterText : Bool → List ℕ → Type 0
AfterText b text = (cs : List ℕ) × (encode_utf8_all cs ≡ text) × (are_seen cs ≡ true) × (has_two_signs b cs ≡ false)

abbrev NextText : List ℕ → Type 0
NextText text = (cs : List ℕ) × (encode_utf8_all cs ≡ text) × (are_seen cs ≡ true) × ((b : Bool) → has_two_signs b cs ≡ false)

after_any : (b : Bool) (text : List ℕ) → NextText text → AfterText b text
after_any b text h = (h.0, h.1, h.2, h.3 b)

-- a plain character
plain_signs : (b : Bool) (w : ℕ) (cs : List ℕ) → is_plain w ≡ true → has_two_signs false cs ≡ false → has_two_signs b (w ∷ cs) ≡ false
plain_signs b w cs h rest =
    let parts = and_parts (is_seen w) (not (w == 35) && nat_lt w 128) h in
    let sign : (w == 35) ≡ false = not-true (w == 35) (and_parts (not (w == 35)) (nat_lt w 128) parts.1).0 in
    or_from (b && w == 35) (has_two_signs (w == 35) cs) (ap (λ t. b && t) sign ∙ and-false b) (ap (λ t. has_two_signs t cs) sign ∙ rest)

plains_signs : (b : Bool) (w : ℕ) (ws cs : List ℕ) → list_all is_plain (w ∷ ws) ≡ true → has_two_signs false cs ≡ false
    → has_two_signs b ((w ∷ ws) ++ cs) ≡ false
plains_signs b w [] cs h rest = plain_signs b w cs (and_parts (is_plain w) true h).0 rest
plains_signs b w (x ∷ ws) cs h rest =
    let parts = and_parts (is_plain w) (list_all is_plain (x ∷ ws)) h in
    plain_signs b w ((x ∷ ws) ++ cs) parts.0 (plains_signs false x ws cs parts.1 rest)

plains_seen : (ws cs : List ℕ) → list_all is_plain ws ≡ true → are_seen cs ≡ true → are_seen (ws ++ cs) ≡ true
plains_seen [] cs h rest = rest
plains_seen (w ∷ ws) cs h rest =
    let parts = and_parts (is_plain w) (list_all is_plain ws) h in
    and_from (is_seen w) (are_seen (ws ++ cs)) (and_parts (is_seen w) (not (w == 35) && nat_lt w 128) parts.0).0 (plains_seen ws cs parts.1 rest)

plain_next : (w : ℕ) (ws text : List ℕ) → list_all is_plain (w ∷ ws) ≡ true → AfterText false text → NextText ((w ∷ ws) ++ text)
plain_next w ws text h rest = (
  (w ∷ ws) ++ rest.0,
  encodes-append (w ∷ ws) rest.0 ∙ ap₂ (λ x y. x ++ y) (plain_bytes (w ∷ ws) h) rest.1,
  plains_seen (w ∷ ws) rest.0 h rest.2,
  λ b. plains_signs b w ws rest.0 h rest.3,
)

plains_next : (ws text : List ℕ) → list_all is_plain ws ≡ true → NextText text → NextText (ws ++ text)
plains_next [] text h rest = rest
plains_next (w ∷ ws) text h rest = plain_next w ws text h (after_any false text rest)

-- a character as it is
char_after : (b : Bool) (c : ℕ) (text : List ℕ) → is_seen c ≡ true → (b && c == 35) ≡ false → AfterText (c == 35) text → AfterText b (encode_utf8 c ++ text)
char_after b c text seen apart rest = (
  c ∷ rest.0,
  ap (λ t. encode_utf8 c ++ t) rest.1,
  and_from (is_seen c) (are_seen rest.0) seen rest.2,
  or_from (b && c == 35) (has_two_signs (c == 35) rest.0) apart rest.3,
)

-- a character that is replaced is no `#`
replaced : (b : Bool) (c n w : ℕ) (ws text : List ℕ) → (n == 35) ≡ false → (c == n) ≡ true → list_all is_plain (w ∷ ws) ≡ true
    → AfterText (c == 35) text → AfterText b ((w ∷ ws) ++ text)
replaced b c n w ws text other is plain rest =
    let same : (c == 35) ≡ false = ap (λ k. k == 35) (eqb-true c n is) ∙ other in
    after_any b ((w ∷ ws) ++ text) (plain_next w ws text plain (subst (λ t. AfterText t text) same rest))

message_by : (b t : Bool) (c : ℕ) (text : List ℕ) → (c == 37) ≡ t → is_seen c ≡ true → (b && c == 35) ≡ false → AfterText (c == 35) text
    → AfterText b ((if t then codes "%AZP25" else encode_utf8 c) ++ text)
message_by b true c text e seen apart rest = replaced b c 37 37 (codes "AZP25") text refl e refl rest
message_by b false c text e seen apart rest = char_after b c text seen apart rest

property_after : (b t0 t1 t2 : Bool) (c : ℕ) (text : List ℕ) → (c == 37) ≡ t0 → (c == 59) ≡ t1 → (c == 93) ≡ t2 → is_seen c ≡ true → (b && c == 35) ≡ false
    → AfterText (c == 35) text
    → AfterText b ((if t0 then codes "%AZP25" else (if t1 then codes "%3B" else (if t2 then codes "%5D" else encode_utf8 c))) ++ text)
property_after b true t1 t2 c text e0 e1 e2 seen apart rest = replaced b c 37 37 (codes "AZP25") text refl e0 refl rest
property_after b false true t2 c text e0 e1 e2 seen apart rest = replaced b c 59 37 (codes "3B") text refl e1 refl rest
property_after b false false true c text e0 e1 e2 seen apart rest = replaced b c 93 37 (codes "5D") text refl e2 refl rest
property_after b false false false c text e0 e1 e2 seen apart rest = char_after b c text seen apart rest

messages_after : (b : Bool) (cs text : List ℕ) → are_seen cs ≡ true → has_two_signs b cs ≡ false → NextText text
    → AfterText b (flat_map (escaped_char IssueMessage) cs ++ text)
messages_after b [] text seen apart rest = after_any b text rest
messages_after b (c ∷ cs) text seen apart rest =
    let parts = and_parts (is_seen c) (are_seen cs) seen in
    let signs = or_parts (b && c == 35) (has_two_signs (c == 35) cs) apart in
    subst (AfterText b) (sym (append_assoc (issue_message_char c) (flat_map (escaped_char IssueMessage) cs) text))
    (message_by b (c == 37) c _ refl parts.0 signs.0 (messages_after (c == 35) cs text parts.1 signs.1 rest))

properties_after : (b : Bool) (cs text : List ℕ) → are_seen cs ≡ true → has_two_signs b cs ≡ false → NextText text
    → AfterText b (flat_map (escaped_char IssueProperty) cs ++ text)
properties_after b [] text seen apart rest = after_any b text rest
properties_after b (c ∷ cs) text seen apart rest =
    let parts = and_parts (is_seen c) (are_seen cs) seen in
    let signs = or_parts (b && c == 35) (has_two_signs (c == 35) cs) apart in
    subst (AfterText b) (sym (append_assoc (issue_property_char c) (flat_map (escaped_char IssueProperty) cs) text))
    (property_after b (c == 37) (c == 59) (c == 93) c _ refl refl refl parts.0 signs.0 (properties_after (c == 35) cs text parts.1 signs.1 rest))

message_text : (shows text : List ℕ) → IsShown shows → NextText text → AfterText false (escaped IssueMessage shows ++ text)
message_text shows text is rest =
    subst (λ t. AfterText false (t ++ text)) (sym (escaped_shown IssueMessage is.0 shows is.1))
    (messages_after false (shown_chars is.0) text (shown_seen is.0) (shown_apart is.0) rest)

property_text : (shows text : List ℕ) → IsShown shows → NextText text → AfterText false (escaped IssueProperty shows ++ text)
property_text shows text is rest =
    subst (λ t. AfterText false (t ++ text)) (sym (escaped_shown IssueProperty is.0 shows is.1))
    (properties_after false (shown_chars is.0) text (shown_seen is.0) (shown_apart is.0) rest)

-- a property between its name and its end
named_text : (w : ℕ) (ws shows text : List ℕ) → list_all is_plain (w ∷ ws) ≡ true → IsShown shows → AfterText false text
    → NextText (property (w ∷ ws) shows ++ text)
unfolding property
named_text w ws shows text plain is rest =
    subst NextText
    (ap (λ t. (w ∷ ws) ++ t) (sym (append_assoc (escaped IssueProperty shows) (codes ";") text))
    ∙ sym (append_assoc (w ∷ ws) (escaped IssueProperty shows ++ codes ";") text))
    (plain_next w ws _ plain (property_text shows (codes ";" ++ text) is (plain_next 59 [] text refl rest)))

path_text : (path : Option (List ℕ)) (text : List ℕ) → IfSome path IsPath → NextText text → NextText (source_path path ++ text)
path_text None text is rest = rest
path_text (Some path) text is rest = named_text 115 (codes "ourcepath=") path text refl is.shown (after_any false text rest)

number_text : (w : ℕ) (ws : List ℕ) (o : Option ℕ) (text : List ℕ) → list_all is_plain (w ∷ ws) ≡ true → IfSome o (λ k. k < 2 ^ 64) → NextText text
    → NextText (issue_number (w ∷ ws) o ++ text)
number_text w ws None text plain small rest = rest
number_text w ws (Some k) text plain small rest =
    subst NextText
    (ap (λ t. (w ∷ ws) ++ t) (sym (append_assoc (decimal k) (codes ";") text)) ∙ sym (append_assoc (w ∷ ws) (decimal k ++ codes ";") text))
    (plains_next (w ∷ ws) _ plain (plains_next (decimal k) _ (decimal_plain k small) (plains_next (codes ";") text refl rest)))

code_text : (rule text : List ℕ) → IsShown rule → NextText text → NextText (issue_code rule ++ text)
code_text [] text is rest = rest
code_text (b ∷ bs) text is rest = named_text 99 (codes "ode=") (b ∷ bs) text refl is (after_any false text rest)

-- ---- the line of a result

-- what follows `type=` in the line
abbrev type_end : Level → List ℕ
type_end Error = codes "error;"
type_end Warning = codes "warning;"
type_end Note = codes "warning;"
type_end NoLevel = codes "warning;"

type_text : (l : Level) (text : List ℕ) → NextText text → NextText (type_end l ++ text)
type_text Error text rest = plains_next (codes "error;") text refl rest
type_text Warning text rest = plains_next (codes "warning;") text refl rest
type_text Note text rest = plains_next (codes "warning;") text refl rest
type_text NoLevel text rest = plains_next (codes "warning;") text refl rest

abbrev end_of : Finding → List ℕ
end_of f =
    type_end f.level ++ (source_path f.path ++ (issue_number (codes "linenumber=") f.line ++ (issue_number (codes "columnnumber=") f.column
    ++ (issue_code f.rule ++ (codes "]" ++ (escaped IssueMessage f.message ++ (codes " (" ++ (escaped IssueMessage f.tool
    ++ (codes ", " ++ (level_name f.level ++ (codes ", " ++ (state_name f.state ++ codes ")"))))))))))))

regroup : (h t p l k c b m o i s v x e n : List ℕ)
    → h ++ ((t ++ (p ++ (l ++ (k ++ c)))) ++ (b ++ ((m ++ (o ++ i)) ++ ((s ++ (v ++ (s ++ (x ++ e)))) ++ n))))
    ≡ h ++ (t ++ ((p ++ (l ++ (k ++ (c ++ (b ++ (m ++ (o ++ (i ++ (s ++ (v ++ (s ++ (x ++ e)))))))))))) ++ n))
regroup h t p l k c b m o i s v x e n = simp append_assoc

type_first : (l : Level) (text : List ℕ) → codes "##vso[task.logissue " ++ (issue_type l ++ text) ≡ codes "##vso[task.logissue type=" ++ (type_end l ++ text)
type_first Error text = refl
type_first Warning text = refl
type_first Note text = refl
type_first NoLevel text = refl

line_is : (f : Finding) → azure_line f ≡ issue_line (end_of f)
unfolding azure_line issue_begin issue_properties message_and_tool level_and_state
line_is f =
    regroup (codes "##vso[task.logissue ") (issue_type f.level) (source_path f.path) (issue_number (codes "linenumber=") f.line)
    (issue_number (codes "columnnumber=") f.column) (issue_code f.rule) (codes "]") (escaped IssueMessage f.message) (codes " (")
    (escaped IssueMessage f.tool) (codes ", ") (level_name f.level) (state_name f.state) (codes ")") (codes "\n")
    ∙ type_first f.level _
    ∙ ap (λ t. codes "##vso[task.logissue type=" ++ t) (sym (append_assoc (type_end f.level) _ (codes "\n")))

nothing_next : NextText []
nothing_next = ([], refl, refl, λ b. refl)

within_line : (f : Finding) → IsTold f → IsWithinLine (end_of f)
within_line f told =
    let state = plains_next (state_name f.state) _ (state_plain f.state) (plains_next (codes ")") [] refl nothing_next) in
    let level = plains_next (level_name f.level) _ (level_plain f.level) (plains_next (codes ", ") _ refl state) in
    let tool = plain_next 32 (40 ∷ []) _ refl (message_text f.tool _ told.tool (plains_next (codes ", ") _ refl level)) in
    let message = plain_next 93 [] _ refl (message_text f.message _ told.message tool) in
    let rule = code_text f.rule _ told.rule message in
    let column = number_text 99 (codes "olumnnumber=") f.column _ refl told.column rule in
    let line = number_text 108 (codes "inenumber=") f.line _ refl told.line column in
    let whole = type_text f.level _ (path_text f.path _ told.path line) in
    record { characters = whole.0; bytes = whole.1; seen = whole.2; signs = whole.3 false }

pub all_issues : (fs : List Finding) → AllByRecursion IsTold fs → AreIssues (length fs) (azure_lines_of fs)
all_issues [] told = record { ends = []; number = refl; lines = refl; within = tt }
all_issues (f ∷ fs) told =
    let rest = all_issues fs told.1 in
    record {
      ends = end_of f ∷ rest.ends;
      number = let more = rest.number in omega (arith, more);
      lines = ap₂ (λ x y. x ++ y) (sym (line_is f)) rest.lines;
      within = (within_line f told.0, rest.within);
    }

pub all_counted : (fs : List Finding) → AllByRecursion IsTold fs → AllByRecursion (λ f. properties_read (azure_line f) ≡ properties_of f) fs
all_counted [] told = tt
all_counted (f ∷ fs) told = (properties_counted f told.0, all_counted fs told.1)

-- ---- the report

pub issues_listed : (change : Option GatedChange) (reporting : Reporting) (log : Data) → AreIssues (length (reported_by change reporting log)) (azure_of (reported_by change reporting log))
issues_listed change reporting log =
    let fs = reported_by change reporting log in
    subst (λ n. AreIssues n (azure_lines_of (listed fs))) (length_listed fs) (all_issues (listed fs) (listed_told fs (told_inside change reporting log)))

pub hit_issues : (change : Option GatedChange) (reporting : Reporting) (log : Data)
    → AreIssues (hits_by change reporting.policy (runs_of log)) (flat_map azure_line (hits_among (reported_by change reporting log)))
hit_issues change reporting log =
    let fs = reported_by change reporting log in
    subst (λ n. AreIssues n (azure_lines_of (hits_among fs))) (hits_counted change reporting log) (all_issues (hits_among fs) (hits_told fs (told_inside change reporting log)))

pub hits_first : (change : Option GatedChange) (reporting : Reporting) (log : Data)
    → azure_of (reported_by change reporting log)
    ≡ flat_map azure_line (hits_among (reported_by change reporting log)) ++ flat_map azure_line (others_among (reported_by change reporting log))
hits_first change reporting log = lines_parted azure_line (reported_by change reporting log)
