-- The text report, line by line.
use Rattle.std.proofs.Common.{◌≡◌, ◌<◌, ◌^◌, ◌+◌, ◌%◌, ◌==◌, ◌++◌, ℕ, zero, suc, Bool, true, false, not, ◌&&◌, ◌||◌, List, [], ◌∷◌, Option, Some, None, IfSome, codes, decimal, flat_map, length, if◌then◌else◌, refl, sym, ap, ap₂, ◌∙◌, cond, append_assoc, subst, arith}
use mathlib.Core.Bool.{and-false}
use Rattle.std.specs.Prelude.{encode_utf8_all, nat_lt}
use Rattle.std.specs.Char.{encode_utf8}
use Rattle.std.specs.List.{AllByRecursion, count_by, list_all}
use Rattle.std.proofs.lemmas.Bool.{and_parts, and_from, or_from, or_parts, false_from_ne_true, eqb-true, true≢false, ltb-true, not-true}
use Rattle.std.proofs.lemmas.List.Sums.{sum_by-cons}
use Rattle.std.proofs.lemmas.Str.{encodes-append, encode_ascii}
use Rattle.std.proofs.lemmas.Fmt.{decimal_by_steps}
use Rattle.serde_json.specs.Data.{Data}
use Rattle.sarif_model.specs.declared.kinds.Level.{Level}
use Rattle.sarif_model.specs.declared.kinds.Level.TheVariants.{NoLevel, Note, Warning, Error}
use Rattle.sarif_model.specs.declared.kinds.State.{State}
use Rattle.sarif_model.specs.declared.kinds.State.TheVariants.{New, Unchanged, Updated, Absent}
use Rattle.sarif_model.specs.Level.{level_name}
use Rattle.sarif_model.specs.State.{state_name}
use Rattle.sarif_findings.specs.declared.finding.Finding.{Finding}
use Rattle.sarif_findings.specs.declared.reporting.Reporting.{Reporting}
use Rattle.sarif_findings.specs.Finding.{spot_text, place, place_path, numbered, begins_with_colon}
use Rattle.sarif_shown.specs.ReportedInside.{reported_by}
use Rattle.sarif_findings.specs.Shown.{shown_chars}
use Rattle.sarif_links.specs.Address.{has_two_signs}
use Rattle.sarif_findings.specs.ShownLaws.{is_seen, are_seen}
use Rattle.sarif_shown.specs.TextReport.{text_lines_of, text_line, bracketed}
use Rattle.sarif_shown.specs.TextLaws.{has_colon_line, AreLines, IsTextOfLines}
use Rattle.sarif_findings.proofs.SeenMore.{shown_seen, shown_apart}
use Rattle.sarif_findings.proofs.ToldFindings.{IsShown, IsPath, IsTold}
use Rattle.sarif_shown.proofs.FindingsInside.{told_inside}
use Rattle.sarif_model.specs.Run.{runs_of}
use Rattle.sarif_scope.specs.Counted.{hits_by}
use Rattle.sarif_scope.specs.declared.gated.GatedChange.{GatedChange}
use Rattle.sarif_shown.specs.Listed.{hits_among, listed, others_among}
use Rattle.sarif_shown.proofs.ListedMore.{hits_counted, hits_told, length_listed, lines_parted, listed_told}

-- ---- what follows within a line: after any character, or after one that is no `#`

record Within (count : ℕ) (cs : List ℕ) : Type 0 where
  ends : count_by (λ c. c == 10) cs ≡ count
  seen : list_all (λ c. c == 10 || is_seen c) cs ≡ true
  colons : has_colon_line false cs ≡ false
  signs : has_two_signs false cs ≡ false

record Anywhere (count : ℕ) (cs : List ℕ) : Type 0 where
  within : Within count cs
  signs : (b : Bool) → has_two_signs b cs ≡ false

abbrev pub is_plain : ℕ → Bool
is_plain c = is_seen c && (not (c == 35) && nat_lt c 128)

pub seen_in_line : (c : ℕ) → is_seen c ≡ true → (c == 10) ≡ false
seen_in_line c h = false_from_ne_true _ (λ same. true≢false (sym h ∙ ap is_seen (eqb-true c 10 same)))

-- no newline more
pub same_ends : (n c : ℕ) (cs : List ℕ) → (c == 10) ≡ false → count_by (λ c. c == 10) cs ≡ n → count_by (λ c. c == 10) (c ∷ cs) ≡ n
same_ends n c cs e h =
    let first = sum_by-cons (λ c. cond (c == 10) 1 0) c cs in
    let none = ap (λ b. cond {A = ℕ} b 1 0) e in
    omega (arith, first, none, h)

-- a character that is seen, before what may follow it
seen_more : (n c : ℕ) (cs : List ℕ) → is_seen c ≡ true → has_two_signs (c == 35) cs ≡ false → Within n cs → Within n (c ∷ cs)
seen_more n c cs seen apart h =
    let line : (c == 10) ≡ false = seen_in_line c seen in
    record {
      ends = same_ends n c cs line h.ends;
      seen = rw (line, seen) h.seen;
      colons = rw line h.colons;
      signs = apart;
    }

plain_more : (n c : ℕ) (cs : List ℕ) → is_plain c ≡ true → Within n cs → Anywhere n (c ∷ cs)
plain_more n c cs h rest =
    let parts = and_parts (is_seen c) (not (c == 35) && nat_lt c 128) h in
    let sign : (c == 35) ≡ false = not-true (c == 35) (and_parts (not (c == 35)) (nat_lt c 128) parts.1).0 in
    let apart : has_two_signs (c == 35) cs ≡ false = ap (λ b. has_two_signs b cs) sign ∙ rest.signs in
    record {
      within = seen_more n c cs parts.0 apart rest;
      signs = λ b. or_from (b && c == 35) (has_two_signs (c == 35) cs) (ap (λ t. b && t) sign ∙ and-false b) apart;
    }

plains_within : (n : ℕ) (ws cs : List ℕ) → list_all is_plain ws ≡ true → Within n cs → Within n (ws ++ cs)
plains_within n [] cs h rest = rest
plains_within n (w ∷ ws) cs h rest =
    let parts = and_parts (is_plain w) (list_all is_plain ws) h in
    (plain_more n w (ws ++ cs) parts.0 (plains_within n ws cs parts.1 rest)).within

plains_more : (n w : ℕ) (ws cs : List ℕ) → list_all is_plain (w ∷ ws) ≡ true → Within n cs → Anywhere n ((w ∷ ws) ++ cs)
plains_more n w ws cs h rest =
    let parts = and_parts (is_plain w) (list_all is_plain ws) h in
    plain_more n w (ws ++ cs) parts.0 (plains_within n ws cs parts.1 rest)

-- a shown text
signs_before : (b : Bool) (xs cs : List ℕ) → has_two_signs b xs ≡ false → ((a : Bool) → has_two_signs a cs ≡ false) → has_two_signs b (xs ++ cs) ≡ false
signs_before b [] cs h rest = rest b
signs_before b (x ∷ xs) cs h rest =
    let parts = or_parts (b && x == 35) (has_two_signs (x == 35) xs) h in
    or_from (b && x == 35) (has_two_signs (x == 35) (xs ++ cs)) parts.0 (signs_before (x == 35) xs cs parts.1 rest)

shown_within : (n : ℕ) (b : Bool) (xs cs : List ℕ) → are_seen xs ≡ true → has_two_signs b xs ≡ false → Anywhere n cs → Within n (xs ++ cs)
shown_within n b [] cs seen apart rest = rest.within
shown_within n b (x ∷ xs) cs seen apart rest =
    let parts = and_parts (is_seen x) (are_seen xs) seen in
    let signs = or_parts (b && x == 35) (has_two_signs (x == 35) xs) apart in
    seen_more n x (xs ++ cs) parts.0 (signs_before (x == 35) xs cs signs.1 rest.signs) (shown_within n (x == 35) xs cs parts.1 signs.1 rest)

-- the end of a line
line_ends : (n : ℕ) (cs : List ℕ) → AreLines n cs → Anywhere (n + 1) (10 ∷ cs)
line_ends n cs h =
    let first = sum_by-cons (λ c. cond (c == 10) 1 0) 10 cs in
    let held = h.ends in
    record {
      within = record { ends = omega (arith, first, held); seen = h.seen; colons = h.colons; signs = h.signs };
      signs = λ b. or_from (b && false) (has_two_signs false cs) (and-false b) h.signs;
    }

-- a line's first character is not a colon
line_begins : (n c : ℕ) (cs : List ℕ) → (c == 58) ≡ false → Within n (c ∷ cs) → AreLines n (c ∷ cs)
line_begins n c cs e h =
    record { ends = h.ends; seen = h.seen; colons = or_from (true && c == 58) (has_colon_line (c == 10) cs) e h.colons; signs = h.signs }

-- ---- the bytes of these characters

abbrev WithinText : ℕ → List ℕ → Type 0
WithinText n text = (cs : List ℕ) × (encode_utf8_all cs ≡ text) × Within n cs

abbrev AnywhereText : ℕ → List ℕ → Type 0
AnywhereText n text = (cs : List ℕ) × (encode_utf8_all cs ≡ text) × Anywhere n cs

pub plain_bytes : (ws : List ℕ) → list_all is_plain ws ≡ true → encode_utf8_all ws ≡ ws
plain_bytes [] h = refl
plain_bytes (w ∷ ws) h =
    let parts = and_parts (is_plain w) (list_all is_plain ws) h in
    let small = (and_parts (not (w == 35)) (nat_lt w 128) (and_parts (is_seen w) (not (w == 35) && nat_lt w 128) parts.0).1).1 in
    ap₂ (λ x y. x ++ y) (encode_ascii w (ltb-true w 128 small)) (plain_bytes ws parts.1)

plain_text : (n w : ℕ) (ws text : List ℕ) → list_all is_plain (w ∷ ws) ≡ true → WithinText n text → AnywhereText n ((w ∷ ws) ++ text)
plain_text n w ws text h rest =
    ((w ∷ ws) ++ rest.0, encodes-append (w ∷ ws) rest.0 ∙ ap₂ (λ x y. x ++ y) (plain_bytes (w ∷ ws) h) rest.1, plains_more n w ws rest.0 h rest.2)

within_text : (n : ℕ) (text : List ℕ) → AnywhereText n text → WithinText n text
within_text n text h = (h.0, h.1, h.2.within)

shown_text : (n : ℕ) (shows text : List ℕ) → IsShown shows → AnywhereText n text → WithinText n (shows ++ text)
shown_text n shows text is rest = (
  shown_chars is.0 ++ rest.0,
  encodes-append (shown_chars is.0) rest.0 ∙ ap₂ (λ x y. x ++ y) (sym is.1) rest.1,
  shown_within n false (shown_chars is.0) rest.0 (shown_seen is.0) (shown_apart is.0) rest.2,
)

-- names and numbers
plain_more_text : (n : ℕ) (ws text : List ℕ) → list_all is_plain ws ≡ true → AnywhereText n text → AnywhereText n (ws ++ text)
plain_more_text n [] text h rest = rest
plain_more_text n (w ∷ ws) text h rest = plain_text n w ws text h (within_text n text rest)

pub state_plain : (s : State) → list_all is_plain (state_name s) ≡ true
state_plain New = refl
state_plain Unchanged = refl
state_plain Updated = refl
state_plain Absent = refl

pub level_plain : (l : Level) → list_all is_plain (level_name l) ≡ true
level_plain NoLevel = refl
level_plain Note = refl
level_plain Warning = refl
level_plain Error = refl

digit_plain : (n : ℕ) → n < 10 → is_plain (48 + n) ≡ true
digit_plain zero h = refl
digit_plain (suc zero) h = refl
digit_plain (suc (suc zero)) h = refl
digit_plain (suc (suc (suc zero))) h = refl
digit_plain (suc (suc (suc (suc zero)))) h = refl
digit_plain (suc (suc (suc (suc (suc zero))))) h = refl
digit_plain (suc (suc (suc (suc (suc (suc zero)))))) h = refl
digit_plain (suc (suc (suc (suc (suc (suc (suc zero))))))) h = refl
digit_plain (suc (suc (suc (suc (suc (suc (suc (suc zero)))))))) h = refl
digit_plain (suc (suc (suc (suc (suc (suc (suc (suc (suc zero))))))))) h = refl
digit_plain (suc (suc (suc (suc (suc (suc (suc (suc (suc (suc n)))))))))) h = absurd (omega (arith, h))

plain_push : (ds : List ℕ) (d : ℕ) → list_all is_plain ds ≡ true → is_plain d ≡ true → list_all is_plain (ds ++ d ∷ []) ≡ true
plain_push [] d h e = and_from (is_plain d) true e refl
plain_push (c ∷ ds) d h e =
    let parts = and_parts (is_plain c) (list_all is_plain ds) h in
    and_from (is_plain c) (list_all is_plain (ds ++ d ∷ [])) parts.0 (plain_push ds d parts.1 e)

pub remainder : (n : ℕ) → n % 10 < 10
remainder n = omega arith

pub decimal_plain : (n : ℕ) → n < 2 ^ 64 → list_all is_plain (decimal n) ≡ true
decimal_plain n small =
    decimal_by_steps (λ _ ds. list_all is_plain ds ≡ true)
    (λ k low. and_from (is_plain (48 + k)) true (digit_plain k low) refl)
    (λ k ds _ h. plain_push ds (48 + k % 10) h (digit_plain (k % 10) (remainder k)))
    n small

numbered_text : (n : ℕ) (o : Option ℕ) (text : List ℕ) → IfSome o (λ k. k < 2 ^ 64) → AnywhereText n text → AnywhereText n (numbered o ++ text)
numbered_text n None text h rest = rest
numbered_text n (Some k) text h rest = plain_text n 58 (decimal k) text (decimal_plain k h) (within_text n text rest)

bracket_text : (n : ℕ) (rule text : List ℕ) → IsShown rule → AnywhereText n text → AnywhereText n (bracketed rule ++ text)
bracket_text n [] text is rest = rest
bracket_text n (b ∷ bs) text is rest =
    let inner = shown_text n (b ∷ bs) (codes "]" ++ text) is (plain_more_text n (codes "]") text refl rest) in
    subst (AnywhereText n) (ap (λ t. codes " [" ++ t) (sym (append_assoc (b ∷ bs) (codes "]") text)))
    (plain_text n 32 (91 ∷ []) ((b ∷ bs) ++ (codes "]" ++ text)) refl inner)

ends_text : (n : ℕ) (text : List ℕ) → IsTextOfLines n text → AnywhereText (n + 1) (10 ∷ text)
ends_text n text h = (10 ∷ h.0, ap₂ (λ x y. x ++ y) (encode_ascii 10 (omega arith)) h.1, line_ends n h.0 h.2)

-- ---- the line of a result

abbrev rest_of_line : Finding → List ℕ → List ℕ
rest_of_line f text =
    codes ": "
    ++ (level_name f.level
    ++ (codes ": "
    ++ (f.message ++ (bracketed f.rule ++ (codes " (" ++ (f.tool ++ (codes ", " ++ (state_name f.state ++ (codes ")\n" ++ text)))))))))

rest_text : (n : ℕ) (f : Finding) (text : List ℕ) → IsTold f → IsTextOfLines n text → AnywhereText (n + 1) (rest_of_line f text)
rest_text n f text told lines =
    let end = plain_text (n + 1) 41 [] (10 ∷ text) refl (within_text (n + 1) (10 ∷ text) (ends_text n text lines)) in
    let state = plain_more_text (n + 1) (state_name f.state) _ (state_plain f.state) end in
    let comma = plain_more_text (n + 1) (codes ", ") _ refl state in
    let tool = plain_text (n + 1) 32 (40 ∷ []) _ refl (shown_text (n + 1) f.tool _ told.tool comma) in
    let rule = bracket_text (n + 1) f.rule _ told.rule tool in
    let message = plain_text (n + 1) 58 (32 ∷ []) _ refl (shown_text (n + 1) f.message _ told.message rule) in
    let level = plain_more_text (n + 1) (level_name f.level) _ (level_plain f.level) message in
    plain_more_text (n + 1) (codes ": ") _ refl level

-- a line that begins with these characters
literal_line : (n w : ℕ) (ws text : List ℕ) → list_all is_plain (w ∷ ws) ≡ true → (w == 58) ≡ false → WithinText n text → IsTextOfLines n ((w ∷ ws) ++ text)
unfolding plain_text
literal_line n w ws text h first rest =
    let line = plain_text n w ws text h rest in
    (line.0, line.1, line_begins n w (ws ++ rest.0) first line.2.within)

no_colon_first : (x : ℕ) (xs path : List ℕ) → encode_utf8_all (x ∷ xs) ≡ path → begins_with_colon path ≡ false → (x == 58) ≡ false
no_colon_first x xs path e none =
    false_from_ne_true _ (λ same.
    let begins : encode_utf8 x ≡ 58 ∷ [] = ap encode_utf8 (eqb-true x 58 same) ∙ encode_ascii 58 (omega arith) in
    let path_is : path ≡ 58 ∷ encode_utf8_all xs = sym e ∙ ap (λ t. t ++ encode_utf8_all xs) begins in
    true≢false (sym (ap begins_with_colon path_is) ∙ none))

path_line : (n : ℕ) (xs path text : List ℕ) → encode_utf8_all xs ≡ path → are_seen xs ≡ true → has_two_signs false xs ≡ false → (path ≡ [] → ⊥)
    → begins_with_colon path ≡ false → AnywhereText n text → IsTextOfLines n (path ++ text)
path_line n [] path text e seen apart some none rest = absurd (some (sym e))
path_line n (x ∷ xs) path text e seen apart some none rest = (
  (x ∷ xs) ++ rest.0,
  encodes-append (x ∷ xs) rest.0 ∙ ap₂ (λ a b. a ++ b) e rest.1,
  line_begins n x (xs ++ rest.0) (no_colon_first x xs path e none) (shown_within n false (x ∷ xs) rest.0 seen apart rest.2),
)

place_path_line : (b : Bool) (n : ℕ) (path text : List ℕ) → begins_with_colon path ≡ b → IsPath path → AnywhereText n text
    → IsTextOfLines n ((if b then codes "./" ++ path else path) ++ text)
place_path_line true n path text e is rest = literal_line n 46 (47 ∷ []) (path ++ text) refl refl (shown_text n path text is.shown rest)
place_path_line false n path text e is rest =
    path_line n (shown_chars is.shown.0) path text (sym is.shown.1) (shown_seen is.shown.0) (shown_apart is.shown.0) is.some e rest

place_line : (n : ℕ) (path : Option (List ℕ)) (line column : Option ℕ) (text : List ℕ) → IfSome path IsPath → IfSome line (λ k. k < 2 ^ 64)
    → IfSome column (λ k. k < 2 ^ 64) → AnywhereText n text → IsTextOfLines n (place path line column ++ text)
place_line n None line column text p l c rest = literal_line n 45 [] text refl refl (within_text n text rest)
place_line n (Some path) line column text p l c rest =
    let numbers = numbered_text n line _ l (numbered_text n column text c rest) in
    let whole = place_path_line (begins_with_colon path) n path _ refl p numbers in
    let apart = append_assoc (place_path path) (numbered line ++ numbered column) text
    ∙ ap (λ t. place_path path ++ t) (append_assoc (numbered line) (numbered column) text) in
    subst (IsTextOfLines n) (sym apart) whole

regroup : (p a l b m r o t c s e n text : List ℕ)
    → ((p ++ ((a ++ (l ++ (b ++ m))) ++ (r ++ (o ++ (t ++ (c ++ (s ++ e))))))) ++ n) ++ text
    ≡ p ++ (a ++ (l ++ (b ++ (m ++ (r ++ (o ++ (t ++ (c ++ (s ++ (e ++ (n ++ text)))))))))))
regroup p a l b m r o t c s e n text = simp append_assoc

line_text : (n : ℕ) (f : Finding) (text : List ℕ) → IsTold f → IsTextOfLines n text → IsTextOfLines (n + 1) (text_line f ++ text)
line_text n f text told lines =
    subst (IsTextOfLines (n + 1))
    (sym
    (regroup (spot_text f) (codes ": ") (level_name f.level) (codes ": ") f.message (bracketed f.rule) (codes " (") f.tool (codes ", ")
    (state_name f.state) (codes ")") (codes "\n") text))
    (place_line (n + 1) f.path f.line f.column (rest_of_line f text) told.path told.line told.column (rest_text n f text told lines))

pub all_lines : (fs : List Finding) → AllByRecursion IsTold fs → IsTextOfLines (length fs) (flat_map text_line fs)
all_lines [] h = ([], refl, record { ends = refl; seen = refl; colons = refl; signs = refl })
all_lines (f ∷ fs) h =
    let count : length fs + 1 ≡ length (f ∷ fs) = omega arith in
    subst (λ n. IsTextOfLines n (flat_map text_line (f ∷ fs))) count (line_text (length fs) f (flat_map text_line fs) h.0 (all_lines fs h.1))

pub text_lines : (change : Option GatedChange) (reporting : Reporting) (log : Data) → IsTextOfLines (length (reported_by change reporting log)) (text_lines_of (reported_by change reporting log))
text_lines change reporting log =
    let fs = reported_by change reporting log in
    subst (λ n. IsTextOfLines n (text_lines_of fs)) (length_listed fs) (all_lines (listed fs) (listed_told fs (told_inside change reporting log)))

pub hit_lines : (change : Option GatedChange) (reporting : Reporting) (log : Data)
    → IsTextOfLines (hits_by change reporting.policy (runs_of log)) (flat_map text_line (hits_among (reported_by change reporting log)))
hit_lines change reporting log =
    let fs = reported_by change reporting log in
    subst (λ n. IsTextOfLines n (flat_map text_line (hits_among fs))) (hits_counted change reporting log)
    (all_lines (hits_among fs) (hits_told fs (told_inside change reporting log)))

pub hits_first : (change : Option GatedChange) (reporting : Reporting) (log : Data)
    → text_lines_of (reported_by change reporting log)
    ≡ flat_map text_line (hits_among (reported_by change reporting log)) ++ flat_map text_line (others_among (reported_by change reporting log))
hits_first change reporting log = lines_parted text_line (reported_by change reporting log)
