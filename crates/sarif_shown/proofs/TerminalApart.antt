-- What a terminal shows, line by line, with and without styles.
use Rattle.std.proofs.Common.{Option, ◌≡◌, ◌<◌, ◌==◌, ◌++◌, ◌+◌, ◌-◌, ◌/◌, ◌%◌, ℕ, zero, suc, Bool, true, false, not, List, [], ◌∷◌, codes, decimal, flat_map, if◌then◌else◌, length, take, refl, sym, ap, ◌∙◌, append-nil, append_assoc, arith}
use Rattle.std.specs.Prelude.{encode_utf8_all, nat_lt}
use Rattle.std.specs.Fmt.{digit_glyph, digits, digits_onto}
use Rattle.std.specs.List.{AllByRecursion, list_all}
use Rattle.std.proofs.lemmas.Bool.{and_parts, and_from, false_from_ne_true, eqb-true, not-true, true≢false}
use Rattle.serde_json.specs.Data.{Data}
use Rattle.sarif_model.specs.declared.kinds.Level.{Level}
use Rattle.sarif_model.specs.declared.kinds.Level.TheVariants.{NoLevel, Note, Warning, Error}
use Rattle.sarif_model.specs.Level.{level_name}
use Rattle.sarif_model.specs.Run.{runs_of}
use Rattle.sarif_model.specs.State.{state_name}
use Rattle.sarif_scope.specs.Counted.{hits_by}
use Rattle.sarif_scope.specs.declared.gated.GatedChange.{GatedChange}
use Rattle.sarif_findings.specs.declared.finding.Finding.{Finding}
use Rattle.sarif_findings.specs.declared.reporting.Reporting.{Reporting}
use Rattle.sarif_findings.specs.Finding.{spot_text}
use Rattle.sarif_shown.specs.ReportedInside.{reported_by}
use Rattle.sarif_findings.specs.ShownLaws.{is_seen, are_seen}
use Rattle.sarif_findings.proofs.HighBytes.{high_apart, char_kept}
use Rattle.sarif_findings.proofs.ToldFindings.{IsShown, IsTold}
use Rattle.sarif_shown.proofs.FindingsInside.{told_inside}
use Rattle.sarif_shown.specs.declared.terminal_lines.Screen.TheVariants.{Coloured, Plain}
use Rattle.sarif_shown.specs.Listed.{hits_among}
use Rattle.sarif_shown.specs.Sentences.{counted, more_hits, more_of_both, more_others, more_text}
use Rattle.sarif_shown.specs.TerminalLaws.{unstyled}
use Rattle.sarif_shown.specs.TerminalReport.{hit_lines, level_style, more_hits_line, most_shown, screen_line, sequence_of, some_lines, styled, terminal_of}
use Rattle.sarif_shown.specs.TextLaws.{IsTextOfLines}
use Rattle.sarif_shown.specs.TextReport.{bracketed, text_line, tool_and_state}
use Rattle.sarif_shown.proofs.ListedMore.{hits_counted, hits_told}
use Rattle.sarif_shown.proofs.SeenTexts.{IsSeenText, place_seen, plain_text, shown_text}
use Rattle.sarif_shown.proofs.TextApart.{all_lines, level_plain, state_plain}

-- ---- strings without ESC

abbrev Free : List ℕ → Type 0
Free text = list_all (λ b. not (b == 27)) text ≡ true

free_more : (b : ℕ) (bs : List ℕ) → (b == 27) ≡ false → Free bs → Free (b ∷ bs)
free_more b bs other rest = and_from (not (b == 27)) (list_all (λ b. not (b == 27)) bs) (ap not other) rest

free_append : (xs ys : List ℕ) → Free xs → Free ys → Free (xs ++ ys)
free_append [] ys h rest = rest
free_append (x ∷ xs) ys h rest =
    let parts = and_parts (not (x == 27)) (list_all (λ b. not (b == 27)) xs) h in
    free_more x (xs ++ ys) (not-true (x == 27) parts.0) (free_append xs ys parts.1 rest)

larger_apart : (c : ℕ) → 27 < c → (c == 27) ≡ false
larger_apart c large = false_from_ne_true _ (λ same. omega (arith, large, eqb-true c 27 same))

seen_apart : (c : ℕ) → is_seen c ≡ true → (c == 27) ≡ false
seen_apart c h = false_from_ne_true _ (λ same. true≢false (sym h ∙ ap is_seen (eqb-true c 27 same)))

free_chars : (cs : List ℕ) → are_seen cs ≡ true → Free (encode_utf8_all cs)
free_chars [] h = refl
free_chars (c ∷ cs) h =
    let parts = and_parts (is_seen c) (are_seen cs) h in
    char_kept Free (λ b more high rest. free_more b more (high_apart b 27 high (omega arith)) rest) c (encode_utf8_all cs)
    (λ _ rest. free_more c (encode_utf8_all cs) (seen_apart c parts.0) rest) (free_chars cs parts.1)

free_text : (text : List ℕ) → IsSeenText text → Free text
free_text text (cs, is, seen) = rw (sym is) (free_chars cs seen)

free_bracketed : (rule : List ℕ) → IsShown rule → Free (bracketed rule)
free_bracketed [] is = refl
free_bracketed (b ∷ bs) is =
    free_append (codes " [") ((b ∷ bs) ++ codes "]") refl (free_append (b ∷ bs) (codes "]") (free_text (b ∷ bs) (shown_text (b ∷ bs) is)) refl)

-- ---- numbers and sentences

either_free : (b : Bool) (xs ys : List ℕ) → Free xs → Free ys → Free (if b then xs else ys)
either_free true xs ys h rest = h
either_free false xs ys h rest = rest

digit_free : (b : Bool) (d : ℕ) (ds : List ℕ) → Free ds → Free ((if b then 48 + d else 87 + d) ∷ ds)
digit_free true d ds rest = free_more (48 + d) ds (larger_apart (48 + d) (omega arith)) rest
digit_free false d ds rest = free_more (87 + d) ds (larger_apart (87 + d) (omega arith)) rest

digits_free : (k n : ℕ) (ds : List ℕ) → Free ds → Free (digits_onto k 10 false n ds)
digits_free zero n ds rest = rest
digits_free (suc k) n ds rest =
    let more = digit_glyph false (n % 10) ∷ ds in
    let next = digit_free (nat_lt (n % 10) 10) (n % 10) ds rest in
    either_free (n / 10 == 0) more (digits_onto k 10 false (n / 10) more) next (digits_free k (n / 10) more next)

decimal_free : (n : ℕ) → Free (decimal n)
unfolding digits
decimal_free n = digits_free 64 n [] refl

counted_free : (n : ℕ) (one more : List ℕ) → Free one → Free more → Free (counted n one more)
counted_free n one more h rest =
    free_append (decimal n) (if n == 1 then one else more) (decimal_free n) (either_free (n == 1) one more h rest)

both_free : (n hits : ℕ) → Free (more_of_both n hits)
both_free n hits =
    let of_them = counted hits (codes " of them a hit.") (codes " of them hits.") in
    free_append (decimal n) (codes " more results are in the merged log, " ++ of_them) (decimal_free n)
    (free_append (codes " more results are in the merged log, ") of_them refl
    (counted_free hits (codes " of them a hit.") (codes " of them hits.") refl refl))

more_free : (n hits : ℕ) → Free (more_text n hits)
more_free n hits =
    let mixed = if hits == 0 then more_others n else more_of_both n hits in
    either_free (hits == n) (more_hits n) mixed
    (counted_free n (codes " more hit is in the merged log.") (codes " more hits are in the merged log.") refl refl)
    (either_free (hits == 0) (more_others n) (more_of_both n hits)
    (counted_free n (codes " more result is in the merged log.") (codes " more results are in the merged log.") refl refl)
    (both_free n hits))

rest_free : (n : ℕ) → Free (more_hits_line n ++ codes "\n")
rest_free n =
    let line = more_text n n ++ codes "\n" in
    free_append (more_hits_line n) (codes "\n")
    (either_free (n == 0) [] line refl (free_append (more_text n n) (codes "\n") (more_free n n) refl)) refl

-- ---- strings in a style

-- a string without ESC is unchanged, and what follows it is read as if it began there
stays : (text : List ℕ) → Free text → unstyled text ≡ text
stays [] h = refl
stays (b ∷ bs) h =
    let parts = and_parts (not (b == 27)) (list_all (λ b. not (b == 27)) bs) h in
    rw (not-true (b == 27) parts.0) (ap (λ t. b ∷ t) (stays bs parts.1))

passes : (text rest : List ℕ) → Free text → unstyled (text ++ rest) ≡ text ++ unstyled rest
passes [] rest h = refl
passes (b ∷ bs) rest h =
    let parts = and_parts (not (b == 27)) (list_all (λ b. not (b == 27)) bs) h in
    rw (not-true (b == 27) parts.0) (ap (λ t. b ∷ t) (passes bs rest parts.1))

ended : (text rest : List ℕ) → Free text → unstyled ((text ++ sequence_of (codes "0")) ++ rest) ≡ text ++ unstyled rest
ended text rest h =
    ap unstyled (append_assoc text (sequence_of (codes "0")) rest) ∙ passes text (sequence_of (codes "0") ++ rest) h

bold : (text rest : List ℕ) → Free text → unstyled (styled Coloured (codes "1") text ++ rest) ≡ text ++ unstyled rest
bold text rest h = ended text rest h

of_level : (l : Level) (text rest : List ℕ) → Free text → unstyled (styled Coloured (level_style l) text ++ rest) ≡ text ++ unstyled rest
of_level Error text rest h = ended text rest h
of_level Warning text rest h = ended text rest h
of_level Note text rest h = ended text rest h
of_level NoLevel text rest h = passes text rest h

-- ---- the line of a result

regroup : (p a l b m r t n rest : List ℕ)
    → ((p ++ ((a ++ (l ++ (b ++ m))) ++ (r ++ t))) ++ n) ++ rest ≡ p ++ (a ++ (l ++ ((b ++ (m ++ (r ++ (t ++ n)))) ++ rest)))
regroup p a l b m r t n rest = simp append_assoc

free_source : (f : Finding) → IsTold f → Free (tool_and_state f)
free_source f told =
    let state = codes ", " ++ (state_name f.state ++ codes ")") in
    free_append (codes " (") (f.tool ++ state) refl
    (free_append f.tool state (free_text f.tool (shown_text f.tool told.tool))
    (free_append (codes ", ") (state_name f.state ++ codes ")") refl
    (free_append (state_name f.state) (codes ")") (free_text (state_name f.state) (plain_text (state_name f.state) (state_plain f.state))) refl)))

free_end : (f : Finding) → IsTold f → Free (codes ": " ++ (f.message ++ (bracketed f.rule ++ (tool_and_state f ++ codes "\n"))))
free_end f told =
    let source = tool_and_state f ++ codes "\n" in
    free_append (codes ": ") (f.message ++ (bracketed f.rule ++ source)) refl
    (free_append f.message (bracketed f.rule ++ source) (free_text f.message (shown_text f.message told.message))
    (free_append (bracketed f.rule) source (free_bracketed f.rule told.rule) (free_append (tool_and_state f) (codes "\n") (free_source f told) refl)))

-- the line without its control sequences, and what follows it is read as if it began there
line_passes : (f : Finding) (rest : List ℕ) → IsTold f → unstyled (screen_line Coloured f ++ rest) ≡ text_line f ++ unstyled rest
line_passes f rest told =
    let place = styled Coloured (codes "1") (spot_text f) in
    let level = styled Coloured (level_style f.level) (level_name f.level) in
    let end = codes ": " ++ (f.message ++ (bracketed f.rule ++ (tool_and_state f ++ codes "\n"))) in
    let named = free_text (level_name f.level) (plain_text (level_name f.level) (level_plain f.level)) in
    ap unstyled (regroup place (codes ": ") level (codes ": ") f.message (bracketed f.rule) (tool_and_state f) (codes "\n") rest)
    ∙ bold (spot_text f) (codes ": " ++ (level ++ (end ++ rest))) (free_text (spot_text f) (place_seen f told))
    ∙ ap (λ t. spot_text f ++ t) (passes (codes ": ") (level ++ (end ++ rest)) refl)
    ∙ ap (λ t. spot_text f ++ (codes ": " ++ t)) (of_level f.level (level_name f.level) (end ++ rest) named)
    ∙ ap (λ t. spot_text f ++ (codes ": " ++ (level_name f.level ++ t))) (passes end rest (free_end f told))
    ∙ sym (regroup (spot_text f) (codes ": ") (level_name f.level) (codes ": ") f.message (bracketed f.rule) (tool_and_state f) (codes "\n") (unstyled rest))

line_unstyled : (f : Finding) → IsTold f → unstyled (screen_line Coloured f) ≡ text_line f
line_unstyled f told =
    ap unstyled (sym (append-nil (screen_line Coloured f))) ∙ line_passes f [] told ∙ append-nil (text_line f)

all_unstyled : (fs : List Finding) → AllByRecursion IsTold fs → AllByRecursion (λ f. unstyled (screen_line Coloured f) ≡ text_line f) fs
all_unstyled [] told = tt
all_unstyled (f ∷ fs) told = (line_unstyled f told.0, all_unstyled fs told.1)

pub lines_unstyled : (change : Option GatedChange) (reporting : Reporting) (log : Data)
    → AllByRecursion (λ f. unstyled (screen_line Coloured f) ≡ text_line f) (reported_by change reporting log)
lines_unstyled change reporting log = all_unstyled (reported_by change reporting log) (told_inside change reporting log)

-- ---- the first hits

told_first : (n : ℕ) (fs : List Finding) → AllByRecursion IsTold fs → AllByRecursion IsTold (take n fs)
told_first zero fs told = tt
told_first (suc n) [] told = tt
told_first (suc n) (f ∷ fs) told = (told.0, told_first n fs told.1)

pub first_lines : (n : ℕ) (change : Option GatedChange) (reporting : Reporting) (log : Data)
    → IsTextOfLines (length (take n (hits_among (reported_by change reporting log)))) (flat_map text_line (take n (hits_among (reported_by change reporting log))))
first_lines n change reporting log =
    let hits = hits_among (reported_by change reporting log) in
    all_lines (take n hits) (told_first n hits (hits_told (reported_by change reporting log) (told_inside change reporting log)))

parted : (n : ℕ) (fs : List Finding) → length (take n fs) + (length fs - n) ≡ length fs
parted zero fs = omega arith
parted (suc n) [] = omega arith
parted (suc n) (f ∷ fs) = let rest = parted n fs in omega (arith, rest)

pub hits_parted : (n : ℕ) (change : Option GatedChange) (reporting : Reporting) (log : Data)
    → length (take n (hits_among (reported_by change reporting log))) + (length (hits_among (reported_by change reporting log)) - n)
    ≡ hits_by change reporting.policy (runs_of log)
hits_parted n change reporting log = parted n (hits_among (reported_by change reporting log)) ∙ hits_counted change reporting log

-- ---- the whole report

lines_pass : (fs : List Finding) (rest : List ℕ) → AllByRecursion IsTold fs
    → unstyled (flat_map (screen_line Coloured) fs ++ rest) ≡ flat_map (screen_line Plain) fs ++ unstyled rest
lines_pass [] rest told = refl
lines_pass (f ∷ fs) rest told =
    ap unstyled (append_assoc (screen_line Coloured f) (flat_map (screen_line Coloured) fs) rest)
    ∙ line_passes f (flat_map (screen_line Coloured) fs ++ rest) told.0
    ∙ ap (λ t. screen_line Plain f ++ t) (lines_pass fs rest told.1)
    ∙ sym (append_assoc (screen_line Plain f) (flat_map (screen_line Plain) fs) (unstyled rest))

some_unstyled : (hits : List Finding) → AllByRecursion IsTold hits → unstyled (some_lines Coloured hits) ≡ some_lines Plain hits
some_unstyled hits told =
    let shown = take most_shown hits in
    let rest = length hits - most_shown in
    lines_pass shown (more_hits_line rest ++ codes "\n") (told_first most_shown hits told)
    ∙ ap (λ t. flat_map (screen_line Plain) shown ++ t) (stays (more_hits_line rest ++ codes "\n") (rest_free rest))

hits_unstyled : (hits : List Finding) → AllByRecursion IsTold hits → unstyled (hit_lines Coloured hits) ≡ hit_lines Plain hits
hits_unstyled [] told = refl
hits_unstyled (hit ∷ hits) told = some_unstyled (hit ∷ hits) told

pub report_unstyled : (change : Option GatedChange) (reporting : Reporting) (log : Data)
    → unstyled (terminal_of Coloured (reported_by change reporting log)) ≡ terminal_of Plain (reported_by change reporting log)
report_unstyled change reporting log =
    hits_unstyled (hits_among (reported_by change reporting log)) (hits_told (reported_by change reporting log) (told_inside change reporting log))
