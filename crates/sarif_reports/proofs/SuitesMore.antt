-- The test suites of the report in JUnit XML, one result after another.
use Rattle.std.proofs.Common.{◌≡◌, ◌<◌, ◌+◌, ◌++◌, ℕ, Bool, true, false, not, cond, List, [], ◌∷◌, Some, None, length, take, get_or, map, filter, bytes_eq, if◌then◌else◌, refl, sym, ap, ap₂, subst, ◌∙◌, append-nil}
use Rattle.std.specs.Borrow.{Bor}
use Rattle.std.specs.Map.{lookup, set_value}
use Rattle.std.specs.declared.alloc.Global.{Global}
use Rattle.std.specs.declared.vec.Vec.{Vec}
use Rattle.std.proofs.lemmas.Bool.{false_from_ne_true, true≢false}
use Rattle.std.proofs.lemmas.List.{take_more, map-append}
use Rattle.std.proofs.lemmas.List.Elements.{filter-append}
use Rattle.std.proofs.lemmas.Slice.Eq.{bytes_eq-Decides}
use Rattle.indexmap.specs.IndexMap.{insert_entry}
use Rattle.sarif_findings.specs.declared.finding.Finding.{Finding}
use Rattle.sarif_reports.specs.JunitReport.{results_of, tools_of}
use Rattle.sarif_reports.specs.Internal.Suites.{Suite, with_result, suites_of, pointed, seen_suite}

-- ---- equal strings

pub same_text : (a : List ℕ) → bytes_eq a a ≡ true
same_text a = (bytes_eq-Decides a a).1 refl

text_is : (a b : List ℕ) → bytes_eq a b ≡ true → a ≡ b
text_is a b h = (bytes_eq-Decides a b).0 h

pub apart_back : (a b : List ℕ) → bytes_eq a b ≡ false → bytes_eq b a ≡ false
apart_back a b h = false_from_ne_true _ (λ same. true≢false (sym ((bytes_eq-Decides a b).1 (sym (text_is b a same))) ∙ h))

-- ---- one more result

-- whether a suite is another tool's
abbrev is_other : List ℕ → Suite → Bool
is_other tool s = not (bytes_eq tool s.0)

others_kept : (b : Bool) (g : Finding) (gs : List Finding) (t : List ℕ) (ts : List (List ℕ)) → bytes_eq g.tool t ≡ b
    → map (λ tool. (tool, results_of (g ∷ gs) tool)) (filter (λ tool. not (bytes_eq g.tool tool)) ts)
    ≡ filter (is_other g.tool) (map (λ tool. (tool, results_of gs tool)) ts)
    → map (λ tool. (tool, results_of (g ∷ gs) tool))
    (cond (not b) (t ∷ filter (λ tool. not (bytes_eq g.tool tool)) ts) (filter (λ tool. not (bytes_eq g.tool tool)) ts))
    ≡ cond (not b) ((t, results_of gs t) ∷ filter (is_other g.tool) (map (λ tool. (tool, results_of gs tool)) ts))
    (filter (is_other g.tool) (map (λ tool. (tool, results_of gs tool)) ts))
others_kept true g gs t ts e rest = rest
others_kept false g gs t ts e rest =
    let back : bytes_eq t g.tool ≡ false = apart_back g.tool t e in
    let here : results_of (g ∷ gs) t ≡ results_of gs t = ap (λ b. cond b (g ∷ results_of gs t) (results_of gs t)) back in
    ap₂ (λ rs ss. (t, rs) ∷ ss) here rest

others_of : (g : Finding) (gs : List Finding) (ts : List (List ℕ))
    → map (λ tool. (tool, results_of (g ∷ gs) tool)) (filter (λ tool. not (bytes_eq g.tool tool)) ts)
    ≡ filter (is_other g.tool) (map (λ tool. (tool, results_of gs tool)) ts)
others_of g gs [] = refl
others_of g gs (t ∷ ts) = others_kept (bytes_eq g.tool t) g gs t ts refl (others_of g gs ts)

-- the first result's suite, and those of other tools
suites_first : (g : Finding) (gs : List Finding)
    → suites_of (g ∷ gs) ≡ (g.tool, g ∷ results_of gs g.tool) ∷ filter (is_other g.tool) (suites_of gs)
suites_first g gs =
    ap₂ (λ rs ss. (g.tool, rs) ∷ ss) (ap (λ b. cond b (g ∷ results_of gs g.tool) (results_of gs g.tool)) (same_text g.tool))
    (others_of g gs (tools_of gs))

-- without a tool's suite, its result changes nothing
without_by : (b : Bool) (f : Finding) (s : Suite) (ss : List Suite) → bytes_eq f.tool s.0 ≡ b
    → filter (is_other f.tool) (with_result f ss) ≡ filter (is_other f.tool) ss
    → filter (is_other f.tool) (if b then (s.0, s.1 ++ f ∷ []) ∷ ss else s ∷ with_result f ss) ≡ filter (is_other f.tool) (s ∷ ss)
without_by true f s ss e rest =
    ap (λ t. cond (not t) ((s.0, s.1 ++ f ∷ []) ∷ filter (is_other f.tool) ss) (filter (is_other f.tool) ss)) e
    ∙ sym (ap (λ t. cond (not t) (s ∷ filter (is_other f.tool) ss) (filter (is_other f.tool) ss)) e)
without_by false f s ss e rest = ap (λ ss. cond (is_other f.tool s) (s ∷ ss) ss) rest

without_own : (f : Finding) (ss : List Suite) → filter (is_other f.tool) (with_result f ss) ≡ filter (is_other f.tool) ss
without_own f [] = ap (λ b. cond (not b) ((f.tool, f ∷ []) ∷ []) []) (same_text f.tool)
without_own f (s ∷ ss) = without_by (bytes_eq f.tool s.0) f s ss refl (without_own f ss)

-- without another tool's suite, the result goes where it went
other_skips : (b : Bool) (tool : List ℕ) (f : Finding) (s : Suite) (ss : List Suite) → bytes_eq f.tool s.0 ≡ false → bytes_eq tool s.0 ≡ b
    → filter (is_other tool) (with_result f ss) ≡ with_result f (filter (is_other tool) ss)
    → cond (not b) (s ∷ filter (is_other tool) (with_result f ss)) (filter (is_other tool) (with_result f ss))
    ≡ with_result f (cond (not b) (s ∷ filter (is_other tool) ss) (filter (is_other tool) ss))
other_skips true tool f s ss own e rest = rest
other_skips false tool f s ss own e rest =
    ap (λ ss. s ∷ ss) rest
    ∙ sym (ap (λ b. if b then (s.0, s.1 ++ f ∷ []) ∷ filter (is_other tool) ss else s ∷ with_result f (filter (is_other tool) ss)) own)

other_by : (b : Bool) (tool : List ℕ) (f : Finding) (s : Suite) (ss : List Suite) → bytes_eq tool f.tool ≡ false → bytes_eq f.tool s.0 ≡ b
    → filter (is_other tool) (with_result f ss) ≡ with_result f (filter (is_other tool) ss)
    → filter (is_other tool) (if b then (s.0, s.1 ++ f ∷ []) ∷ ss else s ∷ with_result f ss) ≡ with_result f (filter (is_other tool) (s ∷ ss))
other_by true tool f s ss apart e rest =
    let kept : bytes_eq tool s.0 ≡ false = ap (bytes_eq tool) (sym (text_is f.tool s.0 e)) ∙ apart in
    let left : filter (is_other tool) ((s.0, s.1 ++ f ∷ []) ∷ ss) ≡ (s.0, s.1 ++ f ∷ []) ∷ filter (is_other tool) ss =
    ap (λ b. cond (not b) ((s.0, s.1 ++ f ∷ []) ∷ filter (is_other tool) ss) (filter (is_other tool) ss)) kept in
    let first : filter (is_other tool) (s ∷ ss) ≡ s ∷ filter (is_other tool) ss =
    ap (λ b. cond (not b) (s ∷ filter (is_other tool) ss) (filter (is_other tool) ss)) kept in
    left
    ∙ sym (ap (λ b. if b then (s.0, s.1 ++ f ∷ []) ∷ filter (is_other tool) ss else s ∷ with_result f (filter (is_other tool) ss)) e)
    ∙ sym (ap (with_result f) first)
other_by false tool f s ss apart e rest = other_skips (bytes_eq tool s.0) tool f s ss e refl rest

without_other : (tool : List ℕ) (f : Finding) (ss : List Suite) → bytes_eq tool f.tool ≡ false
    → filter (is_other tool) (with_result f ss) ≡ with_result f (filter (is_other tool) ss)
without_other tool f [] apart = ap (λ b. cond (not b) ((f.tool, f ∷ []) ∷ []) []) apart
without_other tool f (s ∷ ss) apart = other_by (bytes_eq f.tool s.0) tool f s ss apart refl (without_other tool f ss apart)

more_by : (b : Bool) (g : Finding) (gs : List Finding) (f : Finding) → bytes_eq f.tool g.tool ≡ b
    → suites_of (gs ++ f ∷ []) ≡ with_result f (suites_of gs)
    → (g.tool, g ∷ results_of (gs ++ f ∷ []) g.tool) ∷ filter (is_other g.tool) (suites_of (gs ++ f ∷ []))
    ≡ (if b then (g.tool, (g ∷ results_of gs g.tool) ++ f ∷ []) ∷ filter (is_other g.tool) (suites_of gs)
    else (g.tool, g ∷ results_of gs g.tool) ∷ with_result f (filter (is_other g.tool) (suites_of gs)))
more_by true g gs f e rest =
    let tool : f.tool ≡ g.tool = text_is f.tool g.tool e in
    let own : results_of (f ∷ []) g.tool ≡ f ∷ [] =
    ap (λ b. cond b (f ∷ []) []) ((bytes_eq-Decides g.tool f.tool).1 (sym tool)) in
    let results : results_of (gs ++ f ∷ []) g.tool ≡ results_of gs g.tool ++ f ∷ [] =
    filter-append (λ x. bytes_eq g.tool x.tool) gs (f ∷ []) ∙ ap (λ rs. results_of gs g.tool ++ rs) own in
    let others : filter (is_other g.tool) (with_result f (suites_of gs)) ≡ filter (is_other g.tool) (suites_of gs) =
    subst (λ t. filter (is_other t) (with_result f (suites_of gs)) ≡ filter (is_other t) (suites_of gs)) tool (without_own f (suites_of gs)) in
    ap₂ (λ rs ss. (g.tool, g ∷ rs) ∷ ss) results (ap (filter (is_other g.tool)) rest ∙ others)
more_by false g gs f e rest =
    let apart : bytes_eq g.tool f.tool ≡ false = apart_back f.tool g.tool e in
    let own : results_of (f ∷ []) g.tool ≡ [] = ap (λ b. cond b (f ∷ []) []) apart in
    let results : results_of (gs ++ f ∷ []) g.tool ≡ results_of gs g.tool =
    filter-append (λ x. bytes_eq g.tool x.tool) gs (f ∷ []) ∙ ap (λ rs. results_of gs g.tool ++ rs) own ∙ append-nil (results_of gs g.tool) in
    ap₂ (λ rs ss. (g.tool, g ∷ rs) ∷ ss) results (ap (filter (is_other g.tool)) rest ∙ without_other g.tool f (suites_of gs) apart)

-- the suites after one more result
pub suites_more : (gs : List Finding) (f : Finding) → suites_of (gs ++ f ∷ []) ≡ with_result f (suites_of gs)
suites_more [] f = ap (λ b. (f.tool, cond b (f ∷ []) []) ∷ []) (same_text f.tool)
suites_more (g ∷ gs) f =
    suites_first g (gs ++ f ∷ []) ∙ more_by (bytes_eq f.tool g.tool) g gs f refl (suites_more gs f)
    ∙ sym (ap (with_result f) (suites_first g gs))

-- ---- the table

abbrev Entry : Type 0
Entry = Bor (List ℕ) × Vec (Bor Finding) Global

abbrev pub same_key : Bor (List ℕ) → Bor (List ℕ) → Bool
same_key a b = bytes_eq a.now b.now

written_by : (b : Bool) (f : Finding) (tool : List ℕ) (e : Entry) (es : List Entry) (old new : Vec (Bor Finding) Global) → bytes_eq tool e.0.now ≡ b
    → pointed new.items ≡ pointed old.items ++ f ∷ []
    → cond b (Some e.1) (lookup (λ key. bytes_eq tool key.now) es) ≡ Some old
    → (lookup (λ key. bytes_eq tool key.now) es ≡ Some old
    → map seen_suite (set_value (λ key. bytes_eq tool key.now) es new) ≡ with_result f (map seen_suite es))
    → map seen_suite (cond b ((e.0, new) ∷ es) (e ∷ set_value (λ key. bytes_eq tool key.now) es new))
    ≡ (if b then (e.0.now, pointed e.1.items ++ f ∷ []) ∷ map seen_suite es else seen_suite e ∷ with_result f (map seen_suite es))
written_by true f tool e es old new test items found rest =
    let is : e.1 ≡ old = cc in
    ap (λ rs. (e.0.now, rs) ∷ map seen_suite es) (items ∙ ap (λ v. pointed v.items ++ f ∷ []) (sym is))
written_by false f tool e es old new test items found rest = ap (λ ss. seen_suite e ∷ ss) (rest found)

-- a result goes to its tool's
pub suite_written : (f : Finding) (tool : List ℕ) (es : List Entry) (old new : Vec (Bor Finding) Global) → tool ≡ f.tool
    → pointed new.items ≡ pointed old.items ++ f ∷ []
    → lookup (λ key. bytes_eq tool key.now) es ≡ Some old
    → map seen_suite (set_value (λ key. bytes_eq tool key.now) es new) ≡ with_result f (map seen_suite es)
suite_written f tool [] old new own items found = cc
suite_written f tool (e ∷ es) old new own items found =
    written_by (bytes_eq tool e.0.now) f tool e es old new refl items found (suite_written f tool es old new own items)
    ∙ ap (λ t. if bytes_eq t e.0.now then (e.0.now, pointed e.1.items ++ f ∷ []) ∷ map seen_suite es else seen_suite e ∷ with_result f (map seen_suite es)) own

added_by : (b : Bool) (f : Finding) (key : Bor (List ℕ)) (e : Entry) (es : List Entry) (new : Vec (Bor Finding) Global) → bytes_eq key.now e.0.now ≡ b
    → cond b (Some e.1) (lookup (λ k. bytes_eq key.now k.now) es) ≡ None
    → (lookup (λ k. bytes_eq key.now k.now) es ≡ None → map seen_suite (insert_entry same_key es key new) ≡ with_result f (map seen_suite es))
    → map seen_suite (if b then (e.0, new) ∷ es else e ∷ insert_entry same_key es key new)
    ≡ (if b then (e.0.now, pointed e.1.items ++ f ∷ []) ∷ map seen_suite es else seen_suite e ∷ with_result f (map seen_suite es))
added_by true f key e es new test found rest = cc
added_by false f key e es new test found rest = ap (λ ss. seen_suite e ∷ ss) (rest found)

-- a tool's first result
pub suite_added : (f : Finding) (es : List Entry) (key : Bor (List ℕ)) (new : Vec (Bor Finding) Global) → key.now ≡ f.tool → pointed new.items ≡ f ∷ []
    → lookup (λ k. bytes_eq key.now k.now) es ≡ None
    → map seen_suite (insert_entry same_key es key new) ≡ with_result f (map seen_suite es)
suite_added f [] key new tool items found = ap₂ (λ t rs. (t, rs) ∷ []) tool items
suite_added f (e ∷ es) key new tool items found =
    added_by (bytes_eq key.now e.0.now) f key e es new refl found (suite_added f es key new tool items)
    ∙ ap (λ t. if bytes_eq t e.0.now then (e.0.now, pointed e.1.items ++ f ∷ []) ∷ map seen_suite es else seen_suite e ∷ with_result f (map seen_suite es)) tool

pub pointed_pushed : (old new : List (Bor Finding)) (f : Bor Finding) → new ≡ old ++ f ∷ [] → pointed new ≡ pointed old ++ f.now ∷ []
pointed_pushed old new f pushed = ap pointed pushed ∙ map-append (λ x. x.now) old (f ∷ [])

-- ---- the results that were read

pub pointed_more : (fs : List (Bor Finding)) (i : ℕ) (f : Bor Finding) → i < length fs → f ≡ get_or fs i f
    → pointed (take (i + 1) fs) ≡ pointed (take i fs) ++ f.now ∷ []
pointed_more fs i f within is =
    ap pointed (take_more fs i f within) ∙ map-append (λ x. x.now) (take i fs) (get_or fs i f ∷ [])
    ∙ ap (λ x. pointed (take i fs) ++ x.now ∷ []) (sym is)

-- the next result goes to its tool's
pub suites_next : (fs : List (Bor Finding)) (i : ℕ) (f : Bor Finding) (old new : List Suite) → i < length fs → f ≡ get_or fs i f
    → new ≡ with_result f.now old → old ≡ suites_of (pointed (take i fs)) → new ≡ suites_of (pointed (take (i + 1) fs))
suites_next fs i f old new within is added held =
    added ∙ ap (with_result f.now) held ∙ sym (suites_more (pointed (take i fs)) f.now)
    ∙ sym (ap suites_of (pointed_more fs i f within is))
