-- Sentences that several reports share.
use Rattle.std.specs.Prelude.{ℕ, List, ◌++◌, ◌==◌, codes, if◌then◌else◌}
use Rattle.std.specs.Fmt.{decimal}
use Rattle.sarif_counts.specs.declared.gate_verdict.Verdict.{Verdict}
use Rattle.sarif_counts.specs.Hits.{verdict_name}

-- a number and what it counts: in the singular for 1
abbrev pub counted : ℕ → List ℕ → List ℕ → List ℕ
counted n one more = decimal n ++ (if n == 1 then one else more)

-- N hits
abbrev pub hits_text : ℕ → List ℕ
hits_text hits = counted hits (codes " hit") (codes " hits")

-- what follows the verdict: N hits, MAX allowed
abbrev pub gate_end : ℕ → ℕ → List ℕ
gate_end hits max =
    codes ", " ++ (hits_text hits ++ (codes ", " ++ (decimal max ++ codes " allowed")))

-- what follows the verdict of conditions: N hits, F of C conditions failed
abbrev pub conditions_end : ℕ → ℕ → ℕ → List ℕ
conditions_end hits failed all =
    codes ", " ++ (hits_text hits ++ (codes ", " ++ (decimal failed ++ (codes " of "
    ++ counted all (codes " condition failed") (codes " conditions failed")))))

-- Gate: VERDICT, and what follows it
abbrev pub gate_text : Verdict → List ℕ → List ℕ
gate_text verdict end = codes "Gate: " ++ (verdict_name verdict ++ end)

-- results without a row, all of them hits
abbrev pub more_hits : ℕ → List ℕ
more_hits n =
    counted n (codes " more hit is in the merged log.") (codes " more hits are in the merged log.")

-- results without a row, none of them a hit
abbrev pub more_others : ℕ → List ℕ
more_others n =
    counted n (codes " more result is in the merged log.")
    (codes " more results are in the merged log.")

-- n results without a row, and what some of them are
abbrev pub more_with : ℕ → List ℕ → List ℕ
more_with n of_them = decimal n ++ (codes " more results are in the merged log, " ++ of_them)

-- n results without a row, some of them hits
abbrev pub more_of_both : ℕ → ℕ → List ℕ
more_of_both n hits = more_with n (counted hits (codes " of them a hit.") (codes " of them hits."))

-- how many results have no row, and how many of them are hits
abbrev pub more_text : ℕ → ℕ → List ℕ
more_text n hits =
    if hits == n then more_hits n else (if hits == 0 then more_others n else more_of_both n hits)

-- how many reported results are not shown
abbrev pub unshown_text : ℕ → List ℕ
unshown_text n =
    counted n (codes " other result isn't shown.") (codes " other results aren't shown.")

-- how to accept one hit; the part of a command is between `before` and `after`
abbrev pub alone_text : List ℕ → List ℕ → List ℕ
alone_text before after =
    before ++ (codes "--at PLACE" ++ (after ++ codes " accepts one alone."))

-- what to pass to later merges, and then how to accept one hit
abbrev pub later_with : List ℕ → List ℕ → List ℕ → List ℕ
later_with before after one =
    before ++ (codes "--suppress FILE" ++ (after ++ (codes " from then on; " ++ one)))

abbrev pub later_text : List ℕ → List ℕ → List ℕ
later_text before after = later_with before after (alone_text before after)

-- how to accept the hits, or one of them; each part of a command is between `before` and `after`
abbrev pub accept_with : List ℕ → List ℕ → List ℕ → List ℕ → List ℕ
accept_with before after them later =
    codes "To accept " ++ (them ++ (codes ", run the same merge with "
    ++ (before ++ (codes "--accept --reason TEXT --suppress-out FILE" ++ (after
    ++ (codes ", review FILE, and pass " ++ later))))))

abbrev pub accept_text : List ℕ → List ℕ → ℕ → List ℕ
accept_text before after hits =
    accept_with before after (if hits == 1 then codes "this hit" else codes "these hits")
    (later_text before after)

-- how many input runs have no results
abbrev pub runs_text : ℕ → List ℕ
runs_text n =
    counted n (codes " run without results: nothing is known of what it looked for.")
    (codes " runs without results: nothing is known of what they looked for.")

-- how many entries of the suppression file match no current result
abbrev pub entries_text : ℕ → List ℕ
entries_text n =
    counted n (codes " suppression entry matches nothing.")
    (codes " suppression entries match nothing.")

-- the sentence on results outside of the change that would be hits
abbrev pub outside_text : ℕ → List ℕ
outside_text n =
    counted n (codes " result outside the change would be a hit.")
    (codes " results outside the change would be hits.")

-- how many filters of a policy match no current result
abbrev pub filters_text : ℕ → List ℕ
filters_text n =
    counted n (codes " filter of the policy matches nothing.")
    (codes " filters of the policy match nothing.")

-- how many active current results no condition of a policy checks
abbrev pub unchecked_text : ℕ → List ℕ
unchecked_text n =
    codes "No condition checks " ++ counted n (codes " active result.") (codes " active results.")
