-- The text that is the same on each page: it contains nothing from a log.
use Rattle.std.specs.Prelude.{ℕ, List, ◌++◌, codes}

-- no script, and nothing that is loaded; up to the verdict in the title
unfoldable pub page_begin : List ℕ
page_begin =
    codes "<!DOCTYPE html>\n" ++ (
    codes "<html lang=\"en\">\n" ++ (
    codes "<head>\n" ++ (
    codes "<meta charset=\"utf-8\">\n" ++ (
    codes "<meta http-equiv=\"Content-Security-Policy\" content=\"default-src 'none'; style-src 'unsafe-inline'; base-uri 'none'; form-action 'none'\">\n" ++ (
    codes "<meta name=\"viewport\" content=\"width=device-width, initial-scale=1\">\n" ++ (
    codes "<meta name=\"color-scheme\" content=\"light dark\">\n" ++ (
    codes "<title>")))))))

-- after the title
unfoldable pub title_end : List ℕ
title_end = codes "</title>\n"

-- after the style, up to the heading
unfoldable pub body_begin : List ℕ
body_begin =
    codes "</head>\n" ++ (
    codes "<body>\n" ++ (
    codes "<header>\n" ++ (
    codes "<div>\n")))

-- the table of counts, up to the end of its caption
unfoldable pub counts_begin : List ℕ
counts_begin =
    codes "</div>\n" ++ (
    codes "<div>\n" ++ (
    codes "<table class=\"counts\" rules=\"rows\" cellpadding=\"4\">\n" ++ (
    codes "<caption>All results by state and level")))

-- after its caption, up to its rows
unfoldable pub counts_head : List ℕ
counts_head =
    codes "</caption>\n" ++ (
    codes
    "<thead><tr><th scope=\"col\" align=\"left\">state</th><th scope=\"col\">error</th><th scope=\"col\">warning</th><th scope=\"col\">note</th><th scope=\"col\">none</th><th scope=\"col\">suppressed</th></tr></thead>\n" ++ (
    codes "<tbody align=\"right\">\n"))

-- the table of conditions, up to its rows
unfoldable pub conditions_begin : List ℕ
conditions_begin =
    codes "<table class=\"counts\" rules=\"rows\" cellpadding=\"4\">\n" ++ (
    codes "<caption>Conditions of the policy</caption>\n" ++ (
    codes
    "<thead><tr><th scope=\"col\" align=\"left\">condition</th><th scope=\"col\">verdict</th><th scope=\"col\">hits</th><th scope=\"col\">limit</th><th scope=\"col\">outside</th></tr></thead>\n" ++ (
    codes "<tbody align=\"right\">\n")))

-- after the rows of the counts, and of the conditions
unfoldable pub counts_end : List ℕ
counts_end =
    codes "</tbody>\n" ++ (
    codes "</table>\n")

-- between the sentences below the counts and the results
unfoldable pub header_end : List ℕ
header_end =
    codes "</div>\n" ++ (
    codes "</header>\n" ++ (
    codes "<main>\n"))

-- before the boxes: only a style displays them, in a browser in which they work
unfoldable pub filters_begin : List ℕ
filters_begin = codes "<div class=\"filters\" hidden>\n"

-- after the boxes: a sentence that a style displays if a box is off
unfoldable pub filters_end : List ℕ
filters_end =
    codes "<p>These filters hide some rows. The numbers count all.</p>\n" ++ (
    codes "</div>\n")

-- below the heading of a list: a sentence that a style displays if the boxes exclude all its rows
unfoldable pub gone_line : List ℕ
gone_line = codes "<p class=\"gone\" hidden>The filters hide all of these.</p>\n"

-- the index of rules, after the number of rules, up to its rows
unfoldable pub index_begin : List ℕ
index_begin =
    codes "</summary>\n" ++ (
    codes "<table>\n" ++ (
    codes "<caption>Results of each rule</caption>\n" ++ (
    codes
    "<thead><tr><th scope=\"col\">Number</th><th scope=\"col\">Rule</th><th scope=\"col\">Name</th><th scope=\"col\">Tool</th><th scope=\"col\">First in</th></tr></thead>\n" ++ (
    codes "<tbody>\n"))))

-- after its rows
unfoldable pub index_end : List ℕ
index_end =
    codes "</tbody>\n" ++ (
    codes "</table>\n")

-- instead of the lists of results
unfoldable pub nothing_reported : List ℕ
nothing_reported = codes "<p class=\"empty\">No results are reported.</p>\n"

-- the end of the page
unfoldable pub page_end : List ℕ
page_end =
    codes "</main>\n" ++ (
    codes "</body>\n" ++ (
    codes "</html>\n"))
