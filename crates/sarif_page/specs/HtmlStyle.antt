-- The style of the page: light and dark, on a phone and printed. Rows that a filter excludes are not displayed.
-- Hits, levels and states differ by their names and by weight or slant, not only by color.
use Rattle.std.specs.Prelude.{ℕ, List, ◌++◌, codes}

-- the page, its header and the table of counts
unfoldable pub style_top : List ℕ
style_top =
    codes "<style>\n" ++ (
    codes
    ":root{color-scheme:light dark;--page:#fff;--soft:#f6f8fa;--line:#d8dee4;--edge:#818b98;--text:#1f2328;--dim:#57606a;--mark:#fff3cd;--error:#b3261e;--warning:#7d4e00;--note:#0a58b0;--pass:#1a7f37}\n" ++ (
    codes
    "@media (prefers-color-scheme:dark){:root{--page:#0d1117;--soft:#161b22;--line:#30363d;--edge:#7d8590;--text:#e6edf3;--dim:#9da7b1;--mark:#3b2e00;--error:#ff9a92;--warning:#e3b341;--note:#79c0ff;--pass:#56d364}}\n" ++ (
    codes "*{box-sizing:border-box}\n" ++ (
    codes
    "body{margin:0 auto;max-width:92rem;padding:1.5rem 2rem 3rem;background:var(--page);color:var(--text);font:1rem/1.5 system-ui,-apple-system,\"Segoe UI\",sans-serif}\n" ++ (
    codes "header{display:grid;grid-template-columns:minmax(0,1fr) auto;gap:0 4rem;align-items:start}\n" ++ (
    codes
    "h1{margin:0 0 .75rem;padding-left:1rem;border-left:.5rem solid;font-size:2rem;line-height:1.2;text-wrap:balance}\n" ++ (
    codes "h1.fail{color:var(--error)}\n" ++ (
    codes "h1.pass{color:var(--pass)}\n" ++ (
    codes "h1 span{color:var(--text);font-weight:400}\n" ++ (
    codes "header p{margin:0 0 .5rem;max-width:40rem}\n" ++ (
    codes "header>div>p,header nav{padding-left:1.5rem}\n" ++ (
    codes "nav a{display:inline-block;padding:.25rem 0;margin-right:1rem}\n" ++ (
    codes
    "p.mind{margin:.75rem 0 0;padding:.375rem .75rem;border-left:.25rem solid var(--warning);background:var(--soft)}\n" ++ (
    codes "header p.mind{max-width:34rem;padding-left:.75rem;font-size:.9375rem}\n" ++ (
    codes "a{color:var(--note);text-underline-offset:.15em}\n" ++ (
    codes "code{font:.875rem/1.5 ui-monospace,SFMono-Regular,Menlo,Consolas,monospace}\n" ++ (
    codes "table{border-collapse:collapse;border-style:none}\n" ++ (
    codes
    "th,td{border-style:none;border-bottom:1px solid var(--line);font-weight:400;font-variant-numeric:tabular-nums}\n" ++ (
    codes "caption{text-align:left}\n" ++ (
    codes "thead th,caption{color:var(--dim)}\n" ++ (
    codes ".counts{width:100%;font-size:.875rem;line-height:1.4}\n" ++ (
    codes ".counts caption{padding-bottom:.25rem}\n" ++ (
    codes ".counts th,.counts td{padding:.1875rem .625rem;text-align:right}\n" ++ (
    codes ".counts tr>:first-child{padding-left:0;text-align:left}\n" ++ (
    codes ".counts .on{outline:1px solid var(--edge);outline-offset:-2px;background:var(--mark)}\n")))))))))))))))))))))))))

-- the style of a second table in the header: it follows the other one
unfoldable pub tables_style : List ℕ
tables_style = codes "<style>.counts~.counts{margin-top:1rem}</style>\n"

-- the boxes, the index of rules and the groups
unfoldable pub style_groups : List ℕ
style_groups =
    codes ".filters,.gone{display:none}\n" ++ (
    codes ".filters{flex-wrap:wrap;gap:.25rem 2rem;margin-top:1.5rem}\n" ++ (
    codes "fieldset{display:flex;flex-wrap:wrap;gap:0 1.25rem;min-width:0;margin:0;padding:0;border:0}\n" ++ (
    codes "legend{float:left;min-width:3rem;padding:.25rem 0;color:var(--dim)}\n" ++ (
    codes "label{display:inline-flex;align-items:center;gap:.375rem;padding:.25rem 0}\n" ++ (
    codes "input{width:1.125rem;height:1.125rem;margin:0;accent-color:var(--note)}\n" ++ (
    codes ".filters p{display:none;margin:0;padding:.25rem 0;color:var(--dim)}\n" ++ (
    codes ":focus-visible{outline:3px solid var(--note);outline-offset:2px}\n" ++ (
    codes "section{margin-top:1rem}\n" ++ (
    codes "h2{margin:0;padding-bottom:.25rem;font-size:1.375rem;line-height:1.3}\n" ++ (
    codes ".gone{margin:0 0 .5rem;font-weight:700}\n" ++ (
    codes "summary{cursor:pointer;padding:.3125rem 0}\n" ++ (
    codes ".rules{margin-bottom:.25rem}\n" ++ (
    codes ".rules summary{color:var(--dim)}\n" ++ (
    codes ".rules table{margin:.25rem 0 .75rem;font-size:.9375rem}\n" ++ (
    codes
    ".rules th,.rules td{max-width:min(20vw,18rem);padding:.25rem 1.5rem .25rem 0;text-align:left;vertical-align:baseline;overflow-wrap:break-word}\n" ++ (
    codes ".rules td:first-child,.rules th:first-child{text-align:right}\n" ++ (
    codes "details[data-has]>summary{border-top:1px solid var(--line)}\n" ++ (
    codes "[open][id]>summary{position:sticky;top:0;background:var(--page)}\n" ++ (
    codes
    "h3{display:inline-block;max-width:calc(100% - 2rem);max-height:2.25rem;margin:0 .5rem 0 0;overflow-y:auto;vertical-align:top;font:700 .875rem/1.3 ui-monospace,SFMono-Regular,Menlo,Consolas,monospace;overflow-wrap:anywhere}\n" ++ (
    codes "summary span{color:var(--dim);font-size:.875rem}\n" ++ (
    codes "h3+span{display:inline-block;line-height:1.3;vertical-align:top}\n" ++ (
    codes "[open]>summary h3+span{color:var(--text)}\n" ++ (
    codes "ul{margin:0;padding:0 0 .5rem;list-style:none;font-size:.9375rem;line-height:1.45}\n" ++ (
    codes ".empty,.how{margin:1.5rem 0 0;color:var(--dim)}\n"))))))))))))))))))))))))

-- the rows
unfoldable pub style_rows : List ℕ
style_rows =
    codes
    "li{display:grid;grid-template-columns:6.5rem 5rem minmax(0,1fr) 17rem;grid-template-rows:auto 1fr;gap:0 1rem;padding:.4375rem 0 .4375rem 1rem}\n" ++ (
    codes "li+li{border-top:1px dotted var(--line)}\n" ++ (
    codes "li>*{grid-row:1;min-width:0}\n" ++ (
    codes "li>:first-child,li>a code{font-weight:700;font-size:.8125rem}\n" ++ (
    codes "li i{position:absolute;width:1px;height:1px;overflow:hidden;clip-path:inset(50%);white-space:nowrap}\n" ++ (
    codes ".all::after{content:\"whole file\";font-weight:400}\n" ++ (
    codes
    "li>b{justify-self:start;align-self:start;padding:0 .4375rem;border:1px solid;border-radius:.25rem;font-size:.8125rem;line-height:1.45;white-space:nowrap}\n" ++ (
    codes "[data-level=\"error\"]>b{background:var(--error);border-color:var(--error);color:var(--page)}\n" ++ (
    codes "[data-level=\"warning\"]>b{color:var(--warning)}\n" ++ (
    codes "[data-level=\"note\"]>b{border-color:var(--line);color:var(--note);font-weight:400}\n" ++ (
    codes
    "[data-level=\"none\"]>b{border-color:transparent;padding-inline:0;color:var(--dim);font-weight:400;font-style:italic}\n" ++ (
    codes "li>p{grid-column:3;max-height:11rem;margin:0;overflow-y:auto;overflow-wrap:anywhere}\n" ++ (
    codes
    "pre{margin:.25rem 0 0;padding:.25rem .625rem;overflow-x:auto;border-left:.1875rem solid var(--line);background:var(--soft)}\n" ++ (
    codes "pre code{font-size:.8125rem;line-height:1.4}\n" ++ (
    codes "li>pre{grid-area:2/3}\n" ++ (
    codes "mark{background:var(--mark);color:inherit;font-weight:700}\n" ++ (
    codes "li>div{grid-area:1/4/span 2;max-height:14rem;overflow-y:auto;font-size:.875rem;overflow-wrap:anywhere}\n" ++ (
    codes "li>div code{font-size:.8125rem}\n" ++ (
    codes "li>div span{display:inline-block;color:var(--dim)}\n"))))))))))))))))))

-- what the boxes exclude: rows, and groups and lists whose rows are all excluded
unfoldable pub style_filters : List ℕ
style_filters =
    codes "@supports selector(:has(*)){\n" ++ (
    codes ".filters{display:flex}\n" ++ (
    codes
    ".filters:has(#error:not(:checked))~section [data-level=\"error\"],.filters:has(#warning:not(:checked))~section [data-level=\"warning\"],.filters:has(#note:not(:checked))~section [data-level=\"note\"],.filters:has(#none:not(:checked))~section [data-level=\"none\"],\n" ++ (
    codes
    ".filters:has(#new:not(:checked))~section [data-state=\"new\"],.filters:has(#unchanged:not(:checked))~section [data-state=\"unchanged\"],.filters:has(#updated:not(:checked))~section [data-state=\"updated\"],.filters:has(#absent:not(:checked))~section [data-state=\"absent\"]{display:none}\n" ++ (
    codes ".filters:has(input:not(:checked)) p{display:block}\n" ++ (
    codes ".filters:has(input:not(:checked))~[data-has]>.gone{display:block}\n" ++ (
    codes ".filters:has(input:not(:checked))~section details[data-has]{display:none}\n" ++ (
    codes
    ".filters:not(:has(#error:not(:checked),#new:not(:checked)))~section details[data-has~=\"error-new\"]{display:block}\n" ++ (
    codes
    ".filters:not(:has(#error:not(:checked),#new:not(:checked)))~[data-has~=\"error-new\"]>.gone{display:none}\n" ++ (
    codes
    ".filters:not(:has(#error:not(:checked),#unchanged:not(:checked)))~section details[data-has~=\"error-unchanged\"]{display:block}\n" ++ (
    codes
    ".filters:not(:has(#error:not(:checked),#unchanged:not(:checked)))~[data-has~=\"error-unchanged\"]>.gone{display:none}\n" ++ (
    codes
    ".filters:not(:has(#error:not(:checked),#updated:not(:checked)))~section details[data-has~=\"error-updated\"]{display:block}\n" ++ (
    codes
    ".filters:not(:has(#error:not(:checked),#updated:not(:checked)))~[data-has~=\"error-updated\"]>.gone{display:none}\n" ++ (
    codes
    ".filters:not(:has(#error:not(:checked),#absent:not(:checked)))~section details[data-has~=\"error-absent\"]{display:block}\n" ++ (
    codes
    ".filters:not(:has(#error:not(:checked),#absent:not(:checked)))~[data-has~=\"error-absent\"]>.gone{display:none}\n" ++ (
    codes
    ".filters:not(:has(#warning:not(:checked),#new:not(:checked)))~section details[data-has~=\"warning-new\"]{display:block}\n" ++ (
    codes
    ".filters:not(:has(#warning:not(:checked),#new:not(:checked)))~[data-has~=\"warning-new\"]>.gone{display:none}\n" ++ (
    codes
    ".filters:not(:has(#warning:not(:checked),#unchanged:not(:checked)))~section details[data-has~=\"warning-unchanged\"]{display:block}\n" ++ (
    codes
    ".filters:not(:has(#warning:not(:checked),#unchanged:not(:checked)))~[data-has~=\"warning-unchanged\"]>.gone{display:none}\n" ++ (
    codes
    ".filters:not(:has(#warning:not(:checked),#updated:not(:checked)))~section details[data-has~=\"warning-updated\"]{display:block}\n" ++ (
    codes
    ".filters:not(:has(#warning:not(:checked),#updated:not(:checked)))~[data-has~=\"warning-updated\"]>.gone{display:none}\n" ++ (
    codes
    ".filters:not(:has(#warning:not(:checked),#absent:not(:checked)))~section details[data-has~=\"warning-absent\"]{display:block}\n" ++ (
    codes
    ".filters:not(:has(#warning:not(:checked),#absent:not(:checked)))~[data-has~=\"warning-absent\"]>.gone{display:none}\n" ++ (
    codes
    ".filters:not(:has(#note:not(:checked),#new:not(:checked)))~section details[data-has~=\"note-new\"]{display:block}\n" ++ (
    codes
    ".filters:not(:has(#note:not(:checked),#new:not(:checked)))~[data-has~=\"note-new\"]>.gone{display:none}\n" ++ (
    codes
    ".filters:not(:has(#note:not(:checked),#unchanged:not(:checked)))~section details[data-has~=\"note-unchanged\"]{display:block}\n" ++ (
    codes
    ".filters:not(:has(#note:not(:checked),#unchanged:not(:checked)))~[data-has~=\"note-unchanged\"]>.gone{display:none}\n" ++ (
    codes
    ".filters:not(:has(#note:not(:checked),#updated:not(:checked)))~section details[data-has~=\"note-updated\"]{display:block}\n" ++ (
    codes
    ".filters:not(:has(#note:not(:checked),#updated:not(:checked)))~[data-has~=\"note-updated\"]>.gone{display:none}\n" ++ (
    codes
    ".filters:not(:has(#note:not(:checked),#absent:not(:checked)))~section details[data-has~=\"note-absent\"]{display:block}\n" ++ (
    codes
    ".filters:not(:has(#note:not(:checked),#absent:not(:checked)))~[data-has~=\"note-absent\"]>.gone{display:none}\n" ++ (
    codes
    ".filters:not(:has(#none:not(:checked),#new:not(:checked)))~section details[data-has~=\"none-new\"]{display:block}\n" ++ (
    codes
    ".filters:not(:has(#none:not(:checked),#new:not(:checked)))~[data-has~=\"none-new\"]>.gone{display:none}\n" ++ (
    codes
    ".filters:not(:has(#none:not(:checked),#unchanged:not(:checked)))~section details[data-has~=\"none-unchanged\"]{display:block}\n" ++ (
    codes
    ".filters:not(:has(#none:not(:checked),#unchanged:not(:checked)))~[data-has~=\"none-unchanged\"]>.gone{display:none}\n" ++ (
    codes
    ".filters:not(:has(#none:not(:checked),#updated:not(:checked)))~section details[data-has~=\"none-updated\"]{display:block}\n" ++ (
    codes
    ".filters:not(:has(#none:not(:checked),#updated:not(:checked)))~[data-has~=\"none-updated\"]>.gone{display:none}\n" ++ (
    codes
    ".filters:not(:has(#none:not(:checked),#absent:not(:checked)))~section details[data-has~=\"none-absent\"]{display:block}\n" ++ (
    codes
    ".filters:not(:has(#none:not(:checked),#absent:not(:checked)))~[data-has~=\"none-absent\"]>.gone{display:none}\n" ++ (
    codes "}\n")))))))))))))))))))))))))))))))))))))))

-- on a phone, where a row is at most 400 pixels high
unfoldable pub style_narrow : List ℕ
style_narrow =
    codes "@media (max-width:64rem){\n" ++ (
    codes "body{padding:1rem 1rem 2rem}\n" ++ (
    codes "header{display:block}\n" ++ (
    codes "header>div+div{overflow-x:auto}\n" ++ (
    codes "h1{margin-bottom:.5rem;padding-left:.75rem;font-size:1.375rem}\n" ++ (
    codes "header>div>p,header nav{padding-left:0}\n" ++ (
    codes "header>div>p{line-height:1.4}\n" ++ (
    codes ".counts{margin-top:.25rem;font-size:.8125rem}\n" ++ (
    codes ".counts th,.counts td{padding-inline:.25rem}\n" ++ (
    codes "header p.mind{margin-top:.375rem;padding:.1875rem .5rem;font-size:.875rem;line-height:1.4}\n" ++ (
    codes ".filters{margin-top:.5rem;font-size:.9375rem;gap:0 1.5rem}\n" ++ (
    codes "fieldset{gap:0 .75rem}\n" ++ (
    codes "legend{min-width:2.75rem}\n" ++ (
    codes "label{gap:.25rem}\n" ++ (
    codes "section{margin-top:.5rem}\n" ++ (
    codes "h2{padding:0;font-size:1.25rem}\n" ++ (
    codes "summary{padding:.375rem 0}\n" ++ (
    codes "h3{font-size:.8125rem;max-height:2.125rem}\n" ++ (
    codes ".rules{overflow-x:auto}\n" ++ (
    codes ".rules th,.rules td{max-width:10rem;padding-right:.75rem}\n" ++ (
    codes
    "li{grid-template-columns:auto auto minmax(0,1fr);grid-template-rows:none;gap:.125rem .75rem;padding-left:0;align-items:baseline}\n" ++ (
    codes "li>*{grid-row:auto}\n" ++ (
    codes "li>p,li>pre,li>div{grid-area:auto/1/auto/-1}\n" ++ (
    codes "li>p{max-height:8rem;font-size:1rem}\n" ++ (
    codes "li>div{max-height:3.75rem;padding-block:.25rem}\n" ++ (
    codes "li>div a{padding-block:.25rem}\n" ++ (
    codes "}\n"))))))))))))))))))))))))))

-- the printed page, on which each group is open
unfoldable pub style_print : List ℕ
style_print =
    codes "@media print{\n" ++ (
    codes
    ":root{color-scheme:light;--page:#fff;--soft:#fff;--line:#999;--edge:#000;--text:#000;--dim:#333;--mark:#fff;--error:#000;--warning:#000;--note:#000;--pass:#000}\n" ++ (
    codes "body{max-width:none;padding:0;font-size:.8125rem}\n" ++ (
    codes ".filters,nav,.gone{display:none!important}\n" ++ (
    codes "details::details-content{content-visibility:visible;block-size:auto}\n" ++ (
    codes "[open][id]>summary{position:static}\n" ++ (
    codes "h3,li>p,li>div{max-height:none}\n" ++ (
    codes "li{padding:.25rem 0}\n" ++ (
    codes "ul,li>p{font-size:.75rem}\n" ++ (
    codes "pre{overflow:visible;white-space:pre-wrap;overflow-wrap:anywhere}\n" ++ (
    codes "li,tr,h2,summary{break-inside:avoid}\n" ++ (
    codes "h2,summary{break-after:avoid}\n" ++ (
    codes "[data-level=\"error\"]>b{background:none;color:#000;border-width:2px}\n" ++ (
    codes "}\n" ++ (
    codes "</style>\n"))))))))))))))

-- lines of CSS
unfoldable pub style : List ℕ
style = style_top ++ (style_groups ++ (style_rows ++ (style_filters ++ (style_narrow ++ (style_print)))))
