-- The tokens of values that are made of members and items.
use Rattle.std.proofs.Common.{◌≡◌, ◌==◌, false, length, ℕ, List, [], ◌∷◌, ◌++◌, map, Option, Some, None, codes, option_map, refl, sym, ap, ◌∙◌, append_assoc}
use Rattle.std.specs.Int.{w128, to_be_bytes}
use Rattle.uuid.specs.Text.{lower, hyphenated_text}
use Rattle.json.specs.Token.{Token, begin_object, end_object, begin_array, end_array, key, string}
use Rattle.json.specs.Tree.{items_tokens, members_tokens}
use Rattle.serde_json.specs.Data.{Data, Members, no_members, member, number, unsigned, string as text_data, array}
use Rattle.serde_json.specs.View.{items_of}
use Rattle.serde_json.specs.Written.{items_outline, members_outline}
use Rattle.sarif_model.specs.declared.record.Record.{Record}
use Rattle.sarif_model.specs.Written.{Row, text_members, list_if_any}
use Rattle.sarif_model.specs.Guid.{guid_text}
use Rattle.sarif_known.specs.KnownResult.{kind_unless_fail, level_if_fail, locations_for, message_rows, one_location, suppression_for, unless_empty, uri_rows, members_from, object_from, region_for, texts_if_any, result_rows, known_result}
use Rattle.sarif_known.specs.Chosen.{Chosen}
use Rattle.sarif_known.specs.KnownLog.{known_log}
use Rattle.sarif_known.specs.KnownRun.{artifact_at, base_alone, bases_alone, known_run, next_number, results_from, run_rows, tool_named}
use Rattle.sarif_known.specs.Internal.Tokens.{data_tokens, value_tokens, rows_then, pairs_tokens, each_tokens, first_tokens, last_tokens, opened, closed, run_opening, run_closing, log_opening, log_closing}

-- what is added in turn is added together
pub two : (o a b : List Token) (o1 o2 : List Token) → o1 ≡ o ++ a → o2 ≡ o1 ++ b → o2 ≡ o ++ (a ++ b)
two o a b o1 o2 e1 e2 = e2 ∙ ap (λ l. l ++ b) e1 ∙ append_assoc o a b

pub three : (o a b c : List Token) (o1 o2 o3 : List Token) → o1 ≡ o ++ a → o2 ≡ o1 ++ b → o3 ≡ o2 ++ c → o3 ≡ o ++ (a ++ (b ++ c))
three o a b c o1 o2 o3 e1 e2 e3 = two o a (b ++ c) o1 o3 e1 (two o1 b c o2 o3 e2 e3)

pub four : (o a b c d : List Token) (o1 o2 o3 o4 : List Token) → o1 ≡ o ++ a → o2 ≡ o1 ++ b → o3 ≡ o2 ++ c → o4 ≡ o3 ++ d → o4 ≡ o ++ (a ++ (b ++ (c ++ d)))
four o a b c d o1 o2 o3 o4 e1 e2 e3 e4 = two o a (b ++ (c ++ d)) o1 o4 e1 (three o1 b c d o2 o3 o4 e2 e3 e4)

pub five : (o a b c d f : List Token) (o1 o2 o3 o4 o5 : List Token) → o1 ≡ o ++ a → o2 ≡ o1 ++ b → o3 ≡ o2 ++ c → o4 ≡ o3 ++ d
    → o5 ≡ o4 ++ f → o5 ≡ o ++ (a ++ (b ++ (c ++ (d ++ f))))
five o a b c d f o1 o2 o3 o4 o5 e1 e2 e3 e4 e5 = two o a (b ++ (c ++ (d ++ f))) o1 o5 e1 (four o1 b c d f o2 o3 o4 o5 e2 e3 e4 e5)

-- five parts and four parts between a first and a last
regroup : (v1 v2 v3 v4 v5 w1 w2 w3 w4 e : List Token)
    → (v1 ++ (v2 ++ (v3 ++ (v4 ++ v5)))) ++ ((w1 ++ (w2 ++ (w3 ++ w4))) ++ e) ≡ v1 ++ (v2 ++ (v3 ++ (v4 ++ (v5 ++ (w1 ++ (w2 ++ (w3 ++ (w4 ++ e))))))))
regroup v1 v2 v3 v4 v5 w1 w2 w3 w4 e = simp append_assoc

-- a member whose string is that of a GUID
pub guid_tokens : (name : List ℕ) (o p : List Token) (text bytes : List ℕ) (guid : ℕ) (found : Option ℕ) → found ≡ Some guid
    → bytes ≡ to_be_bytes w128 guid → text ≡ hyphenated_text lower bytes
    → p ≡ o ++ value_tokens name (Some (text_data text)) → p ≡ o ++ value_tokens name (option_map (λ n. text_data (guid_text n)) found)
guid_tokens name o p text bytes guid found is whole written added =
    let said : text ≡ guid_text guid = written ∙ ap (hyphenated_text lower) whole in
    rw is (added ∙ ap (λ t. o ++ value_tokens name (Some (text_data t))) said)

rows_are : (rows : List Row) → members_tokens (members_outline (members_from rows)) ≡ rows_then rows (end_object ∷ [])
rows_are [] = refl
rows_are ((name, None) ∷ rows) = rows_are rows
rows_are ((name, Some d) ∷ rows) = ap (λ ts. key name ∷ (data_tokens d ++ ts)) (rows_are rows)

-- the tokens of an object of rows
pub object_tokens : (rows : List Row) → data_tokens (object_from rows) ≡ begin_object ∷ rows_then rows (end_object ∷ [])
object_tokens rows = ap (λ ts. begin_object ∷ ts) (rows_are rows)

pub pairs_are : (ps : List (List ℕ × List ℕ)) → members_tokens (members_outline (text_members ps)) ≡ pairs_tokens ps ++ end_object ∷ []
pairs_are [] = refl
pairs_are (p ∷ ps) = ap (λ ts. key p.0 ∷ (string p.1 ∷ ts)) (pairs_are ps)

pub each_are : (ds : List Data) → items_tokens (items_outline (items_of ds)) ≡ each_tokens ds ++ end_array ∷ []
each_are [] = refl
each_are (d ∷ ds) = ap (λ ts. data_tokens d ++ ts) (each_are ds) ∙ sym (append_assoc (data_tokens d) (each_tokens ds) (end_array ∷ []))

-- the tokens of an array
pub array_tokens : (ds : List Data) → data_tokens (array (items_of ds)) ≡ begin_array ∷ (each_tokens ds ++ end_array ∷ [])
array_tokens ds = ap (λ ts. begin_array ∷ ts) (each_are ds)

-- the tokens of a member that has a list
pub list_tokens : {A : Type 0} (name : List ℕ) (f : A → Data) (xs : List A) → (length xs == 0) ≡ false
    → value_tokens name (list_if_any (map f xs)) ≡ key name ∷ (begin_array ∷ (each_tokens (map f xs) ++ end_array ∷ []))
list_tokens name f [] some = cc
list_tokens name f (x ∷ xs) some = ap (λ ts. key name ∷ ts) (array_tokens (f x ∷ map f xs))

-- the tokens of a member that has strings under their names
pub texts_tokens : (name : List ℕ) (ps : List (List ℕ × List ℕ)) → (length ps == 0) ≡ false
    → value_tokens name (texts_if_any ps) ≡ key name ∷ (begin_object ∷ (pairs_tokens ps ++ end_object ∷ []))
texts_tokens name [] some = cc
texts_tokens name (p ∷ ps) some = ap (λ ts. key name ∷ (begin_object ∷ ts)) (pairs_are (p ∷ ps))

-- the tokens of a result are those of its members
pub result_tokens : (r : Record) (artifact : Option ℕ)
    → data_tokens (known_result r artifact) ≡ begin_object ∷ (first_tokens r artifact ++ (last_tokens r ++ end_object ∷ []))
result_tokens r artifact =
    object_tokens (result_rows r artifact)
    ∙ ap (λ ts. begin_object ∷ ts)
    (sym
    (regroup (value_tokens (codes "correlationGuid") (option_map (λ n. text_data (guid_text n)) r.guid))
    (value_tokens (codes "fingerprints") (texts_if_any r.full)) (value_tokens (codes "kind") (kind_unless_fail r.kind))
    (value_tokens (codes "level") (level_if_fail r.kind r.level)) (value_tokens (codes "locations") (locations_for r.place (region_for r.region r.snippet) artifact))
    (value_tokens (codes "message") (Some (object_from (message_rows r.message))))
    (value_tokens (codes "partialFingerprints") (texts_if_any r.partial)) (value_tokens (codes "ruleId") (unless_empty r.rule_id))
    (value_tokens (codes "suppressions") (list_if_any (map suppression_for r.held))) (end_object ∷ [])))

ending : (a v e f : List Token) → ((a ++ (v ++ e)) ++ e) ++ f ≡ a ++ (v ++ (e ++ (e ++ f)))
ending a v e f = simp append_assoc

-- the tokens of a location are those of the members of its artifact, of its region, and of what opens and closes them
location_tokens : (ms : Members) (region : Option Data)
    → value_tokens (codes "locations") (Some (one_location ms region))
    ≡ opened ++ (members_tokens (members_outline ms)
    ++ (value_tokens (codes "region") region ++ end_object ∷ end_object ∷ end_array ∷ []))
location_tokens ms region =
    ap (λ ts. opened ++ (((members_tokens (members_outline ms) ++ ts) ++ end_object ∷ []) ++ end_array ∷ []))
    (rows_are ((codes "region", region) ∷ []))
    ∙ ap (λ ts. opened ++ ts)
    (ending (members_tokens (members_outline ms)) (value_tokens (codes "region") region) (end_object ∷ []) (end_array ∷ []))

grouped_uri : (a b e v : List Token) → (a ++ (b ++ e)) ++ v ≡ a ++ (b ++ (e ++ v))
grouped_uri a b e v = simp append_assoc

-- the tokens of a place with a URI
pub uri_tokens : (uri : List ℕ) (base : Option (List ℕ)) (region : Option Data)
    → value_tokens (codes "locations") (Some (one_location (members_from (uri_rows uri base)) region))
    ≡ opened
    ++ (value_tokens (codes "uri") (Some (text_data uri)) ++ (value_tokens (codes "uriBaseId") (option_map text_data base) ++ closed region))
uri_tokens uri base region =
    let rest : List Token = value_tokens (codes "region") region ++ end_object ∷ end_object ∷ end_array ∷ [] in
    location_tokens (members_from (uri_rows uri base)) region
    ∙ ap (λ ts. opened ++ (ts ++ rest)) (rows_are (uri_rows uri base))
    ∙ ap (λ ts. opened ++ ts)
    (grouped_uri (value_tokens (codes "uri") (Some (text_data uri))) (value_tokens (codes "uriBaseId") (option_map text_data base))
    (end_object ∷ []) rest)

-- the tokens of a place with the number of an artifact
pub index_tokens : (artifact : ℕ) (region : Option Data)
    → value_tokens (codes "locations") (Some (one_location (member (codes "index") (number (unsigned artifact)) no_members) region))
    ≡ opened ++ (value_tokens (codes "index") (Some (number (unsigned artifact))) ++ closed region)
index_tokens artifact region = location_tokens (member (codes "index") (number (unsigned artifact)) no_members) region

-- ---- runs

-- one result more
pub step_results : (o p w : List Token) (n : ℕ) (r : Record) (rs : List Record) (artifact : Option ℕ)
    → artifact ≡ option_map (λ _. n) (base_alone r) → p ≡ o ++ data_tokens (known_result r artifact)
    → o ++ each_tokens (results_from n (r ∷ rs)) ≡ w → p ++ each_tokens (results_from (next_number n (base_alone r)) rs) ≡ w
step_results o p w n r rs artifact which added so_far =
    let rest : List Token = each_tokens (results_from (next_number n (base_alone r)) rs) in
    ap (λ l. l ++ rest) added
    ∙ append_assoc o (data_tokens (known_result r artifact)) rest
    ∙ ap (λ a. o ++ (data_tokens (known_result r a) ++ rest)) which
    ∙ so_far

-- the tokens of a run are those of its opening, its results and its closing
pub run_tokens : (run : Chosen)
    → data_tokens (known_run run) ≡ run_opening run.records ++ (each_tokens (results_from 0 run.records) ++ run_closing run.tool)
run_tokens run =
    let artifacts : List Token = value_tokens (codes "artifacts") (list_if_any (map artifact_at (bases_alone run.records))) in
    let tool : List Token = value_tokens (codes "tool") (Some (tool_named run.tool)) in
    let results : List Token = each_tokens (results_from 0 run.records) in
    object_tokens (run_rows run)
    ∙ ap (λ ts. begin_object ∷ (artifacts ++ (key (codes "results") ∷ (ts ++ (tool ++ end_object ∷ []))))) (array_tokens (results_from 0 run.records))
    ∙ grouped artifacts results (end_array ∷ []) (tool ++ end_object ∷ [])
  where
    grouped : (a r e t : List Token)
        → begin_object ∷ (a ++ (key (codes "results") ∷ ((begin_array ∷ (r ++ e)) ++ t)))
        ≡ (begin_object ∷ (a ++ key (codes "results") ∷ begin_array ∷ [])) ++ (r ++ (e ++ t))
    grouped a r e t = simp append_assoc

-- the tokens of the log
pub log_tokens : (runs : List Chosen) → data_tokens (known_log runs) ≡ log_opening ++ (each_tokens (map known_run runs) ++ log_closing)
log_tokens runs =
    let each : List Token = each_tokens (map known_run runs) in
    let version : List Token = value_tokens (codes "version") (Some (text_data (codes "2.1.0"))) in
    ap (λ ts. begin_object ∷ (key (codes "runs") ∷ (ts ++ (version ++ end_object ∷ [])))) (array_tokens (map known_run runs))
    ∙ ap (λ ts. begin_object ∷ (key (codes "runs") ∷ (begin_array ∷ ts))) (append_assoc each (end_array ∷ []) (version ++ end_object ∷ []))
