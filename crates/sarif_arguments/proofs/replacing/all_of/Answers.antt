use Rattle.std.proofs.Common.{◌≡◌, ◌∙◌, ◌+◌, ◌++◌, Bool, ◌||◌, List, ℕ, ap, arith, drop, false, map, rules, string_bytes, subst, sym}
use Rattle.std.proofs.lemmas.List.{map-append}
use Rattle.std.specs.List.{list_any}
use Rattle.std.specs.Prelude.{Ok, Err}
use Rattle.sarif_arguments.specs.Replaced.{IfDone, HoldsForFault, StandFor, StandsFor, is_end}
use Rattle.sarif_arguments.proofs.Leading.{Leads, leads_last, leads_on, leads_refused, left_at, none_left}
use Rattle.sarif_arguments.proofs.replacing.all_of.Goals as goal

pub returns-in_err-given : goal.returns-in_err-given
returns-in_err-given g c =
    let gives = g.F.ArgumentFiles.gives c.args.files.now in
    let words = c.args.words.now in
    let given = map string_bytes words in
    let i = c.loop-word.word-index in
    let done = map string_bytes c.loop-word.all.items in
    let ended = c.loop-word.is_ended in
    let left = left_at string_bytes words i c.word-item.result c.loop-word-test.true c.word-item.is in
    let leads = subst (λ (ws : List (List ℕ)). Leads gives ended ws done given) left c.loop-word.invariant in
    let found = c.in_err-given.field-0.0 in
    let stands : HoldsForFault (StandsFor gives ended (string_bytes c.word-item.result)) found =
    subst (λ (w : List ℕ). HoldsForFault (StandsFor gives ended w) found) c.as_str.ensures.value c.in_err-given.ensures in
    let told : c.from_residual.result ≡ Err found = search rules in
    subst (λ r. IfDone (StandFor gives false given) r) (sym told)
    (leads_refused gives given ended (string_bytes c.word-item.result) (map string_bytes (drop (i + 1) words)) done found leads stands)

pub loop-word-preserved : goal.loop-word-preserved
loop-word-preserved g c =
    let gives = g.F.ArgumentFiles.gives c.args.files.now in
    let words = c.args.words.now in
    let given = map string_bytes words in
    let i = c.loop-word.word-index in
    let rest = map string_bytes (drop (i + 1) words) in
    let done = map string_bytes c.loop-word.all.items in
    let ended = c.loop-word.is_ended in
    let word = string_bytes c.word-item.result in
    let more = map string_bytes c.in_ok-given.given.items in
    let left = left_at string_bytes words i c.word-item.result c.loop-word-test.true c.word-item.is in
    let leads = subst (λ (ws : List (List ℕ)). Leads gives ended ws done given) left c.loop-word.invariant in
    let stands : StandsFor gives ended word (Ok more) =
    subst (λ (w : List ℕ). StandsFor gives ended w (Ok more)) c.as_str.ensures.value c.in_ok-given.ensures in
    let added : map string_bytes c.append.new.self.items ≡ done ++ more =
    ap (map string_bytes) c.in_ok-append.ensures.items ∙ map-append string_bytes c.loop-word.all.items c.in_ok-given.given.items in
    let is = c.has_ended-is_ended.result in
    let told : is ≡ (ended || list_any is_end more) = search rules in
    subst (λ (all : List (List ℕ)). Leads gives is rest all given) (sym added)
    (subst (λ (now : Bool). Leads gives now rest (done ++ more) given) (sym told)
    (leads_on gives given ended word rest done more leads stands))

pub returns : goal.returns
returns g c =
    let gives = g.F.ArgumentFiles.gives c.args.files.now in
    let words = c.args.words.now in
    let given = map string_bytes words in
    let done = map string_bytes c.loop-word.all.items in
    let end = none_left string_bytes words c.loop-word.word-index (omega (arith, c.loop-word-test.false)) in
    leads_last gives given c.loop-word.is_ended done
    (subst (λ (ws : List (List ℕ)). Leads gives c.loop-word.is_ended ws done given) end c.loop-word.invariant)
