use Rattle.std.proofs.Common.{rules, ◌≡◌, ◌≤◌, ◌<◌, ◌++◌, true, false, length, get_or, drop, string_bytes, refl, arith}
use Rattle.std.specs.List.{slice_range}
use Rattle.std.proofs.lemmas.Str.{IsCharBoundary-start, IsCharBoundary-after_ascii}
use Rattle.sarif_shown.specs.Escaped.{escaped_char}
use Rattle.sarif_shown.specs.Internal.EscapedBytes.{escapes}
use Rattle.sarif_shown.proofs.EscapedMore.{escapes_low, stands_step, escaped_step, all_added}
use Rattle.sarif_shown.proofs.escaping.Escaping.push_replaced.Goals as goal
use Rattle.sarif_shown.proofs.escaping.Escaping.push_replaced.Goals.{then-escapes+in_ok-push_str+in_ok-push_char, else-escapes}

pub loop-i-init : goal.loop-i-init
loop-i-init c = record {
  front = omega arith;
  cut = IsCharBoundary-start c.args.plain.now c.utf8.plain;
  written = refl;
}

pub loop-i-preserved : goal.loop-i-preserved
loop-i-preserved c =
    let held = c.loop-i.invariant in
    let i = c.loop-i.i in
    let within : i < length c.args.plain.now = search rules in
    elim c.if-escapes.branch [
      | then-escapes+in_ok-push_str+in_ok-push_char w ↦
          let here : escapes c.args.self (get_or c.args.plain.now i 0) ≡ true = search rules in
          let front : string_bytes w.push_str.new.self ≡ string_bytes c.loop-i.text ++ slice_range c.args.plain.now c.loop-i.added i = search rules in
          let char : string_bytes w.push_char.new.text
          ≡ string_bytes w.push_str.new.self ++ escaped_char c.args.self (get_or c.args.plain.now i 0) = search rules in
          rw (w.added-is, w.text-is) (record {
            front = omega arith;
            cut = IsCharBoundary-after_ascii c.args.plain.now i c.utf8.plain within (escapes_low c.args.self (get_or c.args.plain.now i 0) here);
            written = escaped_step c.args.self c.args.plain.now c.loop-i.added i _ _ _ _ within here held.written front char;
          })
      | else-escapes w ↦
          let here : escapes c.args.self (get_or c.args.plain.now i 0) ≡ false = search rules in
          rw (w.added-is, w.text-is) (record {
            front = omega (arith, held.front);
            cut = held.cut;
            written = stands_step c.args.self c.args.plain.now c.loop-i.added i _ _ held.front within here held.written;
          })
    ]

pub returns : goal.returns
returns c =
    let held = c.loop-i.invariant in
    let end : length c.args.plain.now ≤ c.loop-i.i = search rules in
    let rest : string_bytes c.push_str-2.new.self ≡ string_bytes c.loop-i.text ++ drop c.loop-i.added c.args.plain.now = search rules in
    all_added c.args.self c.args.plain.now c.loop-i.added c.loop-i.i _ _ _ held.front end c.utf8.plain held.written rest
