use Rattle.std.proofs.Common.{◌≤◌, get_or, refl, rules, arith}
use Rattle.json_parts.proofs.Digits.{one_digit_more}
use Rattle.json_parts.proofs.number.short_number.Goals as goal

pub overflow_mul-number : goal.overflow_mul-number
overflow_mul-number c =
    let bs = c.args.bytes.now in
    let i = c.loop-byte.byte-index in
    let low : 48 ≤ get_or bs i 0 = search rules in
    let high : get_or bs i 0 ≤ 57 = search rules in
    let more = one_digit_more bs i (get_or bs i 0) (omega arith) (omega arith) refl low high c.loop-byte.invariant.0 in
    omega (arith, more.value, more.fits, c.loop-byte.invariant.1)

pub overflow_add-number : goal.overflow_add-number
overflow_add-number c =
    let bs = c.args.bytes.now in
    let i = c.loop-byte.byte-index in
    let low : 48 ≤ get_or bs i 0 = search rules in
    let high : get_or bs i 0 ≤ 57 = search rules in
    let more = one_digit_more bs i (get_or bs i 0) (omega arith) (omega arith) refl low high c.loop-byte.invariant.0 in
    omega (arith, more.value, more.fits, c.loop-byte.invariant.1)

pub loop-byte-preserved : goal.loop-byte-preserved
loop-byte-preserved c =
    let bs = c.args.bytes.now in
    let i = c.loop-byte.byte-index in
    let low : 48 ≤ get_or bs i 0 = search rules in
    let high : get_or bs i 0 ≤ 57 = search rules in
    let more = one_digit_more bs i (get_or bs i 0) (omega arith) (omega arith) refl low high c.loop-byte.invariant.0 in
    (more.digits, omega (arith, more.value, c.loop-byte.invariant.1))
