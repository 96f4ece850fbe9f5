use Rattle.std.proofs.Common.{rules, ◌≡◌, ◌++◌, length, vec_len, arith, sym, subst, length-append}
use Rattle.sarif_inputs.specs.Internal.Parsed.{AreParsedFrom}
use Rattle.sarif_inputs.proofs.ReadParts.{parsed_by, parsed_length, parsed_parts}
use Rattle.sarif_inputs.proofs.reading.read_kinds.Goals as goal

pub split_off-requires : goal.split_off-requires
split_off-requires g c =
    let given = c.requires.indexes in
    let read = c.in_ok-first.first in
    let parsed = parsed_by c.args.allow_external (given.0 ++ given.1) c.args.indexes.now read.items given.2.indexed c.in_ok-first.ensures in
    let many = parsed_length c.args.allow_external (given.0 ++ given.1) read.items parsed in
    let long : vec_len read ≡ length read.items = search rules in
    omega (arith, long, many, given.2.count, length-append given.0 given.1)

pub returns-clause-logs : goal.returns-clause-logs
returns-clause-logs g c = λ ls bs are.
    let read = c.in_ok-first.first.items in
    let parts = parsed_parts c.args.allow_external ls bs c.args.logs read are.count
    (parsed_by c.args.allow_external (ls ++ bs) c.args.indexes.now read are.indexed c.in_ok-first.ensures) in
    subst (λ rs. AreParsedFrom c.args.allow_external ls rs) (sym c.in_ok-second.ensures.items) parts.0

pub returns-clause-baselines : goal.returns-clause-baselines
returns-clause-baselines g c = λ ls bs are.
    let read = c.in_ok-first.first.items in
    let parts = parsed_parts c.args.allow_external ls bs c.args.logs read are.count
    (parsed_by c.args.allow_external (ls ++ bs) c.args.indexes.now read are.indexed c.in_ok-first.ensures) in
    subst (λ rs. AreParsedFrom c.args.allow_external bs rs) (sym c.in_ok-second.ensures.tail) parts.1
