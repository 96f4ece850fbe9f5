use Rattle.std.proofs.Common.{◌≤◌, ◌+◌, ◌++◌, length, refl, ap, arith}
use Rattle.std.proofs.lemmas.List.{length-drop, length-take}
use Rattle.sarif_page.specs.HtmlRows.{file_groups, most_grouped}
use Rattle.sarif_page.specs.Internal.ByFile.{findings_in}
use Rattle.sarif_page.specs.Internal.Groups.{groups_in}
use Rattle.sarif_page.proofs.GroupsMore.{file_step}
use Rattle.sarif_page.proofs.groups.push_file_groups.Goals as goal

pub loop-before-preserved : goal.loop-before-preserved
loop-before-preserved c =
    let rest = c.loop-before.rest.now in
    let before = c.loop-before.before in
    let some : 1 ≤ length rest = omega (arith, c.loop-before-test.true, c.loop-before.invariant.count) in
    record {
      told =
          file_step before (length c.args.rows.now) (before + length c.first_rows-first.result.now) rest c.first_rows-first.result.now
          c.later_rows-later.result.now c.loop-before.groups.items c.push.new.self.items _
          (groups_in c.args.groups.now.items ++ file_groups (findings_in c.args.rows.now))
          some c.first_rows-first.ensures c.later_rows-later.ensures refl refl refl refl refl c.in_ok-push.ensures.items
          c.loop-before.invariant.told;
      count =
          omega (
            arith,
            ap length c.first_rows-first.ensures,
            ap length c.later_rows-later.ensures,
            length-take most_grouped rest,
            length-drop most_grouped rest,
            c.loop-before.invariant.count,
          );
    }

pub loop-before-smaller : goal.loop-before-smaller
loop-before-smaller c =
    let rest = c.loop-before.rest.now in
    omega (arith, ap length c.later_rows-later.ensures, length-drop most_grouped rest, c.loop-before-test.true, c.loop-before.invariant.count)
