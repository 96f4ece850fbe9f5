use Rattle.std.proofs.Common.{◌+◌, ◌*◌}
use Rattle.sarif_share.proofs.sharing.+jobs.Given as goal

abbrev pub decreases-jobs_by : goal.decreases-jobs_by
decreases-jobs_by g l = 2 * l.threads

abbrev pub decreases-front : goal.decreases-front
decreases-front g l = 2 * l.few + 1

abbrev pub decreases-back : goal.decreases-back
decreases-back g l = 2 * l.others + 1
