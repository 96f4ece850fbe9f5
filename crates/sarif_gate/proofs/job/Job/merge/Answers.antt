use Rattle.std.proofs.Common.{arith}
use Rattle.sarif_gate.proofs.job.Job.merge.Goals as goal

-- the streams of the job are those that its request names
pub returns : goal.returns
returns g c =
    let job = c.args.self in
    record {
      readers = job.readers;
      after = c.merge_streams.new.readers;
      writers = job.writers;
      done = c.merge_streams.new.writers;
      named = record {
        logs = job.logs;
        baselines = job.baselines;
        suppressions = job.suppressions;
        policy = job.policy;
        diff = job.diff;
        out = job.out;
        reports = job.reports;
        say = job.say;
      };
      unread = omega (arith, job.fresh_logs, job.fresh_baselines, job.fresh_suppressions, job.fresh_policy, job.fresh_diff);
      unwritten = omega (arith, job.fresh_out, job.fresh_reports, job.fresh_say);
      run = c.merge_streams.ensures;
    }
