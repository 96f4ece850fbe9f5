use Rattle.sarif_gate.proofs.merging.merge_streams.Goals as goal

-- the clauses of the run, as one fact
pub returns : goal.returns
returns g c =
    let run = c.run_request-status.ensures in
    record {
      before = c.complaints_of-complaints.result;
      told = c.run_request-status.new.complaints;
      unsaid = c.complaints_of-complaints.ensures.last;
      quiet = c.complaints_of-complaints.ensures.none;
      explained = c.complaints_of-complaints.ensures.explained;
      run = record {
        accepted = run.accepted;
        exactly = run.exactly;
        failed = run.failed;
        untouched = run.untouched;
        rejected = run.rejected;
        lost = run.lost;
        quiet = run.quiet;
        risen = run.risen;
        faulty = run.faulty;
        known = run.known;
      };
    }
