use Rattle.std.proofs.Common.{◌≡◌, ◌++◌, map, drop}
use Rattle.json_parts.specs.Mark as said
use Rattle.sarif_inputs.proofs.indexes.add_jobs.Given as goal

-- the jobs so far, and the sources that are left
abbrev pub invariant-loop-bytes : goal.invariant-loop-bytes
invariant-loop-bytes l =
    map (λ job. job.bytes.now) l.jobs.items ++ map said.without_mark (map (λ v. v.items) (drop l.bytes-index l.sources))
    ≡ map (λ job. job.bytes.now) l.fn.jobs.items ++ map said.without_mark (map (λ v. v.items) l.sources)
