use Rattle.std.proofs.Common.{◌++◌, List, ℕ, Err, ap, refl, ◌∙◌}
use Rattle.vsl_file.specs.File.{file_header}
use Rattle.vslog.specs.Words.{job_as}
use Rattle.vslog.proofs.WorkLemmas.{begun_empty, begun_full, lacks_header, lacks_output, no_header, no_output}
use Rattle.vslog.proofs.work.begin.Goals as goal
use Rattle.vslog.proofs.work.begin.Goals.{then-made+in-Ok-write_all, else-made}

pub returns-in-Err-Failed-create_stream-clause-fault : goal.returns-in-Err-Failed-create_stream-clause-fault
returns-in-Err-Failed-create_stream-clause-fault g c = no_output (job_as c.args.job) c.in-Ok.handle _ _ c.in-Ok.ensures _ (rw c.in-Err-Failed-create_stream.field-0-is at c.in-Err-Failed-create_stream.ensures.made)

pub returns-in-Err-NoMemory-create_stream-clause-short : goal.returns-in-Err-NoMemory-create_stream-clause-short
returns-in-Err-NoMemory-create_stream-clause-short g c = lacks_output (job_as c.args.job) c.in-Ok.handle _ _ c.in-Ok.ensures _ (rw c.in-Err-NoMemory-create_stream.field-0-is at c.in-Err-NoMemory-create_stream.ensures.made)

pub returns-in-Err-Failed-write_all-clause-fault : goal.returns-in-Err-Failed-write_all-clause-fault
returns-in-Err-Failed-write_all-clause-fault g c =
    no_header (job_as c.args.job) c.in-Ok.handle _ _ c.in-Ok.ensures c.in-Ok-create_stream.made _ c.in-Ok-create_stream.ensures.made c.deref.result.now _ c.if-made.true
    (c.deref.ensures.value ∙ c.in_ok-put_header.ensures.ok ∙ ap (λ (x : List ℕ). x ++ file_header) c.new-header.ensures.items) c.in-Err-Failed-write_all.ensures.err (c.in-Err-Failed-write_all.ensures.failed (ap Err c.in-Err-Failed-write_all.field-0-is))

pub returns-in-Err-NoMemory-write_all-clause-short : goal.returns-in-Err-NoMemory-write_all-clause-short
returns-in-Err-NoMemory-write_all-clause-short g c =
    lacks_header (job_as c.args.job) c.in-Ok.handle _ _ c.in-Ok.ensures c.in-Ok-create_stream.made _ c.in-Ok-create_stream.ensures.made c.deref.result.now _ c.if-made.true
    (c.deref.ensures.value ∙ c.in_ok-put_header.ensures.ok ∙ ap (λ (x : List ℕ). x ++ file_header) c.new-header.ensures.items) c.in-Err-NoMemory-write_all.ensures.err

pub returns-clause-begun : goal.returns-clause-begun
returns-clause-begun g c = elim c.if-made.branch [
  | then-made+in-Ok-write_all w ↦
      rw w.world-is (begun_empty (job_as c.args.job) c.in-Ok.handle _ _ c.in-Ok.ensures c.in-Ok-create_stream.made _ c.in-Ok-create_stream.ensures.made _ w.deref.result.now _ refl w.if-made.true
      (w.deref.ensures.value ∙ c.in_ok-put_header.ensures.ok ∙ ap (λ (x : List ℕ). x ++ file_header) c.new-header.ensures.items) w.in-Ok-write_all.ensures.ok)
  | else-made w ↦ rw w.world-is (begun_full (job_as c.args.job) c.in-Ok.handle _ _ c.in-Ok.ensures c.in-Ok-create_stream.made _ c.in-Ok-create_stream.ensures.made _ refl w.if-made.false)
]
