-- a record that is shown was added as a unit by itself
use Rattle.std.proofs.Common.{ℕ, List, ◌++◌, ap, sym, ◌∙◌}
use Rattle.std.proofs.lemmas.List.{append-nil}
use Rattle.vsl_file.specs.File.{alone_unit, unit_bytes}
use Rattle.tool_consumers.proofs.LayoutLemmas.{on_ok}
use Rattle.tool_consumers.proofs.layout.put_one_shown.Goals as goal

pub returns-then-branch-clause-text : goal.returns-then-branch-clause-text
returns-then-branch-clause-text c = on_ok c.put_alone.result
    (λ step. rw (sym c.in_ok-shows_alone.ensures.shown ∙ c.if-branch.true)
    (step c.args.rec.now.mark ∙ ap (λ (x : List ℕ). c.args.out.now.items ++ x) (sym (append-nil (unit_bytes (alone_unit c.args.vxid c.args.rec.now))))))
    c.put_alone.ensures.ok
