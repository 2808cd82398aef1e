-- One piece after another.
use Rattle.std.proofs.Common.{Ok, arith, ap, sym, ◌∙◌}
use Rattle.std.proofs.lemmas.List.{nil_from_length}
use Rattle.ncsa_format.specs.inside.Draft.{drafted}
use Rattle.ncsa_format.specs.inside.Read.{all_before}
use Rattle.ncsa_format.specs.Reading.{read_pieces}
use Rattle.ncsa_format.proofs.FormatLemmas.{next_shorter, parse_begins, parse_done, parse_fault, parse_step, read_is_format}
use Rattle.ncsa_format.proofs.ReadLemmas.{formatter_reads}
use Rattle.ncsa_format.proofs.WrittenLemmas.{formatter_writes}
use Rattle.ncsa_format.proofs.format.Format.parse.Goals as goal

pub loop-first-init : goal.loop-first-init
loop-first-init c = (parse_begins _ _ c.new-draft.ensures, omega arith)

pub loop-first-smaller : goal.loop-first-smaller
loop-first-smaller c =
    let piece = rw c.in-Some-2.is at c.in_ok-found.ensures in
    let shorter = next_shorter formatter_writes c.in-Some.first.now c.in-Some.behind.now c.in-Some-2.field-0.rest.now c.in-Some-2.field-0.found piece in omega (arith, c.in-Some.ensures.cases.1, shorter)

pub overflow_sub-at : goal.overflow_sub-at
overflow_sub-at c = c.loop-first.invariant.1

pub returns-in_default-2-clause-refused : goal.returns-in_default-2-clause-refused
returns-in_default-2-clause-refused c =
    let none = rw c.in_default-2.is at c.in_ok-found.ensures in
    rw (← c.as_bytes-whole.ensures.value) (parse_fault formatter_reads formatter_writes _ _ _ _ _ c.loop-first.invariant.0 c.in-Some.ensures.cases.0 none)

pub loop-first-preserved : goal.loop-first-preserved
loop-first-preserved c =
    let piece = rw c.in-Some-2.is at c.in_ok-found.ensures in
    let shorter = next_shorter formatter_writes c.in-Some.first.now c.in-Some.behind.now c.in-Some-2.field-0.rest.now c.in-Some-2.field-0.found piece in (
      parse_step formatter_reads formatter_writes _ _ _ _ _ _ _ _ c.loop-first.invariant.0 c.in-Some.ensures.cases.0 piece c.in_ok-push.ensures,
      omega (arith, c.in-Some.ensures.cases.1, shorter, c.loop-first.invariant.1),
    )

pub returns-clause-read : goal.returns-clause-read
returns-clause-read c =
    let empty = nil_from_length c.loop-first.rest.now c.in_default.ensures.cases in
    rw (← c.as_bytes-whole.ensures.value)
    (parse_done _ _ (c.loop-first.invariant.0 ∙ ap (λ t. all_before (drafted c.loop-first.draft) (read_pieces t)) empty) ∙ ap Ok (sym c.in_ok-runs.ensures))

pub returns-clause-format : goal.returns-clause-format
returns-clause-format c =
    let empty = nil_from_length c.loop-first.rest.now c.in_default.ensures.cases in
    rw (← c.as_bytes-whole.ensures.value)
    (read_is_format formatter_writes _ _ _ (parse_done _ _ (c.loop-first.invariant.0 ∙ ap (λ t. all_before (drafted c.loop-first.draft) (read_pieces t)) empty) ∙ ap Ok (sym c.in_ok-runs.ensures)))
