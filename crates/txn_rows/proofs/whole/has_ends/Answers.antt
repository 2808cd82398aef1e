use Rattle.std.proofs.Common.{ap, arith, sym, ◌∙◌, ◌≡◌, ℕ, ◌-◌, get_or, length}
use Rattle.std.proofs.lemmas.Bool.{not-false}
use Rattle.vsl_record.specs.declared.record_type.Record.{Record}
use Rattle.txn_rows.proofs.WholeLemmas.{ends_found}
use Rattle.txn_rows.proofs.whole.has_ends.Goals as goal

pub returns : goal.returns
returns c = λ is.
    let records = c.args.records.now in
    let last : (rec : Record) → c.tag-2.result ≡ (get_or records (length records - 1) rec).tag = λ rec. c.tag-2.ensures rec ∙ ap (λ (n : ℕ). (get_or records (n - 1) rec).tag) c.len-count.ensures in
    ends_found records c.tag.result c.tag-2.result (omega (arith, c.if-count-lt-FEWEST.false, c.len-count.ensures)) c.tag.ensures last (not-false _ (sym c.ne.ensures ∙ c.if-ne.false)) (sym c.eq.ensures ∙ is)
