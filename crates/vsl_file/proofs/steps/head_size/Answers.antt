use Rattle.std.proofs.Common.{◌≡◌, ◌∙◌, ◌*◌, ◌%◌, ℕ, true, false, sym, subst}
use Rattle.vsl_file.specs.File.{is_unit_header}
use Rattle.vsl_file.specs.inside.FileReading.{IsHeadSize}
use Rattle.vsl_file.proofs.UnitLemmas.{no_header, head_sized}
use Rattle.vsl_file.proofs.steps.head_size.Goals as goal

pub returns-then-not-is_unit_header-clause-none : goal.returns-then-not-is_unit_header-clause-none
returns-then-not-is_unit_header-clause-none c =
    no_header c.args.version c.args.bytes.now c.requires (subst (λ (head : ℕ). is_unit_header c.args.version head ≡ false) c.from_le_bytes-head.ensures (sym c.is_unit_header.ensures ∙ c.if-not-is_unit_header.true))

pub returns-clause-some : goal.returns-clause-some
returns-clause-some c =
    subst (λ (head : ℕ). IsHeadSize c.args.version (4 * (head % 16777216)) c.args.bytes.now) (sym c.from_le_bytes-head.ensures)
    (head_sized c.args.version c.args.bytes.now c.requires (subst (λ (head : ℕ). is_unit_header c.args.version head ≡ true) c.from_le_bytes-head.ensures (sym c.is_unit_header.ensures ∙ c.if-not-is_unit_header.false)))
