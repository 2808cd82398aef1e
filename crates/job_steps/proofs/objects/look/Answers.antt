-- The file is opened, and its first bytes are read.
use Rattle.std.proofs.Common.{◌≡◌, List, ℕ, true, false, take, bytes_eq, Err, refl, sym, ap, ◌∙◌}
use Rattle.job_steps.proofs.AppendLemmas.{looked_good, looked_old, looked_shut, looked_unread}
use Rattle.job_steps.proofs.objects.look.Goals as goal

pub returns-in-Err-Failed : goal.returns-in-Err-Failed
returns-in-Err-Failed g c =
    let rose = c.in-Err-Failed.ensures.failed (ap Err c.in-Err-Failed.field-0-is) in
    looked_shut (Unit {0}) c.args.name c.args.name _ _ refl c.in-Err-Failed.ensures.err (rw c.as_str.ensures at rose)

pub returns-in_default : goal.returns-in_default
returns-in_default g c =
    let opened = rw c.as_str.ensures at c.in-Ok.ensures.ok in
    looked_unread (Unit {0}) c.args.name c.args.name c.in-Ok.handle _ _ _ refl opened c.in_default.ensures.part c.in_default.ensures.rose

pub returns-then-eq : goal.returns-then-eq
returns-then-eq g c =
    let opened = rw c.as_str.ensures at c.in-Ok.ensures.ok in
    let same = ap (λ (xs : List ℕ). bytes_eq xs c.args.header.now) (sym c.split_at.ensures.front) ∙ sym c.eq.ensures ∙ c.if-eq.true in
    looked_good c.args.name _ c.args.header.now c.in-Ok.handle (tt {0}) _ _ _ opened c.in-Ok-read_start.ensures.read c.requires same

pub returns-else-eq : goal.returns-else-eq
returns-else-eq g c =
    let opened = rw c.as_str.ensures at c.in-Ok.ensures.ok in
    let other = ap (λ (xs : List ℕ). bytes_eq xs c.args.header.now) (sym c.split_at.ensures.front) ∙ sym c.eq.ensures ∙ c.if-eq.false in
    looked_old (Unit {0}) c.args.name _ c.args.header.now c.args.name c.in-Ok.handle _ _ _ refl opened c.in-Ok-read_start.ensures.read c.requires other
