use Rattle.std.proofs.Common.{ℕ, ◌-◌, true, false, not, sym, ap, refl, ◌∙◌, arith}
use Rattle.ring_layout.specs.Places.{stays}
use Rattle.vsl_words.specs.declared.version.Version.TheVariants.{Two}
use Rattle.vsl_record.proofs.UnitReadingLemmas.{length_unit_words-at_least}
use Rattle.atomic_table.specs.Table.{Me}
use Rattle.log_ring.specs.declared.rule.View.{View}
use Rattle.log_ring.specs.inside.Writing.{first_entries}
use Rattle.log_ring.specs.inside.Steps.{with_put}
use Rattle.log_ring.proofs.WriterLemmas.{wrapped_short, put_seat, count_put, not_false, not_true}
use Rattle.log_ring.proofs.writer.WriterPass.put_as.Goals as goal

pub place_after-requires-clause-some : goal.place_after-requires-clause-some
place_after-requires-clause-some g c = omega (arith, length_unit_words-at_least Two c.args.unit.now c.is_unit.ensures, c.requires.words)

pub overflow_add-self : goal.overflow_add-self
overflow_add-self g c =
    let short = wrapped_short c.self.inside.seat.me.0.ring.seg (first_entries c.self.inside.seat.me.0.writers) in
    let count = c.self.invariant.1 in
    let got = c.if-token-eq0.false in
    let found = c.acquire-token.ensures.found (omega arith) in
    let low = found.0 in
    let high = found.1 in
    omega arith

pub invariant_of-self-then-placed : goal.invariant_of-self-then-placed
invariant_of-self-then-placed g c =
    let got = c.if-token-eq0.false in
    let put = put_seat _ _ _ c.acquire-token.result _ _ _ c.self.invariant.0 c.acquire-token.ensures.taken (λ e. omega arith) (c.store.ensures.put ∙ ap (λ (m : Me ℕ View). (with_put (c.acquire-token.result - 1) c.args.unit.now m.0, m.1)) c.load_count-count.ensures.known) in
    let seg = ap (λ z. z.ring.seg) c.self.view_is ∙ ap (λ z. z.seg) c.requires.ours in
    let shape = c.ring.invariant.1 ∙ (ap (λ z. z.seg) c.ring.view_is ∙ sym seg) in
    let stay = not_true (sym c.if-placed.true ∙ (c.in-Some.ensures.wraps ∙ (λ i. not (stays (shape i) (c.acquire-token.result - 1) ((c.requires.words ∙ refl) i))))) in
    (put.seat, count_put _ _ _ _ _ false put c.self.invariant.1 (sym stay))

pub invariant_of-self-else-placed : goal.invariant_of-self-else-placed
invariant_of-self-else-placed g c =
    let got = c.if-token-eq0.false in
    let put = put_seat _ _ _ c.acquire-token.result _ _ _ c.self.invariant.0 c.acquire-token.ensures.taken (λ e. omega arith) (c.store.ensures.put ∙ ap (λ (m : Me ℕ View). (with_put (c.acquire-token.result - 1) c.args.unit.now m.0, m.1)) c.load_count-count.ensures.known) in
    let seg = ap (λ z. z.ring.seg) c.self.view_is ∙ ap (λ z. z.seg) c.requires.ours in
    let shape = c.ring.invariant.1 ∙ (ap (λ z. z.seg) c.ring.view_is ∙ sym seg) in
    let stay = not_false (sym c.if-placed.false ∙ (c.in-Some.ensures.wraps ∙ (λ i. not (stays (shape i) (c.acquire-token.result - 1) ((c.requires.words ∙ refl) i))))) in
    (put.seat, (let sum = count_put _ _ _ _ _ true put c.self.invariant.1 (sym stay) in omega arith))
