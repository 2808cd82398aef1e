-- Only standard input, or the source of one opened file, changes.
use Rattle.std.proofs.Common.{◌≡◌, ◌<◌, ◌∙◌, ◌-◌, ap, arith, drop, length, set, sym, refl, false, rules}
use Rattle.vio.specs.Plan.{fails_next}
use Rattle.std.proofs.lemmas.Option.{same_Some}
use Rattle.vio.proofs.MemoryLemmas.{Read-input, Read-file, left_at-is, opened_at-read, opened_at-set_same}
use Rattle.vio.proofs.memory.MemWorldWorld.read.Goals as goal

pub returns-then-h-eq-INPUT-clause-ok : goal.returns-then-h-eq-INPUT-clause-ok
returns-then-h-eq-INPUT-clause-ok c =
    let m = c.args.self.now in
    rw (c.if-h-eq-INPUT.true, c.take_piece.ensures.moved) (Read-input m.files.items m.opened.items m.input m.output.items m.errors.items m.faults
    c.take_piece.result c.take_piece.new.self c.take_piece.ensures.left)

pub returns-clause-ok : goal.returns-clause-ok
returns-clause-ok c =
    let m = c.args.self.now in
    let from = c.if-h-lt-FIRST_HANDLE.false in
    let within : c.args.h - 3 < length m.opened.items = omega (arith, c.if-place-len.false, c.len.ensures) in
    let is_file = opened_at-read m.opened.items c.args.h c.index_mut.result.now from within c.index_mut.ensures.value in
    Read-file m.files.items m.opened.items m.input m.output.items m.errors.items m.faults c.args.h c.in-Some.n _ _ _
    c.index_mut.result.now c.take_piece-2.new.self from within is_file c.in-Some.ensures.some

pub returns-clause-some : goal.returns-clause-some
returns-clause-some c = λ none room a told.
    let m = c.args.self.now in
    let from = c.if-h-lt-FIRST_HANDLE.false in
    let within : c.args.h - 3 < length m.opened.items = omega (arith, c.if-place-len.false, c.len.ensures) in
    let is_file = opened_at-read m.opened.items c.args.h c.index_mut.result.now from within c.index_mut.ensures.value in
    let took = c.in-Some.ensures.some in
    same_Some _ _ (sym told ∙ left_at-is m.opened.items m.input c.args.h c.index_mut.result.now from is_file ∙ took.was) ∙ took.some none room

pub returns-clause-end : goal.returns-clause-end
returns-clause-end c = λ none room a told.
    let m = c.args.self.now in
    let from = c.if-h-lt-FIRST_HANDLE.false in
    let within : c.args.h - 3 < length m.opened.items = omega (arith, c.if-place-len.false, c.len.ensures) in
    let file = c.take_piece-2.new.self in
    let is_file = opened_at-set_same m.opened.items c.args.h file from within in
    let took = c.in-Some.ensures.some in
    same_Some _ _ (sym told ∙ left_at-is (set m.opened.items (c.args.h - 3) file) m.input c.args.h file from is_file ∙ took.left)
    ∙ ap (λ n. drop n took.bytes) none ∙ took.some none room

pub returns-clause-exact : goal.returns-clause-exact
returns-clause-exact c =
    let m = c.args.self.now in
    let from = c.if-h-lt-FIRST_HANDLE.false in
    let within : c.args.h - 3 < length m.opened.items = omega (arith, c.if-place-len.false, c.len.ensures) in
    let is_file = opened_at-read m.opened.items c.args.h c.index_mut.result.now from within c.index_mut.ensures.value in
    let took = c.in-Some.ensures.some in
    let is = left_at-is m.opened.items m.input c.args.h c.index_mut.result.now from is_file ∙ took.was in
    let goes_on : fails_next m.plan ≡ false = sym c.is_failing_call.ensures.fails ∙ c.if-is_failing_call.false in (
      rw (is, goes_on) refl,
      search rules,
      λ a told. cc (same_Some _ _ (sym told ∙ is), took.count, c.is_failing_call.ensures.counted.most),
    )
