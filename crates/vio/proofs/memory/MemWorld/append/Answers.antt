-- Only one handle, and the file that it names, change.
use Rattle.std.proofs.Common.{◌<◌, ◌∙◌, ◌-◌, arith, length}
use Rattle.std.proofs.lemmas.List.{with_items_is}
use Rattle.std.specs.Vec.{with_items}
use Rattle.vio.proofs.MemoryLemmas.{opened_at-read, IsSame-set, Wrote-file}
use Rattle.vio.proofs.WholeLemmas.{OnOk-both, OnErr-both}
use Rattle.vio.proofs.memory.MemWorld.append.Goals as goal

pub returns-clause-ok : goal.returns-clause-ok
returns-clause-ok c =
    let m = c.args.self.now in
    let from = c.if-h-lt-FIRST_HANDLE.false in
    let within : c.args.h - 3 < length m.opened.items = omega (arith, c.if-place-len.false, c.len.ensures) in
    let is_file = opened_at-read m.opened.items c.args.h c.index_mut.result.now from within c.index_mut.ensures.value in
    let files = with_items_is m.files c.append.new.files (c.append.ensures.count ∙ c.deref_mut.ensures.len) in
    OnOk-both c.append.result (λ text file. Wrote-file m.files.items (with_items m.files c.append.new.files).items m.opened.items m.input m.output.items m.errors.items m.faults
    c.args.h c.args.piece.now c.index_mut.result.now c.append.new.self from within is_file text (rw files (rw c.deref_mut.ensures.value at file)))
    c.append.ensures.text c.append.ensures.file

pub returns-clause-err : goal.returns-clause-err
returns-clause-err c =
    let m = c.args.self.now in
    let from = c.if-h-lt-FIRST_HANDLE.false in
    let within : c.args.h - 3 < length m.opened.items = omega (arith, c.if-place-len.false, c.len.ensures) in
    let is_file = opened_at-read m.opened.items c.args.h c.index_mut.result.now from within c.index_mut.ensures.value in
    let files = with_items_is m.files c.append.new.files (c.append.ensures.count ∙ c.deref_mut.ensures.len) in
    OnErr-both c.append.result (λ same held. IsSame-set m.files.items (with_items m.files c.append.new.files).items m.opened.items m.input m.output.items m.errors.items m.faults
    c.args.h c.index_mut.result.now c.append.new.self from within is_file same (rw files (rw c.deref_mut.ensures.value at held))) c.append.ensures.same c.append.ensures.held
