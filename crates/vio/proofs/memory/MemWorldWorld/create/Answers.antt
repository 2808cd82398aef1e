-- One handle is new, and only the file of the name changes.
use Rattle.std.proofs.Common.{◌≡◌, ◌∙◌, ◌+◌, arith, length}
use Rattle.vio.proofs.MemoryLemmas.{FileCreated-push}
use Rattle.vio.proofs.memory.MemWorldWorld.create.Goals as goal

pub returns-clause-ok : goal.returns-clause-ok
returns-clause-ok c =
    let m = c.args.self.now in
    let file = c.in_ok-file.file in
    let name : file.name.items ≡ c.args.name.now = c.in_ok-file.ensures.name ∙ c.as_bytes.ensures.value in
    let next : c.in-Ok.handle ≡ length m.opened.items + 3 = omega (arith, c.in-Ok.ensures.1, c.len.ensures, m.opened.ok.0) in
    let begins = rw c.as_bytes-2.ensures.value at c.in_ok-empty.ensures in
    rw (c.push_reserved.ensures.items, c.in_ok-reserve.ensures.items)
    (FileCreated-push c.args.append c.in_ok-empty.empty m.files.items c.begin_file.new.files.items m.opened.items m.input m.output.items m.errors.items m.faults file
    c.args.name.now c.in-Ok.handle next name c.in_ok-file.ensures.left c.in_ok-file.ensures.text begins.held begins.other begins.empty)
