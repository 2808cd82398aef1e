-- Only one opened file is new.
use Rattle.std.proofs.Common.{◌≡◌, ◌∙◌, ◌+◌, arith, length}
use Rattle.vio.proofs.MemoryLemmas.{Opened-push}
use Rattle.vio.proofs.memory.MemWorldWorld.open.Goals as goal

pub returns-clause-ok : goal.returns-clause-ok
returns-clause-ok c =
    let m = c.args.self.now in
    let file = c.in_ok-file.file in
    let name : file.name.items ≡ c.args.name.now = c.in_ok-file.ensures.name ∙ c.as_bytes-2.ensures.value in
    let next : c.in-Ok.handle ≡ length m.opened.items + 3 = omega (arith, c.in-Ok.ensures.1, c.len.ensures, m.opened.ok.0) in
    rw c.in_ok-push.ensures.items
    (Opened-push m.files.items m.opened.items m.input m.output.items m.errors.items m.faults file c.args.name.now _ c.in-Ok.handle next name
    c.in_ok-file.ensures.left c.in_ok-file.ensures.text (cc (c.in-Some.ensures, c.as_bytes.ensures.value, c.deref.ensures.value)))
