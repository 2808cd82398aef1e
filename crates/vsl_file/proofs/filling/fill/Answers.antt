use Rattle.std.proofs.Common.{◌≡◌, ◌+◌, ◌≤◌, length, take, ap, arith}
use Rattle.vsl_file.proofs.ReaderLemmas.{Filled-behind}
use Rattle.vsl_file.proofs.filling.fill.Goals as goal

pub returns-in-Ok-clause-filled : goal.returns-in-Ok-clause-filled
returns-in-Ok-clause-filled g c =
    let kept : take (length c.args.buffer.now.items) c.read_behind.new.bytes ≡ c.args.buffer.now.items = cc in
    let within : length c.args.buffer.now.items + c.in-Ok.n ≤ length c.read_behind.new.bytes = omega (arith, c.in-Ok.ensures.fits) in
    Filled-behind c.args.handle c.in-Ok.n (length c.advance_mut.new.self.items) c.args.buffer.now.items c.read_behind.new.bytes _ c.truncate.new.self.items _ _ kept (omega (arith, c.in-Ok.ensures.fits, ap length c.as_mut_slice.ensures.value)) within
    (rw c.len-length.ensures.value at c.truncate.ensures.items) (rw c.len-length.ensures.value at c.in-Ok.ensures.read)
