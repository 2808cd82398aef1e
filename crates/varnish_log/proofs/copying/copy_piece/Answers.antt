use Rattle.std.proofs.Common.{◌+◌, take, drop, ap, arith, Err}
use Rattle.std.proofs.lemmas.List.{length-drop, length-take-le}
use Rattle.varnish_log.specs.inside.Copying.{so_far}
use Rattle.varnish_log.proofs.CopyingLemmas.{all_written, at_end, damaged_behind, failed_write, lost_behind, only_came, piece_bytes, short_of, starved_write}
use Rattle.varnish_log.proofs.copying.copy_piece.Goals as goal

pub returns-in_err-whole-clause-short : goal.returns-in_err-whole-clause-short
returns-in_err-whole-clause-short g c = short_of _ c.from_residual.result (only_came c.args.how c.args.ends (so_far c.args.at c.args.buffer.now) _ _ _ c.in-Ok.ensures.read (at_end c.args.ends.input c.args.at.held c.in-Ok.n c.args.buffer.now c.read_behind.new.bytes (g.W.World.seen c.read_behind.new.world) c.in-Ok.ensures.end (omega (arith, c.requires.held, c.requires.size)) (omega (arith, c.in-Ok.ensures.fits, c.read_behind.auto.bytes))))

pub returns-in-Err-Failed-clause-fault : goal.returns-in-Err-Failed-clause-fault
returns-in-Err-Failed-clause-fault g c =
    failed_write c.args.how c.args.ends (so_far c.args.at c.args.buffer.now) _ _ _ c.in-Ok.ensures.read (at_end c.args.ends.input c.args.at.held c.in-Ok.n c.args.buffer.now c.read_behind.new.bytes (g.W.World.seen c.read_behind.new.world) c.in-Ok.ensures.end (omega (arith, c.requires.held, c.requires.size)) (omega (arith, c.in-Ok.ensures.fits, c.read_behind.auto.bytes))) _ _ _ _ _ _ _ _ (piece_bytes c.args.buffer.now c.read_behind.new.bytes c.args.at.held c.in-Ok.n c.read_behind.ensures.kept) c.new-text.ensures.items c.as_slice.ensures.value
    c.in_ok-whole.ensures.taken c.in-Err-Failed.ensures.err (c.in-Err-Failed.ensures.failed (ap Err c.in-Err-Failed.field-0-is))

pub returns-in-Err-NoMemory-clause-short : goal.returns-in-Err-NoMemory-clause-short
returns-in-Err-NoMemory-clause-short g c =
    starved_write c.args.how c.args.ends (so_far c.args.at c.args.buffer.now) _ _ _ c.in-Ok.ensures.read (at_end c.args.ends.input c.args.at.held c.in-Ok.n c.args.buffer.now c.read_behind.new.bytes (g.W.World.seen c.read_behind.new.world) c.in-Ok.ensures.end (omega (arith, c.requires.held, c.requires.size)) (omega (arith, c.in-Ok.ensures.fits, c.read_behind.auto.bytes))) _ _ _ _ _ _ _ _ (piece_bytes c.args.buffer.now c.read_behind.new.bytes c.args.at.held c.in-Ok.n c.read_behind.ensures.kept) c.new-text.ensures.items c.as_slice.ensures.value
    c.in_ok-whole.ensures.taken c.in-Err-NoMemory.ensures.err

pub returns-in-GoesOn-clause-piece : goal.returns-in-GoesOn-clause-piece
returns-in-GoesOn-clause-piece g c =
    all_written c.args.how c.args.ends (so_far c.args.at c.args.buffer.now) _ _ _ c.in-Ok.ensures.read (at_end c.args.ends.input c.args.at.held c.in-Ok.n c.args.buffer.now c.read_behind.new.bytes (g.W.World.seen c.read_behind.new.world) c.in-Ok.ensures.end (omega (arith, c.requires.held, c.requires.size)) (omega (arith, c.in-Ok.ensures.fits, c.read_behind.auto.bytes))) _ _ _ _ _ _ _ _ (piece_bytes c.args.buffer.now c.read_behind.new.bytes c.args.at.held c.in-Ok.n c.read_behind.ensures.kept) c.new-text.ensures.items c.as_slice.ensures.value
    c.in_ok-whole.ensures.taken (c.args.at.came + c.in-Ok.n) c.in-Ok-write_all.ensures.ok c.in-GoesOn.is
    (omega (arith, length-take-le c.in-Ok.n (drop c.args.at.held c.read_behind.new.bytes) (omega (arith, length-drop c.args.at.held c.read_behind.new.bytes, c.in-Ok.ensures.fits, c.read_behind.auto.bytes))))

pub returns-in-Damaged-clause-fault : goal.returns-in-Damaged-clause-fault
returns-in-Damaged-clause-fault g c =
    damaged_behind c.args.how c.args.ends (so_far c.args.at c.args.buffer.now) _ _ _ c.in-Ok.ensures.read (at_end c.args.ends.input c.args.at.held c.in-Ok.n c.args.buffer.now c.read_behind.new.bytes (g.W.World.seen c.read_behind.new.world) c.in-Ok.ensures.end (omega (arith, c.requires.held, c.requires.size)) (omega (arith, c.in-Ok.ensures.fits, c.read_behind.auto.bytes))) _ _ _ _ _ _ _ _ (piece_bytes c.args.buffer.now c.read_behind.new.bytes c.args.at.held c.in-Ok.n c.read_behind.ensures.kept) c.new-text.ensures.items c.as_slice.ensures.value
    c.in_ok-whole.ensures.taken c.place_of-place.result c.in-Ok-write_all.ensures.ok c.in-Damaged.is
    (c.place_of-place.ensures _ (take c.in_ok-whole.whole.left c.take_whole.new.buffer) (omega (
      arith,
      length-take-le c.in_ok-whole.whole.left c.take_whole.new.buffer (omega (arith, c.in_ok-whole.ensures.within, c.take_whole.ensures.size, c.in-Ok.ensures.fits, c.read_behind.auto.bytes)),
      length-take-le c.in-Ok.n (drop c.args.at.held c.read_behind.new.bytes) (omega (arith, length-drop c.args.at.held c.read_behind.new.bytes, c.in-Ok.ensures.fits, c.read_behind.auto.bytes)),
      c.in_ok-whole.ensures.within,
      c.requires.came.0,
    )))

pub returns-clause-fault : goal.returns-clause-fault
returns-clause-fault g c =
    lost_behind c.args.how c.args.ends (so_far c.args.at c.args.buffer.now) _ _ _ c.in-Ok.ensures.read (at_end c.args.ends.input c.args.at.held c.in-Ok.n c.args.buffer.now c.read_behind.new.bytes (g.W.World.seen c.read_behind.new.world) c.in-Ok.ensures.end (omega (arith, c.requires.held, c.requires.size)) (omega (arith, c.in-Ok.ensures.fits, c.read_behind.auto.bytes))) _ _ _ _ _ _ _ _ (piece_bytes c.args.buffer.now c.read_behind.new.bytes c.args.at.held c.in-Ok.n c.read_behind.ensures.kept) c.new-text.ensures.items c.as_slice.ensures.value
    c.in_ok-whole.ensures.taken c.in-Lost.loss c.place_of-place.result c.in-Ok-write_all.ensures.ok c.in-Lost.is
    (c.place_of-place.ensures _ (take c.in_ok-whole.whole.left c.take_whole.new.buffer) (omega (
      arith,
      length-take-le c.in_ok-whole.whole.left c.take_whole.new.buffer (omega (arith, c.in_ok-whole.ensures.within, c.take_whole.ensures.size, c.in-Ok.ensures.fits, c.read_behind.auto.bytes)),
      length-take-le c.in-Ok.n (drop c.args.at.held c.read_behind.new.bytes) (omega (arith, length-drop c.args.at.held c.read_behind.new.bytes, c.in-Ok.ensures.fits, c.read_behind.auto.bytes)),
      c.in_ok-whole.ensures.within,
      c.requires.came.0,
    )))
