use Rattle.std.proofs.Common.{◌≡◌, ◌++◌, Option, length, take, refl, sym, arith}
use Rattle.std.proofs.lemmas.List.{length-append, length-take-le, take_at}
use Rattle.varnish_log.proofs.CopyingLemmas.{copied_more, copied_then, ended_at, each_fault, each_short, none_copied}
use Rattle.varnish_log.specs.Copied.{IsEnd, IsStarved, IsStopped}
use Rattle.varnish_log.specs.inside.Copying.{so_far}
use Rattle.varnish_log.specs.declared.copying.Copied.{Copied}
use Rattle.varnish_log.specs.declared.copying.Progress.{Progress}
use Rattle.varnish_log.proofs.copying.copy_parts.Goals as goal

pub loop-at-init : goal.loop-at-init
loop-at-init g c =
    let first = c.args.first.now in
    let buffer = c.copy_from_slice.new.self ++ c.split_at_mut-head.result.1.now in
    let held : take (length first) buffer ≡ first = rw c.copy_from_slice.ensures.after (take_at first c.split_at_mut-head.result.1.now _ refl) in
    record {
      called = none_copied c.args.how c.args.ends first (so_far (record { came = length first; held = length first; counts = c.none.result }) buffer) _ (rw (held, c.none.ensures) refl);
      size = omega (arith, length-append c.copy_from_slice.new.self c.split_at_mut-head.result.1.now, c.copy_from_slice.ensures.len, c.split_at_mut-head.ensures.front_len, c.split_at_mut-head.ensures.back_len, c.requires);
      room = omega (arith, c.requires);
      few = omega arith;
    }

pub loop-at-preserved : goal.loop-at-preserved
loop-at-preserved g c =
    record {
      called = copied_more c.args.how c.args.ends c.args.first.now (so_far c.loop-at.at c.loop-at.buffer) _ _ c.loop-at.invariant.called (so_far c.in-Ok.next c.copy_piece.new.buffer) _ (omega (arith, c.in-Ok.ensures.within.2)) c.in-Ok.ensures.piece;
      size = omega (arith, c.copy_piece.ensures.size, c.loop-at.invariant.size);
      room = c.in-Ok.ensures.within.1;
      few = c.in-Ok.ensures.within.0;
    }

pub returns-in-Ok-clause-copied : goal.returns-in-Ok-clause-copied
returns-in-Ok-clause-copied g c =
    let copied : Copied = record { counts = c.in-Ok.next.counts; left = c.in-Ok.next.held } in
    let now = so_far c.in-Ok.next c.copy_piece.new.buffer in
    let left = sym (length-take-le c.in-Ok.next.held c.copy_piece.new.buffer (omega (arith, c.in-Ok.ensures.within.1, c.copy_piece.ensures.size, c.loop-at.invariant.size))) in
    copied_then c.args.how c.args.ends c.args.first.now (so_far c.loop-at.at c.loop-at.buffer) _ _ c.loop-at.invariant.called (IsEnd c.args.how c.args.ends.input c.args.ends.output copied) _
    (ended_at c.args.how c.args.ends (so_far c.loop-at.at c.loop-at.buffer) now copied _ _ c.if-next-at.true refl left c.in-Ok.ensures.piece)

pub returns-in-Err-clause-fault : goal.returns-in-Err-clause-fault
returns-in-Err-clause-fault g c =
    each_fault (Option Progress) Copied c.in-Err.halt (λ fault more. copied_then c.args.how c.args.ends c.args.first.now (so_far c.loop-at.at c.loop-at.buffer) _ _ c.loop-at.invariant.called (IsStopped c.args.how c.args.ends.input c.args.ends.output fault) _ more) c.in-Err.ensures.fault

pub returns-in-Err-clause-short : goal.returns-in-Err-clause-short
returns-in-Err-clause-short g c =
    each_short (Option Progress) Copied c.in-Err.halt (λ more. copied_then c.args.how c.args.ends c.args.first.now (so_far c.loop-at.at c.loop-at.buffer) _ _ c.loop-at.invariant.called (IsStarved c.args.how c.args.ends.input c.args.ends.output) _ more) c.in-Err.ensures.short
