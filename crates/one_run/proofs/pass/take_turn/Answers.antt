use Rattle.std.proofs.Common.{sym, ◌∙◌, List, false, true, refl, inl, inr, [], ◌∷◌, ◌++◌, arith, ap, Ok}
use Rattle.std.proofs.lemmas.Result.{err_from_is_err_and}
use Rattle.vio.specs.Calls.{Call}
use Rattle.ring_layout.specs.declared.item.Item.{Item}
use Rattle.one_run.specs.Run.{AtReads, ReadyFor}
use Rattle.one_run.specs.inside.Turns.{IsCaught}
use Rattle.one_run.proofs.RunLemmas.{answered, asked, behind_ended, caught_prints, caught_takes, goes_at, hand_read, made_so, output_ended, short_late, short_so, source_stopped, stop_ended, wrote_goes, wrote_with}
use Rattle.one_run.proofs.pass.take_turn.Goals as goal

pub returns-then-not-has_room-clause-short : goal.returns-then-not-has_room-clause-short
returns-then-not-has_room-clause-short g c = λ from start done before first. short_late done first (_, first.is.came, inl refl) first.is.takes

pub returns-in_err-ending-clause-short : goal.returns-in_err-ending-clause-short
returns-in_err-ending-clause-short g c =
    let p = err_from_is_err_and c.from_residual.result c.from_residual.ensures.1 in
    rw p.1 (λ from start done before first.
    let made = wrote_with _ done first (λ calls more came on. g.met.S.Source.stays _ _ calls more done false _ came on) (λ (calls : List Call). g.O.Output.starved start calls done false)
    (c.in_err-ending.ensures.prints start first.calls done first.is.takes) in
    short_so done false made (inl ((_, made.is.0, inl refl), made.is.1)))

pub returns-in-Some-clause-turns : goal.returns-in-Some-clause-turns
returns-in-Some-clause-turns g c = λ from start done before first.
    behind_ended _ _ _ _ _ _ c.in-Some.ending done false first.is.count first (_, first.is.came, inl refl) first.is.prompt
    (rw c.in-Some.is at (c.in_ok-ending.ensures.prints start first.calls done first.is.takes))

pub returns-in_err-ending-in-Ok-Some-clause-short : goal.returns-in_err-ending-in-Ok-Some-clause-short
returns-in_err-ending-in-Ok-Some-clause-short g c =
    let p = err_from_is_err_and c.from_residual-in_err-ending-in-Ok-Some.result c.from_residual-in_err-ending-in-Ok-Some.ensures.1 in
    rw p.1 (λ from start done before first.
    let hand = g.S.Source.at_hand c.args.source.now in
    let took = g.O.Output.took start c.catch_up.new.output in
    let printed = g.O.Output.printed start c.catch_up.new.output in
    let caught = wrote_goes _ done first (λ calls more came on. g.met.S.Source.stays _ _ calls more done false _ came on) (IsCaught hand took printed)
    (rw (c.in_default.is, c.is_at_hand-hand.ensures.hand) at (c.in_ok-ending.ensures.prints start first.calls done first.is.takes)) in
    let read = rw c.in-Ok-Some.field-0-is at (c.in-Ok-Some.ensures.came from caught.calls done caught.is.came) in
    let came = asked hand (g.S.Source.reads from) (g.S.Source.asks from) _ took printed _ done caught (λ calls p. (_, p)) (λ calls more p on. g.met.O.Output.stays _ _ calls more done _ p on)
    (λ calls more p on. g.met.O.Output.printed_stays _ _ calls more done _ p on) {Now = λ calls. g.S.Source.gave from c.next.new.self calls (done ++ c.in-Ok-Some.item ∷ []) false} read in
    let takes = caught_takes took printed came.calls done hand (λ p. g.met.O.Output.takes _ _ came.calls done p) came.is.1 in
    let prints = c.in_err-ending-in-Ok-Some.ensures.prints start came.calls done takes (caught_prints took printed came.calls done hand _ (rw c.in-Ok-Some.field-0-is at c.in-Ok-Some.ensures.quiet) came.is.1) in
    let last = answered (λ calls. g.O.Output.starved start calls (done ++ c.in-Ok-Some.item ∷ []) false) came (λ calls more p on. g.met.S.Source.stays _ _ calls more (done ++ c.in-Ok-Some.item ∷ []) false _ p on) prints in
    short_so (done ++ c.in-Ok-Some.item ∷ []) false last (inl ((_, last.is.0, inl refl), last.is.1)))

pub returns-in-Some-2-clause-turns : goal.returns-in-Some-2-clause-turns
returns-in-Some-2-clause-turns g c = λ from start done before first.
    let hand = g.S.Source.at_hand c.args.source.now in
    let took = g.O.Output.took start c.catch_up.new.output in
    let printed = g.O.Output.printed start c.catch_up.new.output in
    let caught = wrote_goes _ done first (λ calls more came on. g.met.S.Source.stays _ _ calls more done false _ came on) (IsCaught hand took printed)
    (rw (c.in_default.is, c.is_at_hand-hand.ensures.hand) at (c.in_ok-ending.ensures.prints start first.calls done first.is.takes)) in
    let read = rw c.in-Ok-Some.field-0-is at (c.in-Ok-Some.ensures.came from caught.calls done caught.is.came) in
    let came = asked hand (g.S.Source.reads from) (g.S.Source.asks from) _ took printed _ done caught (λ calls p. (_, p)) (λ calls more p on. g.met.O.Output.stays _ _ calls more done _ p on)
    (λ calls more p on. g.met.O.Output.printed_stays _ _ calls more done _ p on) {Now = λ calls. g.S.Source.gave from c.next.new.self calls (done ++ c.in-Ok-Some.item ∷ []) false} read in
    let takes = caught_takes took printed came.calls done hand (λ p. g.met.O.Output.takes _ _ came.calls done p) came.is.1 in
    output_ended _ _ _ _ _ _ c.in-Some-2.ending done (c.in-Ok-Some.item ∷ []) false (omega arith) (c.and-met.ensures.count done first.is.count) came (_, came.is.0, inl refl) came.is.2
    ((rw c.in-Some-2.is at c.in_ok-ending-in-Ok-Some.ensures.prints) start came.calls done takes (caught_prints took printed came.calls done hand _ (rw c.in-Ok-Some.field-0-is at c.in-Ok-Some.ensures.quiet) came.is.1))

pub returns-in_err-ending-in-Ok-None-clause-short : goal.returns-in_err-ending-in-Ok-None-clause-short
returns-in_err-ending-in-Ok-None-clause-short g c =
    let p = err_from_is_err_and c.from_residual-in_err-ending-in-Ok-None.result c.from_residual-in_err-ending-in-Ok-None.ensures.1 in
    rw p.1 (λ from start done before first.
    let hand = g.S.Source.at_hand c.args.source.now in
    let took = g.O.Output.took start c.catch_up.new.output in
    let printed = g.O.Output.printed start c.catch_up.new.output in
    let caught = wrote_goes _ done first (λ calls more came on. g.met.S.Source.stays _ _ calls more done false _ came on) (IsCaught hand took printed)
    (rw (c.in_default.is, c.is_at_hand-hand.ensures.hand) at (c.in_ok-ending.ensures.prints start first.calls done first.is.takes)) in
    let read = rw c.in-Ok-None.field-0-is at (c.in-Ok-None.ensures.came from caught.calls done caught.is.came) in
    let came = asked hand (g.S.Source.reads from) (g.S.Source.asks from) _ took printed _ done caught (λ calls p. (_, p)) (λ calls more p on. g.met.O.Output.stays _ _ calls more done _ p on)
    (λ calls more p on. g.met.O.Output.printed_stays _ _ calls more done _ p on) {Now = λ calls. g.S.Source.gave from c.next.new.self calls done true} read in
    let takes = caught_takes took printed came.calls done hand (λ p. g.met.O.Output.takes _ _ came.calls done p) came.is.1 in
    let last = answered (λ calls. g.O.Output.starved start calls done true) came (λ calls more p on. g.met.S.Source.stays _ _ calls more done true _ p on) (c.in_err-ending-in-Ok-None.ensures.prints start came.calls done takes) in
    short_so done true last (inl ((_, last.is.0, inl refl), last.is.1)))

pub returns-in_default-2-clause-turns : goal.returns-in_default-2-clause-turns
returns-in_default-2-clause-turns g c = λ from start done before first.
    let hand = g.S.Source.at_hand c.args.source.now in
    let took = g.O.Output.took start c.catch_up.new.output in
    let printed = g.O.Output.printed start c.catch_up.new.output in
    let caught = wrote_goes _ done first (λ calls more came on. g.met.S.Source.stays _ _ calls more done false _ came on) (IsCaught hand took printed)
    (rw (c.in_default.is, c.is_at_hand-hand.ensures.hand) at (c.in_ok-ending.ensures.prints start first.calls done first.is.takes)) in
    let read = rw c.in-Ok-Some.field-0-is at (c.in-Ok-Some.ensures.came from caught.calls done caught.is.came) in
    let came = asked hand (g.S.Source.reads from) (g.S.Source.asks from) _ took printed _ done caught (λ calls p. (_, p)) (λ calls more p on. g.met.O.Output.stays _ _ calls more done _ p on)
    (λ calls more p on. g.met.O.Output.printed_stays _ _ calls more done _ p on) {Now = λ calls. g.S.Source.gave from c.next.new.self calls (done ++ c.in-Ok-Some.item ∷ []) false} read in
    let takes = caught_takes took printed came.calls done hand (λ p. g.met.O.Output.takes _ _ came.calls done p) came.is.1 in
    let prints = (rw c.in_default-2.is at c.in_ok-ending-in-Ok-Some.ensures.prints) start came.calls done takes (caught_prints took printed came.calls done hand _ (rw c.in-Ok-Some.field-0-is at c.in-Ok-Some.ensures.quiet) came.is.1) in
    let last = answered (λ calls. g.O.Output.took start c.item.new.self calls (done ++ c.in-Ok-Some.item ∷ [])) came (λ calls more p on. g.met.S.Source.stays _ _ calls more (done ++ c.in-Ok-Some.item ∷ []) false _ p on) prints in
    (c.in-Ok-Some.item, goes_at (g.S.Source.gave from) _ c.give_back.ensures.same (made_so last (record { came = last.is.0; takes = last.is.1; count = c.and-met.ensures.count done first.is.count; prompt = last.is.2 })))

pub returns-in_ok-ending-in-Ok-None-clause-turns : goal.returns-in_ok-ending-in-Ok-None-clause-turns
returns-in_ok-ending-in-Ok-None-clause-turns g c = λ from start done before first.
    let hand = g.S.Source.at_hand c.args.source.now in
    let took = g.O.Output.took start c.catch_up.new.output in
    let printed = g.O.Output.printed start c.catch_up.new.output in
    let caught = wrote_goes _ done first (λ calls more came on. g.met.S.Source.stays _ _ calls more done false _ came on) (IsCaught hand took printed)
    (rw (c.in_default.is, c.is_at_hand-hand.ensures.hand) at (c.in_ok-ending.ensures.prints start first.calls done first.is.takes)) in
    let read = rw c.in-Ok-None.field-0-is at (c.in-Ok-None.ensures.came from caught.calls done caught.is.came) in
    let came = asked hand (g.S.Source.reads from) (g.S.Source.asks from) _ took printed _ done caught (λ calls p. (_, p)) (λ calls more p on. g.met.O.Output.stays _ _ calls more done _ p on)
    (λ calls more p on. g.met.O.Output.printed_stays _ _ calls more done _ p on) {Now = λ calls. g.S.Source.gave from c.next.new.self calls done true} read in
    let takes = caught_takes took printed came.calls done hand (λ p. g.met.O.Output.takes _ _ came.calls done p) came.is.1 in
    behind_ended _ _ _ _ _ _ _ done true first.is.count came (_, came.is.0, inl refl) came.is.2 (c.in_ok-ending-in-Ok-None.ensures.prints start came.calls done takes)

pub returns-in-Err-NoMemory-clause-short : goal.returns-in-Err-NoMemory-clause-short
returns-in-Err-NoMemory-clause-short g c = λ from start done before first.
    let hand = g.S.Source.at_hand c.args.source.now in
    let took = g.O.Output.took start c.catch_up.new.output in
    let printed = g.O.Output.printed start c.catch_up.new.output in
    let caught = wrote_goes _ done first (λ calls more came on. g.met.S.Source.stays _ _ calls more done false _ came on) (IsCaught hand took printed)
    (rw (c.in_default.is, c.is_at_hand-hand.ensures.hand) at (c.in_ok-ending.ensures.prints start first.calls done first.is.takes)) in
    let read = rw c.in-Err-NoMemory.field-0-is at (c.in-Err-NoMemory.ensures.came from caught.calls done caught.is.came) in
    let came = asked hand (g.S.Source.reads from) (g.S.Source.asks from) _ took printed _ done caught (λ calls p. (_, p)) (λ calls more p on. g.met.O.Output.stays _ _ calls more done _ p on)
    (λ calls more p on. g.met.O.Output.printed_stays _ _ calls more done _ p on) {Now = λ calls. g.S.Source.starved from c.next.new.self calls done} read in
    let takes = caught_takes took printed came.calls done hand (λ p. g.met.O.Output.takes _ _ came.calls done p) came.is.1 in
    short_so done false came (inr (inr came.is.0, takes))

pub returns-then-not-hand-clause-turns : goal.returns-then-not-hand-clause-turns
returns-then-not-hand-clause-turns g c = λ from start done before first.
    let hand = false in
    let took = g.O.Output.took start c.catch_up.new.output in
    let printed = g.O.Output.printed start c.catch_up.new.output in
    let caught = wrote_goes _ done first (λ calls more came on. g.met.S.Source.stays _ _ calls more done false _ came on) (IsCaught hand took printed)
    (rw (c.in_default.is, c.if-not-hand.true) at (c.in_ok-ending.ensures.prints start first.calls done first.is.takes)) in
    let read = let q = sym c.is_at_hand-hand.ensures.hand ∙ c.if-not-hand.true in rw (c.in-Err-Fault.field-0-is, q) at (c.in-Err-Fault.ensures.came from caught.calls done caught.is.came) in
    let came = asked hand (g.S.Source.reads from) (g.S.Source.asks from) _ took printed _ done caught (λ calls p. (_, p)) (λ calls more p on. g.met.O.Output.stays _ _ calls more done _ p on)
    (λ calls more p on. g.met.O.Output.printed_stays _ _ calls more done _ p on) {Now = λ calls. g.S.Source.stopped from c.in-Err-Fault.fault calls done (g.W.World.seen c.next.new.world)} read in
    source_stopped _ _ _ _ _ _ c.in-Err-Fault.fault done first.is.count came

pub returns-in_err-end-in-Err-Fault-clause-short : goal.returns-in_err-end-in-Err-Fault-clause-short
returns-in_err-end-in-Err-Fault-clause-short g c =
    let p = err_from_is_err_and c.from_residual-in_err-end-in-Err-Fault.result c.from_residual-in_err-end-in-Err-Fault.ensures.1 in
    rw p.1 (λ from start done before first.
    let hand = true in
    let took = g.O.Output.took start c.catch_up.new.output in
    let printed = g.O.Output.printed start c.catch_up.new.output in
    let is_hand = sym c.is_at_hand-hand.ensures.hand ∙ c.if-not-hand.false in
    let caught = wrote_goes _ done first (λ calls more came on. g.met.S.Source.stays _ _ calls more done false _ came on) (IsCaught hand took printed)
    (rw (c.in_default.is, c.if-not-hand.false) at (c.in_ok-ending.ensures.prints start first.calls done first.is.takes)) in
    let read = rw (c.in-Err-Fault.field-0-is, is_hand) at (c.in-Err-Fault.ensures.came from caught.calls done caught.is.came) in
    let came = asked hand (g.S.Source.reads from) (g.S.Source.asks from) _ took printed _ done caught (λ calls p. (_, p)) (λ calls more p on. g.met.O.Output.stays _ _ calls more done _ p on)
    (λ calls more p on. g.met.O.Output.printed_stays _ _ calls more done _ p on) {Now = λ calls. g.S.Source.stopped from c.in-Err-Fault.fault calls done (g.W.World.seen c.next.new.world) × g.S.Source.gave from c.args.source.now calls done false}
    (hand_read (λ calls. g.S.Source.asks from calls done) (λ calls. g.S.Source.stopped from c.in-Err-Fault.fault calls done (g.W.World.seen c.next.new.world)) _ done caught (λ calls more p on. g.met.S.Source.stays _ _ calls more done false [] p on) read) in
    let held = made_so {IsToo = λ calls. g.S.Source.gave from c.args.source.now calls done false × took calls done × AtReads (ReadyFor g.S.Source.asks g.O.Output.printed from start) calls} came (came.is.0.1, came.is.1, came.is.2) in
    let last = answered (λ calls. g.O.Output.starved start calls done false) held (λ calls more p on. g.met.S.Source.stays _ _ calls more done false _ p on) (c.in_err-end-in-Err-Fault.ensures.prints start held.calls done held.is.1) in
    short_so done false last (inl ((_, last.is.0, inr is_hand), last.is.1)))

pub returns-in_ok-end-in-Err-Fault-clause-turns : goal.returns-in_ok-end-in-Err-Fault-clause-turns
returns-in_ok-end-in-Err-Fault-clause-turns g c = λ from start done before first.
    let hand = true in
    let took = g.O.Output.took start c.catch_up.new.output in
    let printed = g.O.Output.printed start c.catch_up.new.output in
    let is_hand = sym c.is_at_hand-hand.ensures.hand ∙ c.if-not-hand.false in
    let caught = wrote_goes _ done first (λ calls more came on. g.met.S.Source.stays _ _ calls more done false _ came on) (IsCaught hand took printed)
    (rw (c.in_default.is, c.if-not-hand.false) at (c.in_ok-ending.ensures.prints start first.calls done first.is.takes)) in
    let read = rw (c.in-Err-Fault.field-0-is, is_hand) at (c.in-Err-Fault.ensures.came from caught.calls done caught.is.came) in
    let came = asked hand (g.S.Source.reads from) (g.S.Source.asks from) _ took printed _ done caught (λ calls p. (_, p)) (λ calls more p on. g.met.O.Output.stays _ _ calls more done _ p on)
    (λ calls more p on. g.met.O.Output.printed_stays _ _ calls more done _ p on) {Now = λ calls. g.S.Source.stopped from c.in-Err-Fault.fault calls done (g.W.World.seen c.next.new.world) × g.S.Source.gave from c.args.source.now calls done false}
    (hand_read (λ calls. g.S.Source.asks from calls done) (λ calls. g.S.Source.stopped from c.in-Err-Fault.fault calls done (g.W.World.seen c.next.new.world)) _ done caught (λ calls more p on. g.met.S.Source.stays _ _ calls more done false [] p on) read) in
    stop_ended _ _ _ _ _ c.in_ok-end-in-Err-Fault.end _ c.in-Err-Fault.fault (g.O.Output.starved start) done first.is.count came (_, came.is.0.1, inr is_hand) (λ more on did. g.met.S.Source.stopped_stays _ _ came.calls more done _ _ _ came.is.0.0 on did) came.is.2
    (c.in_ok-end-in-Err-Fault.ensures.prints start came.calls done came.is.1)
