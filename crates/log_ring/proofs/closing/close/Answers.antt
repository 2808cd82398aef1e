use Rattle.std.proofs.Common.{ℕ, ◌<◌, sym, ap, ◌∙◌, subst, arith}
use Rattle.std.specs.List.{AllByRecursion}
use Rattle.ring_layout.specs.History.{AddUp}
use Rattle.log_ring.proofs.JoiningLemmas.{settle_allowed, settled_log, settled_entries, settled_busy, settled_found, settled_histories, settled_readers}
use Rattle.log_ring.proofs.AgreeLemmas.{all_agree, all_add_up}
use Rattle.log_ring.proofs.closing.close.Goals as goal

pub load-requires : goal.load-requires
load-requires c =
    let joined = c.join_readers-seat.ensures.joined in
    let wide = c.ring.invariant.0 in
    let some_one = c.ring.invariant.3 in
    let long = c.args.writers.ok in
    let count = ap (λ z. z.writers) c.ring.view_is in
    let all = c.requires.all in
    (joined.ours ∙ sym (ap (λ z. z.table) c.ring.view_is), omega arith, settle_allowed _ _ _ _ _ _ _ _ joined (omega arith) some_one)

pub returns-clause-log : goal.returns-clause-log
returns-clause-log c = settled_log _ _ _ _ _ 0 _ c.join_readers-seat.ensures.joined c.load.ensures.2

pub returns-clause-entries : goal.returns-clause-entries
returns-clause-entries c = settled_entries _ _ _ _ _ 0 _ c.join_readers-seat.ensures.joined c.load.ensures.2

pub returns-clause-busy : goal.returns-clause-busy
returns-clause-busy c = settled_busy _ _ _ _ _ 0 _ c.join_readers-seat.ensures.joined c.load.ensures.2

pub returns-clause-readers : goal.returns-clause-readers
returns-clause-readers c = settled_readers _ _ _ _ _ 0 _ c.join_readers-seat.ensures.joined.seg c.join_readers-seat.ensures c.load.ensures.2

pub returns-clause-found : goal.returns-clause-found
returns-clause-found c = settled_found _ _ _ _ _ 0 _ c.join_readers-seat.ensures.joined c.load.ensures.2

pub returns-clause-alike : goal.returns-clause-alike
returns-clause-alike c =
    let done = settled_readers _ _ _ _ _ 0 _ c.join_readers-seat.ensures.joined.seg c.join_readers-seat.ensures c.load.ensures.2 in
    all_agree _ _ _ _ done done

pub returns-clause-counted : goal.returns-clause-counted
returns-clause-counted c =
    let joined = c.join_readers-seat.ensures in
    let done = settled_readers _ _ _ _ _ 0 _ joined.joined.seg joined c.load.ensures.2 in
    let histories = settled_histories _ _ _ _ _ 0 _ joined c.load.ensures.2 in
    let segment = c.ring.invariant.2 in
    let pos : 0 < c.args.ring.seg = subst (λ (z : ℕ). 0 < z) (ap (λ z. z.seg) c.ring.view_is) (omega (arith, segment.0)) in
    subst (AllByRecursion (AddUp _)) (sym histories) (all_add_up _ _ pos _ done)

pub returns-clause-histories : goal.returns-clause-histories
returns-clause-histories c = settled_histories _ _ _ _ _ 0 _ c.join_readers-seat.ensures c.load.ensures.2
