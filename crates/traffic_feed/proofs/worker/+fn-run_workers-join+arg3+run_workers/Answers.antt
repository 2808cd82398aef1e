use Rattle.std.proofs.Common.{rules, arith, subst, sym, length, ◌≡◌, ◌<◌, ◌^◌, vec_len, vec_capacity}
use Rattle.traffic_feed.specs.Feeding.{WasAskedEach}
use Rattle.traffic_feed.specs.Workers.{AllReady, AllFed, AllAsked, listings_of}
use Rattle.traffic_feed.proofs.WorkerLemmas.{ready_last, fed_last, asked_last}
use Rattle.traffic_feed.proofs.worker.+fn-run_workers-join+arg3+run_workers.Goals as goal

pub join-fed-requires-after_bounds : goal.join-fed-requires-after_bounds
join-fed-requires-after_bounds g t c κs within =
    let r = ready_last c.args.ring.now c.args.counters.now c.pop.new.self.items c.in-Some.worker (subst (AllReady c.args.ring.now c.args.counters.now) c.in-Some.ensures.items c.requires.ready) in
    let a = r.0 in
    let b = r.1 in
    let len = c.in-Some.ensures.len in
    let room = c.requires.room in
    let fits : vec_len c.pop.new.self < vec_capacity c.args.room = omega arith in
    let small : vec_len c.pop.new.self < 2 ^ 32 = omega arith in
    ((b, (search rules, search rules)), (search rules, (search rules, (search rules, ((search rules, a, search rules, fits, small), (search rules, search rules))))))

pub returns-clause-fed : goal.returns-clause-fed
returns-clause-fed g t c =
    let fed = fed_last c.args.ring.now c.args.counters.now c.pop.new.self.items c.join-fed.result.1.items c.in-Some.worker c.join-fed.result.0 c.join-fed.ensures.second.0 c.join-fed.ensures.first.0 in
    subst (λ ws. AllFed c.args.ring.now c.args.counters.now (listings_of ws) c.push_reserved.new.self.items) (sym c.in-Some.ensures.items)
    (subst (AllFed c.args.ring.now c.args.counters.now _) (sym c.push_reserved.ensures.items) fed)

pub returns-clause-asked : goal.returns-clause-asked
returns-clause-asked g t c =
    let len : length c.join-fed.result.1.items ≡ c.len-number.result = search rules in
    let asked = asked_last (g.G.Gate.was_asked c.args.gate.now) c.join-fed.result.1.items c.join-fed.result.0 c.join-fed.ensures.second.2
    (subst (λ n. WasAskedEach (g.G.Gate.was_asked c.args.gate.now n) c.join-fed.result.0.left.entries c.join-fed.result.0.full) (sym len) c.join-fed.ensures.first.2) in
    subst (AllAsked (g.G.Gate.was_asked c.args.gate.now)) (sym c.push_reserved.ensures.items) asked
