use Rattle.std.proofs.Common.{◌≡◌, subst, rules}
use Rattle.txn_groups.specs.inside.Places.{AreFree}
use Rattle.txn_groups.proofs.PlaceLemmas.{place_popped, place_next}
use Rattle.txn_groups.proofs.place.take_place.Goals as goal

pub returns-in-Some : goal.returns-in-Some
returns-in-Some c = λ are. place_popped c.args.nodes.now c.args.free.now.items c.pop.new.self.items c.in-Some.at c.in-Some.ensures.items are

pub returns-in-None : goal.returns-in-None
returns-in-None c = λ are.
    let same : c.args.free.now.items ≡ c.pop.new.self.items = search rules in
    place_next c.args.nodes.now c.pop.new.self.items (subst (AreFree c.args.nodes.now) same are)
