use Rattle.std.proofs.Common.{◌≡◌, true, false, Some, None, length, refl, ap, sym, ◌∙◌, subst, arith}
use Rattle.std.specs.Prelude.{slice_get}
use Rattle.std.specs.Option.{option_map}
use Rattle.std.proofs.lemmas.Option.{slice_get_read, slice_get_past}
use Rattle.txn_groups.specs.declared.node.Node.{Node}
use Rattle.txn_groups.specs.inside.Nodes.{StandsAt}
use Rattle.txn_groups.specs.inside.Kin.{unlinked}
use Rattle.txn_groups.specs.inside.Places.{AreFree}
use Rattle.txn_groups.specs.inside.Taken.{records_at}
use Rattle.txn_groups.proofs.FoundLemmas.{same_node, none_there}
use Rattle.txn_groups.proofs.OutLemmas.{unlinked_by, out_of_place, index_out, free_out}
use Rattle.txn_groups.proofs.take_node.take_node.Goals as goal

pub returns-in_default : goal.returns-in_default
returns-in_default c = λ x there some kin is are.
    let old = c.args.pending.now.nodes.items in
    let past : slice_get old c.args.visit.at ≡ None = rw c.deref.ensures.value at (slice_get_past c.deref.result.now c.args.visit.at c.in_default.ensures.lookup.3) in
    absurd (none_there old c.args.visit.at x there past)

pub returns-then-not-node : goal.returns-then-not-node
returns-then-not-node c = λ x there some kin is are.
    let old = c.args.pending.now.nodes.items in
    let g : Node = c.in-Some.node.now in
    let seen = slice_get_read c.deref.result.now (length c.deref.result.now) c.args.visit.at g refl c.in-Some.ensures.lookup.3.0 c.in-Some.ensures.lookup.1 in
    let read : slice_get old c.args.visit.at ≡ Some g = rw c.deref.ensures.value at seen in
    let same : x ≡ g = same_node old c.args.visit.at x g there read in
    absurd (let e : true ≡ false = sym there.stands ∙ ap (λ (n : Node). n.stands) same ∙ c.if-not-node.true in cc)

pub returns : goal.returns
returns c = λ x there some kin is are.
    let p = c.args.pending.now in
    let old = p.nodes.items in
    let at = c.args.visit.at in
    let g : Node = c.in-Some.node.now in
    let mid = c.set_newer_of.new.nodes.items in
    let new = c.free_node-records.new.nodes.items in
    let seen = slice_get_read c.deref.result.now (length c.deref.result.now) at g refl c.in-Some.ensures.lookup.3.0 c.in-Some.ensures.lookup.1 in
    let read : slice_get old at ≡ Some g = rw c.deref.ensures.value at seen in
    let was : StandsAt old at g = record { here = read; stands = c.if-not-node.false } in
    let changed = unlinked_by g old c.set_older_of.new.nodes.items mid c.set_older_of.ensures c.set_newer_of.ensures in
    let there : slice_get mid at ≡ Some (unlinked g at g) = changed at ∙ ap (option_map (unlinked g at)) read in
    let freed = c.free_node-records.ensures.freed (unlinked g at g) there in
    let out = out_of_place old mid new at g was changed freed in
    let records_is : c.free_node-records.result ≡ g.records = c.free_node-records.ensures.records ∙ ap records_at there in
    record {
      node = g;
      out = out;
      is = rw (c.parent_of-parent.ensures, records_is) refl;
      index = index_out old new at g p.index c.leave_index.new.index kin out is c.in_ok-leave_index.ensures;
      free = subst (AreFree new) (sym c.in_ok-push.ensures.items) (free_out old mid new at g p.free.items was changed freed are);
      rows = omega (arith, some, c.saturating_sub-pending.ensures);
      order = refl;
      begun = refl;
      time = refl;
    }
