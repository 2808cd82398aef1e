use Rattle.std.proofs.Common.{refl, sym, ◌∙◌}
use Rattle.std.proofs.lemmas.Result.{on_ok_weaker}
use Rattle.raw_records.specs.Lines.{LoggedRecord}
use Rattle.traffic_feed.specs.inside.Gathering.{Gathered}
use Rattle.traffic_feed.proofs.GatheringLemmas.{taken_apart, taken_cut, taken_on, marks_on}
use Rattle.traffic_feed.proofs.gathering.Gathering.add.Goals as goal

pub returns-then-not-goes_on : goal.returns-then-not-goes_on
returns-then-not-goes_on c =
    let l : LoggedRecord = record { vxid = c.args.vxid; rec = c.args.rec } in
    let apart = sym (c.goes_on.ensures l refl refl) ∙ c.if-not-goes_on.true in
    on_ok_weaker c.begin.result (λ is. is ∙ taken_apart c.args.self.now.begun c.args.self.now l apart) c.begin.ensures

pub returns-then-not-has_room : goal.returns-then-not-has_room
returns-then-not-has_room c =
    let l : LoggedRecord = record { vxid = c.args.vxid; rec = c.args.rec } in
    let on = sym (c.goes_on.ensures l refl refl) ∙ c.if-not-goes_on.false in
    let full = sym (c.has_room.ensures l (sym c.view.ensures)) ∙ c.if-not-has_room.true in
    let g : Gathered = record { most = c.self.inside.most; seg = c.self.inside.seg; units = c.self.inside.units; cuts = c.self.inside.cuts; begun = c.self.inside.begun } in
    on_ok_weaker c.begin-then-not-has_room.result (λ is. is ∙ taken_cut g c.args.self.now l c.self.view_is on full) c.begin-then-not-has_room.ensures

pub push-requires-clause-mark : goal.push-requires-clause-mark
push-requires-clause-mark c =
    let l : LoggedRecord = record { vxid = c.args.vxid; rec = c.args.rec } in
    marks_on c.args.self.now.begun l (sym (c.goes_on.ensures l refl refl) ∙ c.if-not-goes_on.false)

pub returns : goal.returns
returns c =
    let l : LoggedRecord = record { vxid = c.args.vxid; rec = c.args.rec } in
    let on = sym (c.goes_on.ensures l refl refl) ∙ c.if-not-goes_on.false in
    let room = sym (c.has_room.ensures l (sym c.view.ensures)) ∙ c.if-not-has_room.false in
    on_ok_weaker c.push.result (λ is. taken_on c.args.self.now.begun c.args.self.now c.push.new.self l on room is) c.push.ensures
