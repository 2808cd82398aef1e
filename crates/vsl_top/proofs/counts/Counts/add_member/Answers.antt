use Rattle.std.proofs.Common.{List, ◌++◌, ◌∙◌, filter, ap, subst, sym}
use Rattle.std.proofs.lemmas.List.{append-nil}
use Rattle.vsl_record.specs.declared.record_type.Record.{Record}
use Rattle.vsl_select.specs.Showing.{Showing}
use Rattle.vsl_select.specs.Shown.{is_shown_member, is_shown_record}
use Rattle.vsl_top.specs.Counting.{AreCounted}
use Rattle.vsl_top.specs.inside.Keys.{shown_keys}
use Rattle.vsl_top.proofs.ConsumerLemmas.{on_ok}
use Rattle.vsl_top.proofs.counts.Counts.add_member.Goals as goal

pub returns-then-shows_member-clause-counted : goal.returns-then-shows_member-clause-counted
returns-then-shows_member-clause-counted c = on_ok c.add_all_shown.result
    (λ step keys so_far. rw (ap (λ (s : Showing). is_shown_member s.sides c.args.member.now) (sym c.selection.ensures) ∙ sym c.shows_member.ensures ∙ c.if-shows_member.true, append-nil (filter (is_shown_record c.args.viewer.now) c.args.member.now.records))
    (subst (λ (records : List Record). AreCounted (keys ++ shown_keys c.args.viewer.now c.args.first_field records) c.add_all_shown.new.self) c.view.ensures (step keys so_far)))
    c.add_all_shown.ensures.counted
