use Rattle.std.proofs.Common.{sym, ◌∙◌}
use Rattle.vio.proofs.StreamLemmas.{file_opened, stream_opened}
use Rattle.vio.proofs.streams.open_stream.Goals as goal

pub returns-then-eq : goal.returns-then-eq
returns-then-eq g c = stream_opened c.args.name.now _ (sym c.eq.ensures ∙ c.if-eq.true)

pub returns : goal.returns
returns g c = file_opened c.args.name.now c.open.result _ _ (sym c.eq.ensures ∙ c.if-eq.false) (λ h is. rw is at c.open.ensures.ok) (λ e is. rw is at c.open.ensures.err) c.open.ensures.failed
