use Rattle.std.proofs.Common.{sym, ◌∙◌}
use Rattle.vio.proofs.StreamLemmas.{file_made, stream_made}
use Rattle.vio.proofs.streams.create_stream.Goals as goal

pub returns-then-eq-clause-made : goal.returns-then-eq-clause-made
returns-then-eq-clause-made g c = stream_made c.args.append c.args.name.now _ (sym c.eq.ensures ∙ c.if-eq.true)

pub returns-clause-made : goal.returns-clause-made
returns-clause-made g c = file_made c.args.append c.args.name.now c.create.result _ _ (sym c.eq.ensures ∙ c.if-eq.false) (λ made is. rw is at c.create.ensures.ok) (λ e is. rw is at c.create.ensures.err) c.create.ensures.failed
