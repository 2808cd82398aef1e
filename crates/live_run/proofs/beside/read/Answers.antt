use Rattle.std.proofs.Common.{ap, inl, inr}
use Rattle.one_run.proofs.RunLemmas.{each_err, each_ok, made_so, none_read, ran_too, short_too}
use Rattle.live_run.proofs.RunLemmas.{has_read, last_gave}
use Rattle.live_run.proofs.beside.read.Goals as goal

pub returns : goal.returns
returns g c =
    let writes = g.O.Output.writes c.args.output.now in
    let start = c.args.source.now.pass in
    let final = c.run.new.source.pass in
    has_read (g.O.Output.took c.args.output.now c.run.new.output) (g.O.Output.printed c.args.output.now c.run.new.output) (g.O.Output.ended c.args.output.now) (g.O.Output.starved c.args.output.now) (g.O.Output.alone c.args.output.now) writes start final c.run.result _ _
    (each_ok c.run.result (λ r made. made_so made (ran_too _ (λ before. ⊥) writes (λ calls met all p. last_gave start p.0.pass final met all p.1 (elim p.2 [ inl same ↦ inl (ap (λ x. x.pass) same) | inr hand ↦ inr hand ])) (λ fault calls met p. p) (λ calls met p. p) (λ ending calls done last all p. p) r.end r.met made.calls
    (λ p. none_read (λ before. ⊥) writes made.calls made.on) made.is)) c.run.ensures.ran)
    (each_err c.run.result (λ made. made_so made (short_too (λ calls met all p. last_gave start p.0.pass final met all p.1 (elim p.2 [ inl same ↦ inl (ap (λ x. x.pass) same) | inr hand ↦ inr hand ])) made.calls made.is)) c.run.ensures.short)
