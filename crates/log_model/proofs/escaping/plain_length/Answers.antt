use Rattle.std.proofs.Common.{◌≡◌, ◌∷◌, ◌∙◌, [], get_or, sym, arith}
use Rattle.std.proofs.lemmas.Grind.{common_steps}
use Rattle.log_model.proofs.escaping.plain_length.Goals as goal

pub loop-at-preserved : goal.loop-at-preserved
loop-at-preserved g c =
    let byte = get_or c.args.bytes.now c.loop-at.at 0 in
    let here : g.E.Escapes.printed byte ≡ byte ∷ [] = g.met.E.Escapes.plain byte (sym c.has_escape.ensures ∙ c.if-has_escape.false) in grind (arith, common_steps)
