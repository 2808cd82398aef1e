use Rattle.std.proofs.Common.{◌∙◌, ◌++◌, ◌-◌, ℕ, List, ap, arith, decimal, length, replicate, subst}
use Rattle.std.proofs.lemmas.List.{take-replicate}
use Rattle.log_model.specs.Adding.{Puts}
use Rattle.ncsa_format.specs.Line.{quoted}
use Rattle.ncsa_format.proofs.TextLemmas.{puts_quoted}
use Rattle.ncsa_format.proofs.civil.put_padded.Goals as goal

pub returns : goal.returns
returns c =
    let digits = c.as_bytes-digits.ensures.value ∙ c.format.ensures.text in
    let count = c.saturating_sub.ensures ∙ ap (λ (ds : List ℕ). c.args.columns - length ds) digits in
    let fill = take-replicate c.saturating_sub.result 6 c.args.fill (omega (arith, c.saturating_sub.ensures, c.requires)) ∙ ap (λ (k : ℕ). replicate k c.args.fill) count in
    puts_quoted _ _ _ _ (replicate (c.args.columns - length (decimal c.args.n)) c.args.fill) (decimal c.args.n)
    (c.in_ok-put_quoted.ensures.ok ∙ ap (λ (l : List ℕ). c.args.out.now.items ++ quoted l) fill)
    (subst (λ (ds : List ℕ). Puts c.put_quoted-2.result c.put_quoted.new.out.items c.put_quoted-2.new.out.items (quoted ds)) digits c.put_quoted-2.ensures)
