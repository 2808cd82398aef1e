use Rattle.std.proofs.Common.{List, ℕ, ◌+◌, ◌<◌, length, refl, sym, subst, ◌∙◌, arith}
use Rattle.std.proofs.lemmas.Result.{err_from_is_err_and}
use Rattle.query_parser.proofs.Driving.{Leads, leads_first, leads_blank, after_first, token_leads, token_refused, token_some, leads_end}
use Rattle.query_parser.proofs.draft.read_line.Goals as goal

pub loop-rest-init : goal.loop-rest-init
loop-rest-init c = record {
  place = refl;
  whole = c.new-draft.ensures.whole;
  leads = leads_first c.args.caseless c.args.from c.new-draft.result c.args.line.now c.new-draft.ensures.spot c.new-draft.ensures.steps;
}

pub loop-rest-preserved-then-is_blank_byte : goal.loop-rest-preserved-then-is_blank_byte
loop-rest-preserved-then-is_blank_byte c = record {
  place = omega (arith, c.loop-rest.invariant.place);
  whole = c.loop-rest.invariant.whole;
  leads =
      subst (λ (v : List ℕ). Leads c.args.caseless (c.loop-rest.at + 1) c.loop-rest.draft v c.args.from c.args.line.now) (sym (after_first c.loop-rest.rest.now (omega arith)))
      (leads_blank c.args.caseless c.loop-rest.at c.loop-rest.draft c.loop-rest.rest.now c.args.from c.args.line.now (omega arith) (sym c.is_blank_byte.ensures ∙ c.if-is_blank_byte.true) c.loop-rest.invariant.leads);
}

pub returns-in_err-draft : goal.returns-in_err-draft
returns-in_err-draft c =
    let p = err_from_is_err_and c.from_residual.result c.from_residual.ensures.1 in
    let h = c.loop-rest.invariant.leads in
    rw (p.1, p.2) (token_refused c.args.caseless c.loop-rest.at c.token_len.result c.loop-rest.draft c.split_at.result.0.now c.loop-rest.rest.now c.split_at.result.1.now c.args.from c.args.line.now c.in_err-draft.field-0.0 (omega arith)
    (sym c.is_blank_byte.ensures ∙ c.if-is_blank_byte.false) c.split_at.ensures.front c.split_at.ensures.back c.token_len.ensures.munches h (c.in_err-draft.ensures.spot h.written h.meant))

pub loop-rest-preserved : goal.loop-rest-preserved
loop-rest-preserved c =
    let h = c.loop-rest.invariant.leads in
    record {
      place = omega (arith, c.loop-rest.invariant.place);
      whole = c.in_ok-draft.ensures.whole;
      leads = token_leads c.args.caseless c.loop-rest.at c.token_len.result c.loop-rest.draft c.in_ok-draft.draft c.split_at.result.0.now c.loop-rest.rest.now c.split_at.result.1.now c.args.from c.args.line.now (omega arith)
          (sym c.is_blank_byte.ensures ∙ c.if-is_blank_byte.false) c.split_at.ensures.front c.split_at.ensures.back c.token_len.ensures.munches h (c.in_ok-draft.ensures.spot h.written h.meant);
    }

pub loop-rest-smaller : goal.loop-rest-smaller
loop-rest-smaller c =
    let h = c.loop-rest.invariant.leads in
    let some : 0 < length c.split_at.result.0.now = token_some c.args.caseless (c.loop-rest.at + length c.split_at.result.0.now) c.loop-rest.draft c.in_ok-draft.draft h.written c.split_at.result.0.now c.split_at.result.1.now (c.in_ok-draft.ensures.spot h.written h.meant) in
    omega arith

pub returns : goal.returns
returns c =
    let h = c.loop-rest.invariant.leads in
    leads_end c.args.caseless c.loop-rest.at c.loop-rest.draft c.loop-rest.rest.now c.args.from c.args.line.now c.finish.result (omega arith) h (c.finish.ensures c.args.caseless h.written h.meant)
