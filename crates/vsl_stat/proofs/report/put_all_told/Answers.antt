use Rattle.std.proofs.Common.{sym, ap, ◌∙◌}
use Rattle.std.specs.Option.{option_copied}
use Rattle.log_model.proofs.PrefixLemmas.{prefix_then, prefix_equal}
use Rattle.vsl_stat.specs.inside.Selecting.{told_of}
use Rattle.vsl_stat.proofs.SelectLemmas.{text_selected, text_hidden}
use Rattle.vsl_stat.proofs.report.put_all_told.Goals.{then-is_shown+in_ok-put_told, else-is_shown}
use Rattle.vsl_stat.proofs.report.put_all_told.Goals as goal

pub loop-which-preserved : goal.loop-which-preserved
loop-which-preserved c =
    elim c.if-is_shown.branch [
      | then-is_shown+in_ok-put_told w ↦ record {
        text = text_selected (told_of (option_copied c.args.values)) c.args.globs.now c.loop-which.which c.loop-which.out.items _ _ c.loop-which-test.true (sym c.is_shown.ensures ∙ w.if-is_shown.true) (ap (λ v. v.items) w.out-is ∙ w.in_ok-put_told.ensures.ok) c.loop-which.invariant.text;
        keeps = prefix_then c.loop-which.invariant.keeps (prefix_then w.in_ok-put_told.ensures.keeps (prefix_equal (ap (λ v. v.items) w.out-is)));
      }
      | else-is_shown w ↦ record {
        text = text_hidden (told_of (option_copied c.args.values)) c.args.globs.now c.loop-which.which c.loop-which.out.items _ _ c.loop-which-test.true (sym c.is_shown.ensures ∙ w.if-is_shown.false) (ap (λ v. v.items) w.out-is) c.loop-which.invariant.text;
        keeps = prefix_then c.loop-which.invariant.keeps (prefix_equal (ap (λ v. v.items) w.out-is));
      }
    ]
