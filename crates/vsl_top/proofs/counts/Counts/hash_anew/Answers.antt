use Rattle.std.proofs.Common.{◌≡◌, ◌∙◌, ap, List, [], ℕ}
use Rattle.indexmap.specs.IndexMap.{IndexMap, insert_all}
use Rattle.indexmap.proofs.CallerLemmas.{Drains-YieldsInOrder}
use Rattle.vsl_top.specs.Report.{Key, is_same}
use Rattle.vsl_top.specs.declared.hashing.Seed.{Seed}
use Rattle.vsl_top.proofs.TableLemmas.{put_anew}
use Rattle.vsl_top.proofs.counts.Counts.hash_anew.Goals as goal

pub returns : goal.returns
returns c =
    let entries : List (Key × ℕ) = c.args.self.now.map.entries in
    let ran = c.in_ok-extend.ensures.ran in
    let all : ran.1 ≡ entries = Drains-YieldsInOrder _ _ ran.0 ran.1 ran.2.2 ran.4 ∙ ran.2.0 ∙ ap (λ (m : IndexMap Key ℕ Seed). m.entries) c.replace-old.ensures.value in
    let none = ap (λ (m : IndexMap Key ℕ Seed). m.entries) c.replace-old.ensures.after ∙ c.in_ok-map.ensures.empty in
    ran.3.0 ∙ ap (λ (es : List (Key × ℕ)). insert_all is_same es ran.1) none ∙ ap (insert_all is_same []) all ∙ put_anew entries c.len.ensures.unique
