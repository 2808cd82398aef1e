use Rattle.std.proofs.Common.{◌≡◌, Some, None, refl}
use Rattle.std.proofs.lemmas.Str.{IsUtf8-from_ascii}
use Rattle.vsl_tags.specs.Called.{tag_called}
use Rattle.vsl_tags.proofs.CalledLemmas.{IsPlain-from, IsTagName-from, tag_is}
use Rattle.vsl_tags.proofs.called.tag_called.Goals as goal

pub returns-in-Ok : goal.returns-in-Ok
returns-in-Ok c = rw (c.in-Ok.ensures.cases.0) at (tag_is c.in-Ok.name.now c.tag_of.result c.tag_of.ensures.named c.tag_of.ensures.tag c.tag_of.ensures.refused)

pub returns-in-Err : goal.returns-in-Err
returns-in-Err c =
    let name = c.args.name.now in
    elim (tag_called name) as (λ o. tag_called name ≡ o → None ≡ o) [
      | None ↦ λ _. refl
      | Some tag ↦ λ e. absurd (c.in-Err.ensures.cases.0 (IsUtf8-from_ascii name (IsPlain-from tag name (IsTagName-from tag name e)).ascii))
    ] refl
