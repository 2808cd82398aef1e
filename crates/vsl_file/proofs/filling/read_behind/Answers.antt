use Rattle.std.proofs.Common.{◌≡◌, ◌<◌, ℕ, length, arith}
use Rattle.std.proofs.lemmas.Result.{IfOk-weaker}
use Rattle.vio.specs.World.{IsAtEnd}
use Rattle.vsl_file.proofs.filling.read_behind.Goals as goal

pub returns-clause-end : goal.returns-clause-end
returns-clause-end g c =
    let some : c.args.place < length c.args.bytes.now → 0 < length c.split_at_mut-behind.result.1.now = λ less. omega (arith, less, c.split_at_mut-behind.ensures.back_len) in
    IfOk-weaker c.read.result _ _ (λ (n : ℕ) (end : n ≡ 0 → 0 < length c.split_at_mut-behind.result.1.now → IsAtEnd c.args.handle (g.W.World.seen c.read.new.self)) none less. end none (some less)) c.read.ensures.end
