-- How many groups a consumer received (varnishlog(1), "-k").
use Rattle.std.specs.Prelude.{◌≡◌, ℕ, Some}
use Rattle.vsl_dispatch.specs.declared.received.Received.{Received}

-- so many groups were received, which are counted where a limit is given
abbrev pub HasReceived : Received → ℕ → Type 0
HasReceived received n = (most : ℕ) → received.keep ≡ Some most → received.count ≡ n
