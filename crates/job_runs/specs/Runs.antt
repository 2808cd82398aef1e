-- What a run over one source comes to (this project's choice).
use Rattle.std.specs.Prelude.{◌≡◌, ◌⊎◌, ℕ, Bool, true, List, [], ◌∷◌}
use Rattle.vio.specs.declared.world.TheConstants.{ERRORS}
use Rattle.vio.specs.Calls.{Call, AreOn, last_failed}
use Rattle.ring_layout.specs.declared.item.Item.{Item}
use Rattle.traffic_feed.specs.declared.listing.Listing.{Listing}
use Rattle.tool_words.specs.declared.job.Job.{Job}
use Rattle.fan_output.specs.Ends.{Due, TextShort}
use Rattle.job_runs.specs.Counters.{CountsPart}

-- a run is so, and none of its calls failed but perhaps the last
abbrev pub RanSo : (List Call → Type 0) → List Call → Type 0
RanSo IsSo calls = IsSo calls × (last_failed calls ≡ true)

-- a run had no memory: nothing was done, or a prefix was written of what is due of items that came so
abbrev pub RanShort : List ℕ → (List Call → List Item → Bool → Type 0) → ℕ → Due → List Call → Type 0
RanShort reads came sink d calls = (calls ≡ []) ⊎
    ((met : List Item) × (all : Bool) × AreOn reads (ERRORS ∷ sink ∷ []) calls × came calls met all ×
    TextShort sink d calls met all)

-- no counter was printed for want of memory, or a prefix of their text was
abbrev pub CountsShort : Job → List Listing → ℕ → List Call → Type 0
CountsShort job listings sink calls = (calls ≡ []) ⊎ CountsPart job listings sink calls
