-- What saying a message comes to.
use Rattle.std.proofs.Common.{◌≡◌, List, ℕ, [], ◌∷◌, refl, inl, inr, codes}
use Rattle.log_model.specs.Prefix.{IsProperPrefix}
use Rattle.vio.specs.declared.world.TheConstants.{ERRORS}
use Rattle.vio.specs.World.{Seen, Writing, Wrote, FaultsRose, HasStreams}
use Rattle.vio.specs.Writes.{WroteOn}
use Rattle.vio.specs.Calls.{Called, Went, Failed, Write}
use Rattle.one_command.specs.Promise.{Says, SaysPart}

-- there is none
pub says_none : (text : List ℕ) (s : Seen) → text ≡ [] → Called (Says text) s s
says_none text s none = record { calls = []; did = refl; is = inl (none, refl) }

-- it was written
pub says_whole : (text : List ℕ) (s t : Seen) → Wrote ERRORS text s t → Called (Says text) s t
says_whole text s t wrote = record { calls = Write ERRORS text Went ∷ []; did = (t, (wrote, tt), refl); is = inr (inl refl) }

-- not all of it, where the write failed
pub says_failed : (text : List ℕ) (s t : Seen) → HasStreams s → WroteOn ERRORS [] (λ part. IsProperPrefix part text) s t → FaultsRose Writing ERRORS s t → Called (Says text) s t
says_failed text s t streams wrote rose = record {
  calls = Write ERRORS wrote.added (Failed (codes "stderr")) ∷ [];
  did = (t, (wrote.wrote, rose.each (codes "stderr") streams.error), refl);
  is = inr (inr (wrote.added, wrote.is, refl));
}

-- or there was no memory
pub says_part : (text : List ℕ) (s t : Seen) → WroteOn ERRORS [] (λ part. IsProperPrefix part text) s t → Called (SaysPart text) s t
says_part text s t wrote = record { calls = Write ERRORS wrote.added Went ∷ []; did = (t, (wrote.wrote, tt), refl); is = inr (wrote.added, wrote.is, refl) }
