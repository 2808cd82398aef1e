-- What is opened and created by name.
use Rattle.std.proofs.Common.{◌≡◌, ℕ, Bool, true, false, List, [], ◌∷◌, Result, Ok, Err, refl, ap, codes}
use Rattle.std.specs.Bool.{MatchBool}
use Rattle.std.specs.Str.{bytes_eq}
use Rattle.log_model.specs.Faults.{HasNewFault}
use Rattle.vio.specs.declared.fault.WorldFault.{WorldFault}
use Rattle.vio.specs.declared.fault.WorldFault.TheVariants.{Failed, NoMemory}
use Rattle.vio.specs.declared.world.Created.{Created}
use Rattle.vio.specs.declared.world.TheConstants.{INPUT, OUTPUT}
use Rattle.vio.specs.World.{Seen, Opening, Creating, Opened, FileCreated, OnlyCounts}
use Rattle.vio.specs.Calls.{Call, Called, Open, Create, Refuse, Lack, none_failed}
use Rattle.vio.specs.Streams.{CreatesStream, IsMadeBy, IsOpenedBy, OpensStream}

-- ---- opening and creating

file_so : (b : Bool) (P Q : Type 0) → b ≡ false → Q → MatchBool b P Q
file_so true P Q e q = absurd cc
file_so false P Q e q = q

stream_so : (b : Bool) (P Q : Type 0) → b ≡ true → P → MatchBool b P Q
stream_so true P Q e p = p
stream_so false P Q e p = absurd cc

pub stream_opened : (name : List ℕ) (s : Seen) → bytes_eq name (codes "-") ≡ true → Called (OpensStream name (Ok INPUT)) s s
stream_opened name s is = record { calls = []; did = refl; is = stream_so (bytes_eq name (codes "-")) _ _ is (refl, refl) }

pub file_opened : (name : List ℕ) (r : Result ℕ WorldFault) (s t : Seen) → bytes_eq name (codes "-") ≡ false → ((h : ℕ) → r ≡ Ok h → Opened name h s t) → ((e : WorldFault) → r ≡ Err e → OnlyCounts s t)
    → (r ≡ Err Failed → HasNewFault (s.faults Opening name) (t.faults Opening name)) → Called (OpensStream name r) s t
file_opened name (Ok h) s t file opened only rose = record { calls = Open name h ∷ []; did = (t, opened h refl, refl); is = file_so (bytes_eq name (codes "-")) _ _ file refl }
file_opened name (Err Failed) s t file opened only rose = record { calls = Refuse Opening name ∷ []; did = (t, (only Failed refl, rose refl), refl); is = (file, refl) }
file_opened name (Err NoMemory) s t file opened only rose = record { calls = Lack ∷ []; did = (t, only NoMemory refl, refl); is = refl }

pub stream_made : (append : Bool) (name : List ℕ) (s : Seen) → bytes_eq name (codes "-") ≡ true → Called (CreatesStream append name (Ok (record { handle = OUTPUT; empty = true }))) s s
stream_made append name s is = record { calls = []; did = refl; is = stream_so (bytes_eq name (codes "-")) _ _ is (refl, refl, refl) }

pub file_made : (append : Bool) (name : List ℕ) (r : Result Created WorldFault) (s t : Seen) → bytes_eq name (codes "-") ≡ false → ((c : Created) → r ≡ Ok c → FileCreated append name c.handle c.empty s t) → ((e : WorldFault) → r ≡ Err e → OnlyCounts s t)
    → (r ≡ Err Failed → HasNewFault (s.faults Creating name) (t.faults Creating name)) → Called (CreatesStream append name r) s t
file_made append name (Ok c) s t file made only rose = record { calls = Create append name c.handle c.empty ∷ []; did = (t, made c refl, refl); is = file_so (bytes_eq name (codes "-")) _ _ file refl }
file_made append name (Err Failed) s t file made only rose = record { calls = Refuse Creating name ∷ []; did = (t, (only Failed refl, rose refl), refl); is = (file, refl) }
file_made append name (Err NoMemory) s t file made only rose = record { calls = Lack ∷ []; did = (t, only NoMemory refl, refl); is = refl }

-- ---- neither failed

either_none : (b : Bool) (P Q : Type 0) (calls : List Call) → (P → calls ≡ []) → (Q → none_failed calls ≡ true) → MatchBool b P Q → none_failed calls ≡ true
either_none true P Q calls stream file p = ap none_failed (stream p)
either_none false P Q calls stream file q = file q

pub opened_none : (name : List ℕ) (h : ℕ) (calls : List Call) → IsOpenedBy name h calls → none_failed calls ≡ true
opened_none name h calls p = either_none (bytes_eq name (codes "-")) _ _ calls (λ s. s.1) (λ is. ap none_failed is) p

pub made_none : (append : Bool) (name : List ℕ) (h : ℕ) (empty : Bool) (calls : List Call) → IsMadeBy append name h empty calls → none_failed calls ≡ true
made_none append name h empty calls p = either_none (bytes_eq name (codes "-")) _ _ calls (λ s. s.2) (λ is. ap none_failed is) p
