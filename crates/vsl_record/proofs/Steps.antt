-- Tests before faults. What is said of lists of bytes and of words stands in `vsl_words`.
use Rattle.std.proofs.Common.{◌≡◌, Bool, true, false, Option, Some, None, refl}
use Rattle.vsl_record.specs.declared.fault.WordFault.{WordFault}
use Rattle.vsl_record.specs.WordFaults.{unless}
pub use Rattle.vsl_words.proofs.Steps.{AllBelow, IsBytes, IsWords, below_cons, below_append, below_take, below_drop, all_append}

-- a test before a fault that is not met
pub unless_none : (test : Bool) (fault : WordFault) (next : Option WordFault) → unless test fault next ≡ None → (test ≡ true) × (next ≡ None)
unless_none true fault next e = (refl, e)
unless_none false fault next e = absurd cc

-- a fault is none
pub some_none : (o : Option WordFault) (fault : WordFault) → o ≡ Some fault → o ≡ None → ⊥
some_none o fault some none = absurd cc
