-- Texts with directives of times.
use Rattle.std.proofs.Common.{◌≡◌, ◌≢◌, ℕ, Bool, List, [], ◌∷◌, ◌++◌, Option, Some, None, refl, ap, sym, ◌∙◌, append_assoc}
use Rattle.std.specs.Prelude.{if◌then◌else◌, option_map}
use Rattle.std.proofs.lemmas.Bool.{ne_eqb}
use Rattle.ncsa_format.specs.Formatter.{percent}
use Rattle.ncsa_format.specs.Reading.{onto, part_named, time_parts}
use Rattle.ncsa_format.specs.declared.formatter.TimePart.{TimePart}
use Rattle.ncsa_format.specs.declared.formatter.TimePart.TheVariants as parts

-- a byte that is no percent sign is a part
pub byte_first : (b : ℕ) (text : List ℕ) → b ≢ percent → time_parts (b ∷ text) ≡ onto (Some (parts.Byte b)) (time_parts text)
byte_first b [] differs = ap (λ (t : Bool). if t then None else Some (parts.Byte b ∷ [])) (ne_eqb b percent differs)
byte_first b (c ∷ text) differs = ap (λ (t : Bool). if t then onto (part_named c) (time_parts text) else onto (Some (parts.Byte b)) (time_parts (c ∷ text))) (ne_eqb b percent differs)

-- one part more
joined : (read : List TimePart) (part : TimePart) (rest : Option (List TimePart))
    → option_map (λ more. (read ++ part ∷ []) ++ more) rest ≡ option_map (λ more. read ++ more) (onto (Some part) rest)
joined read part None = refl
joined read part (Some more) = ap Some (append_assoc read (part ∷ []) more)

pub part_more : (read now : List TimePart) (part : TimePart) (text rest : List ℕ) → now ≡ read ++ part ∷ [] → time_parts text ≡ onto (Some part) (time_parts rest)
    → option_map (λ more. now ++ more) (time_parts rest) ≡ option_map (λ more. read ++ more) (time_parts text)
part_more read now part text rest is_now is_text =
    ap (λ (x : List TimePart). option_map (λ more. x ++ more) (time_parts rest)) is_now ∙ joined read part (time_parts rest) ∙ ap (λ (o : Option (List TimePart)). option_map (λ more. read ++ more) o) (sym is_text)
