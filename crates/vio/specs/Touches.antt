-- What several calls touch: which handles were read and written, and which files were created (this project's choice).
use Rattle.std.specs.Prelude.{◌≡◌, ◌⊎◌, ℕ, true, false, List, [], ◌∷◌, Some}
use Rattle.vio.specs.World.{Seen, CallKind, Reading, Writing, NoCountFalls}

-- the first is one of the list
abbrev pub IsOneOf : {A : Type 0} → A → List A → Type 0
IsOneOf x [] = ⊥
IsOneOf x (y ∷ ys) = (x ≡ y) ⊎ IsOneOf x ys

-- a handle reads one of the first names, or writes one of the second
abbrev pub IsNewHandle : List (List ℕ) → List (List ℕ) → ℕ → Seen → Type 0
IsNewHandle opened created h now =
    ((name : List ℕ) × IsOneOf name opened × (now.names Reading h name ≡ true)) ⊎ ((name : List ℕ) × IsOneOf name created × (now.names Writing h name ≡ true))

-- a handle that was given, and doesn't write this name
abbrev pub IsOtherSink : ℕ → List ℕ → Seen → Type 0
IsOtherSink h name now = (now.given h ≡ true) × (now.names Writing h name ≡ false)

-- of the handles that were given before, only the first lost bytes, and only the second gained any;
-- where all sinks were given before, a file that none of them writes and that wasn't created holds what it held; no count fell
pub record Touches (sources sinks : List ℕ) (created : List (List ℕ)) (before now : Seen) : Type 0 where
  pub counts : NoCountFalls before now
  pub written : (h : ℕ) → before.given h ≡ true → ¬ (IsOneOf h sinks) → now.written h ≡ before.written h
  pub left : (h : ℕ) → before.given h ≡ true → ¬ (IsOneOf h sources) → now.left h ≡ before.left h
  pub names : (k : CallKind) (h : ℕ) (name : List ℕ) → before.given h ≡ true → now.names k h name ≡ before.names k h name
  pub given : (h : ℕ) → before.given h ≡ true → now.given h ≡ true
  pub held : (n bytes : List ℕ) → before.held n ≡ Some bytes → ¬ (IsOneOf n created) → ((h : ℕ) → IsOneOf h sinks → IsOtherSink h n before) → now.held n ≡ Some bytes
  pub lacks : (n : List ℕ) → ¬ (IsOneOf n created) → now.lacks n ≡ before.lacks n
