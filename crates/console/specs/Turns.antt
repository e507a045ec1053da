-- A turn of a session with any commands: the first command of the input is carried out, and its line is written at the
-- start of the output. An unknown or short command is answered by `? 11`, and nothing of the input is left. The answer
-- of a turn is the length of the line and what is left of the input.
use Rattle.std.specs.Prelude.{◌≡◌, ℕ, ◌<◌, ◌≤◌, ◌⊎◌, List, [], ◌∷◌, length, Some, None, Option}
use Rattle.console.specs.Lines.{line, written}

-- first: the first command of an input, and what follows it. tells: a command in a state s, on a memory x that becomes
-- y, is answered by a line, and the state is then t.
module _ {S C M : Type 0} (first : List ℕ → Option (C × List ℕ)) (tells : S → C → M → List ℕ → S → M → Type 0) where
  abbrev pub TurnBy : Option (C × List ℕ) → S → M → List ℕ → Option (ℕ × List ℕ) → S → M → List ℕ → Type 0
  TurnBy None s x out r t y out' = (r ≡ Some (length (line 63 11), [])) × (out' ≡ written out 0 (line 63 11)) × (t ≡ s) × (y ≡ x)
  TurnBy (Some (c, rest)) s x out r t y out' =
      (text : List ℕ) × tells s c x text t y × (r ≡ Some (length text, rest)) × (out' ≡ written out 0 text)

  -- there is no turn without input, or without room for any line
  pub record Turned (s : S) (x : M) (input out : List ℕ) (r : Option (ℕ × List ℕ)) (t : S) (y : M) (out' : List ℕ) : Type 0 where
    pub none : (input ≡ []) ⊎ (length out < 72) → (r ≡ None) × (t ≡ s) × (y ≡ x) × (out' ≡ out)
    pub some : 0 < length input → 72 ≤ length out → TurnBy (first input) s x out r t y out'

  -- a turn by its line: what it says of the first command, and what it leaves of the input
  abbrev pub Says : Option (C × List ℕ) → S → M → List ℕ → List ℕ → S → M → Type 0
  Says None s x text rest t y = (text ≡ line 63 11) × (rest ≡ []) × (t ≡ s) × (y ≡ x)
  Says (Some (c, more)) s x text rest t y = tells s c x text t y × (rest ≡ more)

  -- turns one after another, by their lines, which leave the rest of an input
  abbrev pub Runs : List (List ℕ) → S → M → List ℕ → S → M → List ℕ → Type 0
  Runs [] s x input t y rest = (t ≡ s) × (y ≡ x) × (rest ≡ input)
  Runs (text ∷ texts) s x input t y rest =
      (s' : S) × (x' : M) × (more : List ℕ) × (0 < length input) × Says (first input) s x text more s' x' × Runs texts s' x' more t y rest
