-- The numbers of the image rules and of the refusals, and what refusals of the image say.
use Rattle.std.specs.Prelude.{ℕ, List, ◌++◌, codes}
use Rattle.std.specs.Fmt.{decimal}
use Rattle.image_check.specs.declared.refusal.Rule.{Rule}
use Rattle.image_check.specs.declared.refusal.Rule.TheVariants.{BlockCount, Names, Roots, Maps, Blocks, LogEntry}
use Rattle.image_check.specs.declared.refusal.Refusal.{Refusal}
use Rattle.image_check.specs.declared.refusal.Refusal.TheVariants.{PowerLost, BadImage, BadName, NoFile, NameTaken, TooManyFiles, TooLong, WrongSize}

abbrev pub rule_number : Rule → ℕ
rule_number BlockCount = 1
rule_number Names = 2
rule_number Roots = 3
rule_number Maps = 4
rule_number Blocks = 5
rule_number LogEntry = 6

abbrev pub number : Refusal → ℕ
number PowerLost = 1
number (BadImage rule) = 2
number BadName = 3
number NoFile = 4
number NameTaken = 5
number TooManyFiles = 6
number TooLong = 7
number WrongSize = 9

-- a call that looks at the image and refuses has lost power or found a rule that fails; it refuses for nothing else
abbrev pub RefusedBy : Refusal → Type 0 → (ℕ → Type 0) → Type 0
RefusedBy PowerLost lost bad = lost
RefusedBy (BadImage rule) lost bad = bad (rule_number rule)
RefusedBy BadName lost bad = ⊥
RefusedBy NoFile lost bad = ⊥
RefusedBy NameTaken lost bad = ⊥
RefusedBy TooManyFiles lost bad = ⊥
RefusedBy TooLong lost bad = ⊥
RefusedBy WrongSize lost bad = ⊥

-- what is written of a refusal
abbrev pub refusal_text : Refusal → List ℕ
refusal_text PowerLost = codes "power was lost"
refusal_text (BadImage rule) = codes "rule " ++ (decimal (rule_number rule) ++ codes " of the image fails")
refusal_text BadName = codes "a name is not well formed"
refusal_text NoFile = codes "no file has the name"
refusal_text NameTaken = codes "a file has the new name"
refusal_text TooManyFiles = codes "sixteen files exist"
refusal_text TooLong = codes "the length is above that of the file"
refusal_text WrongSize = codes "the words do not make 6 to 4096 whole blocks"
