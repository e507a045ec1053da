-- What a command is answered by: the value that it carries, if any, or why it was not done; and the number and the value of that.
use Rattle.std.specs.Prelude.{ℕ, Bool, cond, Some, None, Ok, Err, Option, Result}
use Rattle.image_check.specs.Answers.{rule_number}
use Rattle.image_check.specs.declared.refusal.Refusal.{Refusal}
use Rattle.image_check.specs.declared.refusal.Refusal.TheVariants.{PowerLost, BadImage, BadName, NoFile, NameTaken, TooManyFiles, TooLong, WrongSize}
use Rattle.console.specs.declared.denial.Denial.{Denial}
use Rattle.console.specs.declared.denial.Denial.TheVariants.{Refused, NotAllowed, BadCommand}

-- what a command is answered by
abbrev pub Said : Type 0
Said = Result (Option ℕ) Denial

-- a bad image carries the rule that fails
abbrev pub carried_by : Refusal → Option ℕ
carried_by PowerLost = None
carried_by (BadImage rule) = Some (rule_number rule)
carried_by BadName = None
carried_by NoFile = None
carried_by NameTaken = None
carried_by TooManyFiles = None
carried_by TooLong = None
carried_by WrongSize = None

-- the value that a denial carries, and an answer
abbrev pub denial_carries : Denial → Option ℕ
denial_carries (Refused refusal) = carried_by refusal
denial_carries NotAllowed = None
denial_carries BadCommand = None

abbrev pub carried_of : Said → Option ℕ
carried_of (Ok value) = value
carried_of (Err denial) = denial_carries denial

-- a call was done and carries what its result says, or it was refused
abbrev pub answered : {A : Type 0} → (A → Option ℕ) → Result A Refusal → Said
answered says (Ok x) = Ok (says x)
answered says (Err e) = Err (Refused e)

-- a restart found power, or did not
abbrev pub restarted : Bool → Said
restarted up = cond up (Ok None) (Err (Refused PowerLost))

-- nothing is carried
abbrev pub nothing : Unit {0} → Option ℕ
nothing _ = None

-- 1 if pieces were put back, 0 if not
abbrev pub put_back : Bool → Option ℕ
put_back put = Some (cond put 1 0)

-- how many bytes the file gave
abbrev pub gave : ℕ → Option ℕ
gave n = Some n
