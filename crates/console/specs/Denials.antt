-- The number of each answer: 0 for a command that was done, and else why it was not; and what a denial says.
use Rattle.std.specs.Prelude.{ℕ, List, Ok, Err, Result, codes}
use Rattle.image_check.specs.Answers.{number, refusal_text}
use Rattle.console.specs.declared.denial.Denial.{Denial}
use Rattle.console.specs.declared.denial.Denial.TheVariants.{Refused, NotAllowed, BadCommand}

abbrev pub denied : Denial → ℕ
denied (Refused refusal) = number refusal
denied NotAllowed = 10
denied BadCommand = 11

abbrev pub number_of : {A : Type 0} → Result A Denial → ℕ
number_of (Ok x) = 0
number_of (Err d) = denied d

-- what is written of a denial: a refusal says its own text
abbrev pub denial_text : Denial → List ℕ
denial_text (Refused refusal) = refusal_text refusal
denial_text NotAllowed = codes "the state does not allow the command"
denial_text BadCommand = codes "the command is unknown, short or too large"
