-- The number of each denial, and what denials say.
use Rattle.std.specs.Prelude.{ℕ, List, codes}
use Rattle.image_check.specs.Answers.{number, refusal_text}
use Rattle.life.specs.declared.answer.Denial.{Denial}
use Rattle.life.specs.declared.answer.Denial.TheVariants.{Refused, NotAllowed}

abbrev pub denied : Denial → ℕ
denied (Refused refusal) = number refusal
denied NotAllowed = 10

-- what is written of a denial; a refusal has its own words
abbrev pub denial_text : Denial → List ℕ
denial_text (Refused refusal) = refusal_text refusal
denial_text NotAllowed = codes "the state of the store does not allow the call"
