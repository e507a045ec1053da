-- What is said of a command that was carried out, how many bytes it shows, and those bytes of its buffer.
use Rattle.std.specs.Prelude.{ℕ, List, take, Ok, Err, Result}
use Rattle.console.specs.declared.denial.Denial.{Denial}
use Rattle.file_console.specs.Answers.{Said}
use Rattle.file_console.specs.declared.answer.Done.{Done}

abbrev pub said : Result Done Denial → Said
said (Ok done) = Ok done.carried
said (Err denial) = Err denial

abbrev pub count_of : Result Done Denial → ℕ
count_of (Ok done) = done.shown
count_of (Err denial) = 0

abbrev pub shown_of : Result Done Denial → List ℕ → List ℕ
shown_of r buffer = take (count_of r) buffer
