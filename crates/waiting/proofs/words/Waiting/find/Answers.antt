use Rattle.std.proofs.Common.{◌∙◌, ap, rules}
use Rattle.waiting.specs.Waits.{newest}
use Rattle.waiting.proofs.Newest.{newest-is}
use Rattle.waiting.proofs.words.Waiting.find.Goals as goal

pub returns-clause-newest : goal.returns-clause-newest
returns-clause-newest c =
    newest-is c.words.result.now c.args.at c.rposition.result (search rules) ∙ ap (λ ws. newest ws c.args.at) c.words.ensures
