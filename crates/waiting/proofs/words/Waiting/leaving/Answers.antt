use Rattle.std.proofs.Common.{sym}
use Rattle.waiting.proofs.Newest.{room}
use Rattle.waiting.proofs.words.Waiting.leaving.Goals as goal

pub returns-then-self-gt0 : goal.returns-then-self-gt0
returns-then-self-gt0 c = sym (room c.args.self.now.free c.args.self.now.words c.args.at c.if-self-gt0.true)
