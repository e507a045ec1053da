use Rattle.std.proofs.Common.{rules}
use Rattle.layout.proofs.Blocks.{has-marked}
use Rattle.layout.proofs.block_set.BlockSet.insert.Goals as goal

pub returns-clause-after : goal.returns-clause-after
returns-clause-after c b = has-marked c.args.self.now.words c.args.block b (search rules) c.if-block-ge-MOST_BLOCKS.false
