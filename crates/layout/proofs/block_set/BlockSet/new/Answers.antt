use Rattle.layout.proofs.Blocks.{has-none}
use Rattle.layout.proofs.block_set.BlockSet.new.Goals as goal

pub returns : goal.returns
returns c b = has-none b
