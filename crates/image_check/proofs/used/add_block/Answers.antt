use Rattle.std.proofs.Common.{refl}
use Rattle.image_check.proofs.Blocks.{once-more, twice}
use Rattle.image_check.proofs.used.add_block.Goals as goal

pub returns-then-not-insert : goal.returns-then-not-insert
returns-then-not-insert c xs held = (refl, twice c.args.set.now c.insert.new.self c.args.block xs c.requires held c.if-not-insert.ensures.value)

pub returns : goal.returns
returns c xs held = let i = c.if-not-insert.ensures in once-more c.args.set.now c.insert.new.self c.args.block xs c.requires held i.value i.after
