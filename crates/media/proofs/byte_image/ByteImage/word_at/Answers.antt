use Rattle.std.proofs.Common.{◌∙◌}
use Rattle.media.proofs.Bytes.{word-read}
use Rattle.media.proofs.byte_image.ByteImage.word_at.Goals as goal

pub returns : goal.returns
returns c = c.from_le_bytes.ensures ∙ word-read c.args.self.now.bytes.now c.args.at c.as_chunks.result.0.now c.requires c.as_chunks.ensures.front
