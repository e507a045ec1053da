use Rattle.std.proofs.Common.{◌%◌, refl, ◌∙◌, inl, inr, arith, rules}
use Rattle.image_check.proofs.Looking.{load-reads, load-down}
use Rattle.store.proofs.Bytewise.{byte-indexed, byte-loaded, map_within, block_within, word_within}
use Rattle.store.proofs.read.load_byte.Goals as goal

pub returns-in_err-block-clause-reads : goal.returns-in_err-block-clause-reads
returns-in_err-block-clause-reads g c =
    let k = c.split-k.result.0 in
    let is = c.split-k.ensures.block in
    let inside = map_within c.args.root c.args.at c.from.result k c.requires.file c.requires.within c.from.ensures is in
    let down = load-down _ _ (inl refl) inside c.in_err-block.ensures.gives in search (rules, down)

pub returns-in_err-word-clause-reads : goal.returns-in_err-word-clause-reads
returns-in_err-word-clause-reads g c =
    let k = c.split-k.result.0 in
    let is = c.split-k.ensures.block in
    let inside = map_within c.args.root c.args.at c.from.result k c.requires.file c.requires.within c.from.ensures is in
    let one = load-reads _ _ (inl refl) inside c.in_ok-block.ensures.gives in
    let within = word_within c.args.root c.args.at c.from.result k c.requires.file c.requires.within c.from.ensures is _ c.split-k.result.1 one.1 c.split-k.ensures.place in
    let down = load-down _ _ (inr one.0) within c.in_err-word.ensures.gives in search (rules, down)

pub returns-clause-reads : goal.returns-clause-reads
returns-clause-reads g c =
    let k = c.split-k.result.0 in
    let is = c.split-k.ensures.block in
    let place = c.split-k.result.1 in
    let map = c.from.result in
    let inside = map_within c.args.root c.args.at map k c.requires.file c.requires.within c.from.ensures is in
    let one = load-reads _ _ (inl refl) inside c.in_ok-block.ensures.gives in
    let within = word_within c.args.root c.args.at map k c.requires.file c.requires.within c.from.ensures is _ place one.1 c.split-k.ensures.place in
    let two = load-reads _ _ (inr one.0) within c.in_ok-word.ensures.gives in
    let block = block_within c.args.root c.args.at map k c.requires.file c.requires.within c.from.ensures is in
    let byte = byte-loaded map c.args.at k place c.in_ok-block.block c.in_ok-word.word is c.split-k.ensures.place block one.1 one.0 c.in_ok-word.ensures.gives.3 in
    (two.0, rw c.from.ensures at (byte-indexed c.in_ok-word.word (place % 8) c.to_le_bytes.result (search rules) (omega arith) ∙ byte))
