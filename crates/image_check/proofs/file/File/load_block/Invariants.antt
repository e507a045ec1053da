use Rattle.image_check.proofs.file.File.load_block.Given as goal

abbrev pub ghost-load_word : goal.ghost-load_word
ghost-load_word g a = g.first
