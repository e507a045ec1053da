use Rattle.image_check.proofs.files.Files.check_entry.Given as goal

abbrev pub ghost-load_word : goal.ghost-load_word
ghost-load_word g a = g.first

abbrev pub ghost-check_pieces : goal.ghost-check_pieces
ghost-check_pieces g a = g.first
