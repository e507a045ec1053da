use Rattle.image_check.proofs.image.check_directory.Given as goal

abbrev pub ghost-load_word : goal.ghost-load_word
ghost-load_word g a = g.first

abbrev pub ghost-load_directory : goal.ghost-load_directory
ghost-load_directory g a = g.first
