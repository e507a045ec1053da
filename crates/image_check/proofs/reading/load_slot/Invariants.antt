use Rattle.image_check.proofs.reading.load_slot.Given as goal

abbrev pub ghost-load_word : goal.ghost-load_word
ghost-load_word g a = g.first
