use Rattle.image_check.proofs.image.survey_blocks.Given as goal

abbrev pub ghost-check_directory : goal.ghost-check_directory
ghost-check_directory g a = g.first

abbrev pub ghost-check_maps : goal.ghost-check_maps
ghost-check_maps g a = g.first

abbrev pub ghost-used_blocks : goal.ghost-used_blocks
ghost-used_blocks g a = g.first

abbrev pub ghost-check_entry : goal.ghost-check_entry
ghost-check_entry g a = g.first
