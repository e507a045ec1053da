use Rattle.image_check.proofs.image.survey_image.Given as goal

abbrev pub ghost-survey_blocks : goal.ghost-survey_blocks
ghost-survey_blocks g a = g.M.Memory.model a.memory.now
