use Rattle.sector_disk.proofs.first_image.FirstImage.of.Given as goal

abbrev pub ghost-new : goal.ghost-new
ghost-new g a = g.first
