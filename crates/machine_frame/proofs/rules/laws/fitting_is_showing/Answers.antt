use Rattle.machine_frame.proofs.Threads.Fitting.{shown_fits, fits_shown}
use Rattle.machine_frame.proofs.rules.laws.fitting_is_showing.Goals as goal

pub returns-clause-fits : goal.returns-clause-fits
returns-clause-fits c = shown_fits

pub returns-clause-shown : goal.returns-clause-shown
returns-clause-shown c = fits_shown
