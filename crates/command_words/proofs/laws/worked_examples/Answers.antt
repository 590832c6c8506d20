use Rattle.std.proofs.Common.{refl}
use Rattle.clap.proofs.OnLiterals.{clap_on_literals}
use Rattle.command_words.specs.rules.Pieces.{pieces_of}
use Rattle.command_words.proofs.laws.worked_examples.Goals as goal

pub returns-clause-meanings : goal.returns-clause-meanings
unfolding clap_on_literals pieces_of
returns-clause-meanings c =
    record { paths = refl; creations = refl; runs = refl; stories = refl; sweeps = refl }

pub returns-clause-wrong_paths : goal.returns-clause-wrong_paths
unfolding clap_on_literals pieces_of
returns-clause-wrong_paths c = record {
  no_command = refl;
  unknown_command = refl;
  too_few = refl;
  too_many = refl;
  path_and_folder = refl;
}

pub returns-clause-wrong_options : goal.returns-clause-wrong_options
unfolding clap_on_literals pieces_of
returns-clause-wrong_options c = record {
  without_value = refl;
  other_value = refl;
  value_of_a_flag = refl;
  twice = refl;
  of_another_command = refl;
}

pub returns-clause-help : goal.returns-clause-help
unfolding clap_on_literals pieces_of
returns-clause-help c = record { help = refl; version = refl; version_of_a_run = refl }
