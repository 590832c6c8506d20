use Rattle.clap.specs.Words.{found_of}
use Rattle.command_words.proofs.WordLemmas.Meets.{flag_is_read}
use Rattle.command_words.proofs.command_line.matches.flag_of.Goals as goal

pub returns : goal.returns
returns c =
    flag_is_read (found_of c.args.matches.now) c.args.name.now c.get_flag.result
    c.get_flag.ensures.none c.get_flag.ensures.value c.get_flag.ensures.other c.requires
