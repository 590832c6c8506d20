use Rattle.command_words.proofs.bounds.bound_of.Goals as goal

pub returns-in-Some-clause-found : goal.returns-in-Some-clause-found
returns-in-Some-clause-found c =
    c.in-Some.ensures.found c.args.arguments.now c.args.environment.now
