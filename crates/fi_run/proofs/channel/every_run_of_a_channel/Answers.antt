use Rattle.fi_run.proofs.channel.every_run_of_a_channel.Goals as goal

pub returns-clause-opened : goal.returns-clause-opened
returns-clause-opened g c capacity first opens = c.every_run.ensures.opened capacity first opens

pub returns-clause-order : goal.returns-clause-order
returns-clause-order g c first entries now sound no_wake run = (c.every_run.ensures.runs first entries now sound no_wake run).2.order

pub returns-clause-closes : goal.returns-clause-closes
returns-clause-closes g c first entries now sound no_wake run = (c.every_run.ensures.runs first entries now sound no_wake run).2.closes

pub returns-clause-ended : goal.returns-clause-ended
returns-clause-ended g c first entries now sound no_wake run = (c.every_run.ensures.runs first entries now sound no_wake run).2.ended

pub returns-clause-streams : goal.returns-clause-streams
returns-clause-streams g c first entries now sound no_wake run =
    (c.every_run.ensures.runs first entries now sound no_wake run).2.streams

pub returns-clause-sends : goal.returns-clause-sends
returns-clause-sends g c first entries now sound no_wake run = (c.every_run.ensures.runs first entries now sound no_wake run).2.sends

pub returns-clause-receives : goal.returns-clause-receives
returns-clause-receives g c first entries now sound no_wake run =
    (c.every_run.ensures.runs first entries now sound no_wake run).2.receives

pub returns-clause-no_wake : goal.returns-clause-no_wake
returns-clause-no_wake g c first entries now sound no_wake run =
    let ran = c.every_run.ensures.runs first entries now sound no_wake run in (ran.0, ran.1)
