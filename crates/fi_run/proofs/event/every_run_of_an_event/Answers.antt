use Rattle.fi_run.proofs.event.every_run_of_an_event.Goals as goal

pub returns-clause-opened : goal.returns-clause-opened
returns-clause-opened g c opening first opens = c.every_run.ensures.opened opening first opens

pub returns-clause-polls : goal.returns-clause-polls
returns-clause-polls g c first entries now sound no_wake run = (c.every_run.ensures.runs first entries now sound no_wake run).2.polls

pub returns-clause-wakers : goal.returns-clause-wakers
returns-clause-wakers g c first entries now sound no_wake run = (c.every_run.ensures.runs first entries now sound no_wake run).2.wakers

pub returns-clause-no_wake : goal.returns-clause-no_wake
returns-clause-no_wake g c first entries now sound no_wake run =
    let ran = c.every_run.ensures.runs first entries now sound no_wake run in (ran.0, ran.1)
