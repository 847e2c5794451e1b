use Rattle.fi_run.proofs.state.every_run_of_a_state_broadcast.Goals as goal

pub returns-clause-opened : goal.returns-clause-opened
returns-clause-opened g c first opens = c.every_run.ensures.opened tt first opens

pub returns-clause-states : goal.returns-clause-states
returns-clause-states g c first entries now sound no_wake run = (c.every_run.ensures.runs first entries now sound no_wake run).2.states

pub returns-clause-asked : goal.returns-clause-asked
returns-clause-asked g c first entries now sound no_wake run = (c.every_run.ensures.runs first entries now sound no_wake run).2.asked

pub returns-clause-number : goal.returns-clause-number
returns-clause-number g c first entries now sound no_wake run = (c.every_run.ensures.runs first entries now sound no_wake run).2.counts

pub returns-clause-closed : goal.returns-clause-closed
returns-clause-closed g c first entries now sound no_wake run = (c.every_run.ensures.runs first entries now sound no_wake run).2.is_open

pub returns-clause-wakers : goal.returns-clause-wakers
returns-clause-wakers g c first entries now sound no_wake run = (c.every_run.ensures.runs first entries now sound no_wake run).2.wakers

pub returns-clause-fits : goal.returns-clause-fits
returns-clause-fits g c first entries now sound no_wake run =
    (c.every_run.ensures.runs first entries now sound no_wake run).0.numbered.number

pub returns-clause-no_wake : goal.returns-clause-no_wake
returns-clause-no_wake g c first entries now sound no_wake run =
    let ran = c.every_run.ensures.runs first entries now sound no_wake run in (ran.0, ran.1)
