use Rattle.fi_run.proofs.mutex.every_run_of_a_mutex.Goals as goal

pub returns-clause-opened : goal.returns-clause-opened
returns-clause-opened g c value is_fair first opens = c.every_run.ensures.opened (value, is_fair) first opens

pub returns-clause-grants : goal.returns-clause-grants
returns-clause-grants g c first entries now sound no_wake run = (c.every_run.ensures.runs first entries now sound no_wake run).2.grants

pub returns-clause-in_turn : goal.returns-clause-in_turn
returns-clause-in_turn g c first entries now sound no_wake run = (c.every_run.ensures.runs first entries now sound no_wake run).2.turns

pub returns-clause-wakers : goal.returns-clause-wakers
returns-clause-wakers g c first entries now sound no_wake run = (c.every_run.ensures.runs first entries now sound no_wake run).2.wakers

pub returns-clause-no_wake : goal.returns-clause-no_wake
returns-clause-no_wake g c first entries now sound no_wake run =
    let ran = c.every_run.ensures.runs first entries now sound no_wake run in (ran.0, ran.1)
