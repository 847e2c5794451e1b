use Rattle.fi_run.specs.SemaphoreLaws.{are_told_in_order, newcomers_come_last}
use Rattle.fi_run.proofs.semaphore.every_run_of_a_semaphore.Goals as goal

pub returns-clause-opened : goal.returns-clause-opened
returns-clause-opened g c permits is_fair first opens = c.every_run.ensures.opened (permits, is_fair) first opens

pub returns-clause-permits : goal.returns-clause-permits
returns-clause-permits g c first entries now sound no_wake run = (c.every_run.ensures.runs first entries now sound no_wake run).2.permits

pub returns-clause-in_order : goal.returns-clause-in_order
returns-clause-in_order g c first entries now sound no_wake run fair =
    let ran = c.every_run.ensures.runs first entries now sound no_wake run in are_told_in_order first _ now ran.1 ran.2 fair

pub returns-clause-newcomers : goal.returns-clause-newcomers
returns-clause-newcomers g c first entries now sound no_wake run fair =
    newcomers_come_last first _ now (c.every_run.ensures.runs first entries now sound no_wake run).2 fair

pub returns-clause-wakers : goal.returns-clause-wakers
returns-clause-wakers g c first entries now sound no_wake run = (c.every_run.ensures.runs first entries now sound no_wake run).2.wakers

pub returns-clause-no_wake : goal.returns-clause-no_wake
returns-clause-no_wake g c first entries now sound no_wake run =
    let ran = c.every_run.ensures.runs first entries now sound no_wake run in (ran.0, ran.1)
