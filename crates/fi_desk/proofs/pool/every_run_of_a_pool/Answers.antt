use Rattle.fi_desk.proofs.pool.every_run_of_a_pool.Goals as goal

pub returns-clause-opened : goal.returns-clause-opened
returns-clause-opened g c limit capacity first opens = c.every_run.ensures.opened (limit, capacity) first opens

pub returns-clause-order : goal.returns-clause-order
returns-clause-order g c first entries now sound no_wake run = (c.every_run.ensures.runs first entries now sound no_wake run).2.order

pub returns-clause-count : goal.returns-clause-count
returns-clause-count g c first entries now sound no_wake run = (c.every_run.ensures.runs first entries now sound no_wake run).2.count

pub returns-clause-wakers : goal.returns-clause-wakers
returns-clause-wakers g c first entries now sound no_wake run = (c.every_run.ensures.runs first entries now sound no_wake run).2.wakers

pub returns-clause-no_wake : goal.returns-clause-no_wake
returns-clause-no_wake g c first entries now sound no_wake run =
    let ran = c.every_run.ensures.runs first entries now sound no_wake run in (ran.0, ran.1)
