use Rattle.fi_run.specs.TimerLaws.{expiries_are_later}
use Rattle.fi_run.proofs.timer.every_run_of_a_timer.Goals as goal

pub returns-clause-opened : goal.returns-clause-opened
returns-clause-opened g c first opens = c.every_run.ensures.opened tt first opens

pub returns-clause-expiries : goal.returns-clause-expiries
returns-clause-expiries g c first entries now sound no_wake run =
    expiries_are_later first _ now (c.every_run.ensures.runs first entries now sound no_wake run).2

pub returns-clause-wakers : goal.returns-clause-wakers
returns-clause-wakers g c first entries now sound no_wake run = (c.every_run.ensures.runs first entries now sound no_wake run).2.wakers

pub returns-clause-no_wake : goal.returns-clause-no_wake
returns-clause-no_wake g c first entries now sound no_wake run =
    let ran = c.every_run.ensures.runs first entries now sound no_wake run in (ran.0, ran.1)
