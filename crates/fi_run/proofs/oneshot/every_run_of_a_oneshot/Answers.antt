use Rattle.std.specs.Prelude.{[]}
use Rattle.fi_channels.specs.Oneshot.{taking}
use Rattle.fi_run.specs.Run.{history_after}
use Rattle.fi_run.specs.OneshotLaws.{once_by, settled_by, makings_lack}
use Rattle.fi_run.proofs.oneshot.every_run_of_a_oneshot.Goals as goal

pub returns-clause-opened : goal.returns-clause-opened
returns-clause-opened g c first opens = c.every_run.ensures.opened tt first opens

pub returns-clause-memory : goal.returns-clause-memory
returns-clause-memory g c old new call did = makings_lack old new call did

pub returns-clause-content : goal.returns-clause-content
returns-clause-content g c first entries now sound no_wake run = (c.every_run.ensures.runs first entries now sound no_wake run).2.content

pub returns-clause-left : goal.returns-clause-left
returns-clause-left g c first entries now sound no_wake run = (c.every_run.ensures.runs first entries now sound no_wake run).2.left

pub returns-clause-wakers : goal.returns-clause-wakers
returns-clause-wakers g c first entries now sound no_wake run = (c.every_run.ensures.runs first entries now sound no_wake run).2.wakers

pub returns-clause-once : goal.returns-clause-once
returns-clause-once g c first entries now sound no_wake run =
    once_by now.own first (history_after entries []) (c.every_run.ensures.runs first entries now sound no_wake run).2.content

pub returns-clause-settled : goal.returns-clause-settled
returns-clause-settled g c first entries now sound no_wake run =
    settled_by taking now.own first (history_after entries []) (c.every_run.ensures.runs first entries now sound no_wake run).2.content

pub returns-clause-no_wake : goal.returns-clause-no_wake
returns-clause-no_wake g c first entries now sound no_wake run =
    let ran = c.every_run.ensures.runs first entries now sound no_wake run in (ran.0, ran.1)
