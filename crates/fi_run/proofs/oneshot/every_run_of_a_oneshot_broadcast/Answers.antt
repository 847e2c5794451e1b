use Rattle.std.specs.Prelude.{[], refl}
use Rattle.fi_channels.specs.Oneshot.{cloning}
use Rattle.fi_run.specs.Run.{history_after}
use Rattle.fi_run.specs.OneshotLaws.{settled_by, holds_value, gives_of}
use Rattle.fi_run.proofs.oneshot.every_run_of_a_oneshot_broadcast.Goals as goal

pub returns-clause-opened : goal.returns-clause-opened
returns-clause-opened g c first opens = c.every_run.ensures.opened tt first opens

pub returns-clause-deliveries : goal.returns-clause-deliveries
returns-clause-deliveries g c first entries now sound no_wake run =
    (c.every_run.ensures.runs first entries now sound no_wake run).2.deliveries refl

pub returns-clause-content : goal.returns-clause-content
returns-clause-content g c first entries now sound no_wake run = (c.every_run.ensures.runs first entries now sound no_wake run).2.content

pub returns-clause-kept : goal.returns-clause-kept
returns-clause-kept g c first entries now sound no_wake run = (c.every_run.ensures.runs first entries now sound no_wake run).2.kept refl

pub returns-clause-wakers : goal.returns-clause-wakers
returns-clause-wakers g c first entries now sound no_wake run = (c.every_run.ensures.runs first entries now sound no_wake run).2.wakers

pub returns-clause-settled : goal.returns-clause-settled
returns-clause-settled g c first entries now sound no_wake run =
    settled_by (cloning g.T.Clone.is_clone g.T.Clone.is_infallible) now.own first (history_after entries [])
    (c.every_run.ensures.runs first entries now sound no_wake run).2.content

pub returns-clause-copies : goal.returns-clause-copies
returns-clause-copies g c first entries now sound no_wake run value slot waker answer new put can did =
    let ran = c.every_run.ensures.runs first entries now sound no_wake run in
    let giving = cloning g.T.Clone.is_clone g.T.Clone.is_infallible in
    gives_of giving now new ran.1 value slot.0 waker answer
    (holds_value giving first now (history_after entries []) value refl ran.2.content put) can did

pub returns-clause-no_wake : goal.returns-clause-no_wake
returns-clause-no_wake g c first entries now sound no_wake run =
    let ran = c.every_run.ensures.runs first entries now sound no_wake run in (ran.0, ran.1)
