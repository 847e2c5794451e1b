use Rattle.fi_scripts.proofs.Rebound.{bound, unbound}
use Rattle.fi_scripts.proofs.requests.Labelled+MadeFuture.keep.Goals as goal

pub returns-in-Ok-clause-kept : goal.returns-in-Ok-clause-kept
returns-in-Ok-clause-kept c =
    bound c.args.self.now c.insert.new.self c.args.label c.in-Some.label c.in-Some.is c.in-Make-Made.slot
    c.args.row _ _ c.args.answer.now
    c.in-Make-Made.is-0 c.in-Make-Made.is-1 c.in-Ok.ensures.stored

pub returns-in-Cancel-default-clause-kept : goal.returns-in-Cancel-default-clause-kept
returns-in-Cancel-default-clause-kept c =
    unbound c.args.self.now c.remove.new.self c.args.label c.in-Some.label c.in-Some.is
    c.in-Cancel-default.field-0-0 c.args.row _ c.args.answer.now
    c.in-Cancel-default.is-0 c.remove.ensures
