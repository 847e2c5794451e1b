use Rattle.std.proofs.Common.{◌≡◌, ◌+◌, ◌≤◌, ◌^◌, Option}
use Rattle.futures.specs.declared.task.waker.Waker.{Waker}
use Rattle.fi_locks.specs.Semaphore.{Releases}
use Rattle.fi_parts.specs.declared.errors.Fault.{Fault}
use Rattle.fi_sync.specs.Closable.{Closable, WhileOpen}
use Rattle.fi_sync.proofs.Answered.{ok_in_some_hold, err_at_some}
use Rattle.fi_sync.proofs.semaphore.Semaphore.release.Goals as goal

pub returns-clause-released : goal.returns-clause-released
returns-clause-released g c =
    ok_in_some_hold (WhileOpen {W = Option Waker} (λ old new. Releases old c.args.permits new)) c.call.ensures.0.now c.call.ensures.1.now
    c.call.result c.call.ensures.2.0

pub returns-clause-refused : goal.returns-clause-refused
returns-clause-refused g c =
    err_at_some (λ fault. fault ≡ Fault.Overflow)
    (λ (held : Closable (Option Waker)). 2 ^ 64 ≤ held.permits.own.free + held.permits.own.held + c.args.permits)
    c.call.ensures.0.now c.call.result c.call.ensures.2.1.1
