use Rattle.std.proofs.Common.{rules, ◌≡◌, true, false, refl, sym, subst}
use Rattle.fi_parts.specs.declared.errors.CloseStatus.TheVariants.{NewlyClosed}
use Rattle.fi_sync.specs.Closable.{ClosesAt}
use Rattle.fi_sync.proofs.semaphore.counted.CountedSemaphore.close.Goals as goal

pub returns : goal.returns
returns g c =
    let was_open : c.args.self.now.is_closed ≡ false = search rules in
    subst (λ is_closed. ClosesAt is_closed NewlyClosed c.args.self.now (record { permits = c.release.new.self; is_closed = true }))
    (sym was_open)
    (refl, refl, (c.disarm.new.self, search rules, search rules))
