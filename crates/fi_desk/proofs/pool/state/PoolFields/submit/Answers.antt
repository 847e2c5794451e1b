use Rattle.std.proofs.Common.{subst, Err}
use Rattle.fi_channels.specs.Channel.{TriesSend}
use Rattle.fi_desk.proofs.PoolTies.{same_jobs, accepts}
use Rattle.fi_desk.proofs.pool.state.PoolFields.submit.Goals as goal

pub returns-in-Ok-clause-is_pool : goal.returns-in-Ok-clause-is_pool
returns-in-Ok-clause-is_pool g c = accepts c.args.self.now c.try_send.new.self c.args.job c.requires c.in-Ok.ensures.tried

pub returns-in-Err-Closed-clause-is_pool : goal.returns-in-Err-Closed-clause-is_pool
returns-in-Err-Closed-clause-is_pool g c = same_jobs c.args.self.now c.try_send.new.self
    (subst (λ e. TriesSend c.args.self.now.jobs c.args.job (Err e) c.try_send.new.self) c.in-Err-Closed.field-0-is
    c.in-Err-Closed.ensures.tried).2 c.requires

pub returns-in-Err-Full-clause-is_pool : goal.returns-in-Err-Full-clause-is_pool
returns-in-Err-Full-clause-is_pool g c = same_jobs c.args.self.now c.try_send.new.self
    (subst (λ e. TriesSend c.args.self.now.jobs c.args.job (Err e) c.try_send.new.self) c.in-Err-Full.field-0-is
    c.in-Err-Full.ensures.tried).3 c.requires

pub returns-in-Err-NoMemory-clause-is_pool : goal.returns-in-Err-NoMemory-clause-is_pool
returns-in-Err-NoMemory-clause-is_pool g c = same_jobs c.args.self.now c.try_send.new.self
    (subst (λ e. TriesSend c.args.self.now.jobs c.args.job (Err e) c.try_send.new.self) c.in-Err-NoMemory.field-0-is
    c.in-Err-NoMemory.ensures.tried).2 c.requires
