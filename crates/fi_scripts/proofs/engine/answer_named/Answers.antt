use Rattle.fi_scripts.proofs.engine.answer_named.Goals as goal

pub returns-in-Channel : goal.returns-in-Channel
returns-in-Channel g c = rw c.in-Channel.is c.answer_channel.ensures

pub returns-in-Event : goal.returns-in-Event
returns-in-Event g c = rw c.in-Event.is c.answer_calls.ensures

pub returns-in-Oneshot : goal.returns-in-Oneshot
returns-in-Oneshot g c = rw c.in-Oneshot.is c.answer_calls-in-Oneshot.ensures

pub returns-in-OneshotBroadcast : goal.returns-in-OneshotBroadcast
returns-in-OneshotBroadcast g c = rw c.in-OneshotBroadcast.is c.answer_calls-in-OneshotBroadcast.ensures

pub returns-in-StateBroadcast : goal.returns-in-StateBroadcast
returns-in-StateBroadcast g c = rw c.in-StateBroadcast.is c.answer_calls-in-StateBroadcast.ensures

pub returns-in-Timer : goal.returns-in-Timer
returns-in-Timer g c = rw c.in-Timer.is c.answer_calls-in-Timer.ensures

pub returns-in-Mutex : goal.returns-in-Mutex
returns-in-Mutex g c = rw c.in-Mutex.is c.answer_calls-in-Mutex.ensures

pub returns-in-Semaphore : goal.returns-in-Semaphore
returns-in-Semaphore g c = rw c.in-Semaphore.is c.answer_calls-in-Semaphore.ensures

pub returns-in-Pool : goal.returns-in-Pool
returns-in-Pool g c = rw c.in-Pool.is c.answer_calls-in-Pool.ensures
