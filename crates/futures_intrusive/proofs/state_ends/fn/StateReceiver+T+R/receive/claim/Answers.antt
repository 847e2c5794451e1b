use Rattle.futures_intrusive.proofs.StateStreams.{ok_of}
use Rattle.futures_intrusive.proofs.state_ends.fn.StateReceiver+T+R.receive.claim.Goals as goal

pub returns : goal.returns
returns g c = record {
  made = ok_of c.claim_receive.result c.claim_receive.ensures.made
      (λ slot made. (c.args.ends.now.state, c.claim_receive.new.self.state, made.0));
  fault = c.claim_receive.ensures.fault;
}
