use Rattle.fi_channels.proofs.ChannelStays.{claimed_send_stays, claimed_send_apart}
use Rattle.fi_channels.proofs.ChannelLaws.{makes_send, unchanged, send_pollable}
use Rattle.fi_channels.proofs.Results.{either, of_made}
use Rattle.fi_channels.proofs.channel.ChannelState.claim_send.Goals as goal

pub invariant_of-self : goal.invariant_of-self
invariant_of-self g c =
    either c.claim_send.result _ _ _ c.claim_send.ensures.made c.claim_send.ensures.refused
    (λ slot did. (makes_send _ _ c.args.value slot.0 did c.self.invariant).1) (λ same.
    (unchanged _ _ same c.self.invariant).1)

pub returns-clause-all_stay : goal.returns-clause-all_stay
returns-clause-all_stay g c =
    rw (← c.self.view_is) (claimed_send_stays _ _ c.self.invariant c.claim_send.result (λ slot. slot.0) c.args.value
    c.claim_send.ensures.made c.claim_send.ensures.refused)

pub returns-clause-apart : goal.returns-clause-apart
returns-clause-apart g c =
    rw (← c.self.view_is) (claimed_send_apart _ _ c.self.invariant c.claim_send.result (λ slot. slot.0) c.args.value
    c.claim_send.ensures.made)

pub returns-clause-pollable : goal.returns-clause-pollable
returns-clause-pollable g c =
    of_made c.claim_send.result _ _ c.claim_send.ensures.made
    (λ slot did. send_pollable _ _ _ slot.0 did)
