use Rattle.fi_channels.proofs.ChannelStays.{claimed_receive_stays, claimed_receive_apart}
use Rattle.fi_channels.proofs.ChannelLaws.{makes_receive, unchanged, kind_made, phase_made}
use Rattle.fi_channels.proofs.Results.{either, of_made}
use Rattle.fi_channels.specs.declared.channel.fields.ReceiveKind.TheVariants.{Single}
use Rattle.fi_channels.specs.ChannelWords.{can_receive}
use Rattle.fi_channels.proofs.channel.ChannelState.claim_receive.Goals as goal

pub invariant_of-self : goal.invariant_of-self
invariant_of-self g c =
    either c.claim_receive.result _ _ _ c.claim_receive.ensures.made c.claim_receive.ensures.refused
    (λ slot did. (makes_receive _ _ Single slot.0 did c.self.invariant).1) (λ same.
    (unchanged _ _ same c.self.invariant).1)

pub returns-clause-all_stay : goal.returns-clause-all_stay
returns-clause-all_stay g c =
    rw (← c.self.view_is) (claimed_receive_stays _ _ c.self.invariant c.claim_receive.result (λ slot. slot.0) Single
    c.claim_receive.ensures.made c.claim_receive.ensures.refused)

pub returns-clause-apart : goal.returns-clause-apart
returns-clause-apart g c =
    rw (← c.self.view_is) (claimed_receive_apart _ _ c.self.invariant c.claim_receive.result (λ slot. slot.0) Single
    c.claim_receive.ensures.made)

pub returns-clause-pollable : goal.returns-clause-pollable
returns-clause-pollable g c =
    of_made c.claim_receive.result _ _ c.claim_receive.ensures.made
    (λ slot did i. can_receive (kind_made _ _ Single slot.0 did i) (phase_made _ _ Single slot.0 did i))
