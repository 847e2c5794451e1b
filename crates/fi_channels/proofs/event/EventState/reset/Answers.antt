use Rattle.fi_channels.proofs.event.EventState.reset.Goals as goal

pub returns-clause-all_stay : goal.returns-clause-all_stay
returns-clause-all_stay g c = rw (← c.self.view_is) (record { live = λ name is. is; pollable = λ name is. is })
