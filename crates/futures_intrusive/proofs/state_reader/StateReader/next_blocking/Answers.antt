use Rattle.std.proofs.Common.{rules, inl, inr}
use Rattle.futures_intrusive.proofs.state_reader.StateReader.next_blocking.Goals as goal

pub returns-clause-waited : goal.returns-clause-waited
returns-clause-waited g c =
    (c.in_ok-state.state, elim c.in_ok-state.ensures.waited [ inl shown ↦ inl (shown.0, search rules) | inr given ↦ inr given ], search rules)
