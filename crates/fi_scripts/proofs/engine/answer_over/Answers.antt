use Rattle.fi_run.specs.Channel.{Opens, Step}
use Rattle.fi_run.specs.Outgoing.{two_sided_outgoing}
use Rattle.fi_run.specs.Rows.{channel_call}
use Rattle.fi_scripts.specs.Channels.{OpensOver}
use Rattle.fi_scripts.specs.Openings.{channel_openings, no_openings}
use Rattle.fi_scripts.proofs.Channels.{answers_over, opens_named}
use Rattle.fi_scripts.proofs.engine.answer_over.Goals as goal

pub returns : goal.returns
returns g c =
    answers_over Step two_sided_outgoing channel_call (Opens g.B.RingBuf.capacity_for) OpensOver no_openings channel_openings
    (opens_named g.B.RingBuf.capacity_for c.capacity.result c.args.buffer c.capacity.ensures c.requires)
    c.answer_lines.ensures
