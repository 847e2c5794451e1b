-- The channel of many values, as scripts speak of it.
use Rattle.std.specs.Prelude.{ℕ}
use Rattle.fi_channels.specs.ChannelWords.{ChannelMachine}
use Rattle.fi_run.specs.Channel.{Opens, Step}
use Rattle.fi_run.specs.Outgoing.{two_sided_outgoing}
use Rattle.fi_run.specs.Rows.{channel_call}
use Rattle.fi_run.specs.declared.channel.ChannelCall.{ChannelCall}
use Rattle.fi_scripts.specs.Language.{Spoken, spoken}
use Rattle.fi_scripts.specs.Openings.{channel_openings}
use Rattle.fi_scripts.specs.declared.buffer.Buffer.{Buffer}
use Rattle.fi_scripts.specs.declared.buffer.Buffer.TheVariants.{Array0, Array1, Array2, Array5, Fixed, Growing}

-- how many values a buffer holds
abbrev pub capacity_of : Buffer → ℕ
capacity_of Array0 = 0
capacity_of Array1 = 1
capacity_of Array2 = 2
capacity_of Array5 = 5
capacity_of (Fixed capacity) = capacity
capacity_of (Growing capacity) = capacity

-- A channel is opened empty, with its buffer's capacity.
abbrev pub OpensOver : Buffer → ChannelMachine ℕ ℕ → Type 0
OpensOver buffer state = Opens (λ capacity. capacity) (capacity_of buffer) state

-- Over every buffer it is the same machine, with the same lines.
abbrev pub spoken_channel : Spoken (ChannelMachine ℕ ℕ) Buffer (ChannelCall ℕ ℕ)
spoken_channel = spoken OpensOver Step two_sided_outgoing channel_openings channel_call
