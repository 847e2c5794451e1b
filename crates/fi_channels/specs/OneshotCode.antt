-- How a oneshot's machine is told apart from others by a number.
use Rattle.std.specs.Coded.{Coded}
use base.Stored.{coded_unit}
use Rattle.fi_parts.specs.MachineCode.{machine_code}
use Rattle.fi_channels.specs.Content.{content_code}
use Rattle.fi_channels.specs.Oneshot.{OneshotMachine}

abbrev pub oneshot_code : {T W : Type 0} → Coded T → Coded W → Coded (OneshotMachine T W)
oneshot_code t w = machine_code (content_code t) coded_unit w
