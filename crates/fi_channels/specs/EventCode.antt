-- How an event's machine is told apart from others by a number.
use Rattle.std.specs.Coded.{Coded, coded_bool}
use base.Stored.{coded_unit}
use Rattle.fi_parts.specs.MachineCode.{machine_code}
use Rattle.fi_channels.specs.Event.{EventMachine}

abbrev pub event_code : {W : Type 0} → Coded W → Coded (EventMachine W)
event_code w = machine_code coded_bool coded_unit w
