-- How a channel's machine is told apart from others by a number.
use Rattle.std.specs.Prelude.{◌≡◌, Bool, true, false, refl}
use Rattle.std.specs.Coded.{Coded, code_by, coded×, coded_bool, coded_option}
use Rattle.fi_parts.specs.Buffer.{Bounded}
use Rattle.fi_parts.specs.BufferCode.{bounded_code}
use Rattle.fi_channels.specs.declared.channel.fields.ReceiveKind.{ReceiveKind}
use Rattle.fi_channels.specs.declared.channel.fields.ReceiveKind.TheVariants.{Single, Stream}
use Rattle.fi_channels.specs.TwoSidedCode.{two_sided_code}
use Rattle.fi_channels.specs.ChannelWords.{Buffered, ChannelMachine}

abbrev pub buffered_code : {T : Type 0} → Coded T → Coded (Buffered T)
buffered_code {T} t =
    code_by (Bool × Bounded T) (coded× coded_bool (bounded_code t)) (λ s. (s.is_open, s.buffer))
    (λ p. record { is_open = p.0; buffer = p.1 }) (λ _. refl)

abbrev is_stream : ReceiveKind → Bool
is_stream Single = false
is_stream Stream = true

abbrev kind_from : Bool → ReceiveKind
kind_from false = Single
kind_from true = Stream

pub kind_back : (kind : ReceiveKind) → kind_from (is_stream kind) ≡ kind
kind_back Single = refl
kind_back Stream = refl

abbrev pub kind_code : Coded ReceiveKind
kind_code = code_by Bool coded_bool is_stream kind_from kind_back

abbrev pub channel_code : {T W : Type 0} → Coded T → Coded W → Coded (ChannelMachine T W)
channel_code t w = two_sided_code (buffered_code t) (coded_option t) kind_code w
