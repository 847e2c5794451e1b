use denote.RattleType.{RattleType}
use denote.Param.Send.{IsSend}
use Rattle.fi_parts.proofs.BlockCrosses.{BlockPlaces-send}
use Rattle.fi_parts.specs.contracts.blocks.places.BlockPlaces.{the_row}

pub send : (T : RattleType) → IsSend T → IsSend (the_row T)
send = BlockPlaces-send
